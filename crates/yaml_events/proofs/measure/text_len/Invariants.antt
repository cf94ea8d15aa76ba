use Rattle.std.proofs.Common.{◌≡◌, ◌+◌, ◌-◌, ◌^◌, length, take, map}
use Rattle.yaml_text.specs.EventModel.{event_of}
use Rattle.yaml_definitions.specs.model.EventText.{events_text}
use Rattle.yaml_events.proofs.measure.text_len.Given as goal

abbrev pub invariant-lines : goal.invariant-lines
invariant-lines l = length (events_text (map event_of (take l.event-index l.events))) + l.left ≡ 2 ^ 64 - 1
