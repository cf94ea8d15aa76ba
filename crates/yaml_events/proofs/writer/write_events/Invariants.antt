use Rattle.std.proofs.Common.{◌≡◌, take, map}
use Rattle.std.specs.String.{string_bytes}
use Rattle.yaml_text.specs.EventModel.{event_of}
use Rattle.yaml_definitions.specs.model.EventText.{events_text}
use Rattle.yaml_events.proofs.writer.write_events.Given as goal

abbrev pub invariant-lines : goal.invariant-lines
invariant-lines l = string_bytes l.out ≡ events_text (map event_of (take l.event-index l.events))
