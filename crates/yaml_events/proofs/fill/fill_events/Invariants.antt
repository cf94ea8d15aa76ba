use Rattle.std.proofs.Common.{◌≡◌, take, map}
use Rattle.yaml_text.specs.EventModel.{event_of}
use Rattle.yaml_definitions.specs.model.EventText.{events_text}
use Rattle.yaml_events.specs.Rooms.{room_text, room_lent}
use Rattle.yaml_events.proofs.fill.fill_events.Given as goal

abbrev pub invariant-lines : goal.invariant-lines
invariant-lines l = record {
  text : room_text l.text ≡ events_text (map event_of (take l.event-index l.events));
  lent : room_lent l.text ≡ room_lent l.initial.text;
}
