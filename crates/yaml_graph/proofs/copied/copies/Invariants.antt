use Rattle.std.proofs.Common.{◌≡◌, map, take}
use Rattle.yaml_text.specs.EventModel.{event_of}
use Rattle.yaml_graph.proofs.copied.copies.Given as goal

abbrev pub invariant-loop-event : goal.invariant-loop-event
invariant-loop-event l = map event_of l.copies.items ≡ map event_of (take l.event-index l.events)
