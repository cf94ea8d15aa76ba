use Rattle.std.proofs.Common.{map, length, vec_len}
use Rattle.yaml_text.specs.EventModel.{event_of}
use Rattle.yaml_events.proofs.FirstBad.{IsRead}
use Rattle.yaml_events.proofs.reader.read_event_text.Given as goal

abbrev pub invariant-lines : goal.invariant-lines
invariant-lines l = IsRead l.text (map event_of l.events.items) l.rest (vec_len l.events)

abbrev pub decreases-lines : goal.decreases-lines
decreases-lines l = length l.rest
