use Rattle.std.proofs.Common.{map, length}
use Rattle.std.specs.Option.{option_map}
use Rattle.yaml_text.specs.EventModel.{event_of}
use Rattle.yaml_events.proofs.Holding.{IsHeld}
use Rattle.yaml_events.proofs.matching.is_event_text.Given as goal

abbrev pub invariant-lines : goal.invariant-lines
invariant-lines l = IsHeld l.text (map event_of l.events) (option_map (λ s. map event_of s.now) l.left) l.rest l.number

abbrev pub decreases-lines : goal.decreases-lines
decreases-lines l = length l.rest
