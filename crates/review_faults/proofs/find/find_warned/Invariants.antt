use Rattle.std.proofs.Common.{ℕ, List, map}
use Rattle.yaml_text.specs.EventModel.{event_of}
use Rattle.review_faults.specs.Warned.{AllWarned, Keeps, Knows, source_at}
use Rattle.review_faults.specs.contracts.keys.KeyOrd.TheImpl.{ghosts}
use Rattle.review_faults.specs.declared.cause.Cause.{Cause}
use Rattle.review_faults.proofs.find.find_warned.Given as goal

abbrev pub invariant-events : goal.invariant-events
invariant-events l = record {
  all : List (ℕ × Cause);
  warned : AllWarned (source_at l.text l.trace) l.allowed (map event_of l.events) l.at all;
  keeps : Keeps l.room all l.found;
  knows : Knows ghosts.cmp (map event_of l.events) l.at l.known;
}
