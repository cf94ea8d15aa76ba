use Rattle.review_folds.specs.Moves.{IsRange}
use Rattle.review_folds.proofs.moves.range_end.Given as goal

abbrev pub invariant-range : goal.invariant-range
invariant-range l = IsRange l.moves l.first l.next
