use Rattle.review_folds.specs.Folds.{Filled}
use Rattle.review_folds.proofs.fold.filled.Given as goal

abbrev pub invariant-loop : goal.invariant-loop
invariant-loop l = Filled l.number l.counter l.list.items
