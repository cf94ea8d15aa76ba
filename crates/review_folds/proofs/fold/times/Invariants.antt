use Rattle.review_folds.proofs.FoldLaws.{CountedTo}
use Rattle.review_folds.proofs.fold.times.Given as goal

abbrev pub invariant-loop-number : goal.invariant-loop-number
invariant-loop-number l = CountedTo l.list l.number-index l.counts.items
