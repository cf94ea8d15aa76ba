use Rattle.std.proofs.Common.{◌≡◌, length}
use Rattle.review_folds.proofs.FoldLaws.{SoFar}
use Rattle.review_folds.proofs.fold.tellers.Given as goal

abbrev pub invariant-loop-number : goal.invariant-loop-number
invariant-loop-number l = record { level : length l.tellers.items ≡ l.number; each : SoFar l.list l.tellers.items }
