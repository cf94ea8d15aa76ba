use Rattle.std.proofs.Common.{length}
use Rattle.review_folds.proofs.lists.Numbers.+number.Given as goal

abbrev pub decreases-number : goal.decreases-number
decreases-number l = length l.path.now
