use Rattle.std.proofs.Common.{length}
use Rattle.review_folds.proofs.lists.Numbers.+add.Given as goal

abbrev pub decreases-add : goal.decreases-add
decreases-add l = length l.path.now
