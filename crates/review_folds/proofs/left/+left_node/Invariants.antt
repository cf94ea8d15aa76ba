use Rattle.std.proofs.Common.{length}
use Rattle.review_folds.proofs.left.+left_node.Given as goal

abbrev pub decreases-left_node : goal.decreases-left_node
decreases-left_node l = length l.path.now
