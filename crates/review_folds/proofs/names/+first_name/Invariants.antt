use Rattle.std.proofs.Common.{length}
use Rattle.review_folds.proofs.names.+first_name.Given as goal

abbrev pub decreases-first_name : goal.decreases-first_name
decreases-first_name l = length l.keys.now
