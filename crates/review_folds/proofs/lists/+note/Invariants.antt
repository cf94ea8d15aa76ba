use Rattle.std.proofs.Common.{length}
use Rattle.review_folds.proofs.lists.+note.Given as goal

abbrev pub decreases-note : goal.decreases-note
decreases-note l = length l.path.now
