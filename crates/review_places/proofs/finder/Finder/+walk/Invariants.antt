use Rattle.std.proofs.Common.{length}
use Rattle.review_places.proofs.finder.Finder.+walk.Given as goal

abbrev pub decreases-walk : goal.decreases-walk
decreases-walk l = length l.path.now
