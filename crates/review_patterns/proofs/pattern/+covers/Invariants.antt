use Rattle.std.proofs.Common.{length}
use Rattle.review_patterns.proofs.pattern.+covers.Given as goal

abbrev pub decreases-covers : goal.decreases-covers
decreases-covers l = length l.steps.now
