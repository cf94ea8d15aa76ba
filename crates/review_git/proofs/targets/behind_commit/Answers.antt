use Rattle.std.proofs.Common.{inr, refl}
use Rattle.review_git.proofs.targets.behind_commit.Goals as goal

pub returns-in-None : goal.returns-in-None
returns-in-None c = inr (c.in-None.ensures.cases, refl)
