use Rattle.std.proofs.Common.{refl}
use Rattle.review_text.proofs.fronts.end_from.Goals as goal

pub returns-in-Some : goal.returns-in-Some
returns-in-Some c = (c.args.at, c.in-Some.ensures.back)

pub returns-in-None : goal.returns-in-None
returns-in-None c = (0, refl)
