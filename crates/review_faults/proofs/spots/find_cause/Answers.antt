use Rattle.std.proofs.Common.{sym, subst}
use Rattle.review_faults.specs.FaultLines.{IsCause}
use Rattle.review_faults.proofs.spots.find_cause.Goals as goal

pub returns-in-Some : goal.returns-in-Some
returns-in-Some c = subst (λ z. IsCause c.args.text.now c.args.stop z c.other_line.result) (sym c.in-Some.is) (c.place_of.result, c.place_of.ensures, c.other_line.ensures)
