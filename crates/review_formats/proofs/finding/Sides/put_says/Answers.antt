use Rattle.review_formats.specs.Findings.{sides_says}
use Rattle.review_formats.proofs.PieceLaws.{two_put}
use Rattle.review_formats.proofs.finding.Sides.put_says.Goals as goal

pub returns : goal.returns
unfolding sides_says
returns c = record { ok = (two_put _ _ _ _ _ (rw c.says.ensures at c.in_ok-push_str.ensures.bytes) c.in_ok-put_others.ensures.ok) }
