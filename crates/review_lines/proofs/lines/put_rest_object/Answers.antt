use Rattle.review_lines.proofs.StatLaws.{three_put}
use Rattle.review_lines.proofs.lines.put_rest_object.Goals as goal

pub returns : goal.returns
returns c = record { ok = (three_put _ _ _ _ _ _ _ c.in_ok-put_number.ensures.ok c.in_ok-put_number-2.ensures.ok c.in_ok-put_whole.ensures.ok) }
