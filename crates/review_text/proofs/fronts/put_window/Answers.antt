use Rattle.review_text.proofs.Pieces.{five_put}
use Rattle.review_text.proofs.fronts.put_window.Goals as goal

pub returns : goal.returns
returns c = record { ok = (five_put _ _ _ _ _ _ _ _ _ _ _ c.in_ok-put_shown.ensures.ok c.in_ok-put_shown-2.ensures.ok c.in_ok-push_str.ensures.bytes c.in_ok-put_margin.ensures.ok c.in_ok-push_str-2.ensures.bytes) }
