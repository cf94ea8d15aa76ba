use Rattle.review_text.proofs.Pieces.{five_put}
use Rattle.review_text.proofs.tag_words.put_content.Goals as goal

pub returns : goal.returns
returns c = record { ok = (five_put _ _ _ _ _ _ _ _ _ _ _ c.in_ok-put_shown_content.ensures.ok c.in_ok-push_str.ensures.bytes c.in_ok-put_tag.ensures.ok c.in_ok-push_str-2.ensures.bytes (rw c.accepted.ensures at c.in_ok-push_str-3.ensures.bytes)) }
