use Rattle.std.proofs.lemmas.Bool.{ne_eqb}
use Rattle.std.proofs.Common.{length}
use Rattle.review_text.proofs.TagLaws.{content_put}
use Rattle.review_text.proofs.tag_words.put_shown_content.Goals as goal

pub returns : goal.returns
returns c = record { ok = (content_put c.args.text.now _ _ _ _ _ _ (ne_eqb (length c.args.text.now) 0 c.if-text-eq0.false) c.front-shown.ensures c.mark_behind.ensures c.in_ok-push_str-2.ensures.bytes c.in_ok-put_shown.ensures.ok c.in_ok-push_str-3.ensures.bytes) }
