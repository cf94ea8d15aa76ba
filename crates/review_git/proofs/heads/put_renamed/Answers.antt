use Rattle.review_git.proofs.HeadLaws.{renamed_line}
use Rattle.review_git.proofs.heads.put_renamed.Goals as goal

pub returns : goal.returns
returns c = record { ok = (renamed_line c.args.pair (c.in-Some.field-0-0, c.in-Some.lines) _ _ _ _ _ c.in-Some.is c.words_of.ensures c.in_ok-push_str.ensures.bytes c.in_ok-put_shown.ensures.ok c.in_ok-push_str-2.ensures.bytes) }
