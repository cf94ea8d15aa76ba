use Rattle.review_text.proofs.NodeLaws.{tag_left_out, tag_known, tag_spelled}
use Rattle.review_text.proofs.text.put_tag.Goals as goal

pub returns-then-eq : goal.returns-then-eq
returns-then-eq c = record { ok = (tag_left_out _ c.args.tag.now c.args.own.now c.if-eq.ensures) }

pub returns-in-Some : goal.returns-in-Some
returns-in-Some c = record { ok = (tag_known _ _ c.args.tag.now c.args.own.now _ c.if-eq.ensures c.in-Some.ensures.some.0 c.in-Some.ensures.some.1 c.in_ok-push_str.ensures.bytes) }

pub returns : goal.returns
returns c = record { ok = (tag_spelled _ _ _ _ c.args.tag.now c.args.own.now c.if-eq.ensures c.in_default.ensures.none c.in_ok-push_str-2.ensures.bytes c.in_ok-put_encoded.ensures.ok c.in_ok-push_str-3.ensures.bytes) }
