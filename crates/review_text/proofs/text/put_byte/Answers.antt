use Rattle.std.proofs.Common.{sym, arith, ◌∙◌}
use Rattle.review_text.proofs.NodeLaws.{byte_itself, byte_escaped}
use Rattle.review_text.proofs.text.put_byte.Goals as goal

pub returns-in_ok-push : goal.returns-in_ok-push
returns-in_ok-push c = record { ok = (c.in_ok-push.ensures.bytes ∙ byte_itself _ c.args.byte c.from-c.result c.from-c.ensures (sym c.if-is_uri.ensures)) }

pub returns-in_ok-push_str : goal.returns-in_ok-push_str
returns-in_ok-push_str c = record { ok = (byte_escaped _ _ c.args.byte c.from-c.result (omega arith) c.from-c.ensures (sym c.if-is_uri.ensures) (rw c.percent_encode_byte.ensures at c.in_ok-push_str.ensures.bytes)) }
