use Rattle.std.proofs.Common.{arith, ap, get_or}
use Rattle.review_text.proofs.NodeLaws.{encoded_next, encoded_all}
use Rattle.review_text.proofs.text.put_encoded.Goals as goal

pub loop-byte-preserved : goal.loop-byte-preserved
loop-byte-preserved c = encoded_next c.args.tag.now _ _ _ c.loop-byte.byte-index _ (omega arith, ap (λ z. get_or z c.loop-byte.byte-index 0) c.as_bytes-byte-items.ensures.value) c.loop-byte.invariant c.in_ok-put_byte.ensures.ok

pub returns : goal.returns
returns c = record { ok = (encoded_all c.args.tag.now _ _ c.loop-byte.byte-index (omega arith) c.loop-byte.invariant) }
