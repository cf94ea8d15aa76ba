use Rattle.std.proofs.Common.{arith}
use Rattle.review_text.proofs.Pieces.{flat_next, flat_all}
use Rattle.review_text.proofs.text.put_all.Goals as goal

pub loop-text-preserved : goal.loop-text-preserved
loop-text-preserved c = flat_next (λ text. text.now) c.args.texts.now c.loop-text.text-index _ _ _ _ (omega arith) c.loop-text.invariant c.in_ok-push_str.ensures.bytes

pub returns : goal.returns
returns c = record { ok = (flat_all (λ text. text.now) c.args.texts.now c.loop-text.text-index _ _ (omega arith) c.loop-text.invariant) }
