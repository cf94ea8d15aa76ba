use Rattle.std.proofs.Common.{refl, arith}
use Rattle.review_folds.proofs.KeyLaws.{each_next}
use Rattle.review_folds.proofs.keys.keys_of.Goals as goal

pub loop-text-preserved : goal.loop-text-preserved
loop-text-preserved c =
    each_next (λ text. text.now) c.args.forests.now c.args.texts.now c.loop-text.keys.items _ c.loop-text.text-index _ _ _ (omega arith) refl c.loop-text.invariant c.key_of.ensures c.in_ok-push.ensures.items
