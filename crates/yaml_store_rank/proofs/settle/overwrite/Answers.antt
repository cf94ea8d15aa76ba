use Rattle.std.proofs.Common.{◌<◌, length, slice_index, sym, subst, refl}
use Rattle.yaml_tree.proofs.Lists.{raise-more}
use Rattle.yaml_store_rank.proofs.Overwriting.{not-yet}
use Rattle.yaml_store_rank.proofs.settle.overwrite.Goals as goal

pub bounds-ranks-item : goal.bounds-ranks-item
bounds-ranks-item c =
    let rs = c.args.ranks.now in
    let old = c.args.items.now in
    let i = c.loop-item.item-index in
    subst (λ z. z < length rs) (sym (not-yet (slice_index rs) old c.loop-item.items i 0 c.loop-item-test.true c.loop-item.invariant)) (c.requires i 0 c.loop-item-test.true)

pub loop-item-preserved : goal.loop-item-preserved
loop-item-preserved c = raise-more (slice_index c.args.ranks.now) c.args.items.now c.loop-item.items c.loop-item.item-index 0 _ c.loop-item-test.true c.loop-item.invariant refl
