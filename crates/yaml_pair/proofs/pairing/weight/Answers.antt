use Rattle.std.specs.Prelude.{sum_by}
use Rattle.yaml_store_rank.specs.Forests.{tree}
use Rattle.yaml_pair.specs.Named.{width}
use Rattle.yaml_pair.proofs.TreeLaws.{weight-more}
use Rattle.yaml_pair.proofs.pairing.weight.Goals as goal

pub loop-item-preserved : goal.loop-item-preserved
loop-item-preserved c = λ w.
    weight-more c.args.forests.now c.args.sides.0.now c.loop-item.item-index _ 0 c.loop-item.sum c.width.result c.saturating_add-sum.result w.0 c.loop-item-test.true (c.loop-item.invariant w) c.width.ensures c.saturating_add-sum.ensures

pub loop-item-2-preserved : goal.loop-item-2-preserved
loop-item-2-preserved c = λ w.
    weight-more c.args.forests.now c.args.sides.1.now c.loop-item-2.item-index _ (sum_by (λ i. width (tree c.args.forests.now i.0)) c.args.sides.0.now) c.loop-item-2.sum c.width-in-loop-item-2.result c.saturating_add-sum-in-loop-item-2.result w.1 c.loop-item-2-test.true
    (c.loop-item-2.invariant w) c.width-in-loop-item-2.ensures c.saturating_add-sum-in-loop-item-2.ensures
