use Rattle.yaml_graph.proofs.HeightLaws.{items-step, items-all}
use Rattle.yaml_graph.proofs.height.of_items.Goals as goal

pub loop-item-preserved : goal.loop-item-preserved
loop-item-preserved c = λ ts e g.
    items-step ts c.args.heights.now e g c.args.items.now c.loop-item.item-index _ _ c.loop-item.height c.with-height.result c.loop-item-test.true (c.requires c.loop-item.item-index _ c.loop-item-test.true) (c.loop-item.invariant ts e g) c.with-height.ensures

pub returns : goal.returns
returns c = λ ts e g. items-all ts c.args.heights.now e g c.args.items.now c.loop-item.item-index c.loop-item.height c.loop-item-test.false (c.loop-item.invariant ts e g)
