use Rattle.yaml_graph.specs.JoinModel.{raised}
use Rattle.yaml_tree.proofs.Lists.{raise-more}
use Rattle.yaml_graph.proofs.joining.raise.Goals as goal

pub loop-item-preserved : goal.loop-item-preserved
loop-item-preserved c = raise-more (raised c.args.shift) c.args.items.now c.loop-item.items c.loop-item.item-index _ c.up.result c.loop-item-test.true c.loop-item.invariant c.up.ensures
