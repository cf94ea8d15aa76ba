use Rattle.yaml_graph.specs.JoinModel.{raised_pair}
use Rattle.yaml_tree.proofs.Lists.{raise-more}
use Rattle.yaml_graph.proofs.joining.raise_entries.Goals as goal

pub loop-entry-preserved : goal.loop-entry-preserved
loop-entry-preserved c =
    raise-more (raised_pair c.args.shift) c.args.entries.now c.loop-entry.entries c.loop-entry.entry-index (record { 0 = 0 }, record { 0 = 0 }) (c.up.result, c.up-in-loop-entry.result) c.loop-entry-test.true c.loop-entry.invariant
    (λ z. (c.up.ensures z, c.up-in-loop-entry.ensures z))
