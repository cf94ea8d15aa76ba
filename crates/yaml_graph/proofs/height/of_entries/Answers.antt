use Rattle.yaml_graph.proofs.HeightLaws.{entries-step, entries-all}
use Rattle.yaml_graph.proofs.height.of_entries.Goals as goal

pub loop-key-preserved : goal.loop-key-preserved
loop-key-preserved c = λ ts e g.
    let i = c.loop-key.key-index in
    let b = c.requires i _ c.loop-key-test.true in
    entries-step ts c.args.heights.now e g c.args.entries.now i _ _ _ c.loop-key.height c.with.result c.with-height.result c.loop-key-test.true b.0 b.1 (c.loop-key.invariant ts e g) c.with.ensures c.with-height.ensures

pub returns : goal.returns
returns c = λ ts e g. entries-all ts c.args.heights.now e g c.args.entries.now c.loop-key.key-index c.loop-key.height c.loop-key-test.false (c.loop-key.invariant ts e g)
