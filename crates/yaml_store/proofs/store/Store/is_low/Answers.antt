use Rattle.std.proofs.Common.{arith}
use Rattle.yaml_store.proofs.Growing.{low-from, low-more, high-there}
use Rattle.std.proofs.lemmas.Option.{slice_get_within}
use Rattle.yaml_store.proofs.store.Store.is_low.Goals as goal

pub returns-then-node-height_limit-clause-high : goal.returns-then-node-height_limit-clause-high
returns-then-node-height_limit-clause-high c = λ good low.
    absurd (high-there c.deref-node-items.result.now c.loop-node.node-index _ c.height_limit.result c.height_limit.ensures c.args.self.now good low c.deref-node-items.ensures.value c.loop-node-test.true c.if-node-height_limit.true)

pub loop-node-preserved : goal.loop-node-preserved
loop-node-preserved c =
    low-more c.deref-node-items.result.now c.loop-node.node-index _ c.height_limit.result c.height_limit.ensures c.args.self.now.nodes.items c.deref-node-items.ensures.value c.loop-node.invariant c.if-node-height_limit.false

pub returns-clause-low : goal.returns-clause-low
returns-clause-low c = λ good.
    low-from c.args.self.now good (λ k n e. c.loop-node.invariant k n (omega (arith, slice_get_within c.args.self.now.nodes.items k n e, c.deref-node-items.ensures.len, c.loop-node-test.false)) e)
