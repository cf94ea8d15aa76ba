use Rattle.std.proofs.Common.{◌<◌, arith}
use Rattle.yaml_values.proofs.RangeLaws.{all-next, all-whole}
use Rattle.yaml_values.proofs.parts.are_below.Goals as goal

pub loop-item-preserved : goal.loop-item-preserved
loop-item-preserved c = all-next (λ i. i < c.args.number) c.args.items.now c.loop-item.item-index 0 (omega (arith, c.loop-item-test.true)) c.loop-item.invariant (omega (arith, c.if-item-number.false))

pub returns : goal.returns
returns c = all-whole (λ i. i < c.args.number) c.args.items.now c.loop-item.item-index (omega (arith, c.loop-item-test.false)) c.loop-item.invariant
