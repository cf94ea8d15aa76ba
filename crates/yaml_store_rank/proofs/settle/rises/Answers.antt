use Rattle.std.proofs.Common.{arith}
use Rattle.yaml_store_rank.proofs.Overwriting.{steps-more, steps-rise}
use Rattle.yaml_store_rank.proofs.settle.rises.Goals as goal

pub loop-place-preserved : goal.loop-place-preserved
loop-place-preserved c =
    let i = c.loop-place.invariant in
    (omega arith, steps-more c.args.entries.now c.loop-place.place (0, 0) (0, 0) i.0 (omega (arith, c.loop-place-test.true)) i.1 c.if-entries-place.false)

pub returns : goal.returns
returns c = λ e. steps-rise c.args.entries.now c.loop-place.place (omega (arith, c.loop-place-test.false)) c.loop-place.invariant.1
