use Rattle.std.proofs.Common.{◌<◌, arith}
use Rattle.yaml_values.proofs.RangeLaws.{all-next, all-whole}
use Rattle.yaml_values.proofs.parts.are_entries_below.Goals as goal

pub loop-entry-preserved : goal.loop-entry-preserved
loop-entry-preserved c =
    let n = c.args.number in
    all-next (λ p. (p.0 < n) × (p.1 < n)) c.args.entries.now c.loop-entry.entry-index (0, 0) (omega (arith, c.loop-entry-test.true)) c.loop-entry.invariant (omega (arith, c.if-entry-number.false), omega (arith, c.if-entry-number-2.false))

pub returns : goal.returns
returns c =
    let n = c.args.number in
    all-whole (λ p. (p.0 < n) × (p.1 < n)) c.args.entries.now c.loop-entry.entry-index (omega (arith, c.loop-entry-test.false)) c.loop-entry.invariant
