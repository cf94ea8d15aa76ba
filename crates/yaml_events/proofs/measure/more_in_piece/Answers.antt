use Rattle.std.proofs.Common.{◌≡◌, ◌<◌, length, ap, arith}
use Rattle.yaml_definitions.specs.model.EventText.{value_text}
use Rattle.yaml_events.proofs.Lengths.{value_one_more, whole}
use Rattle.yaml_events.proofs.measure.more_in_piece.Goals as goal

pub overflow_add-more : goal.overflow_add-more
overflow_add-more c =
    let v = c.measure.invariant in
    let i : c.measure.byte-index < length c.args.piece.now = omega (arith, c.measure-test.true) in
    omega (arith, v.low, v.short, i, c.more_in_value-more.ensures.few)

pub measure-preserved : goal.measure-preserved
measure-preserved c =
    let v = c.measure.invariant in
    let i : c.measure.byte-index < length c.args.piece.now = omega (arith, c.measure-test.true) in
    let m = value_one_more c.args.piece.now c.measure.byte-index i in
    record {
      counted = omega (arith, v.counted, m, c.more_in_value-more.ensures.more);
      low = omega (arith, v.low, c.more_in_value-more.ensures.few);
      short = v.short;
    }

pub returns-clause-more : goal.returns-clause-more
returns-clause-more c =
    let v = c.measure.invariant in
    let end : c.measure.byte-index ≡ length c.args.piece.now = omega (arith, c.measure-test.false, c.measure.auto.byte-index-end) in
    let all = ap length (ap value_text (whole c.args.piece.now c.measure.byte-index end)) in
    omega (arith, v.counted, end, all)

pub returns-clause-few : goal.returns-clause-few
returns-clause-few c =
    let v = c.measure.invariant in
    let end : c.measure.byte-index ≡ length c.args.piece.now = omega (arith, c.measure-test.false, c.measure.auto.byte-index-end) in
    omega (arith, v.low, end)
