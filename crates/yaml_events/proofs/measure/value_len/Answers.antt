use Rattle.std.proofs.Common.{length, ap, arith}
use Rattle.yaml_definitions.specs.model.EventText.{value_text}
use Rattle.yaml_events.proofs.Lengths.{value_cut, length_cut}
use Rattle.yaml_events.proofs.measure.value_len.Goals as goal

pub pieces-preserved : goal.pieces-preserved
pieces-preserved c =
    let v = c.pieces.invariant in
    let rest = c.pieces.rest.now in
    let s = c.split_at.ensures in
    let values = value_cut rest 224 in
    let lengths = length_cut rest 224 in
    let front = ap length s.front in
    let back = ap length s.back in
    let front_value = ap (λ z. length (value_text z)) s.front in
    let back_value = ap (λ z. length (value_text z)) s.back in
    record {
      counted = omega (arith, v.counted, values, lengths, front, back, front_value, back_value, c.more_in_piece.ensures.more);
      low = omega (arith, v.low, lengths, front, back, c.more_in_piece.ensures.few);
      small = v.small;
    }
