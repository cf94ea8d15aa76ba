use Rattle.std.proofs.Common.{◌+◌, arith}
use Rattle.yaml_path.proofs.StretchLaws.{chars-joined}
use Rattle.yaml_path.proofs.place.chars_between.Goals as goal

pub pieces-preserved : goal.pieces-preserved
pieces-preserved c =
    let v = c.pieces.invariant in
    let joined = chars-joined c.args.text.now c.args.from c.pieces.at (c.pieces.at + 240) (omega (arith, v.few)) (omega arith) in
    record {
      counted = omega (arith, v.counted, c.chars_in.ensures.counted, joined);
      few = omega (arith, v.few, c.chars_in.ensures.few);
      within = omega (arith, c.pieces-test.true);
    }

pub returns-clause-counted : goal.returns-clause-counted
returns-clause-counted c =
    let v = c.pieces.invariant in
    let joined = chars-joined c.args.text.now c.args.from c.pieces.at c.args.to (omega (arith, v.few)) v.within in
    omega (arith, v.counted, c.chars_in-2.ensures.counted, joined)
