use Rattle.std.proofs.Common.{◌+◌, ◌*◌, sym, ◌∙◌, arith}
use Rattle.yaml_core.proofs.NumberLemmas.{number_next, past_before, past_after}
use Rattle.yaml_core.proofs.int.number.Goals as goal

pub returns-then-number-last : goal.returns-then-number-last
returns-then-number-last c = past_before c.args.base c.loop-byte.byte-index c.args.most c.loop-byte.number c.args.digits.now (omega arith) c.loop-byte-test.true c.loop-byte.invariant.0 c.if-number-last.true

pub returns-then-number-most : goal.returns-then-number-most
returns-then-number-most c =
    let d = c.digit_value.ensures in
    let l = c.if-number-most.true in
    past_after c.args.base c.loop-byte.byte-index c.args.most c.loop-byte.number c.args.digits.now (omega arith) c.loop-byte-test.true c.loop-byte.invariant.0 (omega (arith, d, l))

pub loop-byte-preserved : goal.loop-byte-preserved
loop-byte-preserved c =
    let f = number_next c.args.base c.loop-byte.byte-index c.args.digits.now c.loop-byte-test.true in
    ((λ i. c.loop-byte.invariant.0 i * c.args.base + c.digit_value.ensures i) ∙ sym f, c.if-number-most.false)
