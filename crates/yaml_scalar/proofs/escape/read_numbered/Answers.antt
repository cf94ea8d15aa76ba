use Rattle.std.proofs.Common.{◌≡◌, ◌*◌, ◌+◌, ◌≤◌, ◌^◌, ◌∙◌, ap, sym, subst, arith}
use Rattle.std.specs.Char.{IsScalar, is_ascii_hexdigit}
use Rattle.yaml_text.specs.Source.{text_of, place_of}
use Rattle.yaml_text.proofs.Runs.{no_stand_end}
use Rattle.yaml_scalar.proofs.EscapeLemmas.{digits_none, digits_more, digits_stop, numbered_is, no_scalar, power_small, power_more, no_hex}
use Rattle.yaml_scalar.proofs.escape.read_numbered.Goals as goal

pub digits-init : goal.digits-init
digits-init c =
    let n = digits_none (text_of c.args.source.now) (place_of c.args.source.now c.args.at) in
    record { border = c.requires.border; onward = omega arith; digits = n.0; value = n.1; small = omega arith }

pub returns-in-None-clause-none : goal.returns-in-None-clause-none
returns-in-None-clause-none c =
    digits_stop (text_of c.args.source.now) _ _ _ _ c.digits.invariant.digits c.digits-test.true (no_stand_end (text_of c.args.source.now) is_ascii_hexdigit _ c.in-None.ensures.none)

pub returns-in-None-to_digit-clause-none : goal.returns-in-None-to_digit-clause-none
returns-in-None-to_digit-clause-none c =
    digits_stop (text_of c.args.source.now) _ _ _ _ c.digits.invariant.digits c.digits-test.true (no_hex (text_of c.args.source.now) _ _ c.in-Some.ensures.some.is c.in-None-to_digit.ensures.value)

pub overflow_mul-number : goal.overflow_mul-number
overflow_mul-number c =
    let b : 16 ^ c.digits.done ≤ 268435456 = power_small c.digits.done (omega (arith, c.digits-test.true, c.requires.few)) in
    omega (arith, b, c.digits.invariant.small)

pub overflow_add-number : goal.overflow_add-number
overflow_add-number c =
    let b : 16 ^ c.digits.done ≤ 268435456 = power_small c.digits.done (omega (arith, c.digits-test.true, c.requires.few)) in
    let d = c.in-Some-to_digit.ensures.value in
    omega (arith, b, c.digits.invariant.small, d.0, d.1)

pub digits-preserved : goal.digits-preserved
digits-preserved c =
    let cs = text_of c.args.source.now in
    let s = c.in-Some.ensures.some in
    let v = c.digits.invariant in
    let d = c.in-Some-to_digit.ensures.value in
    let more = digits_more cs _ _ _ _ _ c.digits.number v.digits v.value s.is d.0 s.next in
    record {
      border = s.border;
      onward = omega (arith, v.onward, s.forward);
      digits = more.0;
      value = ap (λ x. c.digits.number * 16 + x) d.1 ∙ more.1;
      small = power_more c.digits.number c.digits.done c.in-Some-to_digit.digit (omega (arith, d.0, d.1)) v.small;
    }

pub returns-in-None-from_u32-clause-none : goal.returns-in-None-from_u32-clause-none
returns-in-None-from_u32-clause-none c =
    let e : c.digits.done ≡ c.args.count = omega (arith, c.digits-test.false, c.digits.auto.done-end) in
    no_scalar (text_of c.args.source.now) _ _ _ _ _ e c.digits.invariant.digits c.digits.invariant.value c.in-None-from_u32.ensures.value

pub returns-in-Some-from_u32-clause-some : goal.returns-in-Some-from_u32-clause-some
returns-in-Some-from_u32-clause-some c =
    let v = c.in-Some-from_u32.ensures.value in
    let e : c.digits.done ≡ c.args.count = omega (arith, c.digits-test.false, c.digits.auto.done-end) in
    numbered_is (text_of c.args.source.now) _ _ _ _ _ e c.digits.invariant.digits (v.1 ∙ c.digits.invariant.value) (subst IsScalar (sym v.1) v.0)
