use Rattle.yaml_json.proofs.Rules.{took_zero, took_int}
use Rattle.yaml_json.proofs.OneReading.{int_other}
use Rattle.yaml_json.proofs.number.after_int.Goals as goal

pub returns-then-c-eq48-clause-some : goal.returns-then-c-eq48-clause-some
returns-then-c-eq48-clause-some c = took_zero _ _ _ c.in_ok-c.ensures.some c.if-c-eq48.true

pub returns-then-is_nonzero_digit-clause-some : goal.returns-then-is_nonzero_digit-clause-some
returns-then-is_nonzero_digit-clause-some c = took_int _ _ _ _ _ c.in_ok-c.ensures.some c.is_nonzero_digit.ensures c.if-is_nonzero_digit.true c.after_digits.ensures.digits

pub returns-then-is_nonzero_digit-clause-only : goal.returns-then-is_nonzero_digit-clause-only
returns-then-is_nonzero_digit-clause-only c =
    int_other _ _ _ _ _ c.in_ok-c.ensures.some c.is_nonzero_digit.ensures c.if-is_nonzero_digit.true c.after_digits.ensures.digits c.after_digits.ensures.all
