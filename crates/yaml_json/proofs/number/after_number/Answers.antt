use Rattle.yaml_json.specs.Json.{number}
use Rattle.yaml_json.proofs.Rules.{none_told}
use Rattle.yaml_json.proofs.OneReading.{number_one, number_no_int, number_no_frac, number_no_exp}
use Rattle.yaml_json.proofs.number.after_number.Goals as goal

pub returns-in_err-frac-clause-none : goal.returns-in_err-frac-clause-none
returns-in_err-frac-clause-none c =
    none_told _ _ c.from_residual.ensures (number_no_int _ _ c.after_minus-int.ensures.only c.in_err-frac.ensures.none)

pub returns-in_err-exp-clause-none : goal.returns-in_err-exp-clause-none
returns-in_err-exp-clause-none c =
    none_told _ _ c.from_residual-in_err-exp.ensures (number_no_frac _ _ _ c.after_minus-int.ensures.only c.in_ok-frac.ensures.only c.in_err-exp.ensures.none)

pub returns-in_err-rest-clause-none : goal.returns-in_err-rest-clause-none
returns-in_err-rest-clause-none c =
    none_told _ _ c.from_residual-in_err-rest.ensures (number_no_exp _ _ _ _ c.after_minus-int.ensures.only c.in_ok-frac.ensures.only c.in_ok-exp.ensures.only c.in_err-rest.ensures.none)

pub returns-clause-some : goal.returns-clause-some
returns-clause-some c = number c.after_minus-int.ensures.minus c.in_ok-frac.ensures.some c.in_ok-exp.ensures.some c.in_ok-rest.ensures.some

pub returns-clause-only : goal.returns-clause-only
returns-clause-only c = number_one _ _ _ _ _ c.after_minus-int.ensures.only c.in_ok-frac.ensures.only c.in_ok-exp.ensures.only c.in_ok-rest.ensures.only
