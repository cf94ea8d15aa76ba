use Rattle.yaml_json.proofs.Rules.{none_told}
use Rattle.yaml_json.proofs.OneReading.{point_read, point_no_first, point_no_second, point_no_third, point_no_fourth}
use Rattle.yaml_json.proofs.string.after_code_point.Goals as goal

pub returns-clause-some : goal.returns-clause-some
returns-clause-some c = point_read _ _ _ _ _ c.in_ok-one.ensures.some c.in_ok-two.ensures.some c.in_ok-three.ensures.some c.in_ok-four.ensures.some

pub returns-in_err-one-clause-none : goal.returns-in_err-one-clause-none
returns-in_err-one-clause-none c = none_told _ _ c.from_residual.ensures (point_no_first _ c.in_err-one.ensures.none)

pub returns-in_err-two-clause-none : goal.returns-in_err-two-clause-none
returns-in_err-two-clause-none c = none_told _ _ c.from_residual-in_err-two.ensures (point_no_second _ _ c.in_ok-one.ensures.some c.in_err-two.ensures.none)

pub returns-in_err-three-clause-none : goal.returns-in_err-three-clause-none
returns-in_err-three-clause-none c =
    none_told _ _ c.from_residual-in_err-three.ensures (point_no_third _ _ _ c.in_ok-one.ensures.some c.in_ok-two.ensures.some c.in_err-three.ensures.none)

pub returns-in_err-four-clause-none : goal.returns-in_err-four-clause-none
returns-in_err-four-clause-none c =
    none_told _ _ c.from_residual-in_err-four.ensures (point_no_fourth _ _ _ _ c.in_ok-one.ensures.some c.in_ok-two.ensures.some c.in_ok-three.ensures.some c.in_err-four.ensures.none)
