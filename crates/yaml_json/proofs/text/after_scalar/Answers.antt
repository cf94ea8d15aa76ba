use Rattle.yaml_json.specs.Reading.{true_scalar, number_scalar, string_scalar}
use Rattle.yaml_json.proofs.OneReading.{scalar_string, scalar_number}
use Rattle.yaml_json.proofs.text.after_scalar.Goals as goal

pub returns-in-Some-clause-some : goal.returns-in-Some-clause-some
returns-in-Some-clause-some c = string_scalar c.in-Some.ensures.some

pub returns-in-Some-clause-only : goal.returns-in-Some-clause-only
returns-in-Some-clause-only c = scalar_string _ _ c.in-Some.ensures.some c.in-Some.ensures.only

pub returns-in-Some-after_number-clause-some : goal.returns-in-Some-after_number-clause-some
returns-in-Some-after_number-clause-some c = number_scalar c.in-Some-after_number.ensures.some

pub returns-in-Some-after_number-clause-only : goal.returns-in-Some-after_number-clause-only
returns-in-Some-after_number-clause-only c = scalar_number _ _ c.in_default.ensures.none c.in-Some-after_number.ensures.some c.in-Some-after_number.ensures.only

pub returns-clause-some : goal.returns-clause-some
returns-clause-some c = true_scalar c.in_ok-rest.ensures.some
