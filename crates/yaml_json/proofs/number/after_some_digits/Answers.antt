use Rattle.yaml_json.proofs.Rules.{took_some}
use Rattle.yaml_json.proofs.OneReading.{some_one}
use Rattle.yaml_json.proofs.number.after_some_digits.Goals as goal

pub returns-clause-some : goal.returns-clause-some
returns-clause-some c = took_some _ _ _ c.in_ok-more.ensures.some c.after_digits.ensures.digits

pub returns-clause-only : goal.returns-clause-only
returns-clause-only c = some_one _ _ _ c.in_ok-more.ensures.some c.after_digits.ensures.digits c.after_digits.ensures.all
