use Rattle.yaml_json.specs.Json.{no_digit}
use Rattle.yaml_json.proofs.Rules.{took_digit}
use Rattle.yaml_json.proofs.number.after_digits.Goals as goal

pub digits-init : goal.digits-init
digits-init c = no_digit

pub digits-preserved : goal.digits-preserved
digits-preserved c = took_digit _ _ _ c.digits.invariant c.in-Some.ensures.some
