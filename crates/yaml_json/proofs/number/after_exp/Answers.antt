use Rattle.yaml_json.specs.Json.{no_exp}
use Rattle.yaml_json.proofs.Rules.{took_exp}
use Rattle.yaml_json.proofs.number.after_exp.Goals as goal

pub returns-in_default-clause-some : goal.returns-in_default-clause-some
returns-in_default-clause-some c = no_exp

pub returns-then-is_e-clause-some : goal.returns-then-is_e-clause-some
returns-then-is_e-clause-some c = took_exp _ _ _ _ c.in-Some.ensures.some c.in_ok-rest.ensures.some

pub returns-clause-some : goal.returns-clause-some
returns-clause-some c = no_exp
