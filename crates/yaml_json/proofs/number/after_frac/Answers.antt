use Rattle.yaml_json.specs.Json.{no_frac}
use Rattle.yaml_json.proofs.Rules.{took_frac}
use Rattle.yaml_json.proofs.number.after_frac.Goals as goal

pub returns-in_default-clause-some : goal.returns-in_default-clause-some
returns-in_default-clause-some c = no_frac

pub returns-clause-some : goal.returns-clause-some
returns-clause-some c = took_frac _ _ _ c.in-Some.ensures.some c.in_ok-rest.ensures.some
