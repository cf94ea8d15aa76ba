use Rattle.yaml_json.specs.Json.{no_minus}
use Rattle.yaml_json.proofs.Rules.{took_minus}
use Rattle.yaml_json.proofs.number.after_minus.Goals as goal

pub returns-in-Some-clause-minus : goal.returns-in-Some-clause-minus
returns-in-Some-clause-minus c = took_minus _ _ c.in-Some.ensures.some

pub returns-in-None-clause-minus : goal.returns-in-None-clause-minus
returns-in-None-clause-minus c = no_minus
