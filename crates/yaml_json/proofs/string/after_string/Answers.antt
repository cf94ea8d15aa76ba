use Rattle.yaml_json.proofs.Rules.{took_string}
use Rattle.yaml_json.proofs.OneReading.{str_one}
use Rattle.yaml_json.proofs.string.after_string.Goals as goal

pub returns-clause-some : goal.returns-clause-some
returns-clause-some c = took_string _ _ _ c.in_ok-chars.ensures.some c.in_ok-rest.ensures.some

pub returns-clause-only : goal.returns-clause-only
returns-clause-only c = str_one _ _ _ c.in_ok-chars.ensures.some c.in_ok-rest.ensures.only
