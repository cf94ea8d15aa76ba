use Rattle.yaml_show.proofs.AlikeLaws as alike
use Rattle.yaml_show.proofs.laws.same_is_shown_alike.Goals as goal

pub returns-clause-yaml : goal.returns-clause-yaml
returns-clause-yaml c = alike.same_is_shown_alike

pub returns-clause-sharing : goal.returns-clause-sharing
returns-clause-sharing c = alike.same_is_shared_alike

pub returns-clause-json : goal.returns-clause-json
returns-clause-json c = alike.same_is_json_alike
