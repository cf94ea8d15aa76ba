use Rattle.yaml_conflicts.proofs.RuleLaws.{merge-either}
use Rattle.yaml_conflicts.proofs.laws.merge_either_way.Goals as goal

pub returns : goal.returns
returns c = merge-either
