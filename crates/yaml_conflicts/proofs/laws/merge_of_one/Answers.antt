use Rattle.yaml_conflicts.proofs.RuleLaws.{merge-sides}
use Rattle.yaml_conflicts.proofs.laws.merge_of_one.Goals as goal

pub returns : goal.returns
returns c = merge-sides
