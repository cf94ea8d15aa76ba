use Rattle.yaml_conflicts.proofs.ExistLaws.{merge-exists}
use Rattle.yaml_conflicts.proofs.laws.merge_exists.Goals as goal

pub returns : goal.returns
returns c = merge-exists
