use Rattle.yaml_conflicts.proofs.ShownLaws.{merge-one}
use Rattle.yaml_conflicts.proofs.laws.merge_is_one.Goals as goal

pub returns : goal.returns
returns c = merge-one
