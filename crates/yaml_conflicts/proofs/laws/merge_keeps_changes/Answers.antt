use Rattle.yaml_conflicts.proofs.ShownLaws.{merge-changes}
use Rattle.yaml_conflicts.proofs.laws.merge_keeps_changes.Goals as goal

pub returns : goal.returns
returns c = merge-changes
