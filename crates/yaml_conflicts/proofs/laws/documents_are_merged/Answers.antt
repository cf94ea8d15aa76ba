use Rattle.yaml_conflicts.proofs.MergedLaws.{documents-merged}
use Rattle.yaml_conflicts.proofs.laws.documents_are_merged.Goals as goal

pub returns : goal.returns
returns c = documents-merged
