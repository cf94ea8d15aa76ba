use Rattle.yaml_conflicts.proofs.MergedLaws.{stream-exists}
use Rattle.yaml_conflicts.proofs.laws.stream_merge_exists.Goals as goal

pub returns : goal.returns
returns c = stream-exists
