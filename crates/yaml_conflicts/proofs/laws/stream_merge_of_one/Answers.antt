use Rattle.yaml_conflicts.proofs.MergedLaws.{stream-sides}
use Rattle.yaml_conflicts.proofs.laws.stream_merge_of_one.Goals as goal

pub returns : goal.returns
returns c = stream-sides
