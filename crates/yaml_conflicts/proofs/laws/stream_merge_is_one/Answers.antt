use Rattle.yaml_conflicts.proofs.MergedLaws.{stream-one}
use Rattle.yaml_conflicts.proofs.laws.stream_merge_is_one.Goals as goal

pub returns : goal.returns
returns c = stream-one
