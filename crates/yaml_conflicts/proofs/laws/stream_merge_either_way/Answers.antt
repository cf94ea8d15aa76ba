use Rattle.yaml_conflicts.proofs.MergedLaws.{stream-either}
use Rattle.yaml_conflicts.proofs.laws.stream_merge_either_way.Goals as goal

pub returns : goal.returns
returns c = stream-either
