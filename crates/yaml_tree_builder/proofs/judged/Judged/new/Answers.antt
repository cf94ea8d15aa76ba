use Rattle.yaml_tree_builder.proofs.LogLaws.{follows-none}
use Rattle.yaml_tree_builder.proofs.judged.Judged.new.Goals as goal

pub returns : goal.returns
returns c = follows-none c.in_ok-builder.builder c.in_ok-builder.ensures
