use Rattle.yaml_tree_builder.proofs.ReachedLaws.{streams-are-forests}
use Rattle.yaml_tree_builder.proofs.laws.streams_are_forests.Goals as goal

pub returns : goal.returns
returns c = streams-are-forests
