use Rattle.yaml_tree_builder.proofs.ReachedLaws.{two-streams-are-forests}
use Rattle.yaml_tree_builder.proofs.laws.two_streams_are_forests.Goals as goal

pub returns : goal.returns
returns c = two-streams-are-forests
