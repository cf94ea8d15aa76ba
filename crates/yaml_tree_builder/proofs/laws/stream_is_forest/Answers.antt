use Rattle.yaml_tree_builder.proofs.ReachedLaws.{stream-is-forest, stream-closes}
use Rattle.yaml_tree_builder.proofs.laws.stream_is_forest.Goals as goal

pub returns-clause-forest : goal.returns-clause-forest
returns-clause-forest c = stream-is-forest

pub returns-clause-closed : goal.returns-clause-closed
returns-clause-closed c = stream-closes
