use Rattle.yaml_store_rank.proofs.ArrangedForests.{mappings-are-arranged}
use Rattle.yaml_store_rank.proofs.laws.mappings_are_arranged.Goals as goal

pub returns : goal.returns
returns c = mappings-are-arranged
