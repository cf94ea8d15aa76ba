use Rattle.yaml_definitions.proofs.MeansLaws.{spelled_understood, blocked_understood}
use Rattle.yaml_definitions.proofs.laws.spellings_understood.Goals as goal

pub returns : goal.returns
returns c = (λ f a. (spelled_understood f a, blocked_understood f a))
