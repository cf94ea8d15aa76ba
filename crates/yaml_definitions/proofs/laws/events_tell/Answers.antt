use Rattle.yaml_definitions.proofs.MeansLaws.{stands_one}
use Rattle.yaml_definitions.proofs.laws.events_tell.Goals as goal

pub returns : goal.returns
returns c = stands_one
