use Rattle.yaml_show.proofs.SourceLaws.{source_tells}
use Rattle.yaml_show.proofs.source.SourceForestsRankedNodesNodeId.tells.Goals as goal

pub returns : goal.returns
returns c = source_tells c.args.self.now.forests.now c.laws.ensures
