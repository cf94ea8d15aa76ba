use Rattle.std.proofs.Common.{sym, ◌∙◌, arith}
use Rattle.yaml_show.proofs.SourceLaws.{source_rank}
use Rattle.yaml_show.proofs.source.SourceForestsRankedNodesNodeId.rank.Goals as goal

pub returns-clause-is : goal.returns-clause-is
returns-clause-is c = c.rank.ensures ∙ sym (source_rank c.args.self.now.forests.now c.laws.ensures c.args.id.0 c.requires.within)

pub returns-clause-within : goal.returns-clause-within
returns-clause-within c = omega (arith, c.rank.ensures, c.laws.ensures.within c.args.id.0 c.requires.within)
