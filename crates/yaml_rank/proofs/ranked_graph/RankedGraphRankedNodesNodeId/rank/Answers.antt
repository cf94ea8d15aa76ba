use Rattle.std.proofs.Common.{◌<◌, length, sym, ◌∙◌, subst}
use Rattle.yaml_graph.specs.GraphView.{nodes_of}
use Rattle.yaml_rank.proofs.RankLaws.{rank-there}
use Rattle.yaml_rank.proofs.ranked_graph.RankedGraphRankedNodesNodeId.rank.Goals as goal

pub returns-clause-is : goal.returns-clause-is
returns-clause-is c = c.of.ensures ∙ sym (rank-there c.args.self.now.graph.now c.args.self.now.ranks.now c.requires.stands c.args.id.0 c.requires.within)

pub returns-clause-within : goal.returns-clause-within
returns-clause-within c = subst (λ n. n < length (nodes_of c.args.self.now.graph.now)) (sym c.of.ensures) (c.requires.stands.within c.args.id.0 c.requires.within)
