use Rattle.yaml_rank.proofs.GraphNodes.{graph_tells}
use Rattle.yaml_rank.proofs.ranked_graph.RankedGraphRankedNodesNodeId.tells.Goals as goal

pub returns : goal.returns
returns c = graph_tells c.args.self.now.graph.now c.args.self.now.ranks.now c.requires
