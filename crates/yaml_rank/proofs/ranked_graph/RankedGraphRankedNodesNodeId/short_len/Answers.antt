use Rattle.std.proofs.Common.{sym, ◌∙◌}
use Rattle.yaml_definitions.specs.model.Order.{arranged}
use Rattle.yaml_graph.specs.GraphView.{tree}
use Rattle.yaml_spell.proofs.ShownLaws.{short-is}
use Rattle.yaml_rank.proofs.ranked_graph.RankedGraphRankedNodesNodeId.short_len.Goals as goal

pub returns : goal.returns
returns c = record { is = c.short_len.ensures ∙ sym (short-is (λ i. i.0) (λ i. arranged (tree c.args.self.now.graph.now i)) _ _ _ c.node.ensures.tree) }
