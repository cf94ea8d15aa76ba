use Rattle.std.proofs.Common.{List, map, sym, ◌∙◌, ap}
use Rattle.yaml_definitions.specs.model.Order.{arranged}
use Rattle.yaml_graph.specs.GraphModel.{Entries}
use Rattle.yaml_graph.specs.GraphView.{tree}
use Rattle.yaml_tree.specs.declared.node.NodeId.{NodeId}
use Rattle.yaml_tree.specs.View.{Inside, content, items, entries, inside_tree}
use Rattle.yaml_rank.proofs.GraphNodes.{kind_inside, graph_shown, graph_within}
use Rattle.yaml_rank.proofs.ranked_graph.RankedGraphRankedNodesNodeId.node.Goals as goal

pub returns-in-Scalar-clause-tree : goal.returns-in-Scalar-clause-tree
returns-in-Scalar-clause-tree c =
    let s = c.args.self.now in
    let G = s.graph.now in
    let x : Inside = content c.as_str.result.now in
    graph_shown G s.ranks.now c.requires.stands c.args.id.0 c.node-node.result.now c.requires.within c.node-node.ensures x (λ e q. ap content c.as_str.ensures.value ∙ sym (ap (kind_inside e.items) c.in-Scalar.is)) ∙ ap (λ g. inside_tree (λ i. arranged (tree G i)) g x) (sym c.as_str-tag.ensures.value)

pub returns-in-Scalar-clause-within : goal.returns-in-Scalar-clause-within
returns-in-Scalar-clause-within c =
    let s = c.args.self.now in
    graph_within s.graph.now s.ranks.now c.requires.stands c.args.id.0 c.node-node.result.now c.requires.within c.node-node.ensures _ (λ e q. ap content c.as_str.ensures.value ∙ sym (ap (kind_inside e.items) c.in-Scalar.is))

pub returns-in-Sequence-clause-tree : goal.returns-in-Sequence-clause-tree
returns-in-Sequence-clause-tree c =
    let s = c.args.self.now in
    let G = s.graph.now in
    let x : Inside = items (map (λ (i : NodeId). i.0) c.deref.result.now) in
    graph_shown G s.ranks.now c.requires.stands c.args.id.0 c.node-node.result.now c.requires.within c.node-node.ensures x (λ e q. ap (λ (z : List NodeId). items (map (λ i. i.0) z)) c.deref.ensures.value ∙ sym (ap (kind_inside e.items) c.in-Sequence.is)) ∙ ap (λ g. inside_tree (λ i. arranged (tree G i)) g x) (sym c.as_str-tag.ensures.value)

pub returns-in-Sequence-clause-within : goal.returns-in-Sequence-clause-within
returns-in-Sequence-clause-within c =
    let s = c.args.self.now in
    graph_within s.graph.now s.ranks.now c.requires.stands c.args.id.0 c.node-node.result.now c.requires.within c.node-node.ensures _ (λ e q. ap (λ (z : List NodeId). items (map (λ i. i.0) z)) c.deref.ensures.value ∙ sym (ap (kind_inside e.items) c.in-Sequence.is))

pub returns-in-Mapping-clause-tree : goal.returns-in-Mapping-clause-tree
returns-in-Mapping-clause-tree c =
    let s = c.args.self.now in
    let G = s.graph.now in
    let x : Inside = entries (map (λ (p : NodeId × NodeId). (p.0.0, p.1.0)) c.sorted.result.now) in
    graph_shown G s.ranks.now c.requires.stands c.args.id.0 c.node-node.result.now c.requires.within c.node-node.ensures x (λ e q. ap (λ (z : Entries). entries (map (λ p. (p.0.0, p.1.0)) z)) (c.sorted.ensures e q) ∙ sym (ap (kind_inside e.items) c.in-Mapping.is)) ∙ ap (λ g. inside_tree (λ i. arranged (tree G i)) g x) (sym c.as_str-tag.ensures.value)

pub returns-in-Mapping-clause-within : goal.returns-in-Mapping-clause-within
returns-in-Mapping-clause-within c =
    let s = c.args.self.now in
    graph_within s.graph.now s.ranks.now c.requires.stands c.args.id.0 c.node-node.result.now c.requires.within c.node-node.ensures _ (λ e q. ap (λ (z : Entries). entries (map (λ p. (p.0.0, p.1.0)) z)) (c.sorted.ensures e q) ∙ sym (ap (kind_inside e.items) c.in-Mapping.is))
