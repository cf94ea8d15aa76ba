-- The text of a graph's documents.
use Rattle.std.proofs.Common.{◌≡◌, List, [], map, ◌∙◌, ap}
use Rattle.std.specs.Str.{encode_utf8_all}
use Rattle.yaml_definitions.specs.model.Order.{arranged}
use Rattle.yaml_definitions.specs.canonical.Spell.{spell_bytes}
use Rattle.yaml_graph.specs.GraphView.{roots_of, tree, forest}
use Rattle.yaml_graph.specs.declared.graph.Graph.{Graph}
use Rattle.yaml_tree.specs.declared.node.NodeId.{NodeId}
use Rattle.yaml_spell.specs.Documents.{arranged_bytes}
use Rattle.yaml_spell.proofs.DocumentLaws.{arranged_same, spell_whole}

-- the roots of a graph, arranged, have the text of its forest
pub graph_text : (g : Graph) (roots : List NodeId) → roots ≡ roots_of g → arranged_bytes (map (λ i. arranged (tree g i.0)) roots) ≡ spell_bytes (forest g)
graph_text g roots e =
    ap (λ z. arranged_bytes (map (λ (i : NodeId). arranged (tree g i.0)) z)) e ∙ ap encode_utf8_all (arranged_same (λ (i : NodeId). tree g i.0) (roots_of g) []) ∙ spell_whole (forest g)
