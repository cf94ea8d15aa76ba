-- The trees that the nodes of a stream stand for, in the order in which the nodes close.
use Rattle.std.specs.Prelude.{List, [], ◌∷◌, ◌++◌}
use Rattle.yaml_definitions.specs.model.Tree.{Tree, Trees, Pairs, sequence, mapping, item, entry}
use Rattle.yaml_definitions.specs.model.Serial.{SerialNode, SerialNodes, SerialPairs, alias_at, scalar_at, sequence_at, mapping_at, item_serial, entry_serial, Document}

-- The unfolded trees of a node's own nodes, itself last, where the node's own tree is known. A node closes after its parts; an alias is no node of its own.
unfoldable mutual
  pub trees_inside : SerialNode → Tree → List Tree
  trees_inside (alias_at name) t = []
  trees_inside (scalar_at a g y x) t = t ∷ []
  trees_inside (sequence_at a g b ms) (sequence h ts) = trees_inside_all ms ts ++ (sequence h ts ∷ [])
  trees_inside (mapping_at a g b ps) (mapping h qs) = trees_inside_pairs ps qs ++ (mapping h qs ∷ [])
  trees_inside _ _ = []

  pub trees_inside_all : SerialNodes → Trees → List Tree
  trees_inside_all (item_serial m ms) (item t ts) = trees_inside m t ++ trees_inside_all ms ts
  trees_inside_all _ _ = []

  pub trees_inside_pairs : SerialPairs → Pairs → List Tree
  trees_inside_pairs (entry_serial k v ps) (entry t u qs) = trees_inside k t ++ (trees_inside v u ++ trees_inside_pairs ps qs)
  trees_inside_pairs _ _ = []

-- those of the documents, one after the other
unfoldable pub stream_trees : List Document → List Tree → List Tree
stream_trees (d ∷ ds) (t ∷ ts) = trees_inside d.root t ++ stream_trees ds ts
stream_trees _ _ = []
