-- The text of a node in one line: its canonical text, but that a node is written out wherever it comes.
use Rattle.std.specs.Prelude.{ℕ, zero, suc, true, List, [], ◌∷◌}
use Rattle.std.specs.Str.{encode_utf8_all}
use Rattle.std.specs.declared.option.Option.TheVariants.{None}
use Rattle.yaml_definitions.specs.model.Tree.{Tree, Trees, Pairs, scalar, sequence, mapping, end, item, done, entry, a_scalar, a_sequence, a_mapping}
use Rattle.yaml_definitions.specs.model.Order.{arranged}
use Rattle.yaml_definitions.specs.model.Event.{double}
use Rattle.yaml_definitions.specs.model.Serial.{SerialNode, SerialNodes, SerialPairs, scalar_at, sequence_at, mapping_at, end_serial, item_serial, done_serial, entry_serial}
use Rattle.yaml_definitions.specs.canonical.TagText.{written_tag}
use Rattle.yaml_definitions.specs.canonical.NodeText.{node_text}

-- the serialization tree without anchors and aliases, of a tree whose pairs stand in order
abbrev mutual
  pub written_out : Tree → SerialNode
  written_out (scalar a x) = scalar_at None (written_tag a_scalar a) double x
  written_out (sequence a ts) = sequence_at None (written_tag a_sequence a) true (items_out ts)
  written_out (mapping a ps) = mapping_at None (written_tag a_mapping a) true (pairs_out ps)

  pub items_out : Trees → SerialNodes
  items_out end = end_serial
  items_out (item t ts) = item_serial (written_out t) (items_out ts)

  pub pairs_out : Pairs → SerialPairs
  pairs_out done = done_serial
  pairs_out (entry k v ps) = entry_serial (written_out k) (written_out v) (pairs_out ps)

-- what stands before the part at this place of a collection
abbrev pub separator : ℕ → List ℕ
separator zero = []
separator (suc place) = 44 ∷ 32 ∷ []

-- the bytes of such a tree's text
abbrev pub arranged_text : Tree → List ℕ
arranged_text t = encode_utf8_all (node_text (written_out t) [])

-- the same of any tree, with the pairs of each mapping in the order of their keys
abbrev pub text_of : Tree → List ℕ
text_of t = arranged_text (arranged t)
