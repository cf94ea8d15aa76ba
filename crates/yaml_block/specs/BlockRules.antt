-- Block nodes, from where a reader stands (YAML 1.2.2, 8.2).
use Rattle.std.specs.Prelude.{ℕ, ◌+◌, ◌-◌, ◌≤◌, List, [], ◌∷◌, Option, Some, None, false}
use Rattle.yaml_definitions.specs.model.Event.{Event, sequence_end, mapping_end}
use Rattle.yaml_definitions.specs.model.Event as style
use Rattle.yaml_definitions.specs.grammar.Rules.{Rule, ◌▸◌, ◌◂◌, ◌⨾◌, ◌∪◌, gives, given, never, some, any, seen, chr, with_value}
use Rattle.yaml_definitions.specs.grammar.Separation.{Ctx, block_out, block_in, flow_out, flow_in, block_key, flow_key, s-indent as indent, s-separate as separate, s-l-comments as s_l_comments}
use Rattle.yaml_definitions.specs.grammar.Tags.{Handles, c-ns-properties as properties}
use Rattle.yaml_definitions.specs.grammar.Events.{Props, no_props, scalar, e-scalar as empty, seq_start, map_start, wrapped}
use Rattle.yaml_definitions.specs.grammar.BlockScalars.{c-l+literal as literal, c-l+folded as folded}
use Rattle.yaml_definitions.specs.grammar.Nodes.{yaml_part, json_part, block_part, l+block-mapping as block_map, l+block-sequence as block_seq, ns-s-implicit-yaml-key as implicit_yaml_key, c-s-implicit-json-key as implicit_json_key, c-l-block-seq-entry as seq_entry, ns-l-block-map-entry as map_entry, s-l+block-indented as indented, reads}
use Rattle.yaml_layout.specs.NodeRules.{opens, below}

-- 8.2.3: the column from which a sequence may stand below a parent
abbrev pub least_dash : ℕ → Ctx → ℕ
least_dash col block_in = col
least_dash col block_out = col - 1
least_dash col flow_out = col
least_dash col flow_in = col
least_dash col block_key = col
least_dash col flow_key = col

module _ (cs : List ℕ) where
  abbrev pub block_scalar_rest : Props → ℕ → Rule (List Event)
  block_scalar_rest p col = seen (λ t. scalar p style.literal t ∷ []) (literal cs col) ∪ seen (λ t. scalar p style.folded t ∷ []) (folded cs col)

module _ (cs : List ℕ) (Wide : Type 0) (handles : Handles) where
  -- entries from the first one's dash or key on, one in each line of this column
  abbrev pub seq_body : ℕ → ℕ → Rule (List Event)
  seq_body room k = seq_entry cs Wide handles (Unit {0}) (reads cs Wide handles room) k ⨾ any (indent cs k ▸ seq_entry cs Wide handles (Unit {0}) (reads cs Wide handles room) k)

  abbrev pub sequence_with : Props → ℕ → ℕ → Rule (List Event)
  sequence_with p room k = given (opens cs Wide handles room) (seen (wrapped (seq_start false p) sequence_end)
      (seq_entry cs Wide handles (opens cs Wide handles room) (below cs Wide handles room) k ⨾ any (indent cs k ▸ seq_entry cs Wide handles (opens cs Wide handles room) (below cs Wide handles room) k)))

  abbrev pub mapping_with : Props → ℕ → ℕ → Rule (List Event)
  mapping_with p room k = given (opens cs Wide handles room) (seen (wrapped (map_start false p) mapping_end)
      (map_entry cs Wide handles (opens cs Wide handles room) (below cs Wide handles room) k ⨾ any (indent cs k ▸ map_entry cs Wide handles (opens cs Wide handles room) (below cs Wide handles room) k)))

  abbrev pub mapping_in : ℕ → Option ℕ → Rule (List Event)
  mapping_in room None = never
  mapping_in room (Some k) = mapping_with no_props room k

  -- a node from its first character on, whose mapping may stand in this column without properties, if in any
  abbrev pub node_rest : ℕ → ℕ → Ctx → Option ℕ → Rule (List Event)
  node_rest room col c column =
      ((reads cs Wide handles room (yaml_part col flow_out) ∪ reads cs Wide handles room (json_part col flow_out)) ◂ s_l_comments cs)
      ∪ with_value (gives no_props ∪ (properties cs handles col flow_out ◂ separate cs col flow_out)) (λ p. block_scalar_rest cs p col)
      ∪ with_value (properties cs handles col flow_out ◂ s_l_comments cs) (λ p.
      block_map cs Wide handles (opens cs Wide handles room) (below cs Wide handles room) p col
      ∪ block_seq cs Wide handles (opens cs Wide handles room) (below cs Wide handles room) p (least_dash col c))
      ∪ mapping_in room column

  -- a node on a line below its parent, from the line's start on, or none
  abbrev pub line_rest : ℕ → ℕ → Ctx → Rule (List Event)
  line_rest room col c =
      some (λ k. given (col ≤ k) (indent cs k ▸ node_rest room col c (Some k)))
      ∪ some (λ k. given (least_dash col c ≤ k) (indent cs k ▸ sequence_with no_props room k))
      ∪ gives (empty no_props)

  -- what stands after a key's colon or a document's mark
  abbrev pub value_rest : ℕ → ℕ → Ctx → Rule (List Event)
  value_rest room col c = reads cs Wide handles room (block_part col c) ∪ (gives (empty no_props) ◂ s_l_comments cs)

  -- what stands after the dash of an entry in this column
  abbrev pub entry_rest : ℕ → ℕ → Rule (List Event)
  entry_rest room k = indented cs Wide handles (Unit {0}) (reads cs Wide handles room) k

  -- a key and its colon
  abbrev pub key_rest : ℕ → Rule (List Event)
  key_rest room = (implicit_yaml_key cs Wide handles (Unit {0}) (reads cs Wide handles room) block_key
      ∪ implicit_json_key cs Wide handles (Unit {0}) (reads cs Wide handles room) block_key) ◂ chr cs 58

  -- a mapping from its first key's colon on
  abbrev pub entries_rest : ℕ → ℕ → Rule (List Event)
  entries_rest room k = value_rest room (k + 1) block_out
      ⨾ any (indent cs k ▸ map_entry cs Wide handles (Unit {0}) (reads cs Wide handles room) k)

  -- a document's node, from the start of its first line
  abbrev pub root_rest : ℕ → ℕ → Rule (List Event)
  root_rest room k = indent cs k ▸ (sequence_with no_props room k ∪ node_rest room 0 block_in (Some k))
