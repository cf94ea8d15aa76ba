-- The canonical text of a serialization tree, as characters, before more text.
use Rattle.std.specs.Prelude.{ℕ, ◌++◌, List, [], ◌∷◌}
use Rattle.std.specs.Str.{chars}
use Rattle.std.specs.declared.option.Option.TheVariants.{None, Some}
use Rattle.yaml_definitions.specs.model.Event.{Anchor}
use Rattle.yaml_definitions.specs.model.Serial.{SerialNode, SerialNodes, SerialPairs, alias_at, scalar_at, sequence_at, mapping_at, end_serial, item_serial, done_serial, entry_serial}
use Rattle.yaml_definitions.specs.canonical.CharText.{spell_char}
use Rattle.yaml_definitions.specs.canonical.TagText.{tag_text}

-- `&aN `, where there is an anchor
abbrev pub anchor_text : Anchor → List ℕ → List ℕ
anchor_text None more = more
anchor_text (Some name) more = 38 ∷ (chars name ++ (32 ∷ more))

-- the characters and the closing quote
abbrev pub quoted : List ℕ → List ℕ → List ℕ
quoted [] more = 34 ∷ more
quoted (c ∷ cs) more = spell_char c ++ quoted cs more

-- in flow style, each scalar in double quotes
unfoldable mutual
  pub node_text : SerialNode → List ℕ → List ℕ
  node_text (alias_at name) more = 42 ∷ (chars name ++ more)
  node_text (scalar_at a g y x) more = anchor_text a (tag_text g ++ (34 ∷ quoted (chars x) more))
  node_text (sequence_at a g b ts) more = anchor_text a (tag_text g ++ (91 ∷ items_text [] ts more))
  node_text (mapping_at a g b ps) more = anchor_text a (tag_text g ++ (123 ∷ pairs_text [] ps more))

  -- the items, each after a separator, and the bracket
  pub items_text : List ℕ → SerialNodes → List ℕ → List ℕ
  items_text before end_serial more = 93 ∷ more
  items_text before (item_serial t ts) more = before ++ node_text t (items_text (44 ∷ 32 ∷ []) ts more)

  -- the entries, each after a separator, and the brace
  pub pairs_text : List ℕ → SerialPairs → List ℕ → List ℕ
  pairs_text before done_serial more = 125 ∷ more
  pairs_text before (entry_serial k v ps) more = before ++ node_text k (32 ∷ 58 ∷ 32 ∷ node_text v (pairs_text (44 ∷ 32 ∷ []) ps more))
