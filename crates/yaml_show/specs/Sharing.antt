-- Trees in block style with anchors and aliases (YAML 1.2.2, 7.1): an arranged tree, and beside it its serialization tree, of which the anchors and the aliases alone are looked at.
use Rattle.std.specs.Prelude.{ℕ, suc, Bool, true, false, not, ◌||◌, ◌&&◌, cond, nat_le, List, [], ◌∷◌, ◌++◌, length, codes, flat_map}
use Rattle.std.specs.Str.{chars}
use Rattle.std.specs.declared.option.Option.TheVariants.{None, Some}
use Rattle.yaml_definitions.specs.model.Event.{Anchor, double}
use Rattle.yaml_definitions.specs.model.Serial.{SerialNode, SerialNodes, SerialPairs, alias_at, scalar_at, sequence_at, mapping_at, end_serial, item_serial, done_serial, entry_serial}
use Rattle.yaml_definitions.specs.model.Tag.{seq_tag, map_tag}
use Rattle.yaml_definitions.specs.model.Tree.{Tree, Trees, Pairs, scalar, sequence, mapping, end, item, done, entry}
use Rattle.yaml_definitions.specs.canonical.Spell.{serial_of_arranged}
use Rattle.yaml_definitions.specs.canonical.TagText.{written_tag}
use Rattle.yaml_show_scalar.specs.Scalars.{scalar_text, scalar_lines}
use Rattle.yaml_show_scalar.specs.Tags.{tag_before}
use Rattle.yaml_show_scalar.specs.declared.scalar.Quotes.TheVariants.{WhereNeeded, Always}
use Rattle.yaml_spell.specs.declared.names.Opening.{Opening}
use Rattle.yaml_spell.specs.NamesView.{Given}
use Rattle.yaml_spell.specs.Walked.{anchor_in, begun, written_all, written_pairs}
use Rattle.yaml_show.specs.Flow.{is_short, is_simple, mark, colon, key_text}
use Rattle.yaml_show.specs.Layout.{space, is_root, lines_at, goes_on, head, deepest, no_items, no_entries, empty_text, before_part}
use Rattle.yaml_show.specs.declared.place.Place.{Place}
use Rattle.yaml_show.specs.declared.place.Place.TheVariants.{Root, Value, Item}

-- ---- what the serialization tree tells

abbrev pub is_alias : SerialNode → Bool
is_alias (alias_at name) = true
is_alias _ = false

abbrev pub alias_name : SerialNode → List ℕ
alias_name (alias_at name) = name
alias_name _ = []

abbrev pub anchor_at : SerialNode → Anchor
anchor_at (alias_at name) = None
anchor_at (scalar_at a g y x) = a
anchor_at (sequence_at a g flow ms) = a
anchor_at (mapping_at a g flow ms) = a

abbrev pub items_at : SerialNode → SerialNodes
items_at (sequence_at a g flow ms) = ms
items_at _ = end_serial

abbrev pub pairs_at : SerialNode → SerialPairs
pairs_at (mapping_at a g flow ms) = ms
pairs_at _ = done_serial

abbrev pub first_at : SerialNodes → SerialNode
first_at end_serial = alias_at []
first_at (item_serial m ms) = m

abbrev pub rest_at : SerialNodes → SerialNodes
rest_at end_serial = end_serial
rest_at (item_serial m ms) = ms

abbrev pub key_at : SerialPairs → SerialNode
key_at done_serial = alias_at []
key_at (entry_serial k v ms) = k

abbrev pub value_at : SerialPairs → SerialNode
value_at done_serial = alias_at []
value_at (entry_serial k v ms) = v

abbrev pub more_at : SerialPairs → SerialPairs
more_at done_serial = done_serial
more_at (entry_serial k v ms) = ms

-- ---- on one line

-- `&aN `, if there is an anchor
abbrev pub anchor_before : Anchor → List ℕ
anchor_before None = []
anchor_before (Some name) = 38 ∷ (name ++ (32 ∷ []))

-- an alias, or an anchor and what is behind it
abbrev pub opened_flow : SerialNode → List ℕ → List ℕ
opened_flow m inside = cond (is_alias m) (42 ∷ alias_name m) (anchor_before (anchor_at m) ++ inside)

-- A tree on one line, behind its anchor, in a key of a block mapping or elsewhere. Between an alias that is a key and the colon is a space.
unfoldable mutual
  pub flow_inside : Bool → Tree → SerialNode → List ℕ
  flow_inside in_key (scalar g x) m = scalar_text Always g x
  flow_inside in_key (sequence g ts) m = tag_before g seq_tag ++ (91 ∷ sharing_items in_key [] ts (items_at m))
  flow_inside in_key (mapping g ps) m = tag_before g map_tag ++ (123 ∷ sharing_entries in_key [] ps (pairs_at m))

  pub sharing_items : Bool → List ℕ → Trees → SerialNodes → List ℕ
  sharing_items in_key before end ms = 93 ∷ []
  sharing_items in_key before (item t ts) ms = before ++ (opened_flow (first_at ms) (flow_inside in_key t (first_at ms)) ++ sharing_items in_key (44 ∷ 32 ∷ []) ts (rest_at ms))

  pub sharing_entries : Bool → List ℕ → Pairs → SerialPairs → List ℕ
  sharing_entries in_key before done ms = 125 ∷ []
  sharing_entries in_key before (entry k v ps) ms =
      before ++ (mark (is_simple in_key k) ++ (opened_flow (key_at ms) (flow_inside in_key k (key_at ms)) ++ (colon (is_simple in_key k && not (is_alias (key_at ms)))
      ++ (opened_flow (value_at ms) (flow_inside in_key v (value_at ms)) ++ sharing_entries in_key (44 ∷ 32 ∷ []) ps (more_at ms)))))

abbrev pub sharing_flow : Bool → Tree → SerialNode → List ℕ
sharing_flow in_key t m = opened_flow m (flow_inside in_key t m)

-- ---- keys of block mappings

-- a key of a block mapping, without its `:`
unfoldable pub sharing_key : Tree → SerialNode → List ℕ
sharing_key (scalar g x) m = cond (is_alias m) (42 ∷ (alias_name m ++ (32 ∷ []))) (anchor_before (anchor_at m) ++ scalar_text WhereNeeded g x)
sharing_key (sequence g ts) m = sharing_flow true (sequence g ts) m ++ (32 ∷ [])
sharing_key (mapping g ps) m = sharing_flow true (mapping g ps) m ++ (32 ∷ [])

-- The greatest number of characters of a key without its anchors: with them, of 13 characters each, it has at most 1,023. A node of a collection that may be anchored takes two characters at least.
abbrev pub key_room : Tree → ℕ
key_room (scalar g x) = 1010
key_room (sequence g ts) = 128
key_room (mapping g ps) = 128

unfoldable pub has_room : Tree → Bool
has_room t = is_short t || nat_le (length (chars (key_text t))) (key_room t)

abbrev pub all_have_room : Pairs → Bool
all_have_room done = true
all_have_room (entry k v ps) = has_room k && all_have_room ps

-- ---- in block style

-- an alias and the end of its line
abbrev pub alias_line : Place → List ℕ → List ℕ
alias_line place name = space place ++ (42 ∷ (name ++ (10 ∷ [])))

-- what stands between what is before a node, and what is behind its anchor
abbrev pub anchor_behind : Place → Anchor → List ℕ
anchor_behind place None = []
anchor_behind place (Some name) = space place ++ (38 ∷ name)

-- Behind an anchor a node stands as behind the `:` of a key.
abbrev pub behind_anchor : Place → Place
behind_anchor Root = Root
behind_anchor Value = Value
behind_anchor Item = Value

abbrev pub place_behind : Place → Anchor → Place
place_behind place None = place
place_behind place (Some name) = behind_anchor place

abbrev pub opened_lines : Place → SerialNode → (Place → List ℕ) → List ℕ
opened_lines place m inside = cond (is_alias m) (alias_line place (alias_name m)) (anchor_behind place (anchor_at m) ++ inside (place_behind place (anchor_at m)))

-- a tree on one line, behind its anchor, and the end of the line
abbrev pub line_inside : Place → Tree → SerialNode → List ℕ
line_inside place t m = space place ++ (flow_inside false t m ++ (10 ∷ []))

-- A node behind its anchor, and the end of its line. Its parts, or the further lines of a scalar, are at this level.
unfoldable mutual
  pub inside_lines : Place → ℕ → Tree → SerialNode → List ℕ
  inside_lines place level (scalar g x) m = space place ++ scalar_lines (lines_at place level) (is_root place) g x
  inside_lines place level (sequence g ts) m =
      cond (no_items ts) (empty_text place g seq_tag (codes "[]\n"))
      (cond (nat_le deepest level) (line_inside place (sequence g ts) m) (head place g seq_tag ++ sharing_item_lines (goes_on place g seq_tag) level ts (items_at m)))
  inside_lines place level (mapping g ps) m =
      cond (no_entries ps) (empty_text place g map_tag (codes "{}\n"))
      (cond (nat_le deepest level || not (all_have_room ps)) (line_inside place (mapping g ps) m) (head place g map_tag ++ sharing_entry_lines (goes_on place g map_tag) level ps (pairs_at m)))

  pub sharing_item_lines : Bool → ℕ → Trees → SerialNodes → List ℕ
  sharing_item_lines begun level end ms = []
  sharing_item_lines begun level (item t ts) ms =
      before_part begun level ++ (45 ∷ 32 ∷ (opened_lines Item (first_at ms) (λ place. inside_lines place (suc level) t (first_at ms)) ++ sharing_item_lines false level ts (rest_at ms)))

  pub sharing_entry_lines : Bool → ℕ → Pairs → SerialPairs → List ℕ
  sharing_entry_lines begun level done ms = []
  sharing_entry_lines begun level (entry k v ps) ms =
      before_part begun level ++ (sharing_key k (key_at ms) ++ (58 ∷ (opened_lines Value (value_at ms) (λ place. inside_lines place (suc level) v (value_at ms)) ++ sharing_entry_lines false level ps (more_at ms))))

abbrev pub sharing_lines : Place → ℕ → Tree → SerialNode → List ℕ
sharing_lines place level t m = opened_lines place m (λ at. inside_lines at level t m)

-- a document behind `---`
abbrev pub sharing_document : Tree → List ℕ
sharing_document t = codes "---" ++ sharing_lines Root 0 t (serial_of_arranged t)

-- What is shown of documents that are arranged, with the anchors and aliases of their canonical text.
abbrev pub sharing_shown : List Tree → List ℕ
sharing_shown f = flat_map sharing_document f

-- ---- what a walk writes

-- the serialization tree of a node that begins so, if this is known behind its anchor; `rank` gives the rank of each tree
abbrev pub made : (Tree → ℕ) → Tree → Opening → Given → SerialNode
made rank (scalar g x) o q = begun o (scalar_at (anchor_in o) (written_tag 0 g) double x)
made rank (sequence g ts) o q = begun o (sequence_at (anchor_in o) (written_tag 1 g) true (written_all rank ts q))
made rank (mapping g ps) o q = begun o (mapping_at (anchor_in o) (written_tag 2 g) true (written_pairs rank ps q))
