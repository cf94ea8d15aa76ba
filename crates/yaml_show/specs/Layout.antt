-- Trees in block style, a line for each entry and item (YAML 1.2.2, 8.2). The trees are arranged.
use Rattle.std.specs.Prelude.{ℕ, suc, Bool, true, false, not, ◌||◌, cond, nat_le, List, [], ◌∷◌, ◌++◌, codes, flat_map}
use Rattle.yaml_definitions.specs.model.Tag.{seq_tag, map_tag}
use Rattle.yaml_definitions.specs.model.Tree.{Tree, Trees, Pairs, scalar, sequence, mapping, end, item, done, entry}
use Rattle.yaml_show_scalar.specs.Scalars.{scalar_lines, indentation}
use Rattle.yaml_show_scalar.specs.Tags.{tag_text, tag_before, is_left_out}
use Rattle.yaml_show.specs.Flow.{flow_text, key_text, all_fit}
use Rattle.yaml_show.specs.declared.place.Place.{Place}
use Rattle.yaml_show.specs.declared.place.Place.TheVariants.{Root, Value, Item}

-- what stands between a node and `---`, its key's `:` or its dash
abbrev pub space : Place → List ℕ
space Item = []
space Root = 32 ∷ []
space Value = 32 ∷ []

abbrev pub is_root : Place → Bool
is_root Root = true
is_root Value = false
is_root Item = false

-- the further lines of a scalar that is a document are at level 1
abbrev pub lines_at : Place → ℕ → ℕ
lines_at Root level = 1
lines_at Value level = level
lines_at Item level = level

-- The first part of a collection without a tag that is an item stands on the dash's line.
abbrev pub goes_on : Place → List ℕ → List ℕ → Bool
goes_on Item g own = is_left_out g own
goes_on Root g own = false
goes_on Value g own = false

-- what stands on the line of the node itself: its tag, and the end of the line unless the first part goes on there
unfoldable pub head : Place → List ℕ → List ℕ → List ℕ
head place g own = cond (goes_on place g own) [] (cond (is_left_out g own) [] (space place ++ tag_text g) ++ (10 ∷ []))

-- at this level collections are on one line, so that indentation does not grow further
abbrev pub deepest : ℕ
deepest = 64

abbrev pub no_items : Trees → Bool
no_items end = true
no_items (item t ts) = false

abbrev pub no_entries : Pairs → Bool
no_entries done = true
no_entries (entry k v ps) = false

-- an empty collection and the end of its line
unfoldable pub empty_text : Place → List ℕ → List ℕ → List ℕ → List ℕ
empty_text place g own brackets = space place ++ (tag_before g own ++ brackets)

-- a tree on one line, and the end of the line
unfoldable pub one_line : Place → Tree → List ℕ
one_line place t = space place ++ (flow_text false t ++ (10 ∷ []))

-- what stands before a part: nothing where its line is begun, else the indentation
abbrev pub before_part : Bool → ℕ → List ℕ
before_part begun level = cond begun [] (indentation level)

-- A node and the end of its line. Its parts, or the further lines of a scalar, are at this level.
unfoldable mutual
  pub node_lines : Place → ℕ → Tree → List ℕ
  node_lines place level (scalar g x) = space place ++ scalar_lines (lines_at place level) (is_root place) g x
  node_lines place level (sequence g ts) =
      cond (no_items ts) (empty_text place g seq_tag (codes "[]\n"))
      (cond (nat_le deepest level) (one_line place (sequence g ts)) (head place g seq_tag ++ item_lines (goes_on place g seq_tag) level ts))
  node_lines place level (mapping g ps) =
      cond (no_entries ps) (empty_text place g map_tag (codes "{}\n"))
      (cond (nat_le deepest level || not (all_fit ps)) (one_line place (mapping g ps)) (head place g map_tag ++ entry_lines (goes_on place g map_tag) level ps))

  -- items, each on lines of its own; the first one goes on where the line is begun
  pub item_lines : Bool → ℕ → Trees → List ℕ
  item_lines begun level end = []
  item_lines begun level (item t ts) = before_part begun level ++ (45 ∷ 32 ∷ (node_lines Item (suc level) t ++ item_lines false level ts))

  -- entries in the same way
  pub entry_lines : Bool → ℕ → Pairs → List ℕ
  entry_lines begun level done = []
  entry_lines begun level (entry k v ps) = before_part begun level ++ (key_text k ++ (58 ∷ (node_lines Value (suc level) v ++ entry_lines false level ps)))

-- a document behind `---`
abbrev pub document_lines : Tree → List ℕ
document_lines t = codes "---" ++ node_lines Root 0 t

-- What is shown of documents that are arranged: each behind `---`.
abbrev pub shown_text : List Tree → List ℕ
shown_text f = flat_map document_lines f
