-- Stores that grow.
use Rattle.std.specs.Prelude.{◌≡◌, ◌⊎◌, ℕ, suc, ◌<◌, ◌≤◌, List, ◌++◌, length, Some}
use Rattle.std.specs.List.{slice_get, All}
use Rattle.std.specs.Str.{IsUtf8}
use Rattle.yaml_definitions.specs.model.Limits.{height_limit}
use Rattle.yaml_definitions.specs.model.Tree.{Tree, height}
use Rattle.yaml_tree.specs.View.{Inside, content, items, entries}
use Rattle.yaml_store.specs.declared.nodes.Node.{Node}
use Rattle.yaml_store.specs.declared.store.Store.{Store}
use Rattle.yaml_store.specs.TextModel.{text_of}
use Rattle.yaml_store.specs.StoreModel.{place_of, inside_of, trees_stored, AllPlaced, PartsInOrder, AllBelow, AllMeasured}

-- a content is text
abbrev pub IsText : Inside → Type 0
IsText (content x) = IsUtf8 x
IsText (items is) = Unit {0}
IsText (entries es) = Unit {0}

-- What lists of nodes keep: places lie in their list, parts stand before their node and behind those of earlier ones, contents are text, and heights are those of the trees, cut just above the limit.
pub record Sound (tags : List (List ℕ)) (text is : List ℕ) (es : List (ℕ × ℕ)) (nodes : List Node) : Type 0 where
  pub few : length nodes < 4294967296
  pub placed : AllPlaced (length text) (length is) (length es) (length tags) nodes
  pub apart : PartsInOrder nodes
  pub below : AllBelow nodes is es
  pub texts : (i : ℕ) (n : Node) → slice_get nodes i ≡ Some n → IsText (inside_of text is es (place_of n))
  pub measured : AllMeasured nodes (trees_stored nodes text is es tags)

-- the tags by number
abbrev pub tags_of : Store → List (List ℕ)
tags_of s = s.tags

abbrev pub Good : Store → Type 0
Good s = Sound (tags_of s) (text_of s.text) s.items.items s.entries.items s.nodes.items

-- each node's tree, in order
abbrev pub trees_of : Store → List Tree
trees_of s = trees_stored s.nodes.items (text_of s.text) s.items.items s.entries.items (tags_of s)

-- no node stands for a tree that is higher than the limit
abbrev pub IsLow : Store → Type 0
IsLow s = (i : ℕ) (t : Tree) → slice_get (trees_of s) i ≡ Some t → height t ≤ height_limit

-- the node of this number stands for the tree
abbrev pub Stands : Store → ℕ → Tree → Type 0
Stands s i t = slice_get (trees_of s) i ≡ Some t

-- at most one node came, and it has the next number
abbrev pub AtMostOne : ℕ → ℕ → ℕ → Type 0
AtMostOne before after i = (after ≡ before) ⊎ ((after ≡ suc before) × (i ≡ before))

-- The store is good, and has a tag of this number and nodes of these.
pub record Fits (s : Store) (tag : ℕ) (parts : List ℕ) : Type 0 where
  pub good : Good s
  pub tagged : tag < length (tags_of s)
  pub below : All (λ i. i < length (trees_of s)) parts

-- The new store is good, and has the old one's tags and nodes with their numbers.
pub record Keeps (old new : Store) : Type 0 where
  pub good : Good new
  pub more_tags : List (List ℕ)
  pub tags : tags_of new ≡ tags_of old ++ more_tags
  pub more : List Tree
  pub trees : trees_of new ≡ trees_of old ++ more
