-- The nodes of some streams, ranked, as plain values.
use Rattle.std.specs.Prelude.{◌≡◌, ◌↔◌, ℕ, ◌<◌, ◌≤◌, List, [], ◌∷◌, map, length, slice_index, Option, Some, None}
use Rattle.std.specs.List.{slice_get, slice_index_or, slice_range, All, Contains}
use Rattle.yaml_definitions.specs.model.Limits.{height_limit}
use Rattle.yaml_definitions.specs.model.Tree.{Tree, height}
use Rattle.yaml_definitions.specs.model.Same.{Same, Keyed}
use Rattle.yaml_definitions.specs.model.Order.{Before, arranged}
use Rattle.yaml_tree.specs.TreeLists.{tree_at}
use Rattle.yaml_tree.specs.View.{entries_in}
use Rattle.yaml_tree.specs.Insides.{Held, trees_held, HeldBelow}
use Rattle.yaml_tree.specs.Shown.{inside_shown}
use Rattle.yaml_tree.specs.declared.node.NodeId.{NodeId}
use Rattle.yaml_tree.specs.declared.shown.Shown.{Shown}

-- Each node's tag and what is inside it, entries as they are written; each node's rank; and the roots of each stream's documents.
pub record Forests : Type 0 where
  pub nodes : List Held
  pub ranks : List ℕ
  pub streams : List (List ℕ)

abbrev pub count : Forests → ℕ
count f = length f.nodes

-- the tree that the node of this number stands for
abbrev pub tree : Forests → ℕ → Tree
tree f i = tree_at (trees_held f.nodes) i

abbrev pub rank : Forests → ℕ → ℕ
rank f i = slice_index f.ranks i

-- the trees of these nodes
abbrev pub item_trees : Forests → List NodeId → List Tree
item_trees f items = map (λ i. tree f i.0) items

-- the trees of the keys and values of these entries
abbrev pub entry_trees : Forests → List (NodeId × NodeId) → List (Tree × Tree)
entry_trees f entries = map (λ p. (tree f p.0.0, tree f p.1.0)) entries

-- a key and its value, both arranged
abbrev pub key_pair : Forests → NodeId × NodeId → Tree × Tree
key_pair f p = (arranged (tree f p.0.0), arranged (tree f p.1.0))

-- the roots of the documents of a stream; none where there is no such stream
abbrev pub documents_of : Forests → ℕ → List ℕ
documents_of f k = slice_index_or f.streams k []

-- what is shown of a node
abbrev pub held_shown : Shown NodeId → Held
held_shown s = (s.tag.now, inside_shown (λ i. i.0) s.inside)

abbrev pub entries_held : Option Held → List (ℕ × ℕ)
entries_held (Some n) = entries_in n.1
entries_held None = []

-- the entries of a mapping as they are written; none of another node
abbrev pub entries_at : Forests → ℕ → List (ℕ × ℕ)
entries_at f i = entries_held (slice_get f.nodes i)

-- These are the entries, each as often, in strictly rising order of the ranks of their keys.
pub record InKeyOrder (rank : ℕ → ℕ) (es sorted : List (ℕ × ℕ)) : Type 0 where
  pub count : length sorted ≡ length es
  pub sound : (p : ℕ × ℕ) → Contains sorted p → Contains es p
  pub whole : (p : ℕ × ℕ) → Contains es p → Contains sorted p
  pub rises : (j k : ℕ) (d : ℕ × ℕ) → j < k → k < length sorted → rank (slice_index_or sorted j d).0 < rank (slice_index_or sorted k d).0

-- the written place of the entry whose key has this rank; none has it
abbrev pub IsPlaceOf : (ℕ → ℕ) → List (ℕ × ℕ) → ℕ → Option ℕ → Type 0
IsPlaceOf rank es r (Some k) = (p : ℕ × ℕ) × (slice_get es k ≡ Some p) × (rank p.0 ≡ r)
IsPlaceOf rank es r None = (k : ℕ) (p : ℕ × ℕ) → slice_get es k ≡ Some p → rank p.0 ≡ r → ⊥

-- Parts stand before their node. Ranks are below the number of nodes, equal exactly for trees that are the same, and rise in the order of trees. No mapping has two equal keys, no tree is higher than the limit, and roots are nodes. Each mapping's entries have an order by their keys.
pub record IsRanked (f : Forests) : Type 0 where
  pub below : HeldBelow f.nodes
  pub long : length f.ranks ≡ count f
  pub within : (i : ℕ) → i < count f → rank f i < count f
  pub ranked : (i j : ℕ) → i < count f → j < count f → ((rank f i ≡ rank f j) ↔ Same (tree f i) (tree f j)) × ((rank f i < rank f j) ↔ Before (tree f i) (tree f j))
  pub keyed : (i : ℕ) → i < count f → Keyed (tree f i)
  pub low : (i : ℕ) → i < count f → height (tree f i) ≤ height_limit
  pub rooted : All (All (λ i. i < count f)) f.streams
  pub ordered : (i : ℕ) → i < count f → (sorted : List (ℕ × ℕ)) × InKeyOrder (rank f) (entries_at f i) sorted

-- a list in parts: each reaches to one of these ends, the first one from this start, and each other from the end before
abbrev pub cut_from : List ℕ → ℕ → List ℕ → List (List ℕ)
cut_from xs start [] = []
cut_from xs start (end ∷ ends) = slice_range xs start end ∷ cut_from xs end ends

-- the ends do not fall, and are at most so many
abbrev pub AreEnds : ℕ → ℕ → List ℕ → Type 0
AreEnds most start [] = Unit {0}
AreEnds most start (end ∷ ends) = (start ≤ end) × (end ≤ most) × AreEnds most end ends
