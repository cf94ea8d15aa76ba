-- The keys of four trees.
use Rattle.std.specs.Prelude.{◌≡◌, ℕ, ◌<◌, Bool, true, ◌||◌, List, length, Option, Some}
use Rattle.std.specs.Option.{is_some}
use Rattle.std.specs.List.{slice_get}
use Rattle.yaml_definitions.specs.model.Tree.{Tree}
use Rattle.yaml_definitions.specs.model.Same.{Same}
use Rattle.yaml_tree.specs.declared.node.NodeId.{NodeId}
use Rattle.yaml_store_rank.specs.Forests.{Forests, count}
use Rattle.yaml_path.specs.Path.{at_key, part_of}
use Rattle.yaml_diff.specs.Lines.{tree_of, trees_of}
use Rattle.yaml_diff.specs.Found.{AllWithin}
use Rattle.yaml_conflicts.specs.declared.sides.Sides.{Sides}

-- this side has a value of the key
abbrev pub side_has : Forests → Option NodeId → Tree → Bool
side_has g side x = is_some (part_of (trees_of g side) (at_key x))

-- one of the sides has
abbrev pub has_value : Forests → Sides → Tree → Bool
has_value g sides x = side_has g sides.base x || (side_has g sides.ours x || (side_has g sides.theirs x || side_has g sides.merge x))

-- a node of the list is this key
abbrev pub Stands : Forests → List NodeId → Tree → Type 0
Stands g keys x = (k : ℕ) × (key : NodeId) × (slice_get keys k ≡ Some key) × Same (tree_of g key) x

-- each key of the sides stands in the list
abbrev pub Covers : Forests → Sides → List NodeId → Type 0
Covers g sides keys = (x : Tree) → has_value g sides x ≡ true → Stands g keys x

abbrev pub HasSide : Forests → Option NodeId → List NodeId → Type 0
HasSide g side keys = (x : Tree) → side_has g side x ≡ true → Stands g keys x

-- the keys of the first so many entries
abbrev pub HasKeysBelow : Forests → ℕ → List (NodeId × NodeId) → List NodeId → Type 0
HasKeysBelow g n entries keys = (k : ℕ) (p : NodeId × NodeId) → k < n → slice_get entries k ≡ Some p → Stands g keys (tree_of g p.0)

-- the keys of all
abbrev pub HasKeys : Forests → List (NodeId × NodeId) → List NodeId → Type 0
HasKeys g entries keys = HasKeysBelow g (length entries) entries keys

abbrev pub KeysWithin : Forests → List (NodeId × NodeId) → Type 0
KeysWithin g entries = (k : ℕ) (p : NodeId × NodeId) → slice_get entries k ≡ Some p → p.0.0 < count g

-- what stood still stands, and the keys are nodes
pub record Adds (g : Forests) (old new : List NodeId) : Type 0 where
  pub kept : (x : Tree) → Stands g old x → Stands g new x
  pub within : AllWithin g new
