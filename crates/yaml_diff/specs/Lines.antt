-- The differences of two trees of ranked forests as they are listed.
use Rattle.std.specs.Prelude.{◌≡◌, ℕ, ◌<◌, List, [], ◌∷◌, ◌++◌, map, reverse, Option, Some}
use Rattle.std.specs.Option.{option_map}
use Rattle.std.specs.List.{slice_get}
use Rattle.yaml_definitions.specs.model.Tree.{Tree, sequence}
use Rattle.yaml_tree.specs.TreeLists.{trees}
use Rattle.yaml_store_rank.specs.Forests.{Forests, tree}
use Rattle.yaml_tree.specs.declared.node.NodeId.{NodeId}
use Rattle.yaml_path.specs.Ways.{Way, Pairing, EndsAlong, Differs, AlikeWay, WayBefore, left_end, right_end, at_places, at_key}
use Rattle.yaml_path.specs.Ways as ways
use Rattle.yaml_diff.specs.declared.difference.Step as code
use Rattle.yaml_diff.specs.declared.difference.Step.TheVariants.{Item, Value}
use Rattle.yaml_diff.specs.declared.difference.Difference.{Difference}

abbrev pub tree_of : Forests → NodeId → Tree
tree_of g i = tree g i.0

abbrev pub trees_of : Forests → Option NodeId → Option Tree
trees_of g i = option_map (tree_of g) i

-- the sequence of this tag and these items, and so the documents of a stream
abbrev pub sequence_of : Forests → List ℕ → List NodeId → Option Tree
sequence_of g tag items = Some (sequence tag (trees (map (tree_of g) items)))

abbrev pub step_of : Forests → code.Step → ways.Step
step_of g (Item places) = at_places places
step_of g (Value key) = at_key (tree_of g key)

-- Steps, the last one first, and what stands behind them on either side.
abbrev pub Line : Type 0
Line = List code.Step × (Option NodeId × Option NodeId)

abbrev pub line_of : Difference → Line
line_of d = (d.path.items, (d.left, d.right))

abbrev pub way_of : Forests → List code.Step → Way
way_of g steps = reverse (map (step_of g) steps)

-- the same line of a tree above, from which this step leads here
abbrev pub under : code.Step → Line → Line
under s d = (d.0 ++ (s ∷ []), d.1)

-- The way is one at which the two differ first, and leads to these nodes' trees, or to none; equal ends of the sequences above are paired.
pub record IsTold (g : Forests) (P : Pairing) (t u : Option Tree) (d : Line) : Type 0 where
  pub differs : Differs P (way_of g d.0) t u
  pub left : left_end t (way_of g d.0) ≡ trees_of g d.1.0
  pub right : right_end u (way_of g d.0) ≡ trees_of g d.1.1
  pub ends : EndsAlong P (way_of g d.0) t u

-- a line has this way
abbrev pub Listed : Forests → Way → List Line → Type 0
Listed g q lines = (k : ℕ) × (d : Line) × (slice_get lines k ≡ Some d) × AlikeWay (way_of g d.0) q

-- no way stands in two lines
abbrev pub Apart : Forests → List Line → Type 0
Apart g lines = (j k : ℕ) (d e : Line) → slice_get lines j ≡ Some d → slice_get lines k ≡ Some e → AlikeWay (way_of g d.0) (way_of g e.0) → j ≡ k

-- the lines stand in order
abbrev pub Ordered : Forests → Pairing → Option Tree → Option Tree → List Line → Type 0
Ordered g P t u lines = (j k : ℕ) (d e : Line) → j < k → slice_get lines j ≡ Some d → slice_get lines k ≡ Some e → WayBefore P t u (way_of g d.0) (way_of g e.0)

-- the way begins with one of these steps
abbrev pub Begins : (ways.Step → Type 0) → Way → Type 0
Begins covers p = (s : ways.Step) × (q : Way) × (p ≡ s ∷ q) × covers s
