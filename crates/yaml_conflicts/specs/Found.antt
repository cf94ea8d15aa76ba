-- Places of nodes, as they are listed.
use Rattle.std.specs.Prelude.{◌≡◌, ℕ, ◌<◌, Bool, true, false, List, [], ◌∷◌, ◌++◌, map, reverse, Option, Some, None}
use Rattle.std.specs.List.{slice_get}
use Rattle.yaml_definitions.specs.model.Tree.{Tree}
use Rattle.yaml_tree.specs.declared.node.NodeId.{NodeId}
use Rattle.yaml_tree.specs.View.{Inside, entries}
use Rattle.yaml_store_rank.specs.Forests.{Forests}
use Rattle.yaml_path.specs.Path.{Step, Path, AlikePath, at_item, at_key, reach, part_of}
use Rattle.yaml_diff.specs.Lines.{tree_of, trees_of}
use Rattle.yaml_diff.specs.Found.{Within}
use Rattle.yaml_conflicts.specs.Merge.{Breaks}
use Rattle.yaml_conflicts.specs.declared.sides.Step as code
use Rattle.yaml_conflicts.specs.declared.sides.Step.TheVariants.{Document, Value}
use Rattle.yaml_conflicts.specs.declared.sides.Sides.{Sides}
use Rattle.yaml_conflicts.specs.declared.sides.Conflict.{Conflict}
use Rattle.yaml_conflicts.specs.declared.sides.Room.{Room}
use Rattle.yaml_conflicts.specs.declared.sides.Found.{Found}
use Rattle.yaml_conflicts.specs.Rooms.{is_spent}

-- ---- steps and nodes

abbrev pub plain_of : Forests → code.Step → Step
plain_of g (Document place) = at_item place
plain_of g (Value key) = at_key (tree_of g key)

-- the node, if there is one, stands below the other, and so is a smaller tree
abbrev pub IsBelow : Option NodeId → Option NodeId → Type 0
IsBelow None other = Unit {0}
IsBelow (Some i) None = ⊥
IsBelow (Some i) (Some j) = i.0 < j.0

abbrev pub is_mapping : Inside → Bool
is_mapping (entries es) = true
is_mapping _ = false

-- ---- sides

-- all are nodes of these forests
pub record SidesWithin (g : Forests) (s : Sides) : Type 0 where
  pub base : Within g s.base
  pub ours : Within g s.ours
  pub theirs : Within g s.theirs
  pub merge : Within g s.merge

-- the nodes of `values` are the values of the key in those of `s`
pub record ValuesAre (g : Forests) (key : Tree) (s values : Sides) : Type 0 where
  pub base : trees_of g values.base ≡ part_of (trees_of g s.base) (at_key key)
  pub ours : trees_of g values.ours ≡ part_of (trees_of g s.ours) (at_key key)
  pub theirs : trees_of g values.theirs ≡ part_of (trees_of g s.theirs) (at_key key)
  pub merge : trees_of g values.merge ≡ part_of (trees_of g s.merge) (at_key key)

pub record SidesBelow (parts s : Sides) : Type 0 where
  pub base : IsBelow parts.base s.base
  pub ours : IsBelow parts.ours s.ours
  pub theirs : IsBelow parts.theirs s.theirs
  pub merge : IsBelow parts.merge s.merge

-- ---- lines

-- Steps, the last one first, and what stands behind them on each side.
abbrev pub Line : Type 0
Line = List code.Step × Sides

abbrev pub line_of : Conflict → Line
line_of c = (c.path.items, c.sides)

abbrev pub lines_of : Found → List Line
lines_of f = map line_of f.list.items

abbrev pub path_of : Forests → List code.Step → Path
path_of g steps = reverse (map (plain_of g) steps)

-- the same line of the trees above, from which this step leads here
abbrev pub under : code.Step → Line → Line
under s d = (d.0 ++ (s ∷ []), d.1)

-- a line has this path
abbrev pub Listed : Forests → Path → List Line → Type 0
Listed g p lines = (k : ℕ) × (d : Line) × (slice_get lines k ≡ Some d) × AlikePath (path_of g d.0) p

-- the paths that are looked for in four trees
module _ (g : Forests) (IsOne : Path → Type 0) (b o t m : Option Tree) where
  -- The line's path is one of them, and leads to these nodes' trees, or to none.
  pub record IsTold (d : Line) : Type 0 where
    pub is : IsOne (path_of g d.0)
    pub base : reach b (path_of g d.0) ≡ trees_of g d.1.base
    pub ours : reach o (path_of g d.0) ≡ trees_of g d.1.ours
    pub theirs : reach t (path_of g d.0) ≡ trees_of g d.1.theirs
    pub merge : reach m (path_of g d.0) ≡ trees_of g d.1.merge

  -- Some of them, and all if they are told to be whole.
  pub record Lists (lines : List Line) (is_whole : Bool) : Type 0 where
    pub each : (k : ℕ) (d : Line) → slice_get lines k ≡ Some d → IsTold d
    pub whole : is_whole ≡ true → (p : Path) → IsOne p → Listed g p lines

-- what is found of the trees of these nodes
abbrev pub Finds : Forests → Bool → Sides → Found → Type 0
Finds g given s f =
    let b = trees_of g s.base in
    let o = trees_of g s.ours in
    let t = trees_of g s.theirs in
    let m = trees_of g s.merge in
    Lists g (λ p. Breaks given p b o t m) b o t m (lines_of f) f.whole

-- not all is found only where the room is spent; and what was spent stays so
pub record Spends (room : Room) (f : Found) : Type 0 where
  pub cut : f.whole ≡ false → is_spent f.room ≡ true
  pub stays : is_spent room ≡ true → is_spent f.room ≡ true
