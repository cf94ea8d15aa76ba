-- What is found of streams that are merged.
use Rattle.std.specs.Prelude.{◌≡◌, ◌==◌, ℕ, Bool, true, false, cond, List, map, length, Option, Some, None}
use Rattle.yaml_definitions.specs.model.Tree.{Tree, Trees}
use Rattle.yaml_tree.specs.TreeLists.{trees}
use Rattle.yaml_store_rank.specs.Forests.{Forests, tree, documents_of}
use Rattle.yaml_store_rank.specs.KeyOrder.{numbers}
use Rattle.yaml_path.specs.Path.{Path}
use Rattle.yaml_conflicts.specs.MergedStreams.{StreamBreaks}
use Rattle.yaml_conflicts.specs.declared.streams.Roots.{Roots}
use Rattle.yaml_conflicts.specs.declared.streams.Outcome.{Outcome}
use Rattle.yaml_conflicts.specs.declared.streams.Outcome.TheVariants.{Documents, Streams}

abbrev pub found_verdict : {X : Type 0} → List X → Bool → Option Bool
found_verdict list whole = cond (length list == 0) (cond whole (Some true) None) (Some false)

-- whether nothing is found: one place suffices, and that there is none is known if all were looked at
abbrev pub verdict : Outcome → Option Bool
verdict Streams = Some false
verdict (Documents f) = found_verdict f.list.items f.whole

-- the stream that stands in the place of the result: the base, if there is none
abbrev pub merge_stream : Bool → ℕ
merge_stream given = cond given 3 0

-- the trees of a stream's documents
abbrev pub stream_trees : Forests → ℕ → List Tree
stream_trees f k = map (tree f) (documents_of f k)

-- no path is one of `StreamBreaks`, or one is
abbrev pub Decides : Bool → (b o t m : Trees) → Option Bool → Type 0
Decides given b o t m (Some true) = (p : Path) → StreamBreaks given p b o t m → ⊥
Decides given b o t m (Some false) = (p : Path) × StreamBreaks given p b o t m
Decides given b o t m None = Unit {0}

abbrev pub Judges : Bool → (b o t m : List Tree) → Option Bool → Type 0
Judges given b o t m v = Decides given (trees b) (trees o) (trees t) (trees (cond given m b)) v

-- the roots of the base, of ours, of theirs and of the result
pub record RootsAre (f : Forests) (given : Bool) (r : Roots) : Type 0 where
  pub base : numbers r.base.now ≡ documents_of f 0
  pub ours : numbers r.ours.now ≡ documents_of f 1
  pub theirs : numbers r.theirs.now ≡ documents_of f 2
  pub merge : numbers r.merge.now ≡ documents_of f (merge_stream given)
