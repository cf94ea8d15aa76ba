-- What is found of streams.
use Rattle.std.specs.Prelude.{◌≡◌, ℕ, Bool, false, true, List, [], map}
use Rattle.std.specs.List.{slice_get}
use Rattle.yaml_definitions.specs.model.Tree.{Trees}
use Rattle.yaml_tree.specs.TreeLists.{trees}
use Rattle.yaml_tree.specs.declared.node.NodeId.{NodeId}
use Rattle.yaml_store_rank.specs.Forests.{Forests}
use Rattle.yaml_diff.specs.Lines.{tree_of, trees_of}
use Rattle.yaml_diff.specs.Found.{AllWithin}
use Rattle.yaml_conflicts.specs.MergedStreams.{stream, DocumentBreaks, StreamBreaks}
use Rattle.yaml_conflicts.specs.declared.sides.Sides.{Sides}
use Rattle.yaml_conflicts.specs.declared.sides.Found.{Found}
use Rattle.yaml_conflicts.specs.declared.streams.Roots.{Roots}
use Rattle.yaml_conflicts.specs.declared.streams.Outcome.{Outcome}
use Rattle.yaml_conflicts.specs.declared.streams.Outcome.TheVariants.{Documents, Streams}
use Rattle.yaml_conflicts.specs.Rooms.{is_spent}
use Rattle.yaml_conflicts.specs.Found.{Lists, lines_of}

-- the documents with these roots
abbrev pub documents : Forests → List NodeId → Trees
documents g roots = trees (map (tree_of g) roots)

-- the roots are nodes of these forests
pub record RootsWithin (g : Forests) (r : Roots) : Type 0 where
  pub base : AllWithin g r.base.now
  pub ours : AllWithin g r.ours.now
  pub theirs : AllWithin g r.theirs.now
  pub merge : AllWithin g r.merge.now

-- the documents at this place, if there are so many
pub record DocumentsAre (r : Roots) (place : ℕ) (s : Sides) : Type 0 where
  pub base : s.base ≡ slice_get r.base.now place
  pub ours : s.ours ≡ slice_get r.ours.now place
  pub theirs : s.theirs ≡ slice_get r.theirs.now place
  pub merge : s.merge ≡ slice_get r.merge.now place

-- what is found of the documents at one place
abbrev pub FindsDocument : Forests → (given is_alone : Bool) → Sides → Found → Type 0
FindsDocument g given is_alone s f =
    let b = trees_of g s.base in
    let o = trees_of g s.ours in
    let t = trees_of g s.theirs in
    let m = trees_of g s.merge in
    Lists g (λ p. DocumentBreaks given is_alone p b o t m) b o t m (lines_of f) f.whole

-- The paths of `StreamBreaks`, and where not all are found, the room is spent.
module _ (g : Forests) (given : Bool) (b o t m : Trees) where
  pub record FindsDocuments (f : Found) : Type 0 where
    pub lists : Lists g (λ p. StreamBreaks given p b o t m) (stream b) (stream o) (stream t) (stream m) (lines_of f) f.whole
    pub cut : f.whole ≡ false → is_spent f.room ≡ true

  -- the same, or the path without a step is the only one
  abbrev pub FindsOutcome : Outcome → Type 0
  FindsOutcome (Documents f) = FindsDocuments f
  FindsOutcome Streams = StreamBreaks given [] b o t m

abbrev pub FindsStreams : Forests → Bool → Roots → Outcome → Type 0
FindsStreams g given r outcome = FindsOutcome g given (documents g r.base.now) (documents g r.ours.now) (documents g r.theirs.now) (documents g r.merge.now) outcome
