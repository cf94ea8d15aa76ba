-- The laws of merges.
use Rattle.std.specs.Prelude.{◌≡◌, ◌≢◌, ◌⊎◌, ◌↔◌, ℕ, Bool, true, false, ◌==◌, Option, Some}
use Rattle.yaml_definitions.specs.model.Tree.{Tree, Trees, sequence}
use Rattle.yaml_definitions.specs.model.Same.{Same, Keyed, same_trees, keyed_trees}
use Rattle.yaml_path.specs.Path.{Path, item_in, reach, see}
use Rattle.yaml_path.specs.Ways.{count_in}
use Rattle.yaml_conflicts.specs.Merge.{alike, Conflicts, IsMerge, ShowsAt, IsKeyed}
use Rattle.yaml_conflicts.specs.MergedStreams.{are_paired, StreamConflicts, IsStreamMerge}

-- A merge exists exactly if there is no conflict.
abbrev pub MergeExists : Type 0
MergeExists = (b o t : Option Tree) → IsKeyed b → IsKeyed o → IsKeyed t → ((m : Option Tree) × IsKeyed m × IsMerge b o t m) ↔ ((p : Path) → Conflicts p b o t → ⊥)

-- At each path a merge shows what ours shows where theirs is as the base, what theirs shows where ours is, and what both show where they show the same. No path is left out.
abbrev pub MergeIsShown : Type 0
MergeIsShown = (b o t m : Option Tree) → IsKeyed b → IsKeyed o → IsKeyed t → IsKeyed m → IsMerge b o t m → (p : Path) → ShowsAt p b o t m

-- each change of ours is shown, and what neither side changed is as it was; by `MergeEitherWay` so is each change of theirs
abbrev pub MergeKeepsChanges : Type 0
MergeKeepsChanges = (b o t m : Option Tree) → IsKeyed b → IsKeyed o → IsKeyed t → IsKeyed m → IsMerge b o t m → (p : Path) → (see o p ≢ see b p → see m p ≡ see o p) × (see o p ≡ see b p → see t p ≡ see b p → see m p ≡ see b p)

-- the merge has what one of the sides has
abbrev pub IsOfSide : (o t m : Option Tree) → Type 0
IsOfSide o t m = (alike m o ≡ true) ⊎ (alike m t ≡ true)

abbrev pub is_sequence : Option Tree → Bool
is_sequence (Some (sequence a ts)) = true
is_sequence _ = false

-- A sequence in a merge is, whole, the one that ours or theirs has at its path: no item of one side gets a change of another.
abbrev pub SequencesAreWhole : Type 0
SequencesAreWhole = (b o t m : Option Tree) → IsKeyed b → IsKeyed o → IsKeyed t → IsKeyed m → IsMerge b o t m → (p : Path) → is_sequence (reach m p) ≡ true → IsOfSide (reach o p) (reach t p) (reach m p)

-- two merges of the same three are the same tree
abbrev pub MergeIsOne : Type 0
MergeIsOne = (b o t : Option Tree) (m n : Tree) → IsKeyed b → IsKeyed o → IsKeyed t → Keyed m → Keyed n → IsMerge b o t (Some m) → IsMerge b o t (Some n) → Same m n

-- it is all the same which side is called ours
abbrev pub MergeEitherWay : Type 0
MergeEitherWay = (b o t m : Option Tree) → IsMerge b o t m → IsMerge b t o m

-- a side that did not change gives way, and two that changed alike are one
abbrev pub MergeOfOne : Type 0
MergeOfOne = (b o : Option Tree) → IsMerge b b o o × IsMerge b o b o × IsMerge b o o o

-- ---- streams

-- the same of streams
abbrev pub StreamMergeExists : Type 0
StreamMergeExists =
    (b o t : Trees) → keyed_trees b ≡ true → keyed_trees o ≡ true → keyed_trees t ≡ true → ((m : Trees) × (keyed_trees m ≡ true) × IsStreamMerge b o t m) ↔ ((p : Path) → StreamConflicts p b o t → ⊥)

abbrev pub StreamMergeIsOne : Type 0
StreamMergeIsOne = (b o t m n : Trees) → keyed_trees b ≡ true → keyed_trees o ≡ true → keyed_trees t ≡ true → keyed_trees m ≡ true → keyed_trees n ≡ true → IsStreamMerge b o t m → IsStreamMerge b o t n → same_trees m n ≡ true

abbrev pub StreamMergeEitherWay : Type 0
StreamMergeEitherWay = (b o t m : Trees) → IsStreamMerge b o t m → IsStreamMerge b t o m

abbrev pub StreamMergeOfOne : Type 0
StreamMergeOfOne = (b o : Trees) → IsStreamMerge b b o o × IsStreamMerge b o b o × IsStreamMerge b o o o

-- Each document is the merge of those at its place. Of several documents each is, whole, that of ours or of theirs.
abbrev pub DocumentsAreMerged : Type 0
DocumentsAreMerged = (b o t m : Trees) → are_paired b o t m ≡ true → IsStreamMerge b o t m → (k : ℕ) → IsMerge (item_in b k) (item_in o k) (item_in t k) (item_in m k) × ((count_in b == 1) ≡ false → IsOfSide (item_in o k) (item_in t k) (item_in m k))
