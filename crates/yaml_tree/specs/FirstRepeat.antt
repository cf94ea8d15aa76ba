-- Which two equal keys of a mapping come first.
use Rattle.std.specs.Prelude.{◌≡◌, ◌⊎◌, ◌<◌, ◌≤◌, ℕ, List, Some}
use Rattle.std.specs.List.{slice_get}
use Rattle.yaml_definitions.specs.model.Tree.{Tree, height}
use Rattle.yaml_tree.specs.Keys.{TreeRepeats}

-- The tree of this number is the first mapping among these trees with two equal keys: none of less height has two, and none of its height and a lower number. These entries are its first two: the least second one, then the least first one.
pub record IsFirstRepeat (closed : List Tree) (node first second : ℕ) : Type 0 where
  pub tree : Tree
  pub is : slice_get closed node ≡ Some tree
  pub repeats : TreeRepeats tree first second
  pub earlier : (f s : ℕ) → TreeRepeats tree f s → (second < s) ⊎ ((second ≡ s) × (first ≤ f))
  pub least : (m f s : ℕ) (t : Tree) → slice_get closed m ≡ Some t → TreeRepeats t f s → (height tree < height t) ⊎ ((height tree ≡ height t) × (node ≤ m))
