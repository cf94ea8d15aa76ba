-- Lists of trees, and as the parts of a tree.
use Rattle.std.specs.Prelude.{List, [], ◌∷◌, ◌≡◌, ℕ, ◌<◌, ◌≤◌, Some, suc, min}
use Rattle.std.specs.List.{slice_get, slice_index_or, All}
use Rattle.yaml_definitions.specs.model.Tree.{Tree, Trees, Pairs, end, item, done, entry, scalar, height}
use Rattle.yaml_definitions.specs.model.Limits.{height_limit}

abbrev pub trees : List Tree → Trees
trees [] = end
trees (t ∷ ts) = item t (trees ts)

abbrev pub pairs : List (Tree × Tree) → Pairs
pairs [] = done
pairs (p ∷ ps) = entry p.0 p.1 (pairs ps)

-- the tree at this place
abbrev pub tree_at : List Tree → ℕ → Tree
tree_at ts i = slice_index_or ts i (scalar [] [])

-- the tree's height, cut just above the limit
abbrev pub cut : Tree → ℕ
cut t = min (height t) (suc height_limit)

-- no tree is higher than the limit
abbrev pub AreLow : List Tree → Type 0
AreLow f = All (λ t. height t ≤ height_limit) f

-- the tree at this place is the first that is higher than the limit
pub record IsFirstTooHigh (trees : List Tree) (number : ℕ) : Type 0 where
  pub tree : Tree
  pub is : slice_get trees number ≡ Some tree
  pub high : height_limit < height tree
  pub before : (k : ℕ) (t : Tree) → k < number → slice_get trees k ≡ Some t → height t ≤ height_limit
