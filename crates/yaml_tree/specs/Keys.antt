-- Equal keys of a mapping, by its tree alone.
use Rattle.std.specs.Prelude.{◌≡◌, ◌<◌, ℕ, List, [], ◌∷◌, Some}
use Rattle.std.specs.List.{slice_get}
use Rattle.yaml_definitions.specs.model.Tree.{Tree, Trees, Pairs, sequence, mapping, end, item, done, entry}
use Rattle.yaml_definitions.specs.model.Same.{Same}

-- the items of a sequence, as a list
abbrev pub listed : Trees → List Tree
listed end = []
listed (item t ts) = t ∷ listed ts

-- the pairs of a mapping, as a list
abbrev pub pairs_listed : Pairs → List (Tree × Tree)
pairs_listed done = []
pairs_listed (entry k v ps) = (k, v) ∷ pairs_listed ps

-- the items of a sequence, and none of another tree
abbrev pub items_of : Tree → List Tree
items_of (sequence g ts) = listed ts
items_of _ = []

-- the pairs of a mapping, and none of another tree
abbrev pub pairs_of : Tree → List (Tree × Tree)
pairs_of (mapping g ps) = pairs_listed ps
pairs_of _ = []

-- the keys of these two entries are equal
pub record TreeRepeats (t : Tree) (first second : ℕ) : Type 0 where
  pub in_order : first < second
  pub earlier : Tree × Tree
  pub later : Tree × Tree
  pub earlier_is : slice_get (pairs_of t) first ≡ Some earlier
  pub later_is : slice_get (pairs_of t) second ≡ Some later
  pub equal : Same earlier.0 later.0
