-- Trees of ranked forests, arranged.
use Rattle.std.specs.Prelude.{◌≡◌, ℕ, List, map, Some}
use Rattle.std.specs.List.{slice_get}
use Rattle.yaml_definitions.specs.model.Tree.{Tree, mapping}
use Rattle.yaml_definitions.specs.model.Order.{arranged}
use Rattle.yaml_tree.specs.TreeLists.{pairs}
use Rattle.yaml_tree.specs.View.{entries}
use Rattle.yaml_store_rank.specs.Forests.{Forests, tree, rank, InKeyOrder, IsRanked}

-- the trees of a key and its value, arranged
abbrev pub two_arranged : Forests → ℕ × ℕ → Tree × Tree
two_arranged f p = (arranged (tree f p.0), arranged (tree f p.1))

-- The tree of a mapping, arranged, has its entries in the order of their keys.
abbrev pub MappingsAreArranged : Type 0
MappingsAreArranged = (f : Forests) → IsRanked f → (i : ℕ) (tag : List ℕ) (es sorted : List (ℕ × ℕ)) → slice_get f.nodes i ≡ Some (tag, entries es) → InKeyOrder (rank f) es sorted → arranged (tree f i) ≡ mapping tag (pairs (map (two_arranged f) sorted))
