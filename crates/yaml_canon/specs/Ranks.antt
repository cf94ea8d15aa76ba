-- The ranks of the forest that bytes mean.
use Rattle.std.specs.Prelude.{◌≡◌, ◌↔◌, ℕ, ◌<◌, List, length, map, slice_index}
use Rattle.std.specs.List.{All}
use Rattle.yaml_definitions.specs.model.Tree.{Tree}
use Rattle.yaml_definitions.specs.model.Order.{arranged}
use Rattle.yaml_definitions.specs.model.Same.{Same, Keyed}
use Rattle.yaml_definitions.specs.model.Means.{Means}
use Rattle.yaml_tree.specs.TreeLists.{tree_at, AreLow}
use Rattle.yaml_spell.specs.RankedNodes.{Rooted}
use Rattle.yaml_store_rank.specs.Walked.{StandsFor, walked_tree}
use Rattle.yaml_canon.specs.declared.ranks.RankedForest.{RankedForest}

-- No mapping of these trees has two keys that are the same. The roots are ranks of nodes, and stand for the trees, arranged. Two of them are one rank exactly if their trees are the same.
pub record RanksOf (ts : List Tree) (f : RankedForest) : Type 0 where
  pub keyed : All Keyed ts
  pub rooted : Rooted StandsFor (λ c. length c.first.items) (λ r. r) f.ranked f.roots.items
  pub arranged : map (walked_tree f.ranked) f.roots.items ≡ map arranged ts
  pub tell : (i j : ℕ) → i < length ts → j < length ts → (slice_index f.roots.items i ≡ slice_index f.roots.items j) ↔ Same (tree_at ts i) (tree_at ts j)

-- The bytes mean these trees: none is too high, and no mapping has two keys that are the same. The roots are ranks of nodes, and stand for the trees, arranged.
pub record HasRanks (bytes : List ℕ) (f : RankedForest) : Type 0 where
  pub trees : List Tree
  pub means : Means bytes trees
  pub low : AreLow trees
  pub keyed : All Keyed trees
  pub rooted : Rooted StandsFor (λ c. length c.first.items) (λ r. r) f.ranked f.roots.items
  pub arranged : map (walked_tree f.ranked) f.roots.items ≡ map arranged trees
