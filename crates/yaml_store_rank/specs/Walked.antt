-- The trees of ranks.
use Rattle.std.specs.Prelude.{◌≡◌, ℕ, zero, suc, ◌<◌, List, [], ◌∷◌, length, map, slice_index}
use Rattle.std.specs.List.{All, position_or_len}
use Rattle.yaml_definitions.specs.model.Tree.{Tree}
use Rattle.yaml_definitions.specs.model.Order.{arranged}
use Rattle.yaml_definitions.specs.model.Same.{same}
use Rattle.yaml_tree.specs.TreeLists.{tree_at}
use Rattle.yaml_tree.specs.Insides.{Held, trees_held}
use Rattle.yaml_store.specs.declared.store.Store.{Store}
use Rattle.yaml_store_rank.specs.declared.ranking.Ranked.{Ranked}
use Rattle.yaml_store.specs.StoreGrows.{Good}
use Rattle.yaml_store.specs.StoreView.{tree_of}
use Rattle.yaml_store_rank.specs.StoreRanks.{StoreRanked}
use Rattle.yaml_store_rank.specs.RanksView.{rank_tag, rank_inside}

-- the ranks are those of a store
abbrev pub StandsFor : Ranked → Type 0
StandsFor c = (s : Store) × (good : Good s) × StoreRanked s good c

-- so many numbers from this one on
abbrev pub count_from : ℕ → ℕ → List ℕ
count_from k zero = []
count_from k (suc n) = k ∷ count_from (suc k) n

abbrev pub rank_held : Ranked → ℕ → Held
rank_held c r = (rank_tag c r, rank_inside c r)

-- each rank's tree, in order
abbrev pub walked_trees : Ranked → List Tree
walked_trees c = trees_held (map (rank_held c) (count_from 0 (length c.first.items)))

abbrev pub walked_tree : Ranked → ℕ → Tree
walked_tree c r = tree_at (walked_trees c) r

abbrev pub walked_rank : Ranked → Tree → ℕ
walked_rank c t = position_or_len (same t) (walked_trees c)

-- the rank of each node
abbrev pub ranks_of : Ranked → List ℕ
ranks_of c = c.ranks.items

-- In place of nodes of a store stand ranks, whose trees are those of the nodes, arranged.
pub record RanksTaken (c : Ranked) (nodes ranks : List ℕ) : Type 0 where
  pub are : ranks ≡ map (slice_index (ranks_of c)) nodes
  pub within : (s : Store) (good : Good s) → StoreRanked s good c → All (λ r. r < length c.first.items) ranks
  pub trees : (s : Store) (good : Good s) → StoreRanked s good c → map (walked_tree c) ranks ≡ map (λ i. arranged (tree_of s i)) nodes
