-- The ranks of the trees of ranked forests.
use Rattle.std.specs.Prelude.{ℕ}
use Rattle.std.specs.List.{position_or_len}
use Rattle.yaml_definitions.specs.model.Tree.{Tree}
use Rattle.yaml_definitions.specs.model.Same.{same}
use Rattle.yaml_tree.specs.Insides.{trees_held}
use Rattle.yaml_store_rank.specs.Forests.{Forests, rank}

-- the rank of the first node whose tree is the same as this one
unfoldable pub rank_in : Forests → Tree → ℕ
rank_in f t = rank f (position_or_len (same t) (trees_held f.nodes))
