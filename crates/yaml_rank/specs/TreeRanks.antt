-- The ranks of a graph's trees.
use Rattle.std.specs.Prelude.{ℕ, map}
use Rattle.std.specs.List.{position_or_len}
use Rattle.yaml_definitions.specs.model.Tree.{Tree}
use Rattle.yaml_definitions.specs.model.Order.{arranged}
use Rattle.yaml_definitions.specs.model.Same.{same}
use Rattle.yaml_graph.specs.GraphView.{graph_trees}
use Rattle.yaml_graph.specs.declared.graph.Graph.{Graph}
use Rattle.yaml_rank.specs.RanksView.{rank_of}
use Rattle.yaml_rank.specs.declared.ranks.Ranks.{Ranks}

-- the rank of the first node whose tree, arranged, is this one
unfoldable pub rank_in : Graph → Ranks → Tree → ℕ
rank_in g r t = rank_of r (position_or_len (same t) (map arranged (graph_trees g)))
