-- The nodes of a graph by height.
use Rattle.std.specs.Prelude.{ℕ, length}
use Rattle.yaml_definitions.specs.model.Tree.{height}
use Rattle.yaml_tree.specs.Levels.{Levels, LevelsBy}
use Rattle.yaml_graph.specs.GraphView.{nodes_of, tree}
use Rattle.yaml_graph.specs.declared.graph.Graph.{Graph}

-- the first nodes of a graph
abbrev pub LevelsTo : Graph → ℕ → Levels → Type 0
LevelsTo g end levels = LevelsBy (λ i. height (tree g i)) end levels

abbrev pub LevelsAre : Graph → Levels → Type 0
LevelsAre g levels = LevelsTo g (length (nodes_of g)) levels
