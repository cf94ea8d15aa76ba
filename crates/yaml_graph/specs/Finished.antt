-- What the composer gives once every event is taken.
use Rattle.std.specs.Prelude.{◌≡◌, List}
use Rattle.yaml_definitions.specs.model.Tree.{Tree}
use Rattle.yaml_text.specs.declared.fault.Fault.{Fault}
use Rattle.yaml_text.specs.declared.fault.Fault.TheVariants.{TooHigh}
use Rattle.yaml_tree.specs.TreeLists.{AreLow, IsFirstTooHigh}
use Rattle.yaml_tree.specs.ComposerSteps.{State}
use Rattle.yaml_graph.specs.GraphView as graph
use Rattle.yaml_graph.specs.declared.graph.Graph.{Graph}

-- the graph has the state's roots, none of which is too high, and its nodes in order
pub record Finishes (s : State) (g : Graph) : Type 0 where
  pub low : AreLow s.inner
  pub roots : graph.forest g ≡ s.inner
  pub nodes : graph.graph_trees g ≡ s.done

-- a tree of these is too high
abbrev pub RefusesHeight : List Tree → Fault → Type 0
RefusesHeight trees (TooHigh number) = IsFirstTooHigh trees number
RefusesHeight trees _ = ⊥
