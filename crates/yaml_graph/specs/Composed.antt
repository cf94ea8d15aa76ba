-- What the composer takes and answers.
use Rattle.std.specs.Prelude.{◌≡◌, List, map, Ok}
use Rattle.yaml_definitions.specs.model.Tree.{Tree}
use Rattle.yaml_definitions.specs.model.Serial.{Document, stream_events}
use Rattle.yaml_definitions.specs.model.Unfold.{trees_of}
use Rattle.yaml_text.specs.EventModel.{event_of}
use Rattle.yaml_text.specs.declared.event.Event as code
use Rattle.yaml_tree.specs.TreeLists.{AreLow}
use Rattle.yaml_tree.specs.Closing.{stream_trees}
use Rattle.yaml_graph.specs.GraphView as graph
use Rattle.yaml_graph.specs.declared.graph.Graph.{Graph}

-- the events are those of some documents
pub record Composable (events : List code.Event) : Type 0 where
  pub documents : List Document
  pub cut : map event_of events ≡ stream_events documents

-- The documents unfold to these trees, for which the graph's roots stand; and its nodes, in order, stand for the trees of the documents' own nodes in the order in which they close.
pub record Composed (ds : List Document) (g : Graph) : Type 0 where
  pub trees : List Tree
  pub unfolded : trees_of ds ≡ Ok trees
  pub low : AreLow trees
  pub roots : graph.forest g ≡ trees
  pub nodes : graph.graph_trees g ≡ stream_trees ds trees
