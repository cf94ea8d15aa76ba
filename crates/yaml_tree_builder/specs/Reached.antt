-- What events come to where nothing is refused.
use Rattle.std.specs.Prelude.{◌≡◌, ℕ, List, [], ◌∷◌, ◌++◌, length, Ok, Some}
use Rattle.yaml_definitions.specs.model.Tree.{Tree}
use Rattle.yaml_definitions.specs.model.Event.{Event}
use Rattle.yaml_definitions.specs.model.Serial.{Document, stream_events}
use Rattle.yaml_definitions.specs.model.Unfold.{trees_of}
use Rattle.yaml_tree.specs.Closing.{stream_trees}
use Rattle.yaml_tree.specs.TreeLists.{AreLow}
use Rattle.yaml_tree.specs.ComposerSteps.{State, initial_state, steps}
use Rattle.yaml_tree_builder.specs.declared.size.StreamSize.{StreamSize}

-- From this state the events come to that one, and nothing is refused. The events' numbers tell nothing then.
abbrev pub Reaches : List Event → State → State → Type 0
Reaches es s t = steps 0 es s ≡ Some (Ok t)

abbrev pub StreamIsForest : Type 0
StreamIsForest = (ds : List Document) (t : State) → Reaches (stream_events ds) initial_state t → trees_of ds ≡ Ok t.inner

-- the nodes that closed are those of the documents
abbrev pub StreamCloses : Type 0
StreamCloses = (ds : List Document) (t : State) → Reaches (stream_events ds) initial_state t → t.done ≡ stream_trees ds t.inner

-- The documents unfold to so many trees, none of which is too high, and have so many nodes.
pub record UnfoldTo (ds : List Document) (size : StreamSize) : Type 0 where
  pub trees_are : List Tree
  pub unfolded : trees_of ds ≡ Ok trees_are
  pub low : AreLow trees_are
  pub documents : size.documents ≡ length trees_are
  pub nodes : size.nodes ≡ length (stream_trees ds trees_are)

-- The documents of two streams unfold to these trees, those of the first stream before those of the second, and their nodes to those, as they close.
pub record UnfoldBoth (ds es : List Document) (ts closed : List Tree) : Type 0 where
  pub lefts : List Tree
  pub rights : List Tree
  pub first : trees_of ds ≡ Ok lefts
  pub second : trees_of es ≡ Ok rights
  pub is : ts ≡ lefts ++ rights
  pub nodes : closed ≡ stream_trees ds lefts ++ stream_trees es rights

abbrev pub TwoStreamsAreForests : Type 0
TwoStreamsAreForests = (ds es : List Document) (t : State) → Reaches (stream_events ds ++ stream_events es) initial_state t → UnfoldBoth ds es t.inner t.done

-- the documents of each stream unfold to trees
abbrev pub AllUnfold : List (List Document) → List (List Tree) → Type 0
AllUnfold [] [] = Unit {0}
AllUnfold (ds ∷ dss) (ts ∷ tss) = (trees_of ds ≡ Ok ts) × AllUnfold dss tss
AllUnfold _ _ = ⊥

-- the trees of all streams, those of one before those of the next
abbrev pub all_trees : List (List Tree) → List Tree
all_trees [] = []
all_trees (ts ∷ tss) = ts ++ all_trees tss

-- the same of their nodes as they close
abbrev pub all_closed : List (List Document) → List (List Tree) → List Tree
all_closed (ds ∷ dss) (ts ∷ tss) = stream_trees ds ts ++ all_closed dss tss
all_closed _ _ = []

-- the events of all streams
abbrev pub all_events : List (List Document) → List Event
all_events [] = []
all_events (ds ∷ dss) = stream_events ds ++ all_events dss

-- The documents of these streams unfold to trees, so many in all.
pub record HaveDocuments (dss : List (List Document)) (count : ℕ) : Type 0 where
  pub forests : List (List Tree)
  pub unfolded : AllUnfold dss forests
  pub count_is : count ≡ length (all_trees forests)

-- The documents of these streams unfold to these trees, and their nodes to those, as they close.
pub record UnfoldAll (dss : List (List Document)) (ts closed : List Tree) : Type 0 where
  pub forests : List (List Tree)
  pub unfolded : AllUnfold dss forests
  pub is : ts ≡ all_trees forests
  pub nodes : closed ≡ all_closed dss forests

abbrev pub StreamsAreForests : Type 0
StreamsAreForests = (dss : List (List Document)) (t : State) → Reaches (all_events dss) initial_state t → UnfoldAll dss t.inner t.done
