-- Streams that are read one behind the other.
use Rattle.std.specs.Prelude.{◌≡◌, ℕ, List, map}
use Rattle.yaml_definitions.specs.model.Tree.{Tree}
use Rattle.yaml_definitions.specs.model.Event.{Event}
use Rattle.yaml_definitions.specs.model.Serial.{Document, stream_events}
use Rattle.yaml_tree_builder.specs.Reached.{AllUnfold, all_events}
use Rattle.yaml_canon.specs.Tee.{AllRead, ends_from}
use Rattle.yaml_canon.specs.declared.streams.Ends.{Ends}

-- The documents of each stream unfold to trees, and these are the ends.
pub record EndThere (dss : List (List Document)) (ends : List ℕ) : Type 0 where
  pub forests : List (List Tree)
  pub unfolded : AllUnfold dss forests
  pub ends_are : ends ≡ ends_from 0 forests

-- These bytes are read as documents, whose events are held; the trees of each stream end there.
pub record HoldsStreams {K : Type 0} (holds : K → List Event → Type 0) (sources : List (List ℕ)) (keeper : K) (ends : List ℕ) : Type 0 where
  pub documents : List (List Document)
  pub read : AllRead sources (map stream_events documents)
  pub held : holds keeper (all_events documents)
  pub ends_are : EndThere documents ends

-- And the events of each.
pub record Reached {K : Type 0} (holds : K → List Event → Type 0) (sources : List (List ℕ)) (keeper : K) (ends : Ends) : Type 0 where
  pub holds_are : HoldsStreams holds sources keeper ends.documents.items
  pub events : ends.events.items ≡ ends_from 0 (map stream_events holds_are.documents)
