-- The trees that a stream stands for.
use Rattle.std.specs.Prelude.{◌≡◌, ℕ, List, Ok}
use Rattle.yaml_definitions.specs.model.Tree.{Tree}
use Rattle.yaml_definitions.specs.model.Event.{Event}
use Rattle.yaml_definitions.specs.model.Serial.{Document, stream_events}
use Rattle.yaml_definitions.specs.model.Unfold.{trees_of}
use Rattle.yaml_definitions.specs.grammar.Reading.{Reads}
use Rattle.yaml_definitions.specs.canonical.Spell.{spell_bytes}
use Rattle.yaml_definitions.specs.model.Proper.{Admitted}
use Rattle.yaml_definitions.specs.model.Same.{Alike}

-- events are those of documents whose unfolded trees are these
pub record StandsFor (events : List Event) (f : List Tree) : Type 0 where
  pub documents : List Document
  pub cut : events ≡ stream_events documents
  pub unfolded : trees_of documents ≡ Ok f

-- a reading of the bytes by the productions gives events that stand for these trees
pub record Means (bytes : List ℕ) (f : List Tree) : Type 0 where
  pub events : List Event
  pub reads : Reads bytes events
  pub stands : StandsFor events f

-- The events stand for an admitted forest that is the same as f, tree by tree, and has its text.
pub record Understood (events : List Event) (f : List Tree) : Type 0 where
  pub forest : List Tree
  pub stands : StandsFor events forest
  pub admitted : Admitted forest
  pub alike : Alike forest f
  pub text : spell_bytes forest ≡ spell_bytes f
