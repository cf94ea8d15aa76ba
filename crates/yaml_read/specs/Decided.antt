-- What a reader of a whole text decides (YAML 1.2.2, chapter 9).
use Rattle.std.specs.Prelude.{◌≡◌, ℕ, List}
use Rattle.yaml_definitions.specs.model.Limits.{open_limit}
use Rattle.yaml_definitions.specs.model.Event.{Event}
use Rattle.yaml_definitions.specs.grammar.Streams.{ReadsText}
use Rattle.yaml_definitions.specs.grammar.Nodes.{wide}
use Rattle.yaml_sink.specs.Held.{Puts}

module _ (cs : List ℕ) where
  -- no other list of events is a reading of the whole text
  abbrev pub IsAlone : List Event → Type 0
  IsAlone es = (fs : List Event) → ReadsText cs wide open_limit fs → fs ≡ es

  -- none is
  abbrev pub HasNoReading : Type 0
  HasNoReading = (es : List Event) → ReadsText cs wide open_limit es → ⊥

  -- the events of a reading of the whole text were put down, and no other list is one
  abbrev pub PutsReading : {S : Type 0} → (S → List Event → Type 0) → S → S → Type 0
  PutsReading holds before after = (es : List Event) × Puts holds before es after × ReadsText cs wide open_limit es × IsAlone es
