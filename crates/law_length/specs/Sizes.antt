-- How long a canonical text is, by the events that stand for its trees.
use Rattle.std.specs.Prelude.{◌≡◌, ◌≤◌, ℕ, ◌+◌, ◌*◌, List, [], ◌∷◌, length, Ok}
use Rattle.yaml_definitions.specs.model.Tree.{Tree}
use Rattle.yaml_definitions.specs.model.Event.{Event, scalar_event}
use Rattle.yaml_definitions.specs.model.Serial.{Document, stream_events}
use Rattle.yaml_definitions.specs.model.Unfold.{trees_of}
use Rattle.yaml_definitions.specs.canonical.Spell.{spell_bytes}
use Rattle.yaml_definitions.specs.model.Proper.{Admitted}
use Rattle.yaml_definitions.specs.model.Means.{Means}

-- the bytes of a scalar's text
abbrev pub text_bytes : Event → ℕ
text_bytes (scalar_event a g y x) = length x
text_bytes _ = 0

-- and of all scalars' texts
unfoldable pub texts_bytes : List Event → ℕ
texts_bytes [] = 0
texts_bytes (e ∷ es) = text_bytes e + texts_bytes es

-- Each byte of the source's texts gives 4 bytes at most, and each event 4,096 more.
abbrev pub CanonicalIsBounded : Type 0
CanonicalIsBounded = (ds : List Document) (f : List Tree) → trees_of ds ≡ Ok f → Admitted f
    → length (spell_bytes f) ≤ 4 * texts_bytes (stream_events ds) + 4096 * length (stream_events ds)

-- So is what bytes mean, by the events of any of their readings.
abbrev pub MeaningIsBounded : Type 0
MeaningIsBounded = (bytes : List ℕ) (f : List Tree) (m : Means bytes f) → Admitted f
    → length (spell_bytes f) ≤ 4 * texts_bytes m.events + 4096 * length m.events
