-- Bytes that are a text, and no stream.
use Rattle.std.specs.Prelude.{ℕ, List}
use Rattle.yaml_definitions.specs.model.Event.{Event}
use Rattle.yaml_definitions.specs.model.Text.{Text}
use Rattle.yaml_definitions.specs.grammar.Reading.{Reads}

-- the bytes are a text
abbrev pub IsText : List ℕ → Type 0
IsText bytes = (cs : List ℕ) × Text bytes cs

-- The bytes are a text, and no list of events is a reading of it by the productions.
pub record IsNoStream (bytes : List ℕ) : Type 0 where
  pub text : IsText bytes
  pub unread : (es : List Event) → Reads bytes es → ⊥
