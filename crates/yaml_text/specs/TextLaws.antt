-- Laws of texts.
use Rattle.std.specs.Prelude.{ℕ, List}
use Rattle.yaml_definitions.specs.model.Text.{Text}
use Rattle.yaml_text.specs.Refused.{RefusesText}
use Rattle.yaml_text.specs.declared.fault.Fault.{Fault}

-- Bytes that one of the three passes refuses are no text.
abbrev pub RefusedIsNoText : Type 0
RefusedIsNoText = (bytes chars : List ℕ) (fault : Fault) → RefusesText bytes fault → Text bytes chars → ⊥
