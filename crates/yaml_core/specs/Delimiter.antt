-- Where a float's text is cut.
use Rattle.std.specs.Prelude.{ℕ, Bool}
use Rattle.yaml_core.specs.State.{is_e, is_point}
use Rattle.yaml_core.specs.declared.text.Delimiter.{Delimiter}
use Rattle.yaml_core.specs.declared.text.Delimiter.TheVariants as marks

abbrev pub is_delimiter : Delimiter → ℕ → Bool
is_delimiter marks.Point c = is_point c
is_delimiter marks.Exponent c = is_e c
