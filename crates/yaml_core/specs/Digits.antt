-- Digits of a number's text.
use Rattle.std.specs.Prelude.{ℕ, Bool, ◌==◌, ◌&&◌, ◌-◌, ◌^◌, cond, if◌then◌else◌, List, [], ◌∷◌}
use Rattle.yaml_definitions.specs.model.Core.{is_empty}
use Rattle.yaml_definitions.specs.model.Limits.{int_bits}

-- without the zeros at the beginning
unfoldable pub without_zeros : List ℕ → List ℕ
without_zeros [] = []
without_zeros (c ∷ x) = cond (c == 48) (without_zeros x) (c ∷ x)

-- without the zeros at the end
unfoldable pub without_last_zeros : List ℕ → List ℕ
without_last_zeros [] = []
without_last_zeros (c ∷ x) = cond (c == 48 && is_empty (without_last_zeros x)) [] (c ∷ without_last_zeros x)

-- the greatest number of an int with or without a minus sign
abbrev pub most_of : Bool → ℕ
most_of negative = if negative then 2 ^ int_bits else 2 ^ int_bits - 1
