-- A finite float by the parts of its text.
use Rattle.std.specs.Prelude.{◌≡◌, ℕ, Bool, cond, List, [], ◌∷◌, ◌++◌, ℤ, pos, ◌+ℤ◌, ◌-ℤ◌, Option, Some, None}
use Rattle.yaml_definitions.specs.model.Core.{unsigned, split_at, exponent_text}
use Rattle.yaml_core.specs.State.{is_e, is_point}
use Rattle.yaml_core.specs.Digits.{without_zeros, without_last_zeros}

-- the characters of a part, or none
abbrev pub or_nothing : Option (List ℕ) → List ℕ
or_nothing None = []
or_nothing (Some x) = x

-- the digits before and after the point, and what stands after the `e`
abbrev pub AreParts : (x whole part : List ℕ) → (exponent : Option (List ℕ)) → Type 0
AreParts x whole part exponent =
    let cut = split_at is_e (unsigned x) in
    let number = split_at is_point cut.0 in
    (whole ≡ number.0) × (part ≡ or_nothing number.1) × (exponent ≡ cut.1)

-- there is an exponent, and this holds of it
abbrev pub With : Option ℤ → (ℤ → Type 0) → Type 0
With None P = ⊥
With (Some e) P = P e

-- the exponent once one of len digits stands before the point, where part of them stand after it
abbrev pub scale_of : ℤ → (part len : ℕ) → ℤ
scale_of e part len = ((e -ℤ pos part) +ℤ pos len) -ℤ pos 1

-- without the zeros at both ends
abbrev pub significant : List ℕ → List ℕ
significant x = without_last_zeros (without_zeros x)

-- digits, with a point after the first where there are more
abbrev pub mantissa_text : List ℕ → List ℕ
mantissa_text [] = []
mantissa_text (c ∷ []) = c ∷ []
mantissa_text (c ∷ d ∷ x) = c ∷ 46 ∷ d ∷ x

-- the same of digits in two pieces, the first of which begins them
abbrev pub pointed_text : (first more : List ℕ) → List ℕ
pointed_text [] more = []
pointed_text (c ∷ x) more = mantissa_text (c ∷ (x ++ more))

-- `-`
abbrev pub minus_sign : ℕ
minus_sign = 45

abbrev pub float_text : Bool → List ℕ → ℤ → List ℕ
float_text negative digits e = cond negative (minus_sign ∷ []) [] ++ (mantissa_text digits ++ exponent_text e)
