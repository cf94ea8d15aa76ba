-- What a text is once a part of it has been read, by what is left of it.
use Rattle.std.specs.Prelude.{ℕ, Bool, true, false, not, ◌&&◌, ◌||◌, ◌==◌, if◌then◌else◌, List, [], ◌∷◌, Option, Some, None, bytes_eq}
use Rattle.std.specs.List.{list_all}
use Rattle.std.specs.Char.{is_digit}
use Rattle.yaml_definitions.specs.model.Core.{one_of, are_digits, is_empty, unsigned, split_at}
use Rattle.yaml_core.specs.Form.{form_of, infinity_words, nan_words}
use Rattle.yaml_core.specs.declared.form.Form.{Form}
use Rattle.yaml_core.specs.declared.form.Form.TheVariants as forms
use Rattle.yaml_core.specs.declared.form.State.{State}
use Rattle.yaml_core.specs.declared.form.State.TheVariants as states

abbrev pub is_e : ℕ → Bool
is_e c = c == 101 || c == 69

abbrev pub is_point : ℕ → Bool
is_point c = c == 46

-- digits of this base, or nothing
abbrev pub all_digits : ℕ → List ℕ → Bool
all_digits base x = list_all (λ c. is_digit c base) x

abbrev pub exponent_fits : Option (List ℕ) → Bool
exponent_fits None = true
exponent_fits (Some x) = are_digits 10 (unsigned x)

-- digits with a point or without, where a digit may have been read before
abbrev pub number_fits : Bool → List ℕ → Option (List ℕ) → Bool
number_fits seen whole None = all_digits 10 whole && (seen || not (is_empty whole))
number_fits seen whole (Some part) = all_digits 10 whole && (all_digits 10 part && (seen || not (is_empty whole && is_empty part)))

-- what is left of a float, before its point
unfoldable pub float_rest : Bool → List ℕ → Bool
float_rest seen r =
    let cut = split_at is_e r in
    let number = split_at is_point cut.0 in
    number_fits seen number.0 number.1 && exponent_fits cut.1

-- the same after its point
unfoldable pub fraction_rest : Bool → List ℕ → Bool
fraction_rest seen r =
    let cut = split_at is_e r in
    (all_digits 10 cut.0 && (seen || not (is_empty cut.0))) && exponent_fits cut.1

-- a mark and digits of a base
abbrev pub prefixed : ℕ → ℕ → List ℕ → Bool
prefixed mark base [] = false
prefixed mark base (c ∷ x) = c == mark && are_digits base x

abbrev pub by_test : Bool → Form → Form
by_test b f = if b then f else forms.Other

unfoldable pub meaning : State → List ℕ → Form
meaning states.Start r = form_of r
meaning states.Sign r =
    if are_digits 10 r then forms.Decimal
    else if one_of infinity_words r then forms.Infinity
    else by_test (float_rest false r) forms.Float
meaning states.Zero r =
    if all_digits 10 r then forms.Decimal
    else if prefixed 111 8 r then forms.Octal
    else if prefixed 120 16 r then forms.Hexadecimal
    else by_test (float_rest true r) forms.Float
meaning states.Digits r = if all_digits 10 r then forms.Decimal else by_test (float_rest true r) forms.Float
meaning states.Point r =
    if one_of nan_words (46 ∷ r) then forms.NotANumber
    else if one_of infinity_words (46 ∷ r) then forms.Infinity
    else by_test (fraction_rest false r) forms.Float
meaning states.SignedPoint r = if one_of infinity_words (46 ∷ r) then forms.Infinity else by_test (fraction_rest false r) forms.Float
meaning states.Fraction r = by_test (fraction_rest true r) forms.Float
meaning states.Exponent r = by_test (are_digits 10 (unsigned r)) forms.Float
meaning states.ExponentSign r = by_test (are_digits 10 r) forms.Float
meaning states.ExponentDigits r = by_test (all_digits 10 r) forms.Float
meaning states.OctalMark r = by_test (are_digits 8 r) forms.Octal
meaning states.OctalDigits r = by_test (all_digits 8 r) forms.Octal
meaning states.HexadecimalMark r = by_test (are_digits 16 r) forms.Hexadecimal
meaning states.HexadecimalDigits r = by_test (all_digits 16 r) forms.Hexadecimal
meaning (states.Word f w) r = by_test (bytes_eq r w.now) f
meaning (states.Capital f w v) r = by_test (bytes_eq r w.now || bytes_eq r v.now) f
meaning states.Other r = forms.Other
