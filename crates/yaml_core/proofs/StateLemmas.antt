-- How what is left of a text goes on by one character.
use Rattle.std.proofs.Common.{◌≡◌, ℕ, Bool, true, false, ◌&&◌, ◌||◌, ◌==◌, if◌then◌else◌, Option, Some, None, List, ◌∷◌, codes, refl, ◌∙◌, ap}
use Rattle.std.specs.Prelude.{bytes_eq}
use Rattle.std.specs.Char.{is_digit}
use Rattle.yaml_definitions.specs.model.Core.{one_of, are_digits, unsigned, split_at}
use Rattle.yaml_core.specs.Form.{infinity_words, nan_words}
use Rattle.yaml_core.specs.State.{is_e, is_point, all_digits, exponent_fits, number_fits, float_rest, fraction_rest, prefixed, by_test}
use Rattle.yaml_core.specs.declared.form.Form.{Form}
use Rattle.yaml_core.specs.declared.form.Form.TheVariants as forms

pub or_false : (b : Bool) → (b || false) ≡ b
or_false true = refl
or_false false = refl

pub and_true : (b : Bool) → (b && true) ≡ b
and_true true = refl
and_true false = refl

pub and_false : (b : Bool) → (b && false) ≡ false
and_false true = refl
and_false false = refl

-- ---- before the point

number_digit : (seen : Bool) (c : ℕ) (w : List ℕ) (o : Option (List ℕ)) → is_digit c 10 ≡ true → number_fits seen (c ∷ w) o ≡ number_fits true w o
number_digit true c w None d = rw d refl
number_digit false c w None d = rw d refl
number_digit true c w (Some part) d = rw d refl
number_digit false c w (Some part) d = rw d refl

number_other : (seen : Bool) (c : ℕ) (w : List ℕ) (o : Option (List ℕ)) → is_digit c 10 ≡ false → number_fits seen (c ∷ w) o ≡ false
number_other seen c w None d = rw d refl
number_other seen c w (Some part) d = rw d refl

pub float_digit : (seen : Bool) (c : ℕ) (r : List ℕ) → is_digit c 10 ≡ true → is_e c ≡ false → is_point c ≡ false → float_rest seen (c ∷ r) ≡ float_rest true r
unfolding float_rest split_at
float_digit seen c r d e p =
    let cut = split_at is_e r in
    let number = split_at is_point cut.0 in
    rw (e, p) (ap (λ b. b && exponent_fits cut.1) (number_digit seen c number.0 number.1 d))

pub float_other : (seen : Bool) (c : ℕ) (r : List ℕ) → is_digit c 10 ≡ false → is_e c ≡ false → is_point c ≡ false → float_rest seen (c ∷ r) ≡ false
unfolding float_rest split_at
float_other seen c r d e p =
    let cut = split_at is_e r in
    let number = split_at is_point cut.0 in
    rw (e, p) (ap (λ b. b && exponent_fits cut.1) (number_other seen c number.0 number.1 d))

pub float_point : (seen : Bool) (r : List ℕ) → float_rest seen (46 ∷ r) ≡ fraction_rest seen r
unfolding float_rest fraction_rest split_at
float_point seen r = refl

pub float_exponent : (c : ℕ) (r : List ℕ) → is_e c ≡ true → float_rest true (c ∷ r) ≡ are_digits 10 (unsigned r)
unfolding float_rest split_at
float_exponent c r e = rw e refl

-- a float begins with a digit or a point
pub float_none : (c : ℕ) (r : List ℕ) → is_digit c 10 ≡ false → is_point c ≡ false → float_rest false (c ∷ r) ≡ false
unfolding float_rest split_at
float_none c r d p = by (is_e c) refl
  where
    by : (b : Bool) → is_e c ≡ b → float_rest false (c ∷ r) ≡ false
    by true e = rw e refl
    by false e = float_other false c r d e p

-- ---- after the point

pub fraction_digit : (seen : Bool) (c : ℕ) (r : List ℕ) → is_digit c 10 ≡ true → is_e c ≡ false → fraction_rest seen (c ∷ r) ≡ fraction_rest true r
unfolding fraction_rest split_at
fraction_digit true c r d e = rw (e, d) refl
fraction_digit false c r d e = rw (e, d) refl

pub fraction_exponent : (c : ℕ) (r : List ℕ) → is_e c ≡ true → fraction_rest true (c ∷ r) ≡ are_digits 10 (unsigned r)
unfolding fraction_rest split_at
fraction_exponent c r e = rw e refl

pub fraction_other : (seen : Bool) (c : ℕ) (r : List ℕ) → is_digit c 10 ≡ false → is_e c ≡ false → fraction_rest seen (c ∷ r) ≡ false
unfolding fraction_rest split_at
fraction_other seen c r d e = rw (e, d) refl

-- what begins with a point needs a digit before an exponent
pub fraction_none : (c : ℕ) (r : List ℕ) → is_digit c 10 ≡ false → fraction_rest false (c ∷ r) ≡ false
unfolding fraction_rest split_at
fraction_none c r d = by (is_e c) refl
  where
    by : (b : Bool) → is_e c ≡ b → fraction_rest false (c ∷ r) ≡ false
    by true e = rw e refl
    by false e = fraction_other false c r d e

-- ---- from each state to the next

-- after digits
pub digits_digit : (c : ℕ) (r : List ℕ) → is_digit c 10 ≡ true → is_e c ≡ false → is_point c ≡ false
    → (if all_digits 10 (c ∷ r) then forms.Decimal else by_test (float_rest true (c ∷ r)) forms.Float) ≡ (if all_digits 10 r then forms.Decimal else by_test (float_rest true r) forms.Float)
digits_digit c r d e p = rw (d, float_digit true c r d e p) refl

pub digits_point : (c : ℕ) (r : List ℕ) → c ≡ 46
    → (if all_digits 10 (c ∷ r) then forms.Decimal else by_test (float_rest true (c ∷ r)) forms.Float) ≡ by_test (fraction_rest true r) forms.Float
digits_point c r p = ap (λ z. if all_digits 10 (z ∷ r) then forms.Decimal else by_test (float_rest true (z ∷ r)) forms.Float) p ∙ ap (λ b. by_test b forms.Float) (float_point true r)

pub digits_exponent : (c : ℕ) (r : List ℕ) → is_digit c 10 ≡ false → is_e c ≡ true
    → (if all_digits 10 (c ∷ r) then forms.Decimal else by_test (float_rest true (c ∷ r)) forms.Float) ≡ by_test (are_digits 10 (unsigned r)) forms.Float
digits_exponent c r d e = rw (d, float_exponent c r e) refl

pub digits_other : (c : ℕ) (r : List ℕ) → is_digit c 10 ≡ false → is_e c ≡ false → is_point c ≡ false
    → (if all_digits 10 (c ∷ r) then forms.Decimal else by_test (float_rest true (c ∷ r)) forms.Float) ≡ forms.Other
digits_other c r d e p = rw (d, float_other true c r d e p) refl

-- after a sign
pub no_infinity : (c : ℕ) (r : List ℕ) → is_point c ≡ false → one_of infinity_words (c ∷ r) ≡ false
no_infinity c r p = rw p refl

pub no_nan : (c : ℕ) (r : List ℕ) → is_point c ≡ false → one_of nan_words (c ∷ r) ≡ false
no_nan c r p = rw p refl

pub sign_digit : (c : ℕ) (r : List ℕ) → is_digit c 10 ≡ true → is_e c ≡ false → is_point c ≡ false
    → (if are_digits 10 (c ∷ r) then forms.Decimal else if one_of infinity_words (c ∷ r) then forms.Infinity else by_test (float_rest false (c ∷ r)) forms.Float)
    ≡ (if all_digits 10 r then forms.Decimal else by_test (float_rest true r) forms.Float)
sign_digit c r d e p = rw (d, no_infinity c r p, float_digit false c r d e p) refl

pub sign_point : (c : ℕ) (r : List ℕ) → c ≡ 46
    → (if are_digits 10 (c ∷ r) then forms.Decimal else if one_of infinity_words (c ∷ r) then forms.Infinity else by_test (float_rest false (c ∷ r)) forms.Float)
    ≡ (if one_of infinity_words (46 ∷ r) then forms.Infinity else by_test (fraction_rest false r) forms.Float)
sign_point c r p =
    ap (λ z. if are_digits 10 (z ∷ r) then forms.Decimal else if one_of infinity_words (z ∷ r) then forms.Infinity else by_test (float_rest false (z ∷ r)) forms.Float) p
    ∙ ap (λ b. if one_of infinity_words (46 ∷ r) then forms.Infinity else by_test b forms.Float) (float_point false r)

pub sign_other : (c : ℕ) (r : List ℕ) → is_digit c 10 ≡ false → is_point c ≡ false
    → (if are_digits 10 (c ∷ r) then forms.Decimal else if one_of infinity_words (c ∷ r) then forms.Infinity else by_test (float_rest false (c ∷ r)) forms.Float) ≡ forms.Other
sign_other c r d p = rw (d, no_infinity c r p, float_none c r d p) refl

-- after a zero
abbrev zero_rest : List ℕ → Form
zero_rest r =
    if all_digits 10 r then forms.Decimal
    else if prefixed 111 8 r then forms.Octal
    else if prefixed 120 16 r then forms.Hexadecimal
    else by_test (float_rest true r) forms.Float

pub zero_octal : (c : ℕ) (r : List ℕ) → c ≡ 111 → zero_rest (c ∷ r) ≡ by_test (are_digits 8 r) forms.Octal
zero_octal c r e = ap (λ z. zero_rest (z ∷ r)) e ∙ ap (λ b. if are_digits 8 r then forms.Octal else by_test b forms.Float) (float_other true 111 r refl refl refl)

pub zero_hexadecimal : (c : ℕ) (r : List ℕ) → c ≡ 120 → zero_rest (c ∷ r) ≡ by_test (are_digits 16 r) forms.Hexadecimal
zero_hexadecimal c r e = ap (λ z. zero_rest (z ∷ r)) e ∙ ap (λ b. if are_digits 16 r then forms.Hexadecimal else by_test b forms.Float) (float_other true 120 r refl refl refl)

pub zero_digits : (c : ℕ) (r : List ℕ) → (c == 111) ≡ false → (c == 120) ≡ false
    → zero_rest (c ∷ r) ≡ (if all_digits 10 (c ∷ r) then forms.Decimal else by_test (float_rest true (c ∷ r)) forms.Float)
zero_digits c r o x = rw (o, x) refl

-- after a point
abbrev signed_point_rest : List ℕ → Form
signed_point_rest r = if one_of infinity_words (46 ∷ r) then forms.Infinity else by_test (fraction_rest false r) forms.Float

abbrev point_rest : List ℕ → Form
point_rest r =
    if one_of nan_words (46 ∷ r) then forms.NotANumber
    else if one_of infinity_words (46 ∷ r) then forms.Infinity
    else by_test (fraction_rest false r) forms.Float

pub point_nan : (c : ℕ) (r : List ℕ) → c ≡ 110 → point_rest (c ∷ r) ≡ by_test (bytes_eq r (codes "an")) forms.NotANumber
point_nan c r e =
    ap (λ z. point_rest (z ∷ r)) e
    ∙ (λ i. if or_false (bytes_eq r (codes "an")) i then forms.NotANumber else by_test (fraction_none 110 r refl i) forms.Float)

pub point_capital_nan : (c : ℕ) (r : List ℕ) → c ≡ 78 → point_rest (c ∷ r) ≡ by_test (bytes_eq r (codes "aN") || bytes_eq r (codes "AN")) forms.NotANumber
point_capital_nan c r e =
    ap (λ z. point_rest (z ∷ r)) e
    ∙ (λ i. if bytes_eq r (codes "aN") || or_false (bytes_eq r (codes "AN")) i then forms.NotANumber else by_test (fraction_none 78 r refl i) forms.Float)

pub point_other : (c : ℕ) (r : List ℕ) → (c == 110) ≡ false → (c == 78) ≡ false → point_rest (c ∷ r) ≡ signed_point_rest (c ∷ r)
point_other c r n m = rw (n, m) refl

pub point_infinity : (c : ℕ) (r : List ℕ) → c ≡ 105 → signed_point_rest (c ∷ r) ≡ by_test (bytes_eq r (codes "nf")) forms.Infinity
point_infinity c r e =
    ap (λ z. signed_point_rest (z ∷ r)) e
    ∙ (λ i. if or_false (bytes_eq r (codes "nf")) i then forms.Infinity else by_test (fraction_none 105 r refl i) forms.Float)

pub point_capital_infinity : (c : ℕ) (r : List ℕ) → c ≡ 73 → signed_point_rest (c ∷ r) ≡ by_test (bytes_eq r (codes "nf") || bytes_eq r (codes "NF")) forms.Infinity
point_capital_infinity c r e =
    ap (λ z. signed_point_rest (z ∷ r)) e
    ∙ (λ i. if bytes_eq r (codes "nf") || or_false (bytes_eq r (codes "NF")) i then forms.Infinity else by_test (fraction_none 73 r refl i) forms.Float)

pub point_digit : (c : ℕ) (r : List ℕ) → is_digit c 10 ≡ true → is_e c ≡ false → (c == 105) ≡ false → (c == 73) ≡ false
    → signed_point_rest (c ∷ r) ≡ by_test (fraction_rest true r) forms.Float
point_digit c r d e i j = rw (i, j, fraction_digit false c r d e) refl

pub point_none : (c : ℕ) (r : List ℕ) → is_digit c 10 ≡ false → (c == 105) ≡ false → (c == 73) ≡ false → signed_point_rest (c ∷ r) ≡ forms.Other
point_none c r d i j = rw (i, j, fraction_none c r d) refl

-- after more digits of a base
pub base_digit : (base c : ℕ) (r : List ℕ) (f : Form) → is_digit c base ≡ true → by_test (all_digits base (c ∷ r)) f ≡ by_test (all_digits base r) f
base_digit base c r f d = rw d refl

pub base_other : (base c : ℕ) (r : List ℕ) (f : Form) → is_digit c base ≡ false → by_test (all_digits base (c ∷ r)) f ≡ forms.Other
base_other base c r f d = rw d refl

pub exponent_sign : (c : ℕ) (r : List ℕ) → (c == 43 || c == 45) ≡ true → by_test (are_digits 10 (unsigned (c ∷ r))) forms.Float ≡ by_test (are_digits 10 r) forms.Float
exponent_sign c r s = rw s refl

pub exponent_digits : (c : ℕ) (r : List ℕ) → (c == 43 || c == 45) ≡ false → by_test (are_digits 10 (unsigned (c ∷ r))) forms.Float ≡ by_test (are_digits 10 (c ∷ r)) forms.Float
exponent_digits c r s = rw s refl
