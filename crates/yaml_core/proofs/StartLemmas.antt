-- What a text is by its first character and what is left.
use Rattle.std.proofs.Common.{◌≡◌, ℕ, Bool, true, false, cond, not, ◌&&◌, ◌||◌, ◌==◌, if◌then◌else◌, Option, Some, None, List, [], ◌∷◌, codes, refl, sym, ◌∙◌, ap}
use Rattle.std.specs.Prelude.{bytes_eq, is_some}
use Rattle.std.specs.Char.{is_digit}
use Rattle.yaml_definitions.specs.model.Core.{one_of, are_digits, is_empty, unsigned, is_negative, after_prefix, digits_after, split_at, exponent_of, scaled, mantissa, decimal_of, bool_of, is_null}
use Rattle.yaml_core.specs.Form.{form_of, by_bool, infinity_words, nan_words}
use Rattle.yaml_core.specs.State.{is_e, is_point, all_digits, exponent_fits, number_fits, float_rest, fraction_rest, prefixed, by_test}
use Rattle.yaml_core.specs.declared.form.Form.{Form}
use Rattle.yaml_core.specs.declared.form.Form.TheVariants as forms
use Rattle.yaml_core.proofs.StateLemmas.{or_false, and_true, float_digit, float_point, float_none, no_infinity, no_nan}

-- ---- a decimal is what may be left of a float

some_cond : {A : Type 0} (b : Bool) (o : Option A) → is_some (cond b o None) ≡ (b && is_some o)
some_cond true o = refl
some_cond false o = refl

are_digits_is : (w : List ℕ) → are_digits 10 w ≡ (all_digits 10 w && not (is_empty w))
are_digits_is [] = refl
are_digits_is (c ∷ w) = sym (and_true (all_digits 10 (c ∷ w)))

some_exponent : (y : Option (List ℕ)) → is_some (exponent_of y) ≡ exponent_fits y
some_exponent None = refl
some_exponent (Some x) = some_cond (are_digits 10 (unsigned x)) _ ∙ and_true (are_digits 10 (unsigned x))

some_scaled : (n : Bool) (w p : List ℕ) (e : Option _) → is_some (scaled n w p e) ≡ is_some e
some_scaled n w p None = refl
some_scaled n w p (Some x) = refl

some_mantissa : (n : Bool) (w : List ℕ) (o y : Option (List ℕ)) → is_some (mantissa n w o (exponent_of y)) ≡ (number_fits false w o && exponent_fits y)
some_mantissa n w None y =
    some_cond (are_digits 10 w) (scaled n w [] (exponent_of y))
    ∙ (λ i. are_digits_is w i && (some_scaled n w [] (exponent_of y) ∙ some_exponent y) i)
some_mantissa n w (Some p) y =
    some_cond (all_digits 10 w && (all_digits 10 p && not (is_empty w && is_empty p))) (scaled n w p (exponent_of y))
    ∙ ap (λ b. (all_digits 10 w && (all_digits 10 p && not (is_empty w && is_empty p))) && b) (some_scaled n w p (exponent_of y) ∙ some_exponent y)

pub decimal_is : (x : List ℕ) → is_some (decimal_of x) ≡ float_rest false (unsigned x)
unfolding decimal_of float_rest
decimal_is x =
    let cut = split_at is_e (unsigned x) in
    let number = split_at is_point cut.0 in
    some_mantissa (is_negative x) number.0 number.1 cut.1

-- ---- marks of a base

after_none : (a b c : ℕ) (r : List ℕ) → (c == a) ≡ false → after_prefix a b (c ∷ r) ≡ None
after_none a b c [] e = refl
after_none a b c (d ∷ r) e = rw e refl

some_after : (mark base : ℕ) (r : List ℕ) → is_some (digits_after base (after_prefix 48 mark (48 ∷ r))) ≡ prefixed mark base r
some_after mark base [] = refl
some_after mark base (d ∷ x) = by (d == mark)
  where
    by : (b : Bool) → is_some (digits_after base (cond b (Some x) None)) ≡ (b && are_digits base x)
    by false = refl
    by true = some_cond (are_digits base x) _ ∙ and_true (are_digits base x)

-- ---- words

-- no letter that a word of null or bool begins with
pub record Wordless (c : ℕ) : Type 0 where
  pub tilde : (c == 126) ≡ false
  pub null : (c == 110) ≡ false
  pub capital_null : (c == 78) ≡ false
  pub yes : (c == 116) ≡ false
  pub capital_yes : (c == 84) ≡ false
  pub nay : (c == 102) ≡ false
  pub capital_nay : (c == 70) ≡ false

not_null : (c : ℕ) (r : List ℕ) → Wordless c → is_null (c ∷ r) ≡ false
unfolding is_null
not_null c r w = rw (w.tilde, w.null, w.capital_null) refl

not_bool : (c : ℕ) (r : List ℕ) → Wordless c → bool_of (c ∷ r) ≡ None
unfolding bool_of
not_bool c r w = rw (w.yes, w.capital_yes, w.nay, w.capital_nay) refl

abbrev letter_form : List ℕ → Form
letter_form x = if is_null x then forms.Null else by_bool (bool_of x) forms.Other

-- what begins with a letter is a word or nothing
letter : (c : ℕ) (r : List ℕ) → (c == 43 || c == 45) ≡ false → is_digit c 10 ≡ false → is_point c ≡ false → (c == 48) ≡ false → form_of (c ∷ r) ≡ letter_form (c ∷ r)
unfolding form_of
letter c r s d p z =
    let m : unsigned (c ∷ r) ≡ c ∷ r = ap (λ b. cond b r (c ∷ r)) s in
    let f : is_some (decimal_of (c ∷ r)) ≡ false = decimal_is (c ∷ r) ∙ (ap (float_rest false) m ∙ float_none c r d p) in
    rw (f, m, d, after_none 48 111 c r z, after_none 48 120 c r z, no_nan c r p, no_infinity c r p) refl

when_true : (b : Bool) → by_bool (if b then Some true else None) forms.Other ≡ by_test b forms.True
when_true true = refl
when_true false = refl

when_false : (b : Bool) → by_bool (if b then Some false else None) forms.Other ≡ by_test b forms.False
when_false true = refl
when_false false = refl

pub start_tilde : (c : ℕ) (r : List ℕ) → c ≡ 126 → form_of (c ∷ r) ≡ by_test (bytes_eq r []) forms.Null
unfolding is_null bool_of
start_tilde c r e = ap (λ z. form_of (z ∷ r)) e ∙ (letter 126 r refl refl refl refl ∙ ap (λ b. by_test b forms.Null) (or_false (bytes_eq r [])))

pub start_null : (c : ℕ) (r : List ℕ) → c ≡ 110 → form_of (c ∷ r) ≡ by_test (bytes_eq r (codes "ull")) forms.Null
unfolding is_null bool_of
start_null c r e = ap (λ z. form_of (z ∷ r)) e ∙ (letter 110 r refl refl refl refl ∙ ap (λ b. by_test b forms.Null) (or_false (bytes_eq r (codes "ull"))))

pub start_capital_null : (c : ℕ) (r : List ℕ) → c ≡ 78 → form_of (c ∷ r) ≡ by_test (bytes_eq r (codes "ull") || bytes_eq r (codes "ULL")) forms.Null
unfolding is_null bool_of
start_capital_null c r e =
    ap (λ z. form_of (z ∷ r)) e ∙ (letter 78 r refl refl refl refl ∙ ap (λ b. by_test (bytes_eq r (codes "ull") || b) forms.Null) (or_false (bytes_eq r (codes "ULL"))))

pub start_true : (c : ℕ) (r : List ℕ) → c ≡ 116 → form_of (c ∷ r) ≡ by_test (bytes_eq r (codes "rue")) forms.True
unfolding is_null bool_of
start_true c r e = ap (λ z. form_of (z ∷ r)) e ∙ (letter 116 r refl refl refl refl ∙ (when_true (bytes_eq r (codes "rue") || false) ∙ ap (λ b. by_test b forms.True) (or_false (bytes_eq r (codes "rue")))))

pub start_capital_true : (c : ℕ) (r : List ℕ) → c ≡ 84 → form_of (c ∷ r) ≡ by_test (bytes_eq r (codes "rue") || bytes_eq r (codes "RUE")) forms.True
unfolding is_null bool_of
start_capital_true c r e =
    ap (λ z. form_of (z ∷ r)) e
    ∙ (letter 84 r refl refl refl refl ∙ (when_true (bytes_eq r (codes "rue") || (bytes_eq r (codes "RUE") || false)) ∙ ap (λ b. by_test (bytes_eq r (codes "rue") || b) forms.True) (or_false (bytes_eq r (codes "RUE")))))

pub start_false : (c : ℕ) (r : List ℕ) → c ≡ 102 → form_of (c ∷ r) ≡ by_test (bytes_eq r (codes "alse")) forms.False
unfolding is_null bool_of
start_false c r e = ap (λ z. form_of (z ∷ r)) e ∙ (letter 102 r refl refl refl refl ∙ (when_false (bytes_eq r (codes "alse") || false) ∙ ap (λ b. by_test b forms.False) (or_false (bytes_eq r (codes "alse")))))

pub start_capital_false : (c : ℕ) (r : List ℕ) → c ≡ 70 → form_of (c ∷ r) ≡ by_test (bytes_eq r (codes "alse") || bytes_eq r (codes "ALSE")) forms.False
unfolding is_null bool_of
start_capital_false c r e =
    ap (λ z. form_of (z ∷ r)) e
    ∙ (letter 70 r refl refl refl refl ∙ (when_false (bytes_eq r (codes "alse") || (bytes_eq r (codes "ALSE") || false)) ∙ ap (λ b. by_test (bytes_eq r (codes "alse") || b) forms.False) (or_false (bytes_eq r (codes "ALSE")))))

pub start_other : (c : ℕ) (r : List ℕ) → Wordless c → (c == 43 || c == 45) ≡ false → is_digit c 10 ≡ false → is_point c ≡ false → (c == 48) ≡ false → form_of (c ∷ r) ≡ forms.Other
start_other c r w s d p z = letter c r s d p z ∙ rw (not_null c r w, not_bool c r w) refl

-- ---- numbers

pub start_sign : (c : ℕ) (r : List ℕ) → Wordless c → (c == 43 || c == 45) ≡ true → is_point c ≡ false → (c == 48) ≡ false
    → form_of (c ∷ r) ≡ (if are_digits 10 r then forms.Decimal else if one_of infinity_words r then forms.Infinity else by_test (float_rest false r) forms.Float)
unfolding form_of
start_sign c r w s p z =
    let m : unsigned (c ∷ r) ≡ r = ap (λ b. cond b r (c ∷ r)) s in
    let f : is_some (decimal_of (c ∷ r)) ≡ float_rest false r = decimal_is (c ∷ r) ∙ ap (float_rest false) m in
    rw (f, m, not_null c r w, not_bool c r w, after_none 48 111 c r z, after_none 48 120 c r z, no_nan c r p) refl

pub start_digit : (c : ℕ) (r : List ℕ) → Wordless c → (c == 43 || c == 45) ≡ false → is_digit c 10 ≡ true → is_e c ≡ false → is_point c ≡ false → (c == 48) ≡ false
    → form_of (c ∷ r) ≡ (if all_digits 10 r then forms.Decimal else by_test (float_rest true r) forms.Float)
unfolding form_of
start_digit c r w s d e p z =
    let m : unsigned (c ∷ r) ≡ c ∷ r = ap (λ b. cond b r (c ∷ r)) s in
    let f : is_some (decimal_of (c ∷ r)) ≡ float_rest true r = decimal_is (c ∷ r) ∙ (ap (float_rest false) m ∙ float_digit false c r d e p) in
    rw (f, m, d, not_null c r w, not_bool c r w, after_none 48 111 c r z, after_none 48 120 c r z, no_nan c r p, no_infinity c r p) refl

pub start_zero : (c : ℕ) (r : List ℕ) → c ≡ 48
    → form_of (c ∷ r)
    ≡ (if all_digits 10 r then forms.Decimal else if prefixed 111 8 r then forms.Octal else if prefixed 120 16 r then forms.Hexadecimal else by_test (float_rest true r) forms.Float)
unfolding form_of is_null bool_of
start_zero c r e =
    let f : is_some (decimal_of (48 ∷ r)) ≡ float_rest true r = decimal_is (48 ∷ r) ∙ float_digit false 48 r refl refl refl in
    ap (λ z. form_of (z ∷ r)) e ∙ rw (f, some_after 111 8 r, some_after 120 16 r) refl

pub start_point : (c : ℕ) (r : List ℕ) → c ≡ 46
    → form_of (c ∷ r) ≡ (if one_of nan_words (46 ∷ r) then forms.NotANumber else if one_of infinity_words (46 ∷ r) then forms.Infinity else by_test (fraction_rest false r) forms.Float)
unfolding form_of is_null bool_of
start_point c r e =
    let f : is_some (decimal_of (46 ∷ r)) ≡ fraction_rest false r = decimal_is (46 ∷ r) ∙ float_point false r in
    ap (λ z. form_of (z ∷ r)) e ∙ rw (f, after_none 48 111 46 r refl) refl
