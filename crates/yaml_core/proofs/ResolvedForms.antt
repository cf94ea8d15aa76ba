-- What resolving gives is of the one form of its tag, with a number in range, and each such text gives itself.
use Rattle.std.proofs.Common.{◌≡◌, ◌<◌, ◌≤◌, ℕ, zero, suc, ◌-◌, ◌^◌, ◌==◌, nat_lt, nat_le, nat_abs, Bool, true, false, cond, ◌||◌, inl, inr, Option, Some, None, Ok, Err, List, ℤ, pos, negsuc, refl, sym, ◌∙◌, ap, subst, arith}
use Rattle.std.proofs.lemmas.Bool.{ltb-true, leb-true, le-leb}
use Rattle.yaml_definitions.specs.model.Limits.{int_bits, exponent_limit}
use Rattle.yaml_definitions.specs.model.Tag.{core_tag, null_tag, bool_tag, int_tag, float_tag}
use Rattle.yaml_definitions.specs.model.Event.{Style, full}
use Rattle.yaml_definitions.specs.model.Core.{Cause, bad_content, int_range, float_range, Value, null_value, bool_value, int_value, decimal_value, infinity, not_a_number, number_in, null_of, bool_of, int_of, float_of, as_bool, as_int, natural_text, exponent, content_of, refused, accepted, by_pattern, by_tag, resolve, value_of}
use Rattle.yaml_definitions.proofs.CoreLaws.{natural_digital, digital_number, pattern_parts, wrong, null_is, bool_is, int_is}
use Rattle.yaml_definitions.proofs.ContentLaws.{tag_takes}
use Rattle.yaml_definitions.proofs.ResolveLaws.{IsFloat, OnFloat, float_kind, resolved_again}
use Rattle.yaml_core.specs.CanonicalForms.{Pattern, bool_form, up_to, int_form, float_form, Resolving, GivesNull, GivesBool, GivesInt, GivesFloat}
use Rattle.yaml_core.proofs.IntLemmas.{in_range}
use Rattle.yaml_core.proofs.ContentForms.{natural_counting, Numbered, Scaled, bool_has, int_has, float_has, null_own, bool_own, int_own, int_parts, float_parts}

-- ---- the numbers of values in range

natural_number : (n : ℕ) → number_in 10 (natural_text n) ≡ n
natural_number n = digital_number n (natural_text n) (natural_digital n)

natural_up_to : (n most : ℕ) → suc n ≤ most → up_to most (natural_text (suc n))
natural_up_to n most h = (natural_counting n, let e = natural_number (suc n) in omega (arith, e))

not_refused : (b : Bool) (c : Cause) → cond b None (Some c) ≡ None → b ≡ true
not_refused true c h = refl
not_refused false c h = absurd (cc)

abbrev int_up : Pattern
int_up = up_to (2 ^ int_bits - 1)

abbrev int_down : Pattern
int_down = up_to (2 ^ int_bits)

abbrev IntIn : ℤ → Type 0
IntIn = Numbered int_up int_down

fitting : (n : ℤ) → refused (int_value n) ≡ None → IntIn n
fitting (pos zero) h = tt
fitting (pos (suc n)) h = let l : suc n < 2 ^ int_bits = ltb-true (suc n) (2 ^ int_bits) (not_refused (nat_lt (suc n) (2 ^ int_bits)) int_range h) in natural_up_to n (2 ^ int_bits - 1) (omega arith)
fitting (negsuc n) h = let l : n < 2 ^ int_bits = ltb-true n (2 ^ int_bits) (not_refused (nat_lt n (2 ^ int_bits)) int_range h) in natural_up_to n (2 ^ int_bits) (omega arith)

fits : (n : ℤ) → IntIn n → refused (int_value n) ≡ None
fits (pos zero) h = in_range false 0 (omega arith)
fits (pos (suc n)) h = in_range false (suc n) (subst (λ m. m ≤ 2 ^ int_bits - 1) (natural_number (suc n)) h.1)
fits (negsuc n) h = in_range true (suc n) (subst (λ m. m ≤ 2 ^ int_bits) (natural_number (suc n)) h.1)

abbrev float_up : Pattern
float_up = up_to exponent_limit

abbrev ExponentIn : ℤ → Type 0
ExponentIn = Numbered float_up float_up

exponent_fitting : (e : ℤ) → nat_le (nat_abs e) exponent_limit ≡ true → ExponentIn e
exponent_fitting (pos zero) h = tt
exponent_fitting (pos (suc n)) h = natural_up_to n exponent_limit (leb-true (suc n) exponent_limit h)
exponent_fitting (negsuc n) h = natural_up_to n exponent_limit (leb-true (suc n) exponent_limit h)

exponent_fits : (e : ℤ) → ExponentIn e → nat_le (nat_abs e) exponent_limit ≡ true
exponent_fits (pos zero) h = refl
exponent_fits (pos (suc n)) h = le-leb (suc n) exponent_limit (subst (λ m. m ≤ exponent_limit) (natural_number (suc n)) h.1)
exponent_fits (negsuc n) h = le-leb (suc n) exponent_limit (subst (λ m. m ≤ exponent_limit) (natural_number (suc n)) h.1)

scaled_in : (v : Value) → refused v ≡ None → Scaled float_up v
scaled_in (decimal_value negative m k) h = λ e. exponent_fitting (exponent m k) (not_refused (nat_le (nat_abs (exponent m k)) exponent_limit) float_range (sym (ap (λ b. cond (b || nat_le (nat_abs (exponent m k)) exponent_limit) None (Some float_range)) e) ∙ h))
scaled_in (infinity negative) h = tt
scaled_in not_a_number h = tt
scaled_in null_value h = tt
scaled_in (bool_value b) h = tt
scaled_in (int_value n) h = tt

scaled_fits : (v : Value) → IsFloat v → Scaled float_up v → refused v ≡ None
scaled_fits (decimal_value negative m k) i h = by (m == 0) (nat_le (nat_abs (exponent m k)) exponent_limit) refl (λ e. exponent_fits (exponent m k) (h e))
  where
    by : (b c : Bool) → (m == 0) ≡ b → ((m == 0) ≡ false → c ≡ true) → cond (b || c) None (Some float_range) ≡ None
    by true c e g = refl
    by false c e g = rw (g e) refl
scaled_fits (infinity negative) i h = refl
scaled_fits not_a_number i h = refl
scaled_fits null_value i h = absurd i
scaled_fits (bool_value b) i h = absurd i
scaled_fits (int_value n) i h = absurd i

-- ---- the laws of what resolving gives

denoted : (g x : List ℕ) (o : Option Value) → by_pattern g o (Err bad_content) ≡ Ok (g, x) → (v : Value) × (o ≡ Some v) × (x ≡ content_of v) × (refused v ≡ None)
denoted g x o h = elim (pattern_parts g o (Err bad_content) g x h) [ inl t ↦ (t.0, t.1, t.3, t.4) | inr e ↦ absurd (wrong g x bad_content e) ]

-- what some scalar resolves to gives itself
by_tag_again : (g x : List ℕ) → Resolving g x → by_tag g x ≡ Ok (g, x)
unfolding resolve
by_tag_again g x t = resolved_again t.0 t.1 t.2 g x t.3

-- a value in range whose content denotes it
given : (g x : List ℕ) (v : Value) → value_of g (content_of v) ≡ Some v → x ≡ content_of v → refused v ≡ None → (y : Style) → resolve (full g) y x ≡ Ok (g, x)
unfolding resolve
given g x v e c r y = tag_takes g x v (ap (value_of g) c ∙ e) ∙ (ap (accepted g v) r ∙ ap (λ z. Ok (g, z)) (sym c))

own_float : (v : Value) → value_of float_tag (content_of v) ≡ Some v → IsFloat v
unfolding value_of core_tag
own_float v e = subst OnFloat e (float_kind (content_of v))

pub gives_null : GivesNull
unfolding by_tag core_tag content_of
gives_null x = (
  λ t. let v = denoted null_tag x (null_of x) (by_tag_again null_tag x t) in v.2 ∙ ap content_of (null_is x v.0 v.1),
  λ e. given null_tag x null_value null_own e refl,
)

pub gives_bool : GivesBool
unfolding by_tag core_tag content_of
gives_bool x = (
  λ t. let v = denoted bool_tag x (as_bool (bool_of x)) (by_tag_again bool_tag x t) in
      let b = bool_is (bool_of x) v.0 v.1 in
      subst bool_form (sym (v.2 ∙ ap content_of b.1)) (bool_has b.0),
  λ h. elim h [ inl e ↦ given bool_tag x (bool_value true) (bool_own true) e refl | inr e ↦ given bool_tag x (bool_value false) (bool_own false) e refl ],
)

pub gives_int : GivesInt
unfolding by_tag core_tag content_of
gives_int x = (
  λ t. let v = denoted int_tag x (as_int (int_of x)) (by_tag_again int_tag x t) in
      let n = int_is (int_of x) v.0 v.1 in
      subst (int_form int_up int_down) (sym (v.2 ∙ ap content_of n.1)) (int_has int_up int_down n.0 (fitting n.0 (ap refused (sym n.1) ∙ v.3))),
  λ h. let n = int_parts int_up int_down (λ y k. k.0) (λ y k. k.0) x h in given int_tag x (int_value n.0) (int_own n.0) n.1 (fits n.0 n.2),
)

pub gives_float : GivesFloat
unfolding by_tag core_tag
gives_float x = (
  λ t. let v = denoted float_tag x (float_of x) (by_tag_again float_tag x t) in
      subst (float_form float_up) (sym v.2) (float_has float_up v.0 (subst OnFloat v.1 (float_kind x)) (scaled_in v.0 v.3)),
  λ h. let v = float_parts float_up (λ y k. k.0) x h in given float_tag x v.0 v.1 v.2 (scaled_fits v.0 (own_float v.0 v.1) v.3),
)
