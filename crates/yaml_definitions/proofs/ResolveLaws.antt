-- What resolving gives, it gives again under the tag that it gave: canonical content is its own.
use Rattle.std.proofs.Common.{◌≡◌, ◌<◌, ℕ, ◌+◌, ◌==◌, nat_le, Bool, true, false, cond, not, ◌&&◌, ◌||◌, Option, Some, None, Ok, List, [], ◌∷◌, ◌++◌, length, get_or, ℤ, pos, nat_abs, ◌+ℤ◌, ◌-ℤ◌, refl, sym, ◌∙◌, ap, subst, arith}
use Rattle.std.specs.Prelude.{codes}
use Rattle.std.proofs.lemmas.Bool.{cond_both, eqb-false, ne_eqb}
use Rattle.std.specs.List.{list_all}
use Rattle.std.specs.Char.{is_digit}
use Rattle.std.specs.Int.Digits.{digits_of, number_from_digits, AllBelowBase}
use Rattle.std.proofs.lemmas.Int.Digits.{all_below_base_digits_of, number_digits_of, first_digits_of}
use Rattle.yaml_definitions.specs.model.Tag.{core_tag, float_tag}
use Rattle.yaml_definitions.specs.model.Event.{Style, double, WrittenTag, full}
use Rattle.yaml_definitions.specs.model.Core.{float_range, Value, decimal_value, infinity, not_a_number, is_empty, are_digits, unsigned, one_of, scaled, mantissa, exponent_of, split_at, is_negative, decimal_of, float_of, trimmed, exponent, digits_text, decimal_text, content_of, refused, accepted, by_tag, resolve}
use Rattle.yaml_definitions.proofs.CoreLaws.{FloatsBack, resolve_again}
use Rattle.yaml_definitions.proofs.FloatLaws.{digit_no_dot, sign_text, unsigned_back, digits_number, trimmed_again, trimmed_below, trimmed_first, decimal_back, exponent_kept}

-- ---- a float's values

abbrev pub IsFloat : Value → Type 0
IsFloat (decimal_value negative m k) = Unit {0}
IsFloat (infinity negative) = Unit {0}
IsFloat not_a_number = Unit {0}
IsFloat _ = ⊥

abbrev pub OnFloat : Option Value → Type 0
OnFloat None = Unit {0}
OnFloat (Some v) = IsFloat v

scaled_float : (negative : Bool) (whole part : List ℕ) (e : Option ℤ) → OnFloat (scaled negative whole part e)
scaled_float negative whole part None = tt
scaled_float negative whole part (Some e) = tt

mantissa_float : (negative : Bool) (whole : List ℕ) (part : Option (List ℕ)) (e : Option ℤ) → OnFloat (mantissa negative whole part e)
mantissa_float negative whole None e = cond_both (are_digits 10 whole) _ _ OnFloat (λ b. scaled_float negative whole [] e) (λ b. tt)
mantissa_float negative whole (Some part) e =
    cond_both (list_all (λ c. is_digit c 10) whole && (list_all (λ c. is_digit c 10) part && not (is_empty whole && is_empty part))) _ _ OnFloat (λ b. scaled_float negative whole part e) (λ b. tt)

decimal_float : (x : List ℕ) → OnFloat (decimal_of x)
unfolding decimal_of
decimal_float x =
    let cut = split_at (λ c. c == 101 || c == 69) (unsigned x) in
    let number = split_at (λ c. c == 46) cut.0 in
    mantissa_float (is_negative x) number.0 number.1 (exponent_of cut.1)

pub float_kind : (x : List ℕ) → OnFloat (float_of x)
unfolding float_of
float_kind x =
    cond_both (one_of (codes ".nan" ∷ codes ".NaN" ∷ codes ".NAN" ∷ []) x) _ _ OnFloat (λ b. tt) (λ b.
    cond_both (one_of (codes ".inf" ∷ codes ".Inf" ∷ codes ".INF" ∷ []) (unsigned x)) _ _ OnFloat (λ c. tt) (λ c. decimal_float x))

-- ---- a finite float

-- a digit or a sign in front: none of the words
not_nan : (negative : Bool) (d : ℕ) (r : List ℕ) → one_of (codes ".nan" ∷ codes ".NaN" ∷ codes ".NAN" ∷ []) (sign_text negative ++ ((48 + d) ∷ r)) ≡ false
not_nan true d r = refl
not_nan false d r = rw (digit_no_dot d) refl

not_infinite : (d : ℕ) (r : List ℕ) → one_of (codes ".inf" ∷ codes ".Inf" ∷ codes ".INF" ∷ []) ((48 + d) ∷ r) ≡ false
not_infinite d r = rw (digit_no_dot d) refl

pub float_is : (negative : Bool) (d : ℕ) (r : List ℕ) → float_of (sign_text negative ++ ((48 + d) ∷ r)) ≡ decimal_of (sign_text negative ++ ((48 + d) ∷ r))
unfolding float_of
float_is negative d r = rw (not_nan negative d r, unsigned_back negative d r, not_infinite d r) refl

abbrev Again : List ℕ → Type 0
Again z = by_tag float_tag z ≡ Ok (float_tag, z)

zero_again : Again (48 ∷ [])
unfolding by_tag core_tag float_of decimal_of split_at content_of decimal_text
zero_again = refl

again_by : (z : List ℕ) (v : Value) → float_of z ≡ Some v → content_of v ≡ z → refused v ≡ None → Again z
unfolding by_tag core_tag
again_by z v e c h = rw e (ap (accepted float_tag v) h ∙ ap (λ y. Ok (float_tag, y)) c)

module _ (negative : Bool) (d : ℕ) (ds : List ℕ) (x : ℤ) (some : 0 < d) (below : AllBelowBase 10 (d ∷ ds)) (done : trimmed (d ∷ ds) ≡ d ∷ ds) where
  unfoldable pub number : ℕ
  number = number_from_digits 10 (d ∷ ds)

  digits_are : digits_of 10 number ≡ d ∷ ds
  unfolding number
  digits_are = digits_number d ds some below

  not_zero : (number == 0) ≡ false
  not_zero = ne_eqb number 0 (λ q. let e : [] ≡ d ∷ ds = ap (digits_of 10) (sym q) ∙ digits_are in absurd (cc))

  pub exponent_is : exponent number (x -ℤ pos (length ds)) ≡ x
  unfolding exponent
  exponent_is = ap (λ z. ((x -ℤ pos (length ds)) +ℤ pos (length z)) -ℤ pos 1) digits_are ∙ exponent_kept x (length ds)

  pub content_is : content_of (decimal_value negative number (x -ℤ pos (length ds))) ≡ sign_text negative ++ digits_text (d ∷ ds) x
  unfolding content_of decimal_text
  content_is = ap (λ b. cond b (48 ∷ []) (sign_text negative ++ digits_text (trimmed (digits_of 10 number)) (exponent number (x -ℤ pos (length ds))))) not_zero
      ∙ (λ i. sign_text negative ++ digits_text ((ap trimmed digits_are ∙ done) i) (exponent_is i))

  in_range : nat_le (nat_abs x) 1000000 ≡ true → refused (decimal_value negative number (x -ℤ pos (length ds))) ≡ None
  in_range h = ap (λ b. cond (b || nat_le (nat_abs (exponent number (x -ℤ pos (length ds)))) 1000000) None (Some float_range)) not_zero
      ∙ (ap (λ y. cond (nat_le (nat_abs y) 1000000) None (Some float_range)) exponent_is ∙ ap (λ b. cond b None (Some float_range)) h)

  decimal_again : nat_le (nat_abs x) 1000000 ≡ true → Again (sign_text negative ++ digits_text (d ∷ ds) x)
  unfolding number
  decimal_again h =
      again_by (sign_text negative ++ digits_text (d ∷ ds) x) (decimal_value negative number (x -ℤ pos (length ds)))
      (float_is negative d _ ∙ decimal_back negative d ds x below) content_is (in_range h)

range_of : (b c : Bool) → b ≡ false → cond (b || c) None (Some float_range) ≡ None → c ≡ true
range_of true c e h = absurd (cc)
range_of false true e h = refl
range_of false false e h = absurd (cc)

finite_again : (negative : Bool) (m : ℕ) (k : ℤ) → refused (decimal_value negative m k) ≡ None → Again (decimal_text negative m k)
unfolding decimal_text
finite_again negative m k h = cond_both (m == 0) _ _ Again (λ e. zero_again) (λ e. by (digits_of 10 m) refl e)
  where
    by : (ds : List ℕ) → digits_of 10 m ≡ ds → (m == 0) ≡ false → Again (sign_text negative ++ digits_text (trimmed (digits_of 10 m)) (exponent m k))
    by [] q e = let z : 0 ≡ m = ap (number_from_digits 10) (sym q) ∙ number_digits_of 10 m (omega arith) in absurd (eqb-false m 0 e (sym z))
    by (d ∷ ds) q e =
        let p : 0 < m = let n = eqb-false m 0 e in omega (arith, n) in
        let f : 0 < d = subst (λ z. 0 < get_or z 0 0) q (first_digits_of 10 m (omega arith) p) in
        let b : AllBelowBase 10 (d ∷ ds) = subst (AllBelowBase 10) q (all_below_base_digits_of 10 m (omega arith)) in
        let t = trimmed_first d ds f in
        let c : AllBelowBase 10 (d ∷ trimmed ds) = subst (AllBelowBase 10) t (trimmed_below (d ∷ ds) b) in
        let w : trimmed (d ∷ trimmed ds) ≡ d ∷ trimmed ds = ap trimmed (sym t) ∙ (trimmed_again (d ∷ ds) ∙ t) in
        let r = range_of (m == 0) (nat_le (nat_abs (exponent m k)) 1000000) e h in
        subst (λ z. Again (sign_text negative ++ digits_text z (exponent m k))) (sym (ap trimmed q ∙ t)) (decimal_again negative d (trimmed ds) (exponent m k) f c w r)

infinite_again : (negative : Bool) → Again (content_of (infinity negative))
unfolding by_tag core_tag float_of content_of
infinite_again true = refl
infinite_again false = refl

nan_again : Again (content_of not_a_number)
unfolding by_tag core_tag float_of content_of
nan_again = refl

value_again : (v : Value) → IsFloat v → refused v ≡ None → Again (content_of v)
unfolding content_of
value_again (decimal_value negative m k) i h = finite_again negative m k h
value_again (infinity negative) i h = infinite_again negative
value_again not_a_number i h = nan_again
value_again _ i h = absurd i

floats_back : FloatsBack
floats_back x v e h = value_again v (subst OnFloat e (float_kind x)) h

pub resolved_again : (w : WrittenTag) (y : Style) (x h z : List ℕ) → resolve w y x ≡ Ok (h, z) → resolve (full h) double z ≡ Ok (h, z)
resolved_again = resolve_again floats_back
