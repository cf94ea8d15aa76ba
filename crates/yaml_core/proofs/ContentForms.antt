-- Canonical content is of the one form of its tag, and each text of the form is canonical content.
use Rattle.std.proofs.Common.{◌≡◌, ◌<◌, ℕ, zero, suc, ◌+◌, ◌==◌, Bool, true, false, cond, not, ◌&&◌, ◌⊎◌, inl, inr, Some, List, [], ◌∷◌, ◌++◌, map, length, get_or, ℤ, pos, negsuc, ◌-ℤ◌, refl, sym, ◌∙◌, ap, subst, arith}
use Rattle.std.specs.Prelude.{codes}
use Rattle.std.proofs.lemmas.Bool.{cond_both, eqb-false, ne_eqb}
use Rattle.std.specs.List.{list_all}
use Rattle.std.specs.Char.{digit_value}
use Rattle.std.specs.Int.Digits.{digits_of, number_from_digits, AllBelowBase}
use Rattle.std.proofs.lemmas.Int.Digits.{all_below_base_digits_of, number_digits_of, first_digits_of}
use Rattle.yaml_definitions.specs.model.Tag.{core_tag, null_tag, bool_tag, int_tag, float_tag}
use Rattle.yaml_definitions.specs.model.Core.{Value, null_value, bool_value, int_value, decimal_value, infinity, not_a_number, number_in, is_empty, null_of, is_null, bool_of, int_of, float_of, decimal_of, as_int, split_at, natural_text, int_text, trimmed, point_text, exponent_text, exponent, digits_text, decimal_text, content_of, value_of}
use Rattle.yaml_definitions.proofs.Members.{and_both, both_and}
use Rattle.yaml_definitions.proofs.CoreLaws.{digit_back, digits_are, null_is, bool_is, int_is, int_back}
use Rattle.yaml_definitions.proofs.FloatLaws.{sign_text, trimmed_first, decimal_back}
use Rattle.yaml_definitions.proofs.ResolveLaws.{IsFloat, OnFloat, float_kind, float_is, number, exponent_is, content_is}
use Rattle.yaml_core.specs.State.{all_digits}
use Rattle.yaml_core.proofs.StateLemmas.{and_false}
use Rattle.yaml_core.proofs.IntLemmas.{digit_back as digit_is, digits_back, digits_low, natural_digits}
use Rattle.yaml_core.proofs.NumberLemmas.{digit_below}
use Rattle.yaml_core.proofs.CutLemmas.{other_last}
use Rattle.yaml_core.proofs.DecimalLemmas.{digits_join, trimmed_digits}
use Rattle.yaml_core.specs.CanonicalForms.{Pattern, ◌◆◌, maybe, one, any, digit, nonzero, bool_form, minus, counting, int_form, fraction, scale, decimal_form, float_form, OwnContent, NullForm, BoolForm, IntForm, FloatForm}

-- ---- numbers

digit_nonzero : (d : ℕ) → 0 < d → d < 10 → nonzero (48 + d) ≡ true
digit_nonzero d p l = both_and (digit (48 + d)) (not (48 + d == 48)) (digit_back d l).0 (ap not (ne_eqb (48 + d) 48 (λ q. omega arith)))

digits_counting : (ds : List ℕ) → 0 < get_or ds 0 0 → AllBelowBase 10 ds → counting (map (λ d. 48 + d) ds)
digits_counting [] p m = absurd (omega arith)
digits_counting (d ∷ ds) p m = ((48 + d) ∷ [], map (λ d. 48 + d) ds, (48 + d, digit_nonzero d p m.0, refl), digits_are ds m.1, refl)

natural_some : (n : ℕ) → (n == 0) ≡ false → natural_text n ≡ map (λ d. 48 + d) (digits_of 10 n)
unfolding natural_text
natural_some n e = rw e refl

pub natural_counting : (n : ℕ) → counting (natural_text (suc n))
natural_counting n =
    let first = first_digits_of 10 (suc n) (omega arith) (omega arith) in
    let below = all_below_base_digits_of 10 (suc n) (omega arith) in
    subst counting (sym (natural_some (suc n) (ne_eqb (suc n) 0 (λ q. omega arith)))) (digits_counting (digits_of 10 (suc n)) first below)

-- ---- the content of an int and of a float

-- the digits of a number other than 0 match N, or M after a minus sign
abbrev pub Numbered : (N M : Pattern) → ℤ → Type 0
Numbered N M (pos zero) = Unit {0}
Numbered N M (pos (suc n)) = N (natural_text (suc n))
Numbered N M (negsuc n) = M (natural_text (suc n))

pub int_has : (N M : Pattern) (n : ℤ) → Numbered N M n → int_form N M (int_text n)
unfolding int_text natural_text
int_has N M (pos zero) h = inl refl
int_has N M (pos (suc n)) h = inr (inl h)
int_has N M (negsuc n) h = inr (inr (45 ∷ [], natural_text (suc n), refl, h, refl))

digit_last : (d : ℕ) → d < 10 → (d == 0 && true) ≡ false → nonzero (48 + d) ≡ true
digit_last zero l e = absurd (cc)
digit_last (suc d) l e = digit_nonzero (suc d) (omega arith) l

-- what is left without the zeros at the end ends with another digit
last_nonzero : (ds : List ℕ) → AllBelowBase 10 ds → (trimmed ds ≡ []) ⊎ (any digit ◆ one nonzero) (map (λ d. 48 + d) (trimmed ds))
unfolding trimmed
last_nonzero [] m = inl refl
last_nonzero (d ∷ ds) m = by (trimmed ds) (last_nonzero ds m.1)
  where
    Last : List ℕ → Type 0
    Last es = (es ≡ []) ⊎ (any digit ◆ one nonzero) (map (λ d. 48 + d) es)

    by : (es : List ℕ) → Last es → Last (cond (d == 0 && is_empty es) [] (d ∷ es))
    by [] h = cond_both (d == 0 && true) [] (d ∷ []) Last (λ e. inl refl) (λ e. inr ([], (48 + d) ∷ [], refl, (48 + d, digit_last d m.0 e, refl), refl))
    by (e ∷ es) (inl q) = absurd (cc)
    by (e ∷ es) (inr h) = rw (and_false (d == 0)) (inr ((48 + d) ∷ h.0, h.1, both_and (digit (48 + d)) (list_all digit h.0) (digit_back d m.0).0 h.2, h.3, ap (λ z. (48 + d) ∷ z) h.4))

fraction_has : (ds : List ℕ) → AllBelowBase 10 ds → maybe fraction (point_text (trimmed ds))
fraction_has ds m = elim (last_nonzero ds m) [ inl e ↦ inl (ap point_text e) | inr h ↦ by (trimmed ds) h ]
  where
    by : (es : List ℕ) → (any digit ◆ one nonzero) (map (λ d. 48 + d) es) → maybe fraction (point_text es)
    by [] h = inl refl
    by (e ∷ es) h = inr (46 ∷ [], map (λ d. 48 + d) (e ∷ es), refl, h, refl)

scale_has : (N : Pattern) (x : ℤ) → Numbered N N x → maybe (scale N) (exponent_text x)
scale_has N (pos zero) h = inl refl
scale_has N (pos (suc n)) h = inr (101 ∷ [], 43 ∷ natural_text (suc n), refl, (43 ∷ [], natural_text (suc n), inl refl, h, refl), refl)
scale_has N (negsuc n) h = inr (101 ∷ [], 45 ∷ natural_text (suc n), refl, (45 ∷ [], natural_text (suc n), inr refl, h, refl), refl)

sign_has : (negative : Bool) → maybe minus (sign_text negative)
sign_has true = inr refl
sign_has false = inl refl

decimal_has : (N : Pattern) (negative : Bool) (m : ℕ) (k : ℤ) → ((m == 0) ≡ false → Numbered N N (exponent m k)) → float_form N (decimal_text negative m k)
unfolding decimal_text
decimal_has N negative m k h = cond_both (m == 0) _ _ (float_form N) (λ e. inl refl) (λ e. inr (inl (by (digits_of 10 m) refl e)))
  where
    by : (ds : List ℕ) → digits_of 10 m ≡ ds → (m == 0) ≡ false → decimal_form N (sign_text negative ++ digits_text (trimmed (digits_of 10 m)) (exponent m k))
    by [] q e = let z : 0 ≡ m = ap (number_from_digits 10) (sym q) ∙ number_digits_of 10 m (omega arith) in absurd (eqb-false m 0 e (sym z))
    by (d ∷ ds) q e =
        let n = eqb-false m 0 e in
        let f : 0 < d = subst (λ z. 0 < get_or z 0 0) q (first_digits_of 10 m (omega arith) (omega (arith, n))) in
        let b : AllBelowBase 10 (d ∷ ds) = subst (AllBelowBase 10) q (all_below_base_digits_of 10 m (omega arith)) in
        let t = trimmed_first d ds f in
        let x : ℤ = exponent m k in
        let r : List ℕ = point_text (trimmed ds) ++ exponent_text x in
        subst (λ z. decimal_form N (sign_text negative ++ digits_text z x)) (sym (ap trimmed q ∙ t)) (
          sign_text negative,
          (48 + d) ∷ r,
          sign_has negative,
          ((48 + d) ∷ [], r, (48 + d, digit_nonzero d f b.0, refl), (point_text (trimmed ds), exponent_text x, fraction_has ds b.1, scale_has N x (h e), refl), refl),
          refl,
        )

infinity_has : (N : Pattern) (negative : Bool) → float_form N (content_of (infinity negative))
unfolding content_of
infinity_has N true = inr (inr (inl (45 ∷ [], codes ".inf", inr refl, refl, refl)))
infinity_has N false = inr (inr (inl ([], codes ".inf", inl refl, refl, refl)))

-- what is asked of the exponent of a float
abbrev pub Scaled : Pattern → Value → Type 0
Scaled N (decimal_value negative m k) = (m == 0) ≡ false → Numbered N N (exponent m k)
Scaled N _ = Unit {0}

pub float_has : (N : Pattern) (v : Value) → IsFloat v → Scaled N v → float_form N (content_of v)
unfolding content_of
float_has N (decimal_value negative m k) i h = decimal_has N negative m k h
float_has N (infinity negative) i h = infinity_has N negative
float_has N not_a_number i h = inr (inr (inr refl))
float_has N null_value i h = absurd i
float_has N (bool_value b) i h = absurd i
float_has N (int_value n) i h = absurd i

pub bool_has : (b : Bool) → bool_form (content_of (bool_value b))
unfolding content_of
bool_has true = inl refl
bool_has false = inr refl

-- no limit: the numbers of every value match

numbered_counting : (n : ℤ) → Numbered counting counting n
numbered_counting (pos zero) = tt
numbered_counting (pos (suc n)) = natural_counting n
numbered_counting (negsuc n) = natural_counting n

scaled_counting : (v : Value) → Scaled counting v
scaled_counting (decimal_value negative m k) = λ h. numbered_counting (exponent m k)
scaled_counting (infinity negative) = tt
scaled_counting not_a_number = tt
scaled_counting null_value = tt
scaled_counting (bool_value b) = tt
scaled_counting (int_value n) = tt

-- ---- each text of the form is the content of what it denotes

own : (g x : List ℕ) (v : Value) → value_of g (content_of v) ≡ Some v → x ≡ content_of v → OwnContent g x
own g x v e h = (v, ap (value_of g) h ∙ e, h)

pub null_own : value_of null_tag (content_of null_value) ≡ Some null_value
unfolding value_of core_tag null_of is_null content_of
null_own = refl

pub bool_own : (b : Bool) → value_of bool_tag (content_of (bool_value b)) ≡ Some (bool_value b)
unfolding value_of core_tag bool_of content_of
bool_own true = refl
bool_own false = refl

pub int_own : (n : ℤ) → value_of int_tag (content_of (int_value n)) ≡ Some (int_value n)
unfolding value_of core_tag content_of
int_own n = ap as_int (int_back n)

infinity_own : (negative : Bool) → value_of float_tag (content_of (infinity negative)) ≡ Some (infinity negative)
unfolding value_of core_tag float_of content_of
infinity_own true = refl
infinity_own false = refl

nan_own : value_of float_tag (content_of not_a_number) ≡ Some not_a_number
unfolding value_of core_tag float_of content_of
nan_own = refl

infinity_content : (negative : Bool) → sign_text negative ++ codes ".inf" ≡ content_of (infinity negative)
unfolding content_of
infinity_content true = refl
infinity_content false = refl

nan_content : codes ".nan" ≡ content_of not_a_number
unfolding content_of
nan_content = refl

zero_own : value_of float_tag (content_of (decimal_value false 0 (pos 0))) ≡ Some (decimal_value false 0 (pos 0))
unfolding value_of core_tag float_of decimal_of split_at content_of decimal_text
zero_own = refl

zero_content : codes "0" ≡ content_of (decimal_value false 0 (pos 0))
unfolding content_of decimal_text
zero_content = refl

not_yes : (b : Bool) → not b ≡ true → b ≡ false
not_yes true h = absurd (cc)
not_yes false h = refl

counting_parts : (x : List ℕ) → counting x → (c : ℕ) × (z : List ℕ) × (digit c ≡ true) × ((c == 48) ≡ false) × (all_digits 10 z ≡ true) × (x ≡ c ∷ z)
counting_parts x h =
    let c = h.2.0 in
    let p = and_both (digit c) (not (c == 48)) h.2.1 in
    (c, h.1, p.0, not_yes (c == 48) p.1, h.3, h.4 ∙ ap (λ y. y ++ h.1) h.2.2)

-- the text of a number above 0
counting_natural : (x : List ℕ) → counting x → (n : ℕ) × (number_in 10 x ≡ suc n) × (natural_text (suc n) ≡ x)
unfolding natural_text
counting_natural x h =
    let p = counting_parts x h in
    by (number_in 10 x) refl (natural p.0 p.1 p.2 p.3 p.4 p.5)
  where
    natural : (c : ℕ) (z : List ℕ) → digit c ≡ true → (c == 48) ≡ false → all_digits 10 z ≡ true → x ≡ c ∷ z → natural_text (number_in 10 x) ≡ x
    natural c z d n a e = subst (λ y. natural_text (number_in 10 y) ≡ y) (sym e) (natural_digits (c ∷ z) (both_and (digit c) (all_digits 10 z) d a) n (λ q. cc))

    by : (n : ℕ) → number_in 10 x ≡ n → natural_text (number_in 10 x) ≡ x → (m : ℕ) × (number_in 10 x ≡ suc m) × (natural_text (suc m) ≡ x)
    by zero q e =
        let p = counting_parts x h in
        let f : 48 ∷ [] ≡ p.0 ∷ p.1 = sym (ap natural_text q) ∙ (e ∙ p.5) in
        absurd (let g : true ≡ false = ap (λ y. get_or y 0 0 == 48) f ∙ p.3 in cc)
    by (suc n) q e = (n, q, sym (ap natural_text q) ∙ e)

pub int_parts : (N M : Pattern) → ((x : List ℕ) → N x → counting x) → ((x : List ℕ) → M x → counting x) → (x : List ℕ) → int_form N M x
    → (n : ℤ) × (x ≡ content_of (int_value n)) × Numbered N M n
unfolding content_of int_text natural_text
int_parts N M f g x (inl e) = (pos zero, e, tt)
int_parts N M f g x (inr (inl h)) = let n = counting_natural x (f x h) in (pos (suc n.0), sym n.2, subst N (sym n.2) h)
int_parts N M f g x (inr (inr h)) =
    let n = counting_natural h.1 (g h.1 h.3) in
    (negsuc n.0, h.4 ∙ (ap (λ y. y ++ h.1) h.2 ∙ ap (λ y. 45 ∷ y) (sym n.2)), subst M (sym n.2) h.3)

point_some : (ds : List ℕ) → (ds ≡ [] → ⊥) → point_text ds ≡ 46 ∷ map (λ d. 48 + d) ds
point_some [] h = absurd (h refl)
point_some (d ∷ ds) h = refl

not_empty : (a : List ℕ) (c : ℕ) → map digit_value (a ++ (c ∷ [])) ≡ [] → ⊥
not_empty [] c e = cc
not_empty (d ∷ a) c e = cc

-- the digits after the point
fraction_parts : (x : List ℕ) → maybe fraction x → (ds : List ℕ) × AllBelowBase 10 ds × (trimmed ds ≡ ds) × (x ≡ point_text ds)
unfolding trimmed
fraction_parts x (inl e) = ([], tt, refl, e)
fraction_parts x (inr (p, r, e, h, q)) =
    let a : List ℕ = h.0 in
    let c : ℕ = h.3.0 in
    let y : List ℕ = a ++ (c ∷ []) in
    let n = and_both (digit c) (not (c == 48)) h.3.1 in
    let all : all_digits 10 y ≡ true = digits_join a (c ∷ []) h.2 (both_and (digit c) true n.0 refl) in
    let is : r ≡ y = h.4 ∙ ap (λ z. a ++ z) h.3.2 in (
      map digit_value y,
      digits_low y all,
      trimmed_digits y all ∙ ap (map digit_value) (other_last a c (not_yes (c == 48) n.1)),
      q ∙ (ap (λ z. z ++ r) e ∙ (ap (λ z. 46 ∷ z) (is ∙ sym (digits_back y all)) ∙ sym (point_some (map digit_value y) (not_empty a c)))),
    )

module _ (N : Pattern) (counts : (x : List ℕ) → N x → counting x) where
  scale_parts : (x : List ℕ) → maybe (scale N) x → (e : ℤ) × (x ≡ exponent_text e) × Numbered N N e
  scale_parts x (inl e) = (pos zero, e, tt)
  scale_parts x (inr (p, r, e, (s, y, inl m, h, k), q)) =
      let n = counting_natural y (counts y h) in
      (pos (suc n.0), q ∙ (ap (λ z. z ++ r) e ∙ ap (λ z. 101 ∷ z) (k ∙ (ap (λ z. z ++ y) m ∙ ap (λ z. 43 ∷ z) (sym n.2)))), subst N (sym n.2) h)
  scale_parts x (inr (p, r, e, (s, y, inr m, h, k), q)) =
      let n = counting_natural y (counts y h) in
      (negsuc n.0, q ∙ (ap (λ z. z ++ r) e ∙ ap (λ z. 101 ∷ z) (k ∙ (ap (λ z. z ++ y) m ∙ ap (λ z. 45 ∷ z) (sym n.2)))), subst N (sym n.2) h)

  sign_parts : (x : List ℕ) → maybe minus x → (negative : Bool) × (x ≡ sign_text negative)
  sign_parts x (inl e) = (false, e)
  sign_parts x (inr e) = (true, e)

  -- the content of a float that is denoted by it, with an exponent that matches N
  abbrev pub Own : List ℕ → Type 0
  Own x = (v : Value) × (value_of float_tag (content_of v) ≡ Some v) × (x ≡ content_of v) × Scaled N v

  decimal_own : (negative : Bool) (d : ℕ) (ds : List ℕ) (e : ℤ) → 0 < d → AllBelowBase 10 (d ∷ ds) → trimmed (d ∷ ds) ≡ d ∷ ds → Numbered N N e → Own (sign_text negative ++ digits_text (d ∷ ds) e)
  unfolding value_of core_tag number
  decimal_own negative d ds e p m t h =
      let v : Value = decimal_value negative (number negative d ds e p m t) (e -ℤ pos (length ds)) in
      let c = content_is negative d ds e p m t in
      (v, ap float_of c ∙ (float_is negative d (point_text ds ++ exponent_text e) ∙ decimal_back negative d ds e m), sym c, λ z. subst (Numbered N N) (sym (exponent_is negative d ds e p m t)) h)

  decimal_parts : (x : List ℕ) → decimal_form N x → Own x
  decimal_parts x (s, r, hs, (y, z, (c, hc, ec), (f, t, hf, ht, et), er), ex) =
      let n = and_both (digit c) (not (c == 48)) hc in
      let b = digit_is c n.0 in
      let k = eqb-false c 48 (not_yes (c == 48) n.1) in
      let d : ℕ = digit_value c in
      let sign = sign_parts s hs in
      let part = fraction_parts f hf in
      let power = scale_parts t ht in
      let p : 0 < d = omega (arith, b, k) in
      let m : AllBelowBase 10 (d ∷ part.0) = (digit_below c 10 n.0, part.1) in
      let is : x ≡ sign_text sign.0 ++ ((48 + d) ∷ (point_text part.0 ++ exponent_text power.0)) =
      ex ∙ ((λ i. sign.1 i ++ (er ∙ (λ j. ec j ++ et j)) i) ∙ (λ i. sign_text sign.0 ++ (sym b i ∷ (part.3 i ++ power.1 i)))) in
      subst Own (sym is)
      (decimal_own sign.0 d part.0 power.0 p m (trimmed_first d part.0 p ∙ ap (λ q. d ∷ q) part.2) power.2)

  pub float_parts : (x : List ℕ) → float_form N x → Own x
  float_parts x (inl e) = (decimal_value false 0 (pos 0), zero_own, e ∙ zero_content, λ z. absurd (cc))
  float_parts x (inr (inl h)) = decimal_parts x h
  float_parts x (inr (inr (inl (s, y, h, e, q)))) =
      let sign = sign_parts s h in
      (infinity sign.0, infinity_own sign.0, q ∙ ((λ i. sign.1 i ++ e i) ∙ infinity_content sign.0), tt)
  float_parts x (inr (inr (inr e))) = (not_a_number, nan_own, e ∙ nan_content, tt)

-- ---- the laws of every value

pub null_form_is : NullForm
unfolding value_of core_tag content_of
null_form_is x = (λ t. t.3 ∙ ap content_of (null_is t.0 t.1 t.2), own null_tag x null_value null_own)

pub bool_form_is : BoolForm
unfolding value_of core_tag content_of
bool_form_is x = (
  λ t. let b = bool_is (bool_of t.0) t.1 t.2 in subst bool_form (sym (t.3 ∙ ap content_of b.1)) (bool_has b.0),
  λ h. elim h [ inl e ↦ own bool_tag x (bool_value true) (bool_own true) e | inr e ↦ own bool_tag x (bool_value false) (bool_own false) e ],
)

pub int_form_is : IntForm
unfolding value_of core_tag content_of
int_form_is x = (
  λ t. let n = int_is (int_of t.0) t.1 t.2 in subst (int_form counting counting) (sym (t.3 ∙ ap content_of n.1)) (int_has counting counting n.0 (numbered_counting n.0)),
  λ h. let n = int_parts counting counting (λ y k. k) (λ y k. k) x h in own int_tag x (int_value n.0) (int_own n.0) n.1,
)

pub float_form_is : FloatForm
unfolding value_of core_tag
float_form_is x = (
  λ t. subst (float_form counting) (sym t.3) (float_has counting t.1 (subst OnFloat t.2 (float_kind t.0)) (scaled_counting t.1)),
  λ h. let v = float_parts counting (λ y k. k) x h in own float_tag x v.0 v.1 v.2,
)
