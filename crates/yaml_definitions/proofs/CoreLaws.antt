-- Canonical content denotes the value that it stands for.
use Rattle.std.proofs.Common.{◌≡◌, ◌<◌, ℕ, suc, ◌+◌, ◌==◌, Bool, true, false, cond, ◌||◌, ◌⊎◌, inl, inr, Option, Some, None, Result, Ok, Err, List, [], ◌∷◌, map, ℤ, pos, negsuc, neg_ℤ, refl, sym, ◌∙◌, ap, subst, arith}
use Rattle.std.proofs.lemmas.Bool.{cond_both, eqb-true, eqb-false, ne_eqb}
use Rattle.std.proofs.lemmas.Bool.Decides.{nat_tests}
use Rattle.std.specs.List.{list_all}
use Rattle.std.specs.Char.{is_digit, digit_value}
use Rattle.std.specs.Int.Digits.{digits_of, number_from_digits, AllBelowBase}
use Rattle.std.proofs.lemmas.Int.Digits.{all_below_base_digits_of, number_digits_of}
use lib.Pointwise.{bytes_decides}
use Rattle.std.specs.Prelude.{bytes_eq}
use Rattle.yaml_definitions.specs.model.Event.{Style, plain, single, double, literal, folded, WrittenTag, untagged, non_specific, full}
use Rattle.yaml_definitions.specs.model.Tag.{core_tag, null_tag, bool_tag, int_tag, float_tag, str_tag, seq_tag, map_tag}
use Rattle.yaml_definitions.specs.model.Core.{Cause, wrong_kind, bad_content, Value, null_value, bool_value, int_value, are_digits, number_in, unsigned, is_negative, int_of, bool_of, is_null, null_of, float_of, as_bool, as_int, natural_text, int_text, content_of, refused, Resolved, accepted, by_pattern, by_table, by_tag, resolve}
use Rattle.yaml_definitions.proofs.Members.{both_and}

-- the text of one or more decimal digits, which are worth n
pub record Digital (n : ℕ) (x : List ℕ) : Type 0 where
  pub first : ℕ
  pub later : List ℕ
  pub is : x ≡ map (λ d. 48 + d) (first ∷ later)
  pub below : AllBelowBase 10 (first ∷ later)
  pub worth : number_from_digits 10 (first ∷ later) ≡ n

pub natural_digital : (n : ℕ) → Digital n (natural_text n)
unfolding natural_text
natural_digital n = cond_both (n == 0) _ _ (Digital n) (λ e. record { first = 0; later = []; is = refl; below = (omega arith, tt); worth = sym (eqb-true n 0 e) }) (λ e. by (digits_of 10 n) refl e)
  where
    by : (ds : List ℕ) → digits_of 10 n ≡ ds → (n == 0) ≡ false → Digital n (map (λ d. 48 + d) (digits_of 10 n))
    by [] q e =
        let z : 0 ≡ n = ap (number_from_digits 10) (sym q) ∙ number_digits_of 10 n (omega arith) in
        absurd (eqb-false n 0 e (sym z))
    by (d ∷ ds) q e = record {
      first = d;
      later = ds;
      is = ap (map (λ d. 48 + d)) q;
      below = subst (AllBelowBase 10) q (all_below_base_digits_of 10 n (omega arith));
      worth = ap (number_from_digits 10) (sym q) ∙ number_digits_of 10 n (omega arith);
    }

pub digit_back : (d : ℕ) → d < 10 → (is_digit (48 + d) 10 ≡ true) × (digit_value (48 + d) ≡ d)
digit_back d l = (grind (arith, nat_tests), grind (arith, nat_tests))

pub digits_are : (ds : List ℕ) → AllBelowBase 10 ds → list_all (λ c. is_digit c 10) (map (λ d. 48 + d) ds) ≡ true
digits_are [] m = refl
digits_are (d ∷ ds) m = both_and (is_digit (48 + d) 10) (list_all (λ c. is_digit c 10) (map (λ d. 48 + d) ds)) (digit_back d m.0).0 (digits_are ds m.1)

pub digits_worth : (ds : List ℕ) → AllBelowBase 10 ds → map digit_value (map (λ d. 48 + d) ds) ≡ ds
digits_worth [] m = refl
digits_worth (d ∷ ds) m = let p = (digit_back d m.0).1 in let q = digits_worth ds m.1 in λ z. p z ∷ q z

pub sign_no : (d : ℕ) → (48 + d == 43 || 48 + d == 45) ≡ false
sign_no d = grind (arith, nat_tests)

pub minus_no : (d : ℕ) → (48 + d == 45) ≡ false
minus_no d = ne_eqb (48 + d) 45 (λ q. omega arith)

module _ (n : ℕ) (x : List ℕ) (g : Digital n x) where
  pub digital_digits : are_digits 10 x ≡ true
  digital_digits = ap (are_digits 10) g.is ∙ digits_are (g.first ∷ g.later) g.below

  pub digital_number : number_in 10 x ≡ n
  digital_number = ap (number_in 10) g.is ∙ (ap (number_from_digits 10) (digits_worth (g.first ∷ g.later) g.below) ∙ g.worth)

  digital_unsigned : unsigned x ≡ x
  digital_unsigned = ap unsigned g.is ∙ (ap (λ b. cond b (map (λ d. 48 + d) g.later) ((48 + g.first) ∷ map (λ d. 48 + d) g.later)) (sign_no g.first) ∙ sym g.is)

  digital_positive : is_negative x ≡ false
  digital_positive = ap is_negative g.is ∙ minus_no g.first

  pub digital_int : int_of x ≡ Some (pos n)
  unfolding int_of
  digital_int = rw (digital_unsigned, digital_digits, digital_positive, digital_number) refl

  pub minus_int : int_of (45 ∷ x) ≡ Some (neg_ℤ (pos n))
  unfolding int_of
  minus_int = rw (digital_digits, digital_number) refl

pub int_back : (n : ℤ) → int_of (int_text n) ≡ Some n
unfolding int_text
int_back (pos n) = digital_int n (natural_text n) (natural_digital n)
int_back (negsuc n) = minus_int (suc n) (natural_text (suc n)) (natural_digital (suc n))

-- ---- what resolving gives, it gives again under the tag that it gave

abbrev Again : List ℕ → List ℕ → Type 0
Again g z = by_tag g z ≡ Ok (g, z)

-- the canonical content of a float in range is that of a float with this content
abbrev pub FloatsBack : Type 0
FloatsBack = (x : List ℕ) (v : Value) → float_of x ≡ Some v → refused v ≡ None → Again float_tag (content_of v)

pub ok_first : {A B E : Type 0} (a c : A) (b d : B) → ◌≡◌ {A = Result (A × B) E} (Ok (a, b)) (Ok (c, d)) → (a ≡ c) × (b ≡ d)
ok_first {A} {B} a c b d e = let q : ◌≡◌ {A = A × B} (a, b) (c, d) = cc in (ap (λ p. p.0) q, ap (λ p. p.1) q)

abbrev pub Taken : List ℕ → Option Value → List ℕ → List ℕ → Type 0
Taken g o h z = (v : Value) × (o ≡ Some v) × (h ≡ g) × (z ≡ content_of v) × (refused v ≡ None)

pub taken_parts : (g : List ℕ) (v : Value) (h z : List ℕ) (o : Option Cause) → refused v ≡ o → accepted g v o ≡ Ok (h, z) → (h ≡ g) × (z ≡ content_of v) × (refused v ≡ None)
taken_parts g v h z None q e = let p = ok_first g h (content_of v) z e in (sym p.0, sym p.1, q)
taken_parts g v h z (Some c) q e = absurd (cc)

pub pattern_parts : (g : List ℕ) (o : Option Value) (or : Resolved) (h z : List ℕ) → by_pattern g o or ≡ Ok (h, z) → Taken g o h z ⊎ (or ≡ Ok (h, z))
pattern_parts g None or h z e = inr e
pattern_parts g (Some v) or h z e = let p = taken_parts g v h z (refused v) refl e in inl (v, refl, p.0, p.1, p.2)

pub null_is : (x : List ℕ) (v : Value) → null_of x ≡ Some v → v ≡ null_value
unfolding null_of
null_is x v = cond_both (is_null x) _ _ (λ o. o ≡ Some v → v ≡ null_value) (λ e q. cc) (λ e q. cc)

pub bool_is : (o : Option Bool) (v : Value) → as_bool o ≡ Some v → (b : Bool) × (v ≡ bool_value b)
bool_is None v e = absurd (cc)
bool_is (Some b) v e = (b, cc)

pub int_is : (o : Option ℤ) (v : Value) → as_int o ≡ Some v → (n : ℤ) × (v ≡ int_value n)
int_is None v e = absurd (cc)
int_is (Some n) v e = (n, cc)

null_again : Again null_tag (content_of null_value)
unfolding by_tag core_tag null_of is_null content_of
null_again = refl

bool_again : (b : Bool) → Again bool_tag (content_of (bool_value b))
unfolding by_tag core_tag bool_of content_of
bool_again true = refl
bool_again false = refl

int_again : (n : ℤ) → refused (int_value n) ≡ None → Again int_tag (content_of (int_value n))
unfolding by_tag core_tag content_of
int_again n h = rw (int_back n) (ap (accepted int_tag (int_value n)) h)

str_again : (x : List ℕ) → Again str_tag x
unfolding by_tag core_tag
str_again x = refl

move : (g h y z : List ℕ) → h ≡ g → z ≡ y → Again g y → Again h z
move g h y z p q a = subst (λ t. Again t z) (sym p) (subst (Again g) (sym q) a)

pub wrong : (h z : List ℕ) (c : Cause) → ◌≡◌ {A = Resolved} (Err c) (Ok (h, z)) → ⊥
wrong h z c e = cc

module _ (floats : FloatsBack) where
  null_taken : (x h z : List ℕ) → Taken null_tag (null_of x) h z → Again h z
  null_taken x h z t = move null_tag h (content_of null_value) z t.2 (t.3 ∙ ap content_of (null_is x t.0 t.1)) null_again

  bool_taken : (x h z : List ℕ) → Taken bool_tag (as_bool (bool_of x)) h z → Again h z
  bool_taken x h z t = let p = bool_is (bool_of x) t.0 t.1 in move bool_tag h (content_of (bool_value p.0)) z t.2 (t.3 ∙ ap content_of p.1) (bool_again p.0)

  int_taken : (x h z : List ℕ) → Taken int_tag (as_int (int_of x)) h z → Again h z
  int_taken x h z t = let p = int_is (int_of x) t.0 t.1 in
      move int_tag h (content_of (int_value p.0)) z t.2 (t.3 ∙ ap content_of p.1) (int_again p.0 (ap refused (sym p.1) ∙ t.4))

  float_taken : (x h z : List ℕ) → Taken float_tag (float_of x) h z → Again h z
  float_taken x h z t = move float_tag h (content_of t.0) z t.2 t.3 (floats x t.0 t.1 t.4)

  str_taken : (x h z : List ℕ) → ◌≡◌ {A = Resolved} (Ok (str_tag, x)) (Ok (h, z)) → Again h z
  str_taken x h z e = let p = ok_first str_tag h x z e in move str_tag h x z (sym p.0) (sym p.1) (str_again x)

  table_again : (x h z : List ℕ) → by_table x ≡ Ok (h, z) → Again h z
  unfolding by_table
  table_again x h z e =
      elim (pattern_parts null_tag (null_of x) _ h z e) [
        | inl t ↦ null_taken x h z t
        | inr e1 ↦
            elim (pattern_parts bool_tag (as_bool (bool_of x)) _ h z e1) [
              | inl t ↦ bool_taken x h z t
              | inr e2 ↦
                  elim (pattern_parts int_tag (as_int (int_of x)) _ h z e2) [
                    | inl t ↦ int_taken x h z t
                    | inr e3 ↦
                        elim (pattern_parts float_tag (float_of x) _ h z e3) [ inl t ↦ float_taken x h z t | inr e4 ↦ str_taken x h z e4 ]
                  ]
            ]
      ]

  abbrev Step : List ℕ → List ℕ → List ℕ → Resolved → Type 0
  Step x h z r = r ≡ Ok (h, z) → Again h z

  tag_again : (g x h z : List ℕ) → by_tag g x ≡ Ok (h, z) → Again h z
  unfolding by_tag
  tag_again g x h z =
      let none : (c : Cause) → ◌≡◌ {A = Resolved} (Err c) (Ok (h, z)) → Again h z = λ c e. absurd (wrong h z c e) in
      cond_both (bytes_eq g null_tag) _ _ (Step x h z) (λ b e. elim (pattern_parts g (null_of x) _ h z e) [ inl t ↦ null_taken x h z (t.0, t.1, t.2 ∙ (bytes_decides g null_tag).0 b, t.3, t.4) | inr f ↦ none bad_content f ]) (λ n0.
      cond_both (bytes_eq g bool_tag) _ _ (Step x h z) (λ b e. elim (pattern_parts g (as_bool (bool_of x)) _ h z e) [ inl t ↦ bool_taken x h z (t.0, t.1, t.2 ∙ (bytes_decides g bool_tag).0 b, t.3, t.4) | inr f ↦ none bad_content f ]) (λ n1.
      cond_both (bytes_eq g int_tag) _ _ (Step x h z) (λ b e. elim (pattern_parts g (as_int (int_of x)) _ h z e) [ inl t ↦ int_taken x h z (t.0, t.1, t.2 ∙ (bytes_decides g int_tag).0 b, t.3, t.4) | inr f ↦ none bad_content f ]) (λ n2.
      cond_both (bytes_eq g float_tag) _ _ (Step x h z) (λ b e. elim (pattern_parts g (float_of x) _ h z e) [ inl t ↦ float_taken x h z (t.0, t.1, t.2 ∙ (bytes_decides g float_tag).0 b, t.3, t.4) | inr f ↦ none bad_content f ]) (λ n3.
      cond_both (bytes_eq g seq_tag || bytes_eq g map_tag) _ _ (Step x h z) (λ b e. none wrong_kind e)
      (λ n4 e. let p = ok_first g h x z e in subst (λ t. by_tag t z ≡ Ok (t, z)) p.0 (rw (n0, n1, n2, n3, n4) refl))))))

  pub resolve_again : (w : WrittenTag) (y : Style) (x h z : List ℕ) → resolve w y x ≡ Ok (h, z) → resolve (full h) double z ≡ Ok (h, z)
  unfolding resolve
  resolve_again untagged plain x h z e = table_again x h z e
  resolve_again untagged single x h z e = str_taken x h z e
  resolve_again untagged double x h z e = str_taken x h z e
  resolve_again untagged literal x h z e = str_taken x h z e
  resolve_again untagged folded x h z e = str_taken x h z e
  resolve_again non_specific y x h z e = str_taken x h z e
  resolve_again (full g) y x h z e = tag_again g x h z e
