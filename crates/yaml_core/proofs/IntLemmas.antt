-- The content and the range of an int, by its digits.
use Rattle.std.proofs.Common.{◌≡◌, ◌<◌, ◌≤◌, ℕ, zero, suc, ◌+◌, ◌-◌, ◌^◌, ◌==◌, nat_lt, Bool, true, false, cond, Option, Some, None, Result, Ok, Err, List, [], ◌∷◌, map, length, pos, refl, sym, ◌∙◌, ap, subst, arith}
use Rattle.std.specs.Prelude.{MatchOption, MatchResult, is_some}
use Rattle.std.proofs.lemmas.Bool.{cond_both, eqb-true, eqb-false, ne_eqb}
use Rattle.std.proofs.lemmas.Bool.Decides.{nat_tests}
use Rattle.std.specs.Char.{is_digit, digit_value}
use Rattle.std.specs.Str.{IsAscii}
use Rattle.std.specs.Int.Digits.{digits_of, AllBelowBase}
use Rattle.yaml_definitions.specs.model.Core.{int_range, int_value, are_digits, number_in, unsigned, is_negative, signed, natural_text, int_text, content_of, Value, refused}
use Rattle.yaml_definitions.proofs.FloatLaws.{digits_number}
use Rattle.yaml_definitions.proofs.Members.{and_both}
use Rattle.yaml_core.specs.CoreAnswer.{IsContent, RefusesValue}
use Rattle.yaml_core.specs.Values.{decimal_int}
use Rattle.yaml_core.specs.declared.fault.CoreFault.{CoreFault}
use Rattle.yaml_core.specs.declared.fault.CoreFault.TheVariants as faults
use Rattle.yaml_core.specs.State.{all_digits}
use Rattle.yaml_core.specs.Digits.{without_zeros, most_of}
use Rattle.yaml_core.proofs.NumberLemmas.{digit_below}

-- ---- digits

pub are_all : (base : ℕ) (x : List ℕ) → are_digits base x ≡ true → all_digits base x ≡ true
are_all base [] h = absurd (cc)
are_all base (c ∷ x) h = h

digit_ascii : (c : ℕ) → is_digit c 10 ≡ true → c < 128
digit_ascii c h = grind (arith, nat_tests)

pub digits_ascii : (x : List ℕ) → all_digits 10 x ≡ true → IsAscii x
digits_ascii [] h i = omega arith
digits_ascii (c ∷ x) h zero = digit_ascii c (and_both (is_digit c 10) (all_digits 10 x) h).0
digits_ascii (c ∷ x) h (suc i) = digits_ascii x (and_both (is_digit c 10) (all_digits 10 x) h).1 i

pub digit_back : (c : ℕ) → is_digit c 10 ≡ true → 48 + digit_value c ≡ c
digit_back c h = grind (arith, nat_tests)

pub digits_back : (x : List ℕ) → all_digits 10 x ≡ true → map (λ d. 48 + d) (map digit_value x) ≡ x
digits_back [] h = refl
digits_back (c ∷ x) h =
    let p = and_both (is_digit c 10) (all_digits 10 x) h in
    let q = digit_back c p.0 in
    let r = digits_back x p.1 in
    λ i. q i ∷ r i

pub digits_low : (x : List ℕ) → all_digits 10 x ≡ true → AllBelowBase 10 (map digit_value x)
digits_low [] h = tt
digits_low (c ∷ x) h = let p = and_both (is_digit c 10) (all_digits 10 x) h in (digit_below c 10 p.0, digits_low x p.1)

-- ---- without the zeros in front

pub stripped_digits : (x : List ℕ) → all_digits 10 x ≡ true → all_digits 10 (without_zeros x) ≡ true
unfolding without_zeros
stripped_digits [] h = h
stripped_digits (c ∷ x) h = cond_both (c == 48) _ _ (λ z. all_digits 10 z ≡ true) (λ e. stripped_digits x (and_both (is_digit c 10) (all_digits 10 x) h).1) (λ e. h)

pub stripped_number : (x : List ℕ) → number_in 10 (without_zeros x) ≡ number_in 10 x
unfolding without_zeros
stripped_number [] = refl
stripped_number (c ∷ x) =
    cond_both (c == 48) _ _ (λ z. number_in 10 z ≡ number_in 10 (c ∷ x)) (λ e. stripped_number x ∙ ap (λ z. number_in 10 (z ∷ x)) (sym (eqb-true c 48 e))) (λ e. refl)

-- a text that begins with no zero
abbrev pub Leads : List ℕ → Type 0
Leads [] = Unit {0}
Leads (c ∷ x) = (c == 48) ≡ false

pub stripped_leads : (x : List ℕ) → Leads (without_zeros x)
unfolding without_zeros
stripped_leads [] = tt
stripped_leads (c ∷ x) = cond_both (c == 48) _ _ Leads (λ e. stripped_leads x) (λ e. e)

digit_some : (c : ℕ) → is_digit c 10 ≡ true → (c == 48) ≡ false → 0 < digit_value c
digit_some c h e = let b = digit_back c h in let n = eqb-false c 48 e in omega (arith, n)

pub natural_digits : (y : List ℕ) → all_digits 10 y ≡ true → Leads y → (y ≡ [] → ⊥) → natural_text (number_in 10 y) ≡ y
unfolding natural_text
natural_digits [] h l n = absurd (n refl)
natural_digits (c ∷ y) h l n =
    let p = and_both (is_digit c 10) (all_digits 10 y) h in
    let s = digit_some c p.0 l in
    let d = digits_number (digit_value c) (map digit_value y) s (digits_low (c ∷ y) h) in
    let z : (number_in 10 (c ∷ y) == 0) ≡ false = ne_eqb (number_in 10 (c ∷ y)) 0 (λ q. let e : [] ≡ map digit_value (c ∷ y) = ap (digits_of 10) (sym q) ∙ d in absurd (cc)) in
    rw z (ap (map (λ d. 48 + d)) d ∙ digits_back (c ∷ y) h)

stripped_short : (x : List ℕ) → length (without_zeros x) ≤ length x
unfolding without_zeros
stripped_short [] = omega arith
stripped_short (c ∷ x) = let i = stripped_short x in cond_both (c == 48) (without_zeros x) (c ∷ x) (λ z. length z ≤ suc (length x)) (λ e. omega arith) (λ e. omega arith)

pub stripped_all : (x : List ℕ) → length (without_zeros x) ≡ length x → without_zeros x ≡ x
unfolding without_zeros
stripped_all [] h = refl
stripped_all (c ∷ x) h = let i = stripped_short x in cond_both (c == 48) (without_zeros x) (c ∷ x) (λ z. length z ≡ suc (length x) → z ≡ c ∷ x) (λ e g. absurd (omega arith)) (λ e g. refl) h

pub stripped_natural : (x : List ℕ) → all_digits 10 x ≡ true → (without_zeros x ≡ [] → ⊥) → natural_text (number_in 10 x) ≡ without_zeros x
stripped_natural x h n = ap natural_text (sym (stripped_number x)) ∙ natural_digits (without_zeros x) (stripped_digits x h) (stripped_leads x) n

-- ---- signs

pub negative_text : (x : List ℕ) → is_negative x ≡ true → x ≡ 45 ∷ unsigned x
negative_text [] h = absurd (cc)
negative_text (c ∷ x) h = let e : c ≡ 45 = eqb-true c 45 h in (λ i. e i ∷ x) ∙ ap (λ z. 45 ∷ unsigned (z ∷ x)) (sym e)

int_positive : (n : ℕ) → content_of (int_value (signed false n)) ≡ natural_text n
unfolding content_of int_text
int_positive n = refl

int_negative : (n : ℕ) → 0 < n → content_of (int_value (signed true n)) ≡ 45 ∷ natural_text n
unfolding content_of int_text
int_negative zero h = absurd (omega arith)
int_negative (suc n) h = refl

int_zero : (negative : Bool) → content_of (int_value (signed negative 0)) ≡ 48 ∷ []
unfolding content_of int_text natural_text
int_zero true = refl
int_zero false = refl

-- ---- range

pub in_range : (negative : Bool) (n : ℕ) → n ≤ most_of negative → refused (int_value (signed negative n)) ≡ None
in_range false n h = let t : nat_lt n (2 ^ 127) ≡ true = grind (arith, nat_tests) in ap (λ b. cond b None (Some int_range)) t
in_range true zero h = refl
in_range true (suc n) h = let t : nat_lt n (2 ^ 127) ≡ true = grind (arith, nat_tests) in ap (λ b. cond b None (Some int_range)) t

pub out_of_range : (negative : Bool) (n : ℕ) → most_of negative < n → refused (int_value (signed negative n)) ≡ Some int_range
out_of_range false n h = let t : nat_lt n (2 ^ 127) ≡ false = grind (arith, nat_tests) in ap (λ b. cond b None (Some int_range)) t
out_of_range true zero h = absurd (omega arith)
out_of_range true (suc n) h = let t : nat_lt n (2 ^ 127) ≡ false = grind (arith, nat_tests) in ap (λ b. cond b None (Some int_range)) t

-- ---- the content of a decimal int x, whose digits are y without the zeros in front

zero_leads : (y : List ℕ) → y ≡ 48 ∷ [] → Leads y → ⊥
zero_leads y e l = let t : true ≡ false = subst Leads e l in cc

module _ (negative : Bool) (y : List ℕ) (n : ℕ) (is : n ≡ number_in 10 (without_zeros y)) (fits : n ≤ most_of negative) where
  worth : n ≡ number_in 10 y
  worth = is ∙ stripped_number y

  range : refused (int_value (signed negative (number_in 10 y))) ≡ None
  range = ap (λ m. refused (int_value (signed negative m))) (sym worth) ∙ in_range negative n fits

  pub zero_content : without_zeros y ≡ [] → IsContent (int_value (signed negative (number_in 10 y))) (48 ∷ [])
  zero_content e = (range, sym (ap (λ m. content_of (int_value (signed negative m))) (sym (stripped_number y) ∙ ap (number_in 10) e) ∙ int_zero negative))

  pub digits_content : all_digits 10 y ≡ true → (without_zeros y ≡ [] → ⊥) → negative ≡ false → IsContent (int_value (signed negative (number_in 10 y))) (without_zeros y)
  digits_content h e b = (range, sym (ap (λ b. content_of (int_value (signed b (number_in 10 y)))) b ∙ (int_positive (number_in 10 y) ∙ stripped_natural y h e)))

  some_number : all_digits 10 y ≡ true → (without_zeros y ≡ [] → ⊥) → 0 < number_in 10 y
  unfolding natural_text
  some_number h e = by (number_in 10 y) refl
    where
      by : (m : ℕ) → number_in 10 y ≡ m → 0 < m
      by zero q = let p : 48 ∷ [] ≡ without_zeros y = sym (ap natural_text q) ∙ stripped_natural y h e in absurd (zero_leads (without_zeros y) (sym p) (stripped_leads y))
      by (suc m) q = omega arith

  pub minus_content : all_digits 10 y ≡ true → (without_zeros y ≡ [] → ⊥) → negative ≡ true → IsContent (int_value (signed negative (number_in 10 y))) (45 ∷ without_zeros y)
  minus_content h e b =
      (range, sym (ap (λ b. content_of (int_value (signed b (number_in 10 y)))) b ∙ (int_negative (number_in 10 y) (some_number h e) ∙ ap (λ z. 45 ∷ z) (stripped_natural y h e))))

-- ---- what the code knows of a decimal int x: its digits d without zeros in front, and whether their number is in range

pub record Judged (x d : List ℕ) (r : Option ℕ) : Type 0 where
  pub digits : are_digits 10 (unsigned x) ≡ true
  pub is : d ≡ without_zeros (unsigned x)
  pub number : MatchOption r (most_of (is_negative x) < number_in 10 d) (λ n. (n ≡ number_in 10 d) × (n ≤ most_of (is_negative x)))

pub judged : (x u d b : List ℕ) (negative : Bool) (m : ℕ) (r : Option ℕ) → are_digits 10 (unsigned x) ≡ true → u ≡ unsigned x → d ≡ without_zeros u → b ≡ d
    → negative ≡ is_negative x → m ≡ most_of negative → MatchOption r (m < number_in 10 b) (λ n. (n ≡ number_in 10 b) × (n ≤ m)) → Judged x d r
judged x u d b negative m r h e f g n q k =
    let P : ℕ → List ℕ → Type 0 = λ m d. MatchOption r (m < number_in 10 d) (λ n. (n ≡ number_in 10 d) × (n ≤ m)) in
    record { digits = h; is = f ∙ ap without_zeros e; number = subst (λ z. P z d) (q ∙ ap most_of n) (subst (P m) g k) }

pub no_digits : (d : List ℕ) → (length d == 0) ≡ true → d ≡ []
no_digits [] h = refl
no_digits (c ∷ d) h = let e = eqb-true (length (c ∷ d)) 0 h in absurd (omega arith)

pub some_digits : (d : List ℕ) → (length d == 0) ≡ false → d ≡ [] → ⊥
some_digits d h e = let f : true ≡ false = ap (λ z. length z == 0) (sym e) ∙ h in cc

pub decimal_none : (x d : List ℕ) (r : Option ℕ) → Judged x d r → is_some r ≡ false → refused (int_value (decimal_int x)) ≡ Some int_range
decimal_none x d None j h = out_of_range (is_negative x) (number_in 10 (unsigned x)) (subst (λ n. most_of (is_negative x) < n) (ap (number_in 10) j.is ∙ stripped_number (unsigned x)) j.number)
decimal_none x d (Some n) j h = absurd (cc)

pub decimal_zero : (x d : List ℕ) (r : Option ℕ) → Judged x d r → is_some r ≡ true → d ≡ [] → IsContent (int_value (decimal_int x)) (48 ∷ [])
decimal_zero x d None j h e = absurd (cc)
decimal_zero x d (Some n) j h e = zero_content (is_negative x) (unsigned x) n (j.number.0 ∙ ap (number_in 10) j.is) j.number.1 (sym j.is ∙ e)

pub decimal_digits : (x d : List ℕ) (r : Option ℕ) → Judged x d r → is_some r ≡ true → (d ≡ [] → ⊥) → is_negative x ≡ false → IsContent (int_value (decimal_int x)) d
decimal_digits x d None j h e b = absurd (cc)
decimal_digits x d (Some n) j h e b =
    subst (IsContent (int_value (decimal_int x))) (sym j.is)
    (digits_content (is_negative x) (unsigned x) n (j.number.0 ∙ ap (number_in 10) j.is) j.number.1 (are_all 10 (unsigned x) j.digits) (λ q. e (j.is ∙ q)) b)

pub decimal_minus : (x d y : List ℕ) (r : Option ℕ) → Judged x d r → is_some r ≡ true → (d ≡ [] → ⊥) → is_negative x ≡ true → y ≡ 45 ∷ d → IsContent (int_value (decimal_int x)) y
decimal_minus x d y None j h e b g = absurd (cc)
decimal_minus x d y (Some n) j h e b g =
    subst (IsContent (int_value (decimal_int x))) (sym (g ∙ ap (λ z. 45 ∷ z) j.is))
    (minus_content (is_negative x) (unsigned x) n (j.number.0 ∙ ap (number_in 10) j.is) j.number.1 (are_all 10 (unsigned x) j.digits) (λ q. e (j.is ∙ q)) b)

-- where nothing but the sign stands before the digits, the text is its own content
pub decimal_whole : (x d : List ℕ) → d ≡ without_zeros (unsigned x) → is_negative x ≡ true → length d + 1 ≡ length x → x ≡ 45 ∷ d
decimal_whole x d e b h =
    let f = negative_text x b in
    let g = ap length f in
    let k = ap length e in
    f ∙ ap (λ z. 45 ∷ z) (sym (e ∙ stripped_all (unsigned x) (omega (arith, g, h, k))))

pub content_result : {A : Type 0} (bytes : A → List ℕ) (v : Value) (y : List ℕ) (r : Result A CoreFault) → IsContent v y
    → MatchResult r (λ c. bytes c ≡ y) (λ fault. fault ≡ faults.OutOfMemory) → MatchResult r (λ c. IsContent v (bytes c)) (RefusesValue (refused v))
content_result bytes v y (Ok c) h e = subst (IsContent v) (sym e) h
content_result bytes v y (Err fault) h e = subst (RefusesValue (refused v)) (sym e) tt

pub marked_content : (n m : ℕ) → n ≡ m → n ≤ 2 ^ 127 - 1 → IsContent (int_value (pos m)) (natural_text n)
unfolding content_of int_text
marked_content n m e h = (ap (λ k. refused (int_value (pos k))) (sym e) ∙ in_range false n h, ap natural_text e)
