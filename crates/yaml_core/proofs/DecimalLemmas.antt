-- A finite float's value and content, by the parts of its text.
use Rattle.std.proofs.Common.{◌≡◌, ◌<◌, ◌≤◌, ℕ, zero, suc, ◌+◌, ◌^◌, ◌==◌, ◌&&◌, ◌||◌, not, nat_le, Bool, true, false, cond, Option, Some, None, Result, Ok, Err, List, [], ◌∷◌, ◌++◌, map, length, ℤ, pos, ◌+ℤ◌, ◌-ℤ◌, refl, sym, ◌∙◌, ap, subst, arith}
use Rattle.std.specs.Prelude.{MatchResult, is_some, nat_abs}
use Rattle.std.specs.Str.{IsAscii}
use Rattle.std.proofs.lemmas.Bool.{cond_both, eqb-false, ne_eqb}
use Rattle.std.proofs.lemmas.Bool.Decides.{nat_tests}
use Rattle.std.proofs.lemmas.Int.{ints}
use Rattle.std.specs.Char.{is_digit, digit_value}
use Rattle.std.specs.Int.Digits.{digits_of}
use Rattle.yaml_definitions.specs.model.Core.{Value, decimal_value, float_range, are_digits, is_empty, number_in, unsigned, is_negative, signed, split_at, exponent_of, scaled, mantissa, decimal_of, trimmed, exponent_text, exponent, digits_text, decimal_text, content_of, refused}
use Rattle.yaml_definitions.specs.model.Limits.{exponent_limit}
use Rattle.yaml_definitions.proofs.FloatLaws.{digits_number}
use Rattle.yaml_definitions.proofs.Members.{and_both, both_and}
use Rattle.yaml_core.specs.CoreAnswer.{IsContent, RefusesValue, IsDecimalContent, RefusesDecimal}
use Rattle.yaml_core.specs.State.{is_e, is_point, all_digits}
use Rattle.yaml_core.specs.Digits.{without_zeros, without_last_zeros}
use Rattle.yaml_core.specs.Decimal.{or_nothing, AreParts, With, scale_of, significant, mantissa_text, float_text}
use Rattle.yaml_core.specs.declared.fault.CoreFault.{CoreFault}
use Rattle.yaml_core.specs.declared.fault.CoreFault.TheVariants as faults
use Rattle.yaml_core.proofs.StateLemmas.{and_false}
use Rattle.yaml_core.proofs.IntLemmas.{digits_back, are_all, digits_low, digit_back, stripped_digits, stripped_number, stripped_leads, Leads}

pub digits_join : (x y : List ℕ) → all_digits 10 x ≡ true → all_digits 10 y ≡ true → all_digits 10 (x ++ y) ≡ true
digits_join [] y h k = k
digits_join (c ∷ x) y h k = let p = and_both (is_digit c 10) (all_digits 10 x) h in both_and (is_digit c 10) (all_digits 10 (x ++ y)) p.0 (digits_join x y p.1 k)

-- ---- what the text denotes

pub record Reads (n : Bool) (w p : List ℕ) (o : Option ℤ) (v : Option Value) : Type 0 where
  pub whole : all_digits 10 w ≡ true
  pub part : all_digits 10 p ≡ true
  pub some : is_some o ≡ true
  pub value : (e : ℤ) → o ≡ Some e → v ≡ Some (decimal_value n (number_in 10 (w ++ p)) (e -ℤ pos (length p)))

pub mantissa_reads : (n : Bool) (w : List ℕ) (o : Option (List ℕ)) (e : Option ℤ) → is_some (mantissa n w o e) ≡ true → Reads n w (or_nothing o) e (mantissa n w o e)
mantissa_reads n w None e h = by (are_digits 10 w) refl
  where
    some : (e : Option ℤ) → is_some (scaled n w [] e) ≡ true → (is_some e ≡ true) × ((k : ℤ) → e ≡ Some k → scaled n w [] e ≡ Some (decimal_value n (number_in 10 (w ++ [])) (k -ℤ pos 0)))
    some None g = absurd (cc)
    some (Some k) g = (refl, λ m q. let r : k ≡ m = cc in ap (λ z. Some (decimal_value n (number_in 10 (w ++ [])) (z -ℤ pos 0))) r)

    by : (b : Bool) → are_digits 10 w ≡ b → Reads n w [] e (mantissa n w None e)
    by true d =
        let q : mantissa n w None e ≡ scaled n w [] e = ap (λ b. cond b (scaled n w [] e) None) d in
        let s = some e (sym (ap is_some q) ∙ h) in
        record { whole = are_all 10 w d; part = refl; some = s.0; value = λ k g. q ∙ s.1 k g }
    by false d = let g : false ≡ true = sym (ap (λ b. is_some (cond b (scaled n w [] e) None)) d) ∙ h in absurd (cc)
mantissa_reads n w (Some p) e h = by (all_digits 10 w && (all_digits 10 p && not (is_empty w && is_empty p))) refl
  where
    some : (e : Option ℤ) → is_some (scaled n w p e) ≡ true → (is_some e ≡ true) × ((k : ℤ) → e ≡ Some k → scaled n w p e ≡ Some (decimal_value n (number_in 10 (w ++ p)) (k -ℤ pos (length p))))
    some None g = absurd (cc)
    some (Some k) g = (refl, λ m q. let r : k ≡ m = cc in ap (λ z. Some (decimal_value n (number_in 10 (w ++ p)) (z -ℤ pos (length p)))) r)

    by : (b : Bool) → (all_digits 10 w && (all_digits 10 p && not (is_empty w && is_empty p))) ≡ b → Reads n w p e (mantissa n w (Some p) e)
    by true d =
        let q : mantissa n w (Some p) e ≡ scaled n w p e = ap (λ b. cond b (scaled n w p e) None) d in
        let s = some e (sym (ap is_some q) ∙ h) in
        let f = and_both (all_digits 10 w) (all_digits 10 p && not (is_empty w && is_empty p)) d in
        record { whole = f.0; part = (and_both (all_digits 10 p) (not (is_empty w && is_empty p)) f.1).0; some = s.0; value = λ k g. q ∙ s.1 k g }
    by false d = let g : false ≡ true = sym (ap (λ b. is_some (cond b (scaled n w p e) None)) d) ∙ h in absurd (cc)

pub decimal_reads : (x whole part : List ℕ) (y : Option (List ℕ)) → AreParts x whole part y → is_some (decimal_of x) ≡ true → Reads (is_negative x) whole part (exponent_of y) (decimal_of x)
unfolding decimal_of
decimal_reads x whole part y c h =
    let cut = split_at is_e (unsigned x) in
    let number = split_at is_point cut.0 in
    let r = mantissa_reads (is_negative x) number.0 number.1 (exponent_of cut.1) h in
    let P : List ℕ → Type 0 = λ w. Reads (is_negative x) w part (exponent_of y) (decimal_of x) in
    let Q : List ℕ → Type 0 = λ p. Reads (is_negative x) number.0 p (exponent_of y) (decimal_of x) in
    let R : Option (List ℕ) → Type 0 = λ z. Reads (is_negative x) number.0 (or_nothing number.1) (exponent_of z) (decimal_of x) in
    subst P (sym c.0) (subst Q (sym c.1) (subst R (sym c.2) r))

-- ---- the digits that count

lead_number : (c : ℕ) (z : List ℕ) → all_digits 10 (c ∷ z) ≡ true → (c == 48) ≡ false → digits_of 10 (number_in 10 (c ∷ z)) ≡ map digit_value (c ∷ z)
lead_number c z h l =
    let p = and_both (is_digit c 10) (all_digits 10 z) h in
    let b = digit_back c p.0 in
    let n = eqb-false c 48 l in
    digits_number (digit_value c) (map digit_value z) (omega (arith, n)) (digits_low (c ∷ z) h)

lead_some : (c : ℕ) (z : List ℕ) → all_digits 10 (c ∷ z) ≡ true → (c == 48) ≡ false → (number_in 10 (c ∷ z) == 0) ≡ false
lead_some c z h l = ne_eqb (number_in 10 (c ∷ z)) 0 (λ q. let e : [] ≡ map digit_value (c ∷ z) = ap (digits_of 10) (sym q) ∙ lead_number c z h l in absurd (cc))

length_map : (z : List ℕ) → length (map digit_value z) ≡ length z
length_map [] = refl
length_map (c ∷ z) = ap suc (length_map z)

zero_digit : (c : ℕ) → is_digit c 10 ≡ true → (digit_value c == 0) ≡ (c == 48)
zero_digit c h = grind (arith, nat_tests)

empty_map : (z : List ℕ) → is_empty (map digit_value z) ≡ is_empty z
empty_map [] = refl
empty_map (c ∷ z) = refl

pub trimmed_digits : (z : List ℕ) → all_digits 10 z ≡ true → trimmed (map digit_value z) ≡ map digit_value (without_last_zeros z)
unfolding trimmed without_last_zeros
trimmed_digits [] h = refl
trimmed_digits (c ∷ z) h =
    let p = and_both (is_digit c 10) (all_digits 10 z) h in
    let i = trimmed_digits z p.1 in
    let t : (digit_value c == 0 && is_empty (trimmed (map digit_value z))) ≡ (c == 48 && is_empty (without_last_zeros z)) =
    λ k. zero_digit c p.0 k && (ap is_empty i ∙ empty_map (without_last_zeros z)) k in
    (λ k. cond (t k) [] (digit_value c ∷ i k)) ∙ moved (c == 48 && is_empty (without_last_zeros z))
  where
    moved : (b : Bool) → cond b [] (digit_value c ∷ map digit_value (without_last_zeros z)) ≡ map digit_value (cond b [] (c ∷ without_last_zeros z))
    moved true = refl
    moved false = refl

last_digits : (z : List ℕ) → all_digits 10 z ≡ true → all_digits 10 (without_last_zeros z) ≡ true
unfolding without_last_zeros
last_digits [] h = refl
last_digits (c ∷ z) h =
    let p = and_both (is_digit c 10) (all_digits 10 z) h in
    cond_both (c == 48 && is_empty (without_last_zeros z)) [] (c ∷ without_last_zeros z) (λ y. all_digits 10 y ≡ true) (λ e. refl) (λ e. both_and (is_digit c 10) (all_digits 10 (without_last_zeros z)) p.0 (last_digits z p.1))

pointed : (c : ℕ) (r : List ℕ) (e : ℤ) → all_digits 10 (c ∷ r) ≡ true → digits_text (map digit_value (c ∷ r)) e ≡ mantissa_text (c ∷ r) ++ exponent_text e
pointed c [] e h = let q = digit_back c (and_both (is_digit c 10) (all_digits 10 []) h).0 in λ i. q i ∷ exponent_text e
pointed c (d ∷ r) e h =
    let p = and_both (is_digit c 10) (all_digits 10 (d ∷ r)) h in
    let q = digit_back c p.0 in
    let b = digits_back (d ∷ r) p.1 in
    λ i. q i ∷ (46 ∷ (b i ++ exponent_text e))

-- ---- the value by its digits x, without the zeros in front z

zero_refused : (n : Bool) (m : ℕ) (k : ℤ) → m ≡ 0 → IsContent (decimal_value n m k) (48 ∷ [])
unfolding content_of decimal_text
zero_refused n m k e = subst (λ j. IsContent (decimal_value n j k) (48 ∷ [])) (sym e) (refl, refl)

pub zero_decimal : (n : Bool) (x : List ℕ) (k : ℤ) → without_zeros x ≡ [] → IsContent (decimal_value n (number_in 10 x) k) (48 ∷ [])
zero_decimal n x k e = zero_refused n (number_in 10 x) k (sym (stripped_number x) ∙ ap (number_in 10) e)

-- what is known of a number that is not 0
pub record SomeNumber (x : List ℕ) (m : ℕ) : Type 0 where
  pub digits : digits_of 10 m ≡ map digit_value (without_zeros x)
  pub some : (m == 0) ≡ false

pub some_number : (x : List ℕ) → all_digits 10 x ≡ true → (without_zeros x ≡ [] → ⊥) → SomeNumber x (number_in 10 x)
some_number x h n = by (without_zeros x) refl
  where
    by : (z : List ℕ) → without_zeros x ≡ z → SomeNumber x (number_in 10 x)
    by [] e = absurd (n e)
    by (c ∷ z) e =
        let d : all_digits 10 (c ∷ z) ≡ true = ap (all_digits 10) (sym e) ∙ stripped_digits x h in
        let l : (c == 48) ≡ false = subst Leads e (stripped_leads x) in
        let q : number_in 10 (c ∷ z) ≡ number_in 10 x = ap (number_in 10) (sym e) ∙ stripped_number x in
        record {
          digits = ap (digits_of 10) (sym q) ∙ (lead_number c z d l ∙ ap (map digit_value) (sym e));
          some = ap (λ m. m == 0) (sym q) ∙ lead_some c z d l;
        }

exponent_is : (x : List ℕ) (m : ℕ) (e : ℤ) (p : ℕ) → SomeNumber x m → exponent m (e -ℤ pos p) ≡ scale_of e p (length (without_zeros x))
unfolding exponent
exponent_is x m e p s = ap (λ l. ((e -ℤ pos p) +ℤ pos l) -ℤ pos 1) (ap length s.digits ∙ length_map (without_zeros x))

significant_some : (c : ℕ) (z : List ℕ) → (c == 48) ≡ false → without_last_zeros (c ∷ z) ≡ c ∷ without_last_zeros z
unfolding without_last_zeros
significant_some c z h = rw h refl

text_is : (n : Bool) (x : List ℕ) (e : ℤ) → all_digits 10 x ≡ true → (without_zeros x ≡ [] → ⊥) → digits_text (map digit_value (significant x)) e ≡ mantissa_text (significant x) ++ exponent_text e
text_is n x e h g = by (without_zeros x) refl
  where
    by : (z : List ℕ) → without_zeros x ≡ z → digits_text (map digit_value (significant x)) e ≡ mantissa_text (significant x) ++ exponent_text e
    by [] q = absurd (g q)
    by (c ∷ z) q =
        let d : all_digits 10 (c ∷ z) ≡ true = ap (all_digits 10) (sym q) ∙ stripped_digits x h in
        let l : (c == 48) ≡ false = subst Leads q (stripped_leads x) in
        let r : significant x ≡ c ∷ without_last_zeros z = ap without_last_zeros q ∙ significant_some c z l in
        let f : all_digits 10 (c ∷ without_last_zeros z) ≡ true = ap (all_digits 10) (sym (significant_some c z l)) ∙ last_digits (c ∷ z) d in
        subst (λ y. digits_text (map digit_value y) e ≡ mantissa_text y ++ exponent_text e) (sym r) (pointed c (without_last_zeros z) e f)

pub some_refused : (n : Bool) (x : List ℕ) (e : ℤ) (p : ℕ) → all_digits 10 x ≡ true → (without_zeros x ≡ [] → ⊥)
    → refused (decimal_value n (number_in 10 x) (e -ℤ pos p)) ≡ cond (nat_le (nat_abs (scale_of e p (length (without_zeros x)))) exponent_limit) None (Some float_range)
some_refused n x e p h g =
    let s = some_number x h g in
    (λ i. cond (s.some i || nat_le (nat_abs (exponent_is x (number_in 10 x) e p s i)) exponent_limit) None (Some float_range))

pub some_content : (n : Bool) (x : List ℕ) (e : ℤ) (p : ℕ) → all_digits 10 x ≡ true → (without_zeros x ≡ [] → ⊥)
    → content_of (decimal_value n (number_in 10 x) (e -ℤ pos p)) ≡ float_text n (significant x) (scale_of e p (length (without_zeros x)))
unfolding content_of decimal_text
some_content n x e p h g =
    let s = some_number x h g in
    let X : ℤ = scale_of e p (length (without_zeros x)) in
    (λ i. cond (s.some i) (48 ∷ []) (cond n (45 ∷ []) [] ++ digits_text (trimmed (s.digits i)) (exponent_is x (number_in 10 x) e p s i)))
    ∙ (ap (λ d. cond n (45 ∷ []) [] ++ digits_text d X) (trimmed_digits (without_zeros x) (stripped_digits x h)) ∙ ap (λ t. cond n (45 ∷ []) [] ++ t) (text_is n x X h g))

-- ---- digits in two pieces

pub lead_none : (w p : List ℕ) → without_zeros w ≡ [] → without_zeros (w ++ p) ≡ without_zeros p
unfolding without_zeros
lead_none [] p e = refl
lead_none (c ∷ w) p e =
    cond_both (c == 48) (without_zeros w) (c ∷ w) (λ z. z ≡ [] → cond (c == 48) (without_zeros (w ++ p)) (c ∷ (w ++ p)) ≡ without_zeros p)
    (λ b f. ap (λ t. cond t (without_zeros (w ++ p)) (c ∷ (w ++ p))) b ∙ lead_none w p f) (λ b f. absurd (cc)) e

pub lead_some_front : (w p : List ℕ) → (without_zeros w ≡ [] → ⊥) → without_zeros (w ++ p) ≡ without_zeros w ++ p
unfolding without_zeros
lead_some_front [] p n = absurd (n refl)
lead_some_front (c ∷ w) p n =
    cond_both (c == 48) (without_zeros w) (c ∷ w) (λ z. (z ≡ [] → ⊥) → cond (c == 48) (without_zeros (w ++ p)) (c ∷ (w ++ p)) ≡ z ++ p)
    (λ b f. ap (λ t. cond t (without_zeros (w ++ p)) (c ∷ (w ++ p))) b ∙ lead_some_front w p f) (λ b f. ap (λ t. cond t (without_zeros (w ++ p)) (c ∷ (w ++ p))) b) n

pub last_none_front : (w p : List ℕ) → without_last_zeros p ≡ [] → without_last_zeros (w ++ p) ≡ without_last_zeros w
unfolding without_last_zeros
last_none_front [] p e = e
last_none_front (c ∷ w) p e = ap (λ z. cond (c == 48 && is_empty z) [] (c ∷ z)) (last_none_front w p e)

some_back : (w q : List ℕ) → (q ≡ [] → ⊥) → is_empty (w ++ q) ≡ false
some_back [] [] n = absurd (n refl)
some_back [] (c ∷ q) n = refl
some_back (c ∷ w) q n = refl

pub last_some_front : (w p : List ℕ) → (without_last_zeros p ≡ [] → ⊥) → without_last_zeros (w ++ p) ≡ w ++ without_last_zeros p
unfolding without_last_zeros
last_some_front [] p n = refl
last_some_front (c ∷ w) p n = let i = last_some_front w p n in rw (i, some_back w (without_last_zeros p) n, and_false (c == 48)) refl

-- ---- ASCII

pub ascii_stripped : (x : List ℕ) → IsAscii x → IsAscii (without_zeros x)
unfolding without_zeros
ascii_stripped [] h = h
ascii_stripped (c ∷ x) h = cond_both (c == 48) (without_zeros x) (c ∷ x) IsAscii (λ e. ascii_stripped x (λ i. h (suc i))) (λ e. h)

pub ascii_last : (x : List ℕ) → IsAscii x → IsAscii (without_last_zeros x)
unfolding without_last_zeros
ascii_last [] h = h
ascii_last (c ∷ x) h =
    cond_both (c == 48 && is_empty (without_last_zeros x)) [] (c ∷ without_last_zeros x) IsAscii (λ e i. omega arith) (λ e. front c (without_last_zeros x) (h 0) (ascii_last x (λ i. h (suc i))))
  where
    front : (c : ℕ) (y : List ℕ) → c < 128 → IsAscii y → IsAscii (c ∷ y)
    front c y l k zero = l
    front c y l k (suc i) = k i

-- ---- what the code answers

get_some : (o : Option ℤ) → is_some o ≡ true → (e : ℤ) × (o ≡ Some e)
get_some None h = absurd (cc)
get_some (Some e) h = (e, refl)

no_length : (x : List ℕ) → length x ≡ 0 → x ≡ []
no_length [] h = refl
no_length (c ∷ x) h = absurd (omega arith)

abs_signed : (b : Bool) (n : ℕ) → nat_abs (signed b n) ≡ n
abs_signed true zero = refl
abs_signed true (suc n) = refl
abs_signed false n = refl

pub decimal_nothing : (n : Bool) (w p : List ℕ) (o : Option ℤ) (v : Option Value) (len : ℕ) → Reads n w p o v → len ≡ length (without_zeros (w ++ p)) → len ≡ 0 → IsDecimalContent v (48 ∷ [])
decimal_nothing n w p o v len r l z =
    let q = get_some o r.some in
    subst (λ u. IsDecimalContent u (48 ∷ [])) (sym (r.value q.0 q.1)) (zero_decimal n (w ++ p) (q.0 -ℤ pos (length p)) (no_length (without_zeros (w ++ p)) (sym l ∙ z)))

joined : (n : Bool) (w p : List ℕ) (o : Option ℤ) (v : Option Value) → Reads n w p o v → all_digits 10 (w ++ p) ≡ true
joined n w p o v r = digits_join w p r.whole r.part

some_length : (x : List ℕ) (len : ℕ) → len ≡ length x → (len ≡ 0 → ⊥) → x ≡ [] → ⊥
some_length x len l z e = z (l ∙ ap length e)

pub decimal_some : (n : Bool) (w p d : List ℕ) (o : Option ℤ) (v : Option Value) (len part : ℕ) (b : Bool) (size : ℕ) → Reads n w p o v → len ≡ length (without_zeros (w ++ p)) → part ≡ length p
    → (len ≡ 0 → ⊥) → d ≡ significant (w ++ p) → With o (λ e. (scale_of e part len ≡ signed b size) × (size ≤ exponent_limit)) → IsDecimalContent v (float_text n d (signed b size))
decimal_some n w p d o v len part b size r l k z g h =
    let q = get_some o r.some in
    let i = some_length (without_zeros (w ++ p)) len l z in
    let j = joined n w p o v r in
    let t = subst (λ u. With u (λ e. (scale_of e part len ≡ signed b size) × (size ≤ exponent_limit))) q.1 h in
    let s : scale_of q.0 (length p) (length (without_zeros (w ++ p))) ≡ signed b size = sym (λ m. scale_of q.0 (k m) (l m)) ∙ t.0 in
    let a : nat_abs (scale_of q.0 (length p) (length (without_zeros (w ++ p)))) ≡ size = ap nat_abs s ∙ abs_signed b size in
    let f : nat_le size exponent_limit ≡ true = le_true size exponent_limit t.1 in
    subst (λ u. IsDecimalContent u (float_text n d (signed b size))) (sym (r.value q.0 q.1)) (
      some_refused n (w ++ p) q.0 (length p) j i ∙ ap (λ m. cond (nat_le m exponent_limit) None (Some float_range)) a ∙ ap (λ t. cond t None (Some float_range)) f,
      (λ m. float_text n (g m) (signed b size)) ∙ (sym (ap (float_text n (significant (w ++ p))) s) ∙ sym (some_content n (w ++ p) q.0 (length p) j i)),
    )
  where
    le_true : (m n : ℕ) → m ≤ n → nat_le m n ≡ true
    le_true m n h = grind (arith, nat_tests)

pub decimal_far : (n : Bool) (w p : List ℕ) (o : Option ℤ) (v : Option Value) (len part : ℕ) → Reads n w p o v → len ≡ length (without_zeros (w ++ p)) → part ≡ length p
    → (len ≡ 0 → ⊥) → With o (λ e. exponent_limit < nat_abs (scale_of e part len)) → RefusesDecimal v faults.FloatRange
decimal_far n w p o v len part r l k z h =
    let q = get_some o r.some in
    let i = some_length (without_zeros (w ++ p)) len l z in
    let j = joined n w p o v r in
    let t = subst (λ u. With u (λ e. exponent_limit < nat_abs (scale_of e part len))) q.1 h in
    let a : nat_abs (scale_of q.0 part len) ≡ nat_abs (scale_of q.0 (length p) (length (without_zeros (w ++ p)))) = λ m. nat_abs (scale_of q.0 (k m) (l m)) in
    let f : nat_le (nat_abs (scale_of q.0 part len)) exponent_limit ≡ false = le_false (nat_abs (scale_of q.0 part len)) exponent_limit t in
    subst (λ u. RefusesDecimal u faults.FloatRange) (sym (r.value q.0 q.1))
    (some_refused n (w ++ p) q.0 (length p) j i ∙ ap (λ m. cond (nat_le m exponent_limit) None (Some float_range)) (sym a) ∙ ap (λ t. cond t None (Some float_range)) f)
  where
    le_false : (m n : ℕ) → n < m → nat_le m n ≡ false
    le_false m n h = grind (arith, nat_tests)

pub decimal_result : {A : Type 0} (bytes : A → List ℕ) (v : Option Value) (y : List ℕ) (r : Result A CoreFault) → IsDecimalContent v y
    → MatchResult r (λ c. bytes c ≡ y) (λ fault. fault ≡ faults.OutOfMemory) → MatchResult r (λ c. IsDecimalContent v (bytes c)) (RefusesDecimal v)
decimal_result bytes v y (Ok c) h e = subst (IsDecimalContent v) (sym e) h
decimal_result bytes (Some v) y (Err fault) h e = subst (RefusesValue (refused v)) (sym e) tt
decimal_result bytes None y (Err fault) h e = absurd h

-- ---- the exponent of the content

scale_shift : (e : ℤ) (p l : ℕ) → scale_of e p l ≡ (e +ℤ pos l) -ℤ pos (p + 1)
scale_shift e p l = omega (arith, ints)

pub scale_fits : (o : Option ℤ) (a b : Bool) (m n p l : ℕ) → o ≡ Some (signed a m) → signed b n ≡ (signed a m +ℤ pos l) -ℤ pos (p + 1) → n ≤ exponent_limit
    → With o (λ e. (scale_of e p l ≡ signed b n) × (n ≤ exponent_limit))
scale_fits o a b m n p l h k f =
    subst (λ z. With z (λ e. (scale_of e p l ≡ signed b n) × (n ≤ exponent_limit))) (sym h) (scale_shift (signed a m) p l ∙ sym k, f)

pub scale_past : (o : Option ℤ) (a b : Bool) (m n p l : ℕ) → o ≡ Some (signed a m) → signed b n ≡ (signed a m +ℤ pos l) -ℤ pos (p + 1) → exponent_limit < n
    → With o (λ e. exponent_limit < nat_abs (scale_of e p l))
scale_past o a b m n p l h k f =
    let q : n ≡ nat_abs (scale_of (signed a m) p l) = sym (abs_signed b n) ∙ ap nat_abs (k ∙ sym (scale_shift (signed a m) p l)) in
    subst (λ z. With z (λ e. exponent_limit < nat_abs (scale_of e p l))) (sym h) (subst (λ z. exponent_limit < z) q f)

-- an exponent so far from 0 stays out of range
pub scale_far : (o : Option ℤ) (p l : ℕ) → p < 2 ^ 64 → l < 2 ^ 65 → With o (λ e. 2 ^ 100 < nat_abs e) → With o (λ e. exponent_limit < nat_abs (scale_of e p l))
scale_far None p l a b h = absurd h
scale_far (Some e) p l a b h = far e h
  where
    far : (e : ℤ) → 2 ^ 100 < nat_abs e → exponent_limit < nat_abs (scale_of e p l)
    far e h = omega (arith, ints)
