-- Numbers by their digits, one digit after the other.
use Rattle.std.proofs.Common.{◌≡◌, ◌<◌, ◌≤◌, ℕ, zero, suc, ◌+◌, ◌*◌, ◌/◌, ◌%◌, ◌==◌, true, false, cond, List, [], ◌∷◌, ◌++◌, map, length, take, drop, get_or, refl, sym, ◌∙◌, ap, arith}
use Rattle.std.proofs.Math.Nat.{div-lt_iff_lt-mul}
use Rattle.std.proofs.lemmas.Bool.{cond_both, ltb-true, eqb-true, eqb-false, ne_eqb}
use Rattle.std.proofs.lemmas.List.{take_more, take-append-drop, map-append}
use Rattle.std.proofs.lemmas.Int.Digits.{number_push, number_after_append, number_after_ge, digits_of_step}
use Rattle.std.specs.Char.{is_digit, digit_value}
use Rattle.std.specs.Int.Digits.{digits_of, number_from_digits, number_from_digits_after}
use Rattle.yaml_definitions.specs.model.Core.{number_in, natural_text}
use Rattle.yaml_definitions.proofs.Members.{and_both}
use Rattle.yaml_core.specs.State.{all_digits}
use Rattle.yaml_core.specs.Digits.{without_zeros}

-- ---- one digit more

pub number_next : (base i : ℕ) (xs : List ℕ) → i < length xs → number_in base (take (i + 1) xs) ≡ number_in base (take i xs) * base + digit_value (get_or xs i 0)
number_next base i xs h =
    ap (number_in base) (take_more xs i 0 h)
    ∙ (ap (number_from_digits base) (map-append digit_value (take i xs) (get_or xs i 0 ∷ [])) ∙ number_push base (map digit_value (take i xs)) (digit_value (get_or xs i 0)))

-- the number of the first digits is no greater
pub number_part : (base k : ℕ) (xs : List ℕ) → 0 < base → number_in base (take k xs) ≤ number_in base xs
number_part base k xs p =
    let e : number_in base xs ≡ number_from_digits_after base (number_in base (take k xs)) (map digit_value (drop k xs)) =
    ap (number_in base) (sym (take-append-drop k xs))
    ∙ (ap (number_from_digits base) (map-append digit_value (take k xs) (drop k xs)) ∙ number_after_append base 0 (map digit_value (take k xs)) (map digit_value (drop k xs))) in
    let g = number_after_ge base (number_in base (take k xs)) (map digit_value (drop k xs)) p in
    omega (arith, e, g)

pub digit_at : (base : ℕ) (xs : List ℕ) (i : ℕ) → all_digits base xs ≡ true → i < length xs → is_digit (get_or xs i 0) base ≡ true
digit_at base [] i h l = absurd (omega arith)
digit_at base (c ∷ xs) zero h l = (and_both (is_digit c base) (all_digits base xs) h).0
digit_at base (c ∷ xs) (suc i) h l = digit_at base xs i (and_both (is_digit c base) (all_digits base xs) h).1 (omega arith)

pub digit_below : (c base : ℕ) → is_digit c base ≡ true → digit_value c < base
digit_below c base h = ltb-true (digit_value c) base h

-- ---- past the greatest

pub past_before : (base i most n : ℕ) (xs : List ℕ) → 0 < base → i < length xs → n ≡ number_in base (take i xs) → most / base < n → most < number_in base xs
past_before base i most n xs p l e h =
    let q : most < n * base = (div-lt_iff_lt-mul {k = base} {x = most} {y = n} p).0 h in
    let f = number_next base i xs l in
    let g = number_part base (i + 1) xs p in
    let k : number_in base (take i xs) * base ≡ n * base = ap (λ z. z * base) (sym e) in
    omega (arith, f, g, k, q)

pub past_after : (base i most n : ℕ) (xs : List ℕ) → 0 < base → i < length xs → n ≡ number_in base (take i xs) → most < n * base + digit_value (get_or xs i 0) → most < number_in base xs
past_after base i most n xs p l e h =
    let f = number_next base i xs l in
    let g = number_part base (i + 1) xs p in
    let k : number_in base (take i xs) * base ≡ n * base = ap (λ z. z * base) (sym e) in
    omega (arith, f, g, k)

-- ---- zeros at the beginning

pub zeros_more : (xs : List ℕ) (i : ℕ) → i < length xs → get_or xs i 0 ≡ 48 → without_zeros (drop i xs) ≡ without_zeros (drop (i + 1) xs)
unfolding without_zeros
zeros_more [] i l e = absurd (omega arith)
zeros_more (c ∷ xs) zero l e = ap (λ z. cond (z == 48) (without_zeros xs) (z ∷ xs)) e
zeros_more (c ∷ xs) (suc i) l e = let p : suc i + 1 ≡ suc (i + 1) = omega arith in zeros_more xs i (omega arith) e ∙ ap (λ n. without_zeros (drop n (c ∷ xs))) (sym p)

pub zeros_end : (xs : List ℕ) (i : ℕ) → i < length xs → (get_or xs i 0 ≡ 48 → ⊥) → without_zeros (drop i xs) ≡ drop i xs
unfolding without_zeros
zeros_end [] i l e = absurd (omega arith)
zeros_end (c ∷ xs) zero l e = rw (ne_eqb c 48 e) refl
zeros_end (c ∷ xs) (suc i) l e = zeros_end xs i (omega arith) e

-- ---- a number in decimal

pub natural_digit : (n : ℕ) → n < 10 → natural_text n ≡ (48 + n) ∷ []
unfolding natural_text
natural_digit n h =
    cond_both (n == 0) _ _ (λ z. z ≡ (48 + n) ∷ [])
    (λ e. let p : n ≡ 0 = eqb-true n 0 e in ap (λ m. (48 + m) ∷ []) (sym p))
    (λ e.
    let q = eqb-false n 0 e in
    let a : n / 10 ≡ 0 = omega arith in
    let b : n % 10 ≡ n = omega arith in
    ap (map (λ d. 48 + d)) (digits_of_step 10 n (omega arith) (omega (arith, q)) ∙ (λ i. digits_of 10 (a i) ++ (b i ∷ []))))

pub natural_more : (n : ℕ) → 10 ≤ n → natural_text n ≡ natural_text (n / 10) ++ ((48 + n % 10) ∷ [])
unfolding natural_text
natural_more n h =
    let z : (n == 0) ≡ false = ne_eqb n 0 (λ e. omega arith) in
    let y : (n / 10 == 0) ≡ false = ne_eqb (n / 10) 0 (λ e. omega arith) in
    rw (z, y) (ap (map (λ d. 48 + d)) (digits_of_step 10 n (omega arith) (omega arith)) ∙ map-append (λ d. 48 + d) (digits_of 10 (n / 10)) (n % 10 ∷ []))
