-- The canonical content of a finite float denotes a float with that content.
use Rattle.std.proofs.Common.{◌≡◌, ◌<◌, ℕ, zero, suc, ◌+◌, ◌*◌, ◌/◌, ◌%◌, ◌==◌, Bool, true, false, cond, ◌&&◌, ◌||◌, Option, Some, None, List, [], ◌∷◌, ◌++◌, map, length, ℤ, pos, negsuc, ◌+ℤ◌, ◌-ℤ◌, refl, sym, ◌∙◌, ap, arith, append_assoc, append-nil}
use Rattle.std.proofs.Math.IntN.{pos-+ℤ-pos, +ℤ-neg_ℤ_cancel, -ℤ-+ℤ_cancel, +ℤ_assoc}
use Rattle.std.proofs.lemmas.Bool.{ne_eqb}
use Rattle.std.proofs.lemmas.Bool.Decides.{nat_tests}
use Rattle.std.specs.Int.Digits.{digits_of, number_from_digits, number_from_digits_after, AllBelowBase}
use Rattle.std.proofs.lemmas.Int.Digits.{digits_of_step}
use Rattle.yaml_definitions.specs.model.Core.{is_empty, unsigned, is_negative, split_at, exponent_of, mantissa, decimal_of, trimmed, point_text, exponent_text, digits_text, natural_text, Value, decimal_value}
use Rattle.yaml_definitions.proofs.CoreLaws.{natural_digital, digits_are, digits_worth, sign_no, minus_no, digital_digits, digital_number}

-- ---- digits of a number

more_digits : (n : ℕ) (ds : List ℕ) → 0 < n → AllBelowBase 10 ds → digits_of 10 (number_from_digits_after 10 n ds) ≡ digits_of 10 n ++ ds
more_digits n [] p m = sym (append-nil (digits_of 10 n))
more_digits n (d ∷ ds) p m =
    let l = m.0 in
    let a : (n * 10 + d) / 10 ≡ n = omega arith in
    let b : (n * 10 + d) % 10 ≡ d = omega arith in
    let s : digits_of 10 (n * 10 + d) ≡ digits_of 10 n ++ (d ∷ []) = digits_of_step 10 (n * 10 + d) (omega arith) (omega arith) ∙ (λ z. digits_of 10 (a z) ++ (b z ∷ [])) in
    more_digits (n * 10 + d) ds (omega arith) m.1 ∙ (ap (λ z. z ++ ds) s ∙ append_assoc (digits_of 10 n) (d ∷ []) ds)

one_digit : (d : ℕ) → 0 < d → d < 10 → digits_of 10 d ≡ d ∷ []
one_digit d p l =
    let a : d / 10 ≡ 0 = omega arith in
    let b : d % 10 ≡ d = omega arith in
    digits_of_step 10 d (omega arith) p ∙ (λ z. digits_of 10 (a z) ++ (b z ∷ []))

pub digits_number : (d : ℕ) (ds : List ℕ) → 0 < d → AllBelowBase 10 (d ∷ ds) → digits_of 10 (number_from_digits 10 (d ∷ ds)) ≡ d ∷ ds
digits_number d ds p m =
    let e : 0 * 10 + d ≡ d = omega arith in
    more_digits (0 * 10 + d) ds (omega arith) m.1 ∙ ap (λ z. z ++ ds) (ap (digits_of 10) e ∙ one_digit d p m.0)

-- ---- without the zeros at the end

pub trimmed_again : (ds : List ℕ) → trimmed (trimmed ds) ≡ trimmed ds
unfolding trimmed
trimmed_again [] = refl
trimmed_again (d ∷ ds) = by (trimmed_again ds) (d == 0 && is_empty (trimmed ds)) refl
  where
    by : trimmed (trimmed ds) ≡ trimmed ds → (b : Bool) → (d == 0 && is_empty (trimmed ds)) ≡ b → trimmed (cond b [] (d ∷ trimmed ds)) ≡ cond b [] (d ∷ trimmed ds)
    by i true e = refl
    by i false e = ap (λ z. cond (d == 0 && is_empty z) [] (d ∷ z)) i ∙ ap (λ b. cond b [] (d ∷ trimmed ds)) e

pub trimmed_below : (ds : List ℕ) → AllBelowBase 10 ds → AllBelowBase 10 (trimmed ds)
unfolding trimmed
trimmed_below [] m = tt
trimmed_below (d ∷ ds) m =
    let i = trimmed_below ds m.1 in
    let l = m.0 in
    elim (d == 0 && is_empty (trimmed ds)) as (λ b. AllBelowBase 10 (cond b [] (d ∷ trimmed ds))) [ true ↦ tt | false ↦ (l, i) ]

pub trimmed_first : (d : ℕ) (ds : List ℕ) → 0 < d → trimmed (d ∷ ds) ≡ d ∷ trimmed ds
unfolding trimmed
trimmed_first d ds p = rw (ne_eqb d 0 (λ q. omega arith)) refl

-- ---- cuts

abbrev Free : (ℕ → Bool) → List ℕ → Type 0
Free f [] = Unit {0}
Free f (c ∷ xs) = (f c ≡ false) × Free f xs

split_none : (f : ℕ → Bool) (xs : List ℕ) → Free f xs → split_at f xs ≡ (xs, None)
unfolding split_at
split_none f [] h = refl
split_none f (c ∷ xs) h = rw (h.0, split_none f xs h.1) refl

split_some : (f : ℕ → Bool) (xs ys : List ℕ) (c : ℕ) → Free f xs → f c ≡ true → split_at f (xs ++ (c ∷ ys)) ≡ (xs, Some ys)
unfolding split_at
split_some f [] ys c h t = rw t refl
split_some f (x ∷ xs) ys c h t = rw (h.0, split_some f xs ys c h.1 t) refl

abbrev is_e : ℕ → Bool
is_e c = c == 101 || c == 69

abbrev is_dot : ℕ → Bool
is_dot c = c == 46

digit_no_e : (d : ℕ) → d < 10 → is_e (48 + d) ≡ false
digit_no_e d l = grind (arith, nat_tests)

pub digit_no_dot : (d : ℕ) → is_dot (48 + d) ≡ false
digit_no_dot d = ne_eqb (48 + d) 46 (λ q. omega arith)

digits_no_e : (ds : List ℕ) → AllBelowBase 10 ds → Free is_e (map (λ d. 48 + d) ds)
digits_no_e [] m = tt
digits_no_e (d ∷ ds) m = (digit_no_e d m.0, digits_no_e ds m.1)

abbrev number_text : ℕ → List ℕ → List ℕ
number_text d ds = (48 + d) ∷ point_text ds

number_no_e : (d : ℕ) (ds : List ℕ) → AllBelowBase 10 (d ∷ ds) → Free is_e (number_text d ds)
number_no_e d [] m = (digit_no_e d m.0, tt)
number_no_e d (c ∷ ds) m = (digit_no_e d m.0, (refl, digits_no_e (c ∷ ds) m.1))

-- ---- the parts of a decimal

exponent_part : ℤ → Option (List ℕ)
exponent_part (pos zero) = None
exponent_part (pos (suc n)) = Some (43 ∷ natural_text (suc n))
exponent_part (negsuc n) = Some (45 ∷ natural_text (suc n))

cut_exponent : (x : ℤ) (xs : List ℕ) → Free is_e xs → split_at is_e (xs ++ exponent_text x) ≡ (xs, exponent_part x)
unfolding exponent_part
cut_exponent (pos zero) xs h = ap (split_at is_e) (append-nil xs) ∙ split_none is_e xs h
cut_exponent (pos (suc n)) xs h = split_some is_e xs (43 ∷ natural_text (suc n)) 101 h refl
cut_exponent (negsuc n) xs h = split_some is_e xs (45 ∷ natural_text (suc n)) 101 h refl

exponent_back : (x : ℤ) → exponent_of (exponent_part x) ≡ Some x
unfolding exponent_part
exponent_back (pos zero) = refl
exponent_back (pos (suc n)) =
    let g = natural_digital (suc n) in
    rw (digital_digits (suc n) (natural_text (suc n)) g, digital_number (suc n) (natural_text (suc n)) g) refl
exponent_back (negsuc n) =
    let g = natural_digital (suc n) in
    rw (digital_digits (suc n) (natural_text (suc n)) g, digital_number (suc n) (natural_text (suc n)) g) refl

abbrev dot_part : List ℕ → Option (List ℕ)
dot_part [] = None
dot_part (d ∷ ds) = Some (map (λ x. 48 + x) (d ∷ ds))

cut_dot : (d : ℕ) (ds : List ℕ) → split_at is_dot (number_text d ds) ≡ ((48 + d) ∷ [], dot_part ds)
cut_dot d [] = split_none is_dot ((48 + d) ∷ []) (digit_no_dot d, tt)
cut_dot d (c ∷ ds) = split_some is_dot ((48 + d) ∷ []) (map (λ x. 48 + x) (c ∷ ds)) 46 (digit_no_dot d, tt) refl

length_map : (ds : List ℕ) → length (map (λ d. 48 + d) ds) ≡ length ds
length_map [] = refl
length_map (d ∷ ds) = ap suc (length_map ds)

abbrev pub back : Bool → ℕ → List ℕ → ℤ → Option Value
back negative d ds x = Some (decimal_value negative (number_from_digits 10 (d ∷ ds)) (x -ℤ pos (length ds)))

mantissa_back : (negative : Bool) (d : ℕ) (ds : List ℕ) (x : ℤ) → AllBelowBase 10 (d ∷ ds)
    → mantissa negative ((48 + d) ∷ []) (dot_part ds) (Some x) ≡ back negative d ds x
mantissa_back negative d [] x m =
    let a = digits_are (d ∷ []) m in
    let b = ap (number_from_digits 10) (digits_worth (d ∷ []) m) in
    rw (a, b) refl
mantissa_back negative d (c ∷ ds) x m =
    let a = digits_are (d ∷ []) (m.0, tt) in
    let e = digits_are (c ∷ ds) m.1 in
    let b = ap (number_from_digits 10) (digits_worth (d ∷ c ∷ ds) m) in
    let l = length_map (c ∷ ds) in
    rw (a, e, b) (ap (λ n. Some (decimal_value negative (number_from_digits 10 (d ∷ c ∷ ds)) (x -ℤ pos n))) l)

unsigned_digit : (d : ℕ) (r : List ℕ) → unsigned ((48 + d) ∷ r) ≡ (48 + d) ∷ r
unsigned_digit d r = rw (sign_no d) refl

abbrev pub sign_text : Bool → List ℕ
sign_text negative = cond negative (45 ∷ []) []

pub unsigned_back : (negative : Bool) (d : ℕ) (r : List ℕ) → unsigned (sign_text negative ++ ((48 + d) ∷ r)) ≡ (48 + d) ∷ r
unsigned_back true d r = refl
unsigned_back false d r = unsigned_digit d r

negative_back : (negative : Bool) (d : ℕ) (r : List ℕ) → is_negative (sign_text negative ++ ((48 + d) ∷ r)) ≡ negative
negative_back true d r = refl
negative_back false d r = minus_no d

pub decimal_back : (negative : Bool) (d : ℕ) (ds : List ℕ) (x : ℤ) → AllBelowBase 10 (d ∷ ds) → decimal_of (sign_text negative ++ digits_text (d ∷ ds) x) ≡ back negative d ds x
unfolding decimal_of
decimal_back negative d ds x m =
    let r : List ℕ = point_text ds ++ exponent_text x in
    let a = unsigned_back negative d r in
    let b = negative_back negative d r in
    let c = cut_exponent x (number_text d ds) (number_no_e d ds m) in
    rw (a, b, c, cut_dot d ds, exponent_back x) (mantissa_back negative d ds x m)

-- ---- exponents

pos_more : (n : ℕ) → pos n +ℤ pos 1 ≡ pos (suc n)
pos_more n = let e : n + 1 ≡ suc n = omega arith in pos-+ℤ-pos n 1 ∙ ap pos e

pub exponent_kept : (x : ℤ) (n : ℕ) → ((x -ℤ pos n) +ℤ pos (suc n)) -ℤ pos 1 ≡ x
exponent_kept x n =
    let y : ℤ = x -ℤ pos n in
    let p : pos n +ℤ pos 1 ≡ pos (suc n) = pos_more n in
    ap (λ z. (y +ℤ z) -ℤ pos 1) (sym p) ∙ (ap (λ z. z -ℤ pos 1) (sym (+ℤ_assoc y (pos n) (pos 1))) ∙ (ap (λ z. (z +ℤ pos 1) -ℤ pos 1) (-ℤ-+ℤ_cancel x (pos n)) ∙ +ℤ-neg_ℤ_cancel x (pos 1)))
