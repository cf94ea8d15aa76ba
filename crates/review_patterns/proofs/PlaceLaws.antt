-- The places of items in the text of a step.
use Rattle.std.proofs.Common.{◌≡◌, ℕ, ◌+◌, ◌==◌, ◌<◌, ◌≢◌, ◌^◌, Bool, true, false, ◌&&◌, nat_lt, cond, List, [], ◌∷◌, length, drop, get_or, refl, sym, ◌∙◌, ap, subst, arith}
use Rattle.std.specs.Prelude.{Result, Ok, Err, MatchOption}
use Rattle.std.specs.Result.{result_ok}
use Rattle.std.specs.List.{list_all, position_or_len, before_first, after_first}
use Rattle.std.specs.Char.{digit_value}
use Rattle.std.specs.Str.{IsUtf8}
use Rattle.std.specs.Str.Parse.{AllDigits, IsNumeral, digits_value, without_leading_plus, ParsesUnsigned}
use Rattle.std.proofs.lemmas.Bool.{ne_eqb, ltb-true, lt-ltb, le-ltb}
use Rattle.std.proofs.lemmas.Bool.Decides.{nat_tests}
use Rattle.std.proofs.lemmas.Fmt.{IsAscii-from_digits}
use Rattle.std.proofs.lemmas.Str.{IsUtf8-from_ascii}
use Rattle.std.proofs.lemmas.List.Folds.{list_all-append}
use Rattle.std.proofs.lemmas.List.Sums.{position_or_len_is, split_at_first, passes_at_first}
use Rattle.review_patterns.proofs.ByteLaws.{is, never, and-left, and-right, and-both}
use Rattle.review_patterns.specs.Places.{is_digit, are_digits, is_number, first_part, last_part}

-- ---- the parts of a text

abbrev pub same_as : ℕ → ℕ → Bool
same_as separator byte = byte == separator

pub part-at : (separator : ℕ) (x : List ℕ) (i : ℕ) → i < length x → get_or x i 0 ≡ separator → ((k : ℕ) → k < i → get_or x k 0 ≢ separator) → position_or_len (same_as separator) x ≡ i
part-at separator x i inside here before =
    position_or_len_is (same_as separator) x i 0 (omega (arith, inside)) (λ k l. ne_eqb (get_or x k 0) separator (before k l)) (λ l. subst (λ z. (z == separator) ≡ true) (sym here) (grind (arith, nat_tests)))

pub part-none : (separator : ℕ) (x : List ℕ) → ((k : ℕ) → k < length x → get_or x k 0 ≢ separator) → position_or_len (same_as separator) x ≡ length x
part-none separator x none = position_or_len_is (same_as separator) x (length x) 0 (omega arith) (λ k l. ne_eqb (get_or x k 0) separator (none k l)) (λ l. absurd (omega (arith, l)))

pub last-at : (separator : ℕ) (x : List ℕ) (i : ℕ) → i < length x → position_or_len (same_as separator) x ≡ i → last_part separator x ≡ drop (i + 1) x
last-at separator x i inside at =
    ap (λ z. cond (nat_lt z (length x)) (drop (z + 1) x) x) at ∙ ap (λ z. cond z (drop (i + 1) x) x) (lt-ltb i (length x) inside)

pub last-none : (separator : ℕ) (x : List ℕ) → position_or_len (same_as separator) x ≡ length x → last_part separator x ≡ x
last-none separator x at =
    ap (λ z. cond (nat_lt z (length x)) (drop (z + 1) x) x) at ∙ ap (λ z. cond z (drop (length x + 1) x) x) (le-ltb (length x) (length x) (omega arith))

-- what holds of each byte of the two parts, and of the byte between them, holds of each byte of the text
pub parts-pass : (p : ℕ → Bool) (separator : ℕ) (x : List ℕ) → p separator ≡ true → list_all p (first_part separator x) ≡ true → list_all p (last_part separator x) ≡ true → list_all p x ≡ true
parts-pass p separator x h f l = by (nat_lt (position_or_len (same_as separator) x) (length x)) refl
  where
    by : (b : Bool) → nat_lt (position_or_len (same_as separator) x) (length x) ≡ b → list_all p x ≡ true
    by false e = ap (λ z. list_all p (cond z (after_first (same_as separator) x) x)) (sym e) ∙ l
    by true e =
        let inside : position_or_len (same_as separator) x < length x = ltb-true (position_or_len (same_as separator) x) (length x) e in
        let byte : ℕ = get_or x (position_or_len (same_as separator) x) 0 in
        let there : byte ≡ separator = is byte separator (passes_at_first (same_as separator) x 0 inside) in
        let more : list_all p (after_first (same_as separator) x) ≡ true = ap (λ z. list_all p (cond z (after_first (same_as separator) x) x)) (sym e) ∙ l in
        ap (list_all p) (split_at_first (same_as separator) x 0 inside) ∙ list_all-append p (before_first (same_as separator) x) (byte ∷ after_first (same_as separator) x)
        ∙ and-both (list_all p (before_first (same_as separator) x)) (list_all p (byte ∷ after_first (same_as separator) x)) f (and-both (p byte) (list_all p (after_first (same_as separator) x)) (subst (λ z. p z ≡ true) (sym there) h) more)

-- ---- numbers

digit : (c : ℕ) → is_digit c ≡ true → digit_value c < 10
digit c h = grind (arith, nat_tests, h)

all-digits : (x : List ℕ) → list_all is_digit x ≡ true → AllDigits 10 x
all-digits [] h = tt
all-digits (c ∷ x) h = (digit c (and-left (is_digit c) (list_all is_digit x) h), all-digits x (and-right (is_digit c) (list_all is_digit x) h))

numeral : (x : List ℕ) → are_digits x ≡ true → IsNumeral 10 x
numeral [] h = never false h refl
numeral (c ∷ x) h = (omega arith, all-digits (c ∷ x) h)

no-plus : (x : List ℕ) → are_digits x ≡ true → without_leading_plus x ≡ x
no-plus [] h = never false h refl
no-plus (c ∷ x) h = ap (λ z. drop (cond z 1 0) (c ∷ x)) (plain c (and-left (is_digit c) (list_all is_digit x) h))
  where
    plain : (c : ℕ) → is_digit c ≡ true → (c == 43) ≡ false
    plain c d = grind (arith, nat_tests, d)

pub digits-utf8 : (x : List ℕ) → are_digits x ≡ true → IsUtf8 x
digits-utf8 x h = IsUtf8-from_ascii x (IsAscii-from_digits x (numeral x h).1)

number-is : (x : List ℕ) (n : ℕ) → are_digits x ≡ true → n < 2 ^ 64 → n ≡ digits_value 10 x → (is_number x ≡ true) × (n ≡ digits_value 10 x)
number-is x n h l e = (and-both (are_digits x) (nat_lt (digits_value 10 x) (2 ^ 64)) h (lt-ltb (digits_value 10 x) (2 ^ 64) (subst (λ z. z < 2 ^ 64) e l)), e)

too-great : (x : List ℕ) → are_digits x ≡ true → (digits_value 10 x < 2 ^ 64 → ⊥) → is_number x ≡ false
too-great x h small = by (nat_lt (digits_value 10 x) (2 ^ 64)) refl
  where
    by : (b : Bool) → nat_lt (digits_value 10 x) (2 ^ 64) ≡ b → is_number x ≡ false
    by true e = absurd (small (ltb-true (digits_value 10 x) (2 ^ 64) e))
    by false e = ap (λ z. are_digits x && z) e ∙ ap (λ z. z && false) h

-- what is read of digits is their number, if it is below 2 ^ 64
pub number-read : {E : Type 0} (x : List ℕ) (r : Result ℕ E) → are_digits x ≡ true → ParsesUnsigned 64 10 x r → MatchOption (result_ok r) (is_number x ≡ false) (λ value. (is_number x ≡ true) × (value ≡ digits_value 10 x))
number-read x (Ok n) h p =
    let whole : without_leading_plus x ≡ x = no-plus x h in
    number-is x n h (subst (λ z. z < 2 ^ 64) (sym p.1) p.0.1) (p.1 ∙ ap (digits_value 10) whole)
number-read x (Err e) h p =
    let whole : without_leading_plus x ≡ x = no-plus x h in
    too-great x h (λ l. p (subst (IsNumeral 10) (sym whole) (numeral x h), subst (λ z. digits_value 10 z < 2 ^ 64) (sym whole) l))
