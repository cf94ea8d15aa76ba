-- Places that are printed, and read again.
use Rattle.std.proofs.Common.{subst, ◌||◌, ◌-◌, ◌≡◌, ℕ, suc, ◌+◌, ◌-◌, ◌==◌, ◌≤◌, ◌<◌, ◌^◌, Bool, true, false, not, ◌&&◌, nat_lt, nat_le, bytes_eq, codes, cond, List, [], ◌∷◌, ◌++◌, length, take, drop, refl, sym, ◌∙◌, ap, arith}
use Rattle.std.specs.List.{list_all, position_or_len, prefix_len}
use Rattle.std.specs.Char.{digit_value}
use Rattle.std.specs.Str.Parse.{AllDigits, digits_value}
use Rattle.std.specs.Fmt.{decimal}
use Rattle.std.proofs.lemmas.Bool.{lt-ltb}
use Rattle.std.proofs.lemmas.Bool.Decides.{nat_tests}
use Rattle.std.proofs.lemmas.Fmt.{decimal_is_IsNumeral}
use Rattle.std.proofs.lemmas.List.{append-nil, length-append}
use Rattle.std.proofs.lemmas.List.Folds.{list_all-append}
use Rattle.std.proofs.lemmas.Slice.Eq.{bytes_eq-Decides}
use Rattle.std.proofs.Math.Seq.{take-append_seam, drop-append_seam}
use Rattle.review_patterns.proofs.ByteLaws.{is, never, and-left, and-right, and-both}
use Rattle.review_patterns.proofs.FrontLaws.{front-len, all-weaker}
use Rattle.review_patterns.proofs.PlaceLaws.{same_as, last-at, last-none}
use Rattle.review_patterns.specs.Places.{is_digit, are_digits, is_number, first_part, last_part, first_place, last_place, is_span, is_place, has_span, has_place, inside}
use Rattle.review_patterns.specs.Patterns.{is_any, fits}
use Rattle.review_patterns.specs.Laws.{span_text, places_text, bracketed, NeighboursFit}

-- ---- the parts of two texts with a byte between them

abbrev other_than : ℕ → ℕ → Bool
other_than separator byte = not (byte == separator)

same : (c : ℕ) → (c == c) ≡ true
same c = grind (arith, nat_tests)

border : (separator : ℕ) (x y : List ℕ) → list_all (other_than separator) x ≡ true → position_or_len (same_as separator) (x ++ (separator ∷ y)) ≡ length x
border separator x y h = front-len (other_than separator) x (separator ∷ y) h (ap not (same separator))

no-border : (separator : ℕ) (x : List ℕ) → list_all (other_than separator) x ≡ true → position_or_len (same_as separator) x ≡ length x
no-border separator x h = ap (prefix_len (other_than separator)) (sym (append-nil x)) ∙ front-len (other_than separator) x [] h tt

drop-past : (x : List ℕ) (c : ℕ) (y : List ℕ) → drop (length x + 1) (x ++ (c ∷ y)) ≡ y
drop-past [] c y = refl
drop-past (b ∷ x) c y = ap (λ z. drop z ((b ∷ x) ++ (c ∷ y))) (one-more (length x)) ∙ drop-past x c y
  where
    one-more : (n : ℕ) → suc n + 1 ≡ suc (n + 1)
    one-more n = omega arith

take-whole : (x : List ℕ) → take (length x) x ≡ x
take-whole x = ap (take (length x)) (sym (append-nil x)) ∙ take-append_seam x []

first-two : (separator : ℕ) (x y : List ℕ) → list_all (other_than separator) x ≡ true → first_part separator (x ++ (separator ∷ y)) ≡ x
first-two separator x y h = ap (λ z. take z (x ++ (separator ∷ y))) (border separator x y h) ∙ take-append_seam x (separator ∷ y)

last-two : (separator : ℕ) (x y : List ℕ) → list_all (other_than separator) x ≡ true → last_part separator (x ++ (separator ∷ y)) ≡ y
last-two separator x y h =
    let l : length (x ++ (separator ∷ y)) ≡ length x + length (separator ∷ y) = length-append x (separator ∷ y) in
    last-at separator (x ++ (separator ∷ y)) (length x) (omega (arith, l)) (border separator x y h) ∙ drop-past x separator y

first-one : (separator : ℕ) (x : List ℕ) → list_all (other_than separator) x ≡ true → first_part separator x ≡ x
first-one separator x h = ap (λ z. take z x) (no-border separator x h) ∙ take-whole x

last-one : (separator : ℕ) (x : List ℕ) → list_all (other_than separator) x ≡ true → last_part separator x ≡ x
last-one separator x h = last-none separator x (no-border separator x h)

-- ---- numbers

digit : (c : ℕ) → digit_value c < 10 → is_digit c ≡ true
digit c h = grind (arith, nat_tests, h)

digits : (x : List ℕ) → AllDigits 10 x → list_all is_digit x ≡ true
digits [] h = refl
digits (c ∷ x) h = and-both (is_digit c) (list_all is_digit x) (digit c h.0) (digits x h.1)

decimal-digits : (n : ℕ) → n < 2 ^ 64 → list_all is_digit (decimal n) ≡ true
decimal-digits n h = digits (decimal n) (decimal_is_IsNumeral n h).0.1

decimal-value : (n : ℕ) → n < 2 ^ 64 → digits_value 10 (decimal n) ≡ n
decimal-value n h = (decimal_is_IsNumeral n h).1

some-digits : (x : List ℕ) → 0 < length x → list_all is_digit x ≡ true → are_digits x ≡ true
some-digits [] l h = absurd (omega (arith, l))
some-digits (c ∷ x) l h = h

decimal-number : (n : ℕ) → n < 2 ^ 64 → is_number (decimal n) ≡ true
decimal-number n h =
    and-both (are_digits (decimal n)) (nat_lt (digits_value 10 (decimal n)) (2 ^ 64)) (some-digits (decimal n) (decimal_is_IsNumeral n h).0.0 (decimal-digits n h)) (ap (λ z. nat_lt z (2 ^ 64)) (decimal-value n h) ∙ lt-ltb n (2 ^ 64) h)

no-dash : (c : ℕ) → is_digit c ≡ true → other_than 45 c ≡ true
no-dash c h = grind (arith, nat_tests, h)

no-colon : (c : ℕ) → is_digit c ≡ true → other_than 58 c ≡ true
no-colon c h = grind (arith, nat_tests, h)

dashless : (n : ℕ) → n < 2 ^ 64 → list_all (other_than 45) (decimal n) ≡ true
dashless n h = all-weaker is_digit (other_than 45) no-dash (decimal n) (decimal-digits n h)

colonless : (n : ℕ) → n < 2 ^ 64 → list_all (other_than 58) (decimal n) ≡ true
colonless n h = all-weaker is_digit (other_than 58) no-colon (decimal n) (decimal-digits n h)

-- ---- neighbours on one side

abbrev two : ℕ → ℕ → List ℕ
two first last = decimal first ++ (codes "-" ++ decimal last)

span-first : (a b : ℕ) → a < 2 ^ 64 → first_part 45 (span_text a b) ≡ decimal a
span-first a b h = by (a == b) refl
  where
    by : (t : Bool) → (a == b) ≡ t → first_part 45 (cond (a == b) (decimal a) (two a b)) ≡ decimal a
    by true e = ap (λ z. first_part 45 (cond z (decimal a) (two a b))) e ∙ first-one 45 (decimal a) (dashless a h)
    by false e = ap (λ z. first_part 45 (cond z (decimal a) (two a b))) e ∙ first-two 45 (decimal a) (decimal b) (dashless a h)

span-last : (a b : ℕ) → a < 2 ^ 64 → last_part 45 (span_text a b) ≡ decimal b
span-last a b h = by (a == b) refl
  where
    by : (t : Bool) → (a == b) ≡ t → last_part 45 (cond (a == b) (decimal a) (two a b)) ≡ decimal b
    by true e = ap (λ z. last_part 45 (cond z (decimal a) (two a b))) e ∙ last-one 45 (decimal a) (dashless a h) ∙ ap decimal (is a b e)
    by false e = ap (λ z. last_part 45 (cond z (decimal a) (two a b))) e ∙ last-two 45 (decimal a) (decimal b) (dashless a h)

span-colonless : (a b : ℕ) → a < 2 ^ 64 → b < 2 ^ 64 → list_all (other_than 58) (span_text a b) ≡ true
span-colonless a b h k = by (a == b) refl
  where
    by : (t : Bool) → (a == b) ≡ t → list_all (other_than 58) (cond (a == b) (decimal a) (two a b)) ≡ true
    by true e = ap (λ z. list_all (other_than 58) (cond z (decimal a) (two a b))) e ∙ colonless a h
    by false e =
        ap (λ z. list_all (other_than 58) (cond z (decimal a) (two a b))) e ∙ list_all-append (other_than 58) (decimal a) (45 ∷ decimal b)
        ∙ and-both (list_all (other_than 58) (decimal a)) (list_all (other_than 58) (45 ∷ decimal b)) (colonless a h) (colonless b k)

first-is : (a b : ℕ) → a < 2 ^ 64 → first_place (span_text a b) ≡ a
first-is a b h = ap (digits_value 10) (span-first a b h) ∙ decimal-value a h

last-is : (a b : ℕ) → a < 2 ^ 64 → b < 2 ^ 64 → last_place (span_text a b) ≡ b
last-is a b h k = ap (digits_value 10) (span-last a b h) ∙ decimal-value b k

rises : (a b : ℕ) → a ≤ b → nat_le a b ≡ true
rises a b h = grind (arith, nat_tests, h)

span-is : (a b : ℕ) → a ≤ b → b < 2 ^ 64 → is_span (span_text a b) ≡ true
span-is a b h k =
    let low : a < 2 ^ 64 = omega (arith, h, k) in
    let s : List ℕ = span_text a b in
    and-both (is_number (first_part 45 s) && is_number (last_part 45 s)) (nat_le (first_place s) (last_place s))
    (and-both (is_number (first_part 45 s)) (is_number (last_part 45 s)) (ap is_number (span-first a b low) ∙ decimal-number a low) (ap is_number (span-last a b low) ∙ decimal-number b k))
    (ap (λ z. nat_le z (last_place s)) (first-is a b low) ∙ ap (nat_le a) (last-is a b low k) ∙ rises a b h)

has-span-is : (a b j : ℕ) → a ≤ b → b < 2 ^ 64 → j < 2 ^ 64 → has_span (span_text a b) (span_text j j) ≡ (nat_le a j && nat_le j b)
has-span-is a b j h k l =
    let low : a < 2 ^ 64 = omega (arith, h, k) in
    let o : List ℕ = span_text a b in
    let i : List ℕ = span_text j j in
    ap (λ z. (z && is_span i) && (nat_le (first_place o) (first_place i) && nat_le (last_place i) (last_place o))) (span-is a b h k)
    ∙ ap (λ z. z && (nat_le (first_place o) (first_place i) && nat_le (last_place i) (last_place o))) (span-is j j (omega arith) l)
    ∙ ap (λ z. nat_le z (first_place i) && nat_le (last_place i) (last_place o)) (first-is a b low)
    ∙ ap (λ z. nat_le a z && nat_le (last_place i) (last_place o)) (first-is j j l)
    ∙ ap (λ z. nat_le a j && nat_le z (last_place o)) (last-is j j l l)
    ∙ ap (λ z. nat_le a j && nat_le j z) (last-is a b low k)

-- ---- both sides

both-first : (x y : List ℕ) → list_all (other_than 58) x ≡ true → first_part 58 (cond (bytes_eq x y) x (x ++ (codes ":" ++ y))) ≡ x
both-first x y h = by (bytes_eq x y) refl
  where
    by : (t : Bool) → bytes_eq x y ≡ t → first_part 58 (cond (bytes_eq x y) x (x ++ (codes ":" ++ y))) ≡ x
    by true e = ap (λ z. first_part 58 (cond z x (x ++ (codes ":" ++ y)))) e ∙ first-one 58 x h
    by false e = ap (λ z. first_part 58 (cond z x (x ++ (codes ":" ++ y)))) e ∙ first-two 58 x y h

both-last : (x y : List ℕ) → list_all (other_than 58) x ≡ true → last_part 58 (cond (bytes_eq x y) x (x ++ (codes ":" ++ y))) ≡ y
both-last x y h = by (bytes_eq x y) refl
  where
    by : (t : Bool) → bytes_eq x y ≡ t → last_part 58 (cond (bytes_eq x y) x (x ++ (codes ":" ++ y))) ≡ y
    by true e = ap (λ z. last_part 58 (cond z x (x ++ (codes ":" ++ y)))) e ∙ last-one 58 x h ∙ (bytes_eq-Decides x y).0 e
    by false e = ap (λ z. last_part 58 (cond z x (x ++ (codes ":" ++ y)))) e ∙ last-two 58 x y h

abbrev among : (a b c d j k : ℕ) → Bool
among a b c d j k = (nat_le a j && nat_le j b) && (nat_le c k && nat_le k d)

places-are : (a b c d : ℕ) → a ≤ b → b < 2 ^ 64 → c ≤ d → d < 2 ^ 64 → is_place (places_text a b c d) ≡ true
places-are a b c d ab b64 cd d64 =
    let a64 : a < 2 ^ 64 = omega (arith, ab, b64) in
    let p : List ℕ = places_text a b c d in
    and-both (is_span (first_part 58 p)) (is_span (last_part 58 p)) (ap is_span (both-first (span_text a b) (span_text c d) (span-colonless a b a64 b64)) ∙ span-is a b ab b64) (ap is_span (both-last (span_text a b) (span_text c d) (span-colonless a b a64 b64)) ∙ span-is c d cd d64)

places-have : (a b c d j k : ℕ) → a ≤ b → b < 2 ^ 64 → c ≤ d → d < 2 ^ 64 → j < 2 ^ 64 → k < 2 ^ 64 → has_place (places_text a b c d) (places_text j j k k) ≡ among a b c d j k
places-have a b c d j k ab b64 cd d64 j64 k64 =
    let a64 : a < 2 ^ 64 = omega (arith, ab, b64) in
    let outer : List ℕ = places_text a b c d in
    let inner : List ℕ = places_text j j k k in
    let outer-left : first_part 58 outer ≡ span_text a b = both-first (span_text a b) (span_text c d) (span-colonless a b a64 b64) in
    let outer-right : last_part 58 outer ≡ span_text c d = both-last (span_text a b) (span_text c d) (span-colonless a b a64 b64) in
    let inner-left : first_part 58 inner ≡ span_text j j = both-first (span_text j j) (span_text k k) (span-colonless j j j64 j64) in
    let inner-right : last_part 58 inner ≡ span_text k k = both-last (span_text j j) (span_text k k) (span-colonless j j j64 j64) in
    ap (λ z. has_span z (first_part 58 inner) && has_span (last_part 58 outer) (last_part 58 inner)) outer-left
    ∙ ap (λ z. has_span (span_text a b) z && has_span (last_part 58 outer) (last_part 58 inner)) inner-left
    ∙ ap (λ z. has_span (span_text a b) (span_text j j) && has_span z (last_part 58 inner)) outer-right
    ∙ ap (λ z. has_span (span_text a b) (span_text j j) && has_span (span_text c d) z) inner-right
    ∙ ap (λ z. z && has_span (span_text c d) (span_text k k)) (has-span-is a b j ab b64 j64)
    ∙ ap (λ z. (nat_le a j && nat_le j b) && z) (has-span-is c d k cd d64 k64)

-- ---- steps

-- places have the places of the same text
own-span : (x : List ℕ) → is_span x ≡ true → has_span x x ≡ true
own-span x h = and-both (is_span x && is_span x) (nat_le (first_place x) (first_place x) && nat_le (last_place x) (last_place x)) (and-both (is_span x) (is_span x) h h) (and-both (nat_le (first_place x) (first_place x)) (nat_le (last_place x) (last_place x)) (rises (first_place x) (first_place x) (omega arith)) (rises (last_place x) (last_place x) (omega arith)))

own-place : (x : List ℕ) → is_place x ≡ true → has_place x x ≡ true
own-place x h =
    and-both (has_span (first_part 58 x) (first_part 58 x)) (has_span (last_part 58 x) (last_part 58 x))
    (own-span (first_part 58 x) (and-left (is_span (first_part 58 x)) (is_span (last_part 58 x)) h))
    (own-span (last_part 58 x) (and-right (is_span (first_part 58 x)) (is_span (last_part 58 x)) h))

inside-is : (x : List ℕ) → inside (bracketed x) ≡ x
inside-is x =
    let n : length (x ++ (93 ∷ [])) - 1 ≡ length x = one-less (length x) (length (x ++ (93 ∷ []))) (length-append x (93 ∷ [])) in
    ap (λ z. cond (bytes_eq (drop z (x ++ (93 ∷ []))) (codes "]")) (take z (x ++ (93 ∷ []))) (91 ∷ (x ++ (93 ∷ [])))) n
    ∙ ap (λ z. cond (bytes_eq z (codes "]")) (take (length x) (x ++ (93 ∷ []))) (91 ∷ (x ++ (93 ∷ [])))) (drop-append_seam x (93 ∷ []))
    ∙ take-append_seam x (93 ∷ [])
  where
    one-less : (n m : ℕ) → m ≡ n + 1 → m - 1 ≡ n
    one-less n m e = omega (arith, e)

no-place-is-any : (x : List ℕ) → is_place x ≡ true → is_any (bracketed x) ≡ false
no-place-is-any x h = by (bytes_eq (bracketed x) (codes "[*]")) refl
  where
    by : (t : Bool) → bytes_eq (bracketed x) (codes "[*]") ≡ t → is_any (bracketed x) ≡ false
    by true e =
        let star : x ≡ codes "*" = sym (inside-is x) ∙ ap inside ((bytes_eq-Decides (bracketed x) (codes "[*]")).0 e) in
        never (is_place x) h (ap is_place star)
    by false e = ap (λ z. z || false) e

-- a step with places stands for the items at these alone
fits-places : (x y : List ℕ) → is_place x ≡ true → fits (bracketed x) (bracketed y) ≡ has_place x y
fits-places x y h =
    ap (λ z. z || (bytes_eq (bracketed x) (bracketed y) || has_place (inside (bracketed x)) (inside (bracketed y)))) (no-place-is-any x h)
    ∙ ap (λ z. bytes_eq (bracketed x) (bracketed y) || has_place z (inside (bracketed y))) (inside-is x)
    ∙ ap (λ z. bytes_eq (bracketed x) (bracketed y) || has_place x z) (inside-is y)
    ∙ by (bytes_eq (bracketed x) (bracketed y)) refl
  where
    by : (t : Bool) → bytes_eq (bracketed x) (bracketed y) ≡ t → (bytes_eq (bracketed x) (bracketed y) || has_place x y) ≡ has_place x y
    by true e =
        let same : x ≡ y = sym (inside-is x) ∙ ap inside ((bytes_eq-Decides (bracketed x) (bracketed y)).0 e) ∙ inside-is y in
        ap (λ z. z || has_place x y) e ∙ sym (subst (λ z. has_place x z ≡ true) same (own-place x h))
    by false e = ap (λ z. z || has_place x y) e

pub neighbours-fit : NeighboursFit
neighbours-fit a b c d j k ab b64 cd d64 j64 k64 =
    let are : is_place (places_text a b c d) ≡ true = places-are a b c d ab b64 cd d64 in
    (are, fits-places (places_text a b c d) (places_text j j k k) are ∙ places-have a b c d j k ab b64 cd d64 j64 k64)
