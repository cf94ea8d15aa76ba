-- How long canonical content is, by the text that it was resolved from.
use Rattle.std.proofs.Common.{◌≡◌, ℕ, zero, suc, ◌+◌, ◌*◌, ◌^◌, ◌≤◌, ◌<◌, ◌==◌, Bool, true, false, not, cond, nat_le, nat_lt, ◌&&◌, ◌||◌, inl, inr, Option, Some, None, Ok, Err, List, [], ◌∷◌, ◌++◌, map, length, ℤ, pos, negsuc, nat_abs, refl, sym, ◌∙◌, ap, subst, arith, length-append}
use Rattle.std.proofs.lemmas.Bool.{cond_both, ltb-true}
use Rattle.std.proofs.lemmas.Bool.Decides.{nat_tests}
use Rattle.std.proofs.lemmas.List.{length-map}
use Rattle.std.proofs.lemmas.Int.Digits.{length-digits_of-le, number_lt}
use Rattle.std.specs.Prelude.{codes, bytes_eq}
use Rattle.std.specs.List.{list_all}
use Rattle.std.specs.Char.{is_digit, digit_value}
use Rattle.std.specs.Int.Digits.{digits_of, AllBelowBase}
use Rattle.std.specs.Str.{is_utf8}
use Rattle.yaml_definitions.specs.model.Event.{Style, plain, single, double, literal, folded, WrittenTag, untagged, non_specific, full}
use Rattle.yaml_definitions.specs.model.Tag.{null_tag, bool_tag, int_tag, float_tag, str_tag, seq_tag, map_tag}
use Rattle.yaml_definitions.specs.model.Core.{Cause, wrong_kind, bad_content, int_range, float_range, Value, null_value, bool_value, int_value, decimal_value, infinity, not_a_number, is_empty, are_digits, number_in, unsigned, one_of, scaled, mantissa, exponent_of, split_at, is_negative, int_of, bool_of, is_null, null_of, as_bool, as_int, decimal_of, float_of, natural_text, int_text, trimmed, point_text, exponent_text, exponent, digits_text, decimal_text, content_of, refused, Resolved, by_table, by_tag, resolve}
use Rattle.yaml_definitions.proofs.Members.{and_both, or_either}
use Rattle.yaml_definitions.proofs.CoreLaws.{ok_first, Taken, pattern_parts, wrong}
use Rattle.law_length.proofs.Weights.{content_bytes}
use Rattle.law_length.proofs.Contents.{content_light}

-- ---- naturals

natural_low : (n k : ℕ) → n < 10 ^ k → 1 ≤ k → length (natural_text n) ≤ k
unfolding natural_text
natural_low n k h l = cond_both (n == 0) _ _ (λ (z : List ℕ). length z ≤ k) (λ e. omega (arith, l)) (λ e. omega (arith, length-map (digits_of 10 n) (λ d. 48 + d), length-digits_of-le 10 k n (omega arith) h))

none_int : (b : Bool) → cond b None (Some int_range) ≡ None → b ≡ true
none_int true e = refl
none_int false e = absurd (cc)

int_low : (n : ℤ) → refused (int_value n) ≡ None → length (int_text n) ≤ 41
unfolding int_text
int_low (pos n) h =
    let l : n < 2 ^ 127 = ltb-true n (2 ^ 127) (none_int (nat_lt n (2 ^ 127)) h) in
    let m : n < 10 ^ 40 = omega (arith, l) in
    omega (arith, natural_low n 40 m (omega arith))
int_low (negsuc n) h =
    let l : n < 2 ^ 127 = ltb-true n (2 ^ 127) (none_int (nat_lt n (2 ^ 127)) h) in
    let m : suc n < 10 ^ 40 = omega (arith, l) in
    omega (arith, natural_low (suc n) 40 m (omega arith))

-- ---- a decimal's text

trimmed_low : (ds : List ℕ) → length (trimmed ds) ≤ length ds
unfolding trimmed
trimmed_low [] = omega arith
trimmed_low (d ∷ ds) = cond_both (d == 0 && is_empty (trimmed ds)) _ _ (λ (z : List ℕ). length z ≤ suc (length ds)) (λ e. omega arith) (λ e. omega (arith, trimmed_low ds))

point_low : (ds : List ℕ) → length (point_text ds) ≤ 1 + length ds
point_low [] = omega arith
point_low (d ∷ ds) = omega (arith, length-map (d ∷ ds) (λ x. 48 + x))

exponent_low : (x : ℤ) → nat_abs x ≤ 1000000 → length (exponent_text x) ≤ 9
exponent_low (pos zero) h = omega arith
exponent_low (pos (suc n)) h = let s : suc n < 10 ^ 7 = omega (arith, h) in omega (arith, natural_low (suc n) 7 s (omega arith))
exponent_low (negsuc n) h = let s : suc n < 10 ^ 7 = omega (arith, h) in omega (arith, natural_low (suc n) 7 s (omega arith))

digits_low : (ds : List ℕ) (x : ℤ) → nat_abs x ≤ 1000000 → length (digits_text ds x) ≤ 11 + length ds
digits_low [] x h = omega arith
digits_low (d ∷ ds) x h = omega (arith, length-append (point_text ds) (exponent_text x), point_low ds, exponent_low x h)

none_float : (b : Bool) → cond b None (Some float_range) ≡ None → b ≡ true
none_float true e = refl
none_float false e = absurd (cc)

few : (n : ℕ) → nat_le n 1000000 ≡ true → n ≤ 1000000
few n h = grind (arith, nat_tests, h)

sign_low : (negative : Bool) (z : List ℕ) → length (cond negative (45 ∷ []) [] ++ z) ≤ 1 + length z
sign_low true z = omega arith
sign_low false z = omega arith

decimal_low : (negative : Bool) (m : ℕ) (k : ℤ) (n : ℕ) → m < 10 ^ n → refused (decimal_value negative m k) ≡ None → length (decimal_text negative m k) ≤ 12 + n
unfolding decimal_text
decimal_low negative m k n l h = cond_both (m == 0) _ _ (λ (z : List ℕ). length z ≤ 12 + n) (λ e. omega arith)
    (λ e.
    let r : nat_le (nat_abs (exponent m k)) 1000000 ≡ true = elim (or_either (m == 0) (nat_le (nat_abs (exponent m k)) 1000000) (none_float ((m == 0) || nat_le (nat_abs (exponent m k)) 1000000) h)) [ inl z ↦ absurd (let x : true ≡ false = sym z ∙ e in cc) | inr z ↦ z ] in
    omega (arith, sign_low negative (digits_text (trimmed (digits_of 10 m)) (exponent m k)), digits_low (trimmed (digits_of 10 m)) (exponent m k) (few (nat_abs (exponent m k)) r), trimmed_low (digits_of 10 m), length-digits_of-le 10 n m (omega arith) l))

-- ---- a decimal that a text denotes has no more digits than the text

abbrev Small : ℕ → Value → Type 0
Small n (decimal_value negative m k) = (j : ℕ) × (j ≤ n) × (m < 10 ^ j)
Small n _ = Unit {0}

abbrev OnSmall : ℕ → Option Value → Type 0
OnSmall n None = Unit {0}
OnSmall n (Some v) = Small n v

all_below : (x : List ℕ) → list_all (λ c. is_digit c 10) x ≡ true → AllBelowBase 10 (map digit_value x)
all_below [] h = tt
all_below (c ∷ x) h = let p = and_both (is_digit c 10) (list_all (λ c. is_digit c 10) x) h in (ltb-true (digit_value c) 10 p.0, all_below x p.1)

are_below : (x : List ℕ) → are_digits 10 x ≡ true → list_all (λ c. is_digit c 10) x ≡ true
are_below [] h = refl
are_below (c ∷ x) h = h

all_join : (x y : List ℕ) → list_all (λ c. is_digit c 10) x ≡ true → list_all (λ c. is_digit c 10) y ≡ true → list_all (λ c. is_digit c 10) (x ++ y) ≡ true
all_join [] y h k = k
all_join (c ∷ x) y h k = let p = and_both (is_digit c 10) (list_all (λ c. is_digit c 10) x) h in rw (p.0) (all_join x y p.1 k)

scaled_small : (n : ℕ) (negative : Bool) (whole part : List ℕ) (e : Option ℤ) → list_all (λ c. is_digit c 10) (whole ++ part) ≡ true → length whole + length part ≤ n → OnSmall n (scaled negative whole part e)
scaled_small n negative whole part None h l = tt
scaled_small n negative whole part (Some e) h l =
    let b = number_lt 10 (map digit_value (whole ++ part)) (all_below (whole ++ part) h) in
    let q : length (map digit_value (whole ++ part)) ≡ length (whole ++ part) = length-map (whole ++ part) digit_value in
    (length (whole ++ part), omega (arith, l, length-append whole part), subst (λ z. number_in 10 (whole ++ part) < 10 ^ z) q b)

abbrev rest_len : Option (List ℕ) → ℕ
rest_len None = 0
rest_len (Some x) = length x

mantissa_small : (n : ℕ) (negative : Bool) (whole : List ℕ) (part : Option (List ℕ)) (e : Option ℤ) → length whole + rest_len part ≤ n → OnSmall n (mantissa negative whole part e)
mantissa_small n negative whole None e l = cond_both (are_digits 10 whole) _ _ (OnSmall n) (λ b. scaled_small n negative whole [] e (all_join whole [] (are_below whole b) refl) (omega (arith, l))) (λ b. tt)
mantissa_small n negative whole (Some part) e l =
    cond_both (list_all (λ c. is_digit c 10) whole && (list_all (λ c. is_digit c 10) part && not (is_empty whole && is_empty part))) _ _ (OnSmall n)
    (λ b. let p = and_both (list_all (λ c. is_digit c 10) whole) _ b in
    let q = and_both (list_all (λ c. is_digit c 10) part) (not (is_empty whole && is_empty part)) p.1 in
    scaled_small n negative whole part e (all_join whole part p.0 q.0) l) (λ b. tt)

cut_len : (f : ℕ → Bool) (x : List ℕ) → length (split_at f x).0 + rest_len (split_at f x).1 ≤ length x
unfolding split_at
cut_len f [] = omega arith
cut_len f (c ∷ x) = cond_both (f c) _ _ (λ (z : List ℕ × Option (List ℕ)). length z.0 + rest_len z.1 ≤ suc (length x)) (λ e. omega arith) (λ e. omega (arith, cut_len f x))

unsigned_len : (x : List ℕ) → length (unsigned x) ≤ length x
unsigned_len [] = omega arith
unsigned_len (c ∷ x) = cond_both (c == 43 || c == 45) _ _ (λ (z : List ℕ). length z ≤ suc (length x)) (λ e. omega arith) (λ e. omega arith)

decimal_small : (x : List ℕ) → OnSmall (length x) (decimal_of x)
unfolding decimal_of
decimal_small x =
    let cut = split_at (λ c. c == 101 || c == 69) (unsigned x) in
    let number = split_at (λ c. c == 46) cut.0 in
    mantissa_small (length x) (is_negative x) number.0 number.1 (exponent_of cut.1)
    (omega (arith, unsigned_len x, cut_len (λ c. c == 101 || c == 69) (unsigned x), cut_len (λ c. c == 46) cut.0))

float_small : (x : List ℕ) → OnSmall (length x) (float_of x)
unfolding float_of
float_small x =
    cond_both (one_of (codes ".nan" ∷ codes ".NaN" ∷ codes ".NAN" ∷ []) x) _ _ (OnSmall (length x)) (λ b. tt) (λ b.
    cond_both (one_of (codes ".inf" ∷ codes ".Inf" ∷ codes ".INF" ∷ []) (unsigned x)) _ _ (OnSmall (length x)) (λ c. tt) (λ c. decimal_small x))

-- ---- contents

value_low : (n : ℕ) (v : Value) → Small n v → refused v ≡ None → length (content_of v) ≤ 41 + n
unfolding content_of
value_low n null_value s h = omega arith
value_low n (bool_value true) s h = omega arith
value_low n (bool_value false) s h = omega arith
value_low n (int_value k) s h = omega (arith, int_low k h)
value_low n (decimal_value negative m k) s h = omega (arith, s.1, decimal_low negative m k s.0 s.2 h)
value_low n (infinity true) s h = omega arith
value_low n (infinity false) s h = omega arith
value_low n not_a_number s h = omega arith

abbrev Low : List ℕ → List ℕ → Type 0
Low x z = length z ≤ 41 + length x

value_taken : (x g h z : List ℕ) (o : Option Value) → OnSmall (length x) o → Taken g o h z → Low x z
value_taken x g h z o s t = omega (arith, value_low (length x) t.0 (subst (OnSmall (length x)) t.1 s) t.4, ap length t.3)

null_small : (n : ℕ) (x : List ℕ) → OnSmall n (null_of x)
unfolding null_of
null_small n x = cond_both (is_null x) _ _ (OnSmall n) (λ e. tt) (λ e. tt)

bool_small : (n : ℕ) (o : Option Bool) → OnSmall n (as_bool o)
bool_small n None = tt
bool_small n (Some b) = tt

int_small : (n : ℕ) (o : Option ℤ) → OnSmall n (as_int o)
int_small n None = tt
int_small n (Some k) = tt

itself : (g x h z : List ℕ) → ◌≡◌ {A = Resolved} (Ok (g, x)) (Ok (h, z)) → Low x z
itself g x h z e = let p = ok_first g h x z e in omega (arith, ap length p.1)

table_low : (x h z : List ℕ) → by_table x ≡ Ok (h, z) → Low x z
unfolding by_table
table_low x h z e =
    elim (pattern_parts null_tag (null_of x) _ h z e) [
      | inl t ↦ value_taken x null_tag h z (null_of x) (null_small (length x) x) t
      | inr e1 ↦
          elim (pattern_parts bool_tag (as_bool (bool_of x)) _ h z e1) [
            | inl t ↦ value_taken x bool_tag h z (as_bool (bool_of x)) (bool_small (length x) (bool_of x)) t
            | inr e2 ↦
                elim (pattern_parts int_tag (as_int (int_of x)) _ h z e2) [
                  | inl t ↦ value_taken x int_tag h z (as_int (int_of x)) (int_small (length x) (int_of x)) t
                  | inr e3 ↦ elim (pattern_parts float_tag (float_of x) _ h z e3) [ inl t ↦ value_taken x float_tag h z (float_of x) (float_small x) t | inr e4 ↦ itself str_tag x h z e4 ]
                ]
          ]
    ]

abbrev Step : List ℕ → List ℕ → List ℕ → Resolved → Type 0
Step x h z r = r ≡ Ok (h, z) → Low x z

tag_low : (g x h z : List ℕ) → by_tag g x ≡ Ok (h, z) → Low x z
unfolding by_tag
tag_low g x h z =
    let none : (c : Cause) → ◌≡◌ {A = Resolved} (Err c) (Ok (h, z)) → Low x z = λ c e. absurd (wrong h z c e) in
    cond_both (bytes_eq g null_tag) _ _ (Step x h z) (λ b e. elim (pattern_parts g (null_of x) _ h z e) [ inl t ↦ value_taken x g h z (null_of x) (null_small (length x) x) t | inr f ↦ none bad_content f ]) (λ n0.
    cond_both (bytes_eq g bool_tag) _ _ (Step x h z) (λ b e. elim (pattern_parts g (as_bool (bool_of x)) _ h z e) [ inl t ↦ value_taken x g h z (as_bool (bool_of x)) (bool_small (length x) (bool_of x)) t | inr f ↦ none bad_content f ]) (λ n1.
    cond_both (bytes_eq g int_tag) _ _ (Step x h z) (λ b e. elim (pattern_parts g (as_int (int_of x)) _ h z e) [ inl t ↦ value_taken x g h z (as_int (int_of x)) (int_small (length x) (int_of x)) t | inr f ↦ none bad_content f ]) (λ n2.
    cond_both (bytes_eq g float_tag) _ _ (Step x h z) (λ b e. elim (pattern_parts g (float_of x) _ h z e) [ inl t ↦ value_taken x g h z (float_of x) (float_small x) t | inr f ↦ none bad_content f ]) (λ n3.
    cond_both (bytes_eq g seq_tag || bytes_eq g map_tag) _ _ (Step x h z) (λ b e. none wrong_kind e) (λ n4 e. itself g x h z e)))))

pub resolved_low : (w : WrittenTag) (y : Style) (x h z : List ℕ) → resolve w y x ≡ Ok (h, z) → length z ≤ 41 + length x
unfolding resolve
resolved_low untagged plain x h z e = table_low x h z e
resolved_low untagged single x h z e = itself str_tag x h z e
resolved_low untagged double x h z e = itself str_tag x h z e
resolved_low untagged literal x h z e = itself str_tag x h z e
resolved_low untagged folded x h z e = itself str_tag x h z e
resolved_low non_specific y x h z e = itself str_tag x h z e
resolved_low (full g) y x h z e = tag_low g x h z e

pub text_light : (w : WrittenTag) (y : Style) (x g z : List ℕ) → is_utf8 z ≡ true → resolve w y x ≡ Ok (g, z) → content_bytes z ≤ 4 * length x + 200
text_light w y x g z u e = omega (arith, content_light z u, resolved_low w y x g z e)
