-- The core schema: what a scalar's text denotes, and the one content that stands for it.
use Rattle.std.specs.Prelude.{ℕ, zero, suc, ◌+◌, ◌^◌, ◌==◌, nat_lt, nat_le, Bool, true, false, not, cond, ◌&&◌, ◌||◌, if◌then◌else◌, List, [], ◌∷◌, ◌++◌, map, length, codes, ℤ, pos, negsuc, ◌+ℤ◌, ◌-ℤ◌, neg_ℤ, nat_abs, Option, Some, None, Result, Ok, Err}
use Rattle.std.specs.List.{list_all, list_any}
use Rattle.std.specs.Char.{is_digit, digit_value}
use Rattle.std.specs.Int.Digits.{digits_of, number_from_digits}
use Rattle.std.specs.Prelude.{bytes_eq}
use Rattle.yaml_definitions.specs.model.Limits.{int_bits, exponent_limit}
use Rattle.yaml_definitions.specs.model.Event.{Style, plain, WrittenTag, untagged, non_specific, full}
use Rattle.yaml_definitions.specs.model.Tag.{null_tag, bool_tag, int_tag, float_tag, str_tag, seq_tag, map_tag, default_tag, is_core}

pub data Cause : Type 0 where
  undefined_alias cyclic_alias wrong_kind bad_content int_range float_range : Cause

-- A float is exact: the number m, negative or not, times 10 to the power of k.
pub data Value : Type 0 where
  null_value : Value
  bool_value : Bool → Value
  int_value : ℤ → Value
  decimal_value : (negative : Bool) → (m : ℕ) → (k : ℤ) → Value
  infinity : (negative : Bool) → Value
  not_a_number : Value

-- ---- the patterns

abbrev pub one_of : List (List ℕ) → List ℕ → Bool
one_of words x = list_any (bytes_eq x) words

-- one or more digits of this base
abbrev pub are_digits : ℕ → List ℕ → Bool
are_digits base [] = false
are_digits base (c ∷ x) = list_all (λ c. is_digit c base) (c ∷ x)

abbrev pub is_empty : List ℕ → Bool
is_empty [] = true
is_empty (c ∷ x) = false

abbrev pub number_in : ℕ → List ℕ → ℕ
number_in base x = number_from_digits base (map digit_value x)

-- without the sign in front, and whether that is a minus sign
abbrev pub unsigned : List ℕ → List ℕ
unsigned [] = []
unsigned (c ∷ x) = cond (c == 43 || c == 45) x (c ∷ x)

abbrev pub is_negative : List ℕ → Bool
is_negative [] = false
is_negative (c ∷ x) = c == 45

abbrev pub signed : Bool → ℕ → ℤ
signed negative n = cond negative (neg_ℤ (pos n)) (pos n)

-- what stands after these two characters
abbrev pub after_prefix : ℕ → ℕ → List ℕ → Option (List ℕ)
after_prefix a b (c ∷ d ∷ x) = cond (c == a && d == b) (Some x) None
after_prefix a b _ = None

abbrev pub digits_after : ℕ → Option (List ℕ) → Option ℤ
digits_after base None = None
digits_after base (Some x) = cond (are_digits base x) (Some (pos (number_in base x))) None

abbrev pub first_some : {A : Type 0} → Option A → Option A → Option A
first_some (Some a) o = Some a
first_some None o = o

-- decimal with or without a sign, `0o` and octal, `0x` and hexadecimal
unfoldable pub int_of : List ℕ → Option ℤ
int_of x =
    first_some (cond (are_digits 10 (unsigned x)) (Some (signed (is_negative x) (number_in 10 (unsigned x)))) None)
    (first_some (digits_after 8 (after_prefix 48 111 x)) (digits_after 16 (after_prefix 48 120 x)))

-- the text before the first character that passes, and the text after it, where there is one
unfoldable pub split_at : (ℕ → Bool) → List ℕ → List ℕ × Option (List ℕ)
split_at f [] = ([], None)
split_at f (c ∷ x) = cond (f c) ([], Some x) (c ∷ (split_at f x).0, (split_at f x).1)

abbrev pub exponent_of : Option (List ℕ) → Option ℤ
exponent_of None = Some (pos 0)
exponent_of (Some x) = cond (are_digits 10 (unsigned x)) (Some (signed (is_negative x) (number_in 10 (unsigned x)))) None

-- digits before the point, digits after it, and the exponent
abbrev pub scaled : Bool → List ℕ → List ℕ → Option ℤ → Option Value
scaled negative whole part None = None
scaled negative whole part (Some e) = Some (decimal_value negative (number_in 10 (whole ++ part)) (e -ℤ pos (length part)))

-- `.5`, `5`, `5.` and `5.5`
abbrev pub mantissa : Bool → List ℕ → Option (List ℕ) → Option ℤ → Option Value
mantissa negative whole None e = cond (are_digits 10 whole) (scaled negative whole [] e) None
mantissa negative whole (Some part) e =
    cond (list_all (λ c. is_digit c 10) whole && (list_all (λ c. is_digit c 10) part && not (is_empty whole && is_empty part))) (scaled negative whole part e) None

unfoldable pub decimal_of : List ℕ → Option Value
decimal_of x =
    let cut = split_at (λ c. c == 101 || c == 69) (unsigned x) in
    let number = split_at (λ c. c == 46) cut.0 in
    mantissa (is_negative x) number.0 number.1 (exponent_of cut.1)

unfoldable pub float_of : List ℕ → Option Value
float_of x =
    if one_of (codes ".nan" ∷ codes ".NaN" ∷ codes ".NAN" ∷ []) x then Some not_a_number
    else if one_of (codes ".inf" ∷ codes ".Inf" ∷ codes ".INF" ∷ []) (unsigned x) then Some (infinity (is_negative x))
    else decimal_of x

unfoldable pub bool_of : List ℕ → Option Bool
bool_of x =
    if one_of (codes "true" ∷ codes "True" ∷ codes "TRUE" ∷ []) x then Some true
    else if one_of (codes "false" ∷ codes "False" ∷ codes "FALSE" ∷ []) x then Some false
    else None

unfoldable pub is_null : List ℕ → Bool
is_null x = one_of ([] ∷ codes "~" ∷ codes "null" ∷ codes "Null" ∷ codes "NULL" ∷ []) x

-- ---- canonical content

unfoldable pub natural_text : ℕ → List ℕ
natural_text n = cond (n == 0) (48 ∷ []) (map (λ d. 48 + d) (digits_of 10 n))

unfoldable pub int_text : ℤ → List ℕ
int_text (pos n) = natural_text n
int_text (negsuc n) = 45 ∷ natural_text (suc n)

-- without the zeros at the end
unfoldable pub trimmed : List ℕ → List ℕ
trimmed [] = []
trimmed (d ∷ ds) = cond (d == 0 && is_empty (trimmed ds)) [] (d ∷ trimmed ds)

abbrev pub point_text : List ℕ → List ℕ
point_text [] = []
point_text (d ∷ ds) = 46 ∷ map (λ x. 48 + x) (d ∷ ds)

abbrev pub exponent_text : ℤ → List ℕ
exponent_text (pos zero) = []
exponent_text (pos (suc n)) = 101 ∷ 43 ∷ natural_text (suc n)
exponent_text (negsuc n) = 101 ∷ 45 ∷ natural_text (suc n)

-- the exponent once one digit stands before the point
unfoldable pub exponent : ℕ → ℤ → ℤ
exponent m k = (k +ℤ pos (length (digits_of 10 m))) -ℤ pos 1

abbrev pub digits_text : List ℕ → ℤ → List ℕ
digits_text [] x = 48 ∷ []
digits_text (d ∷ ds) x = (48 + d) ∷ (point_text ds ++ exponent_text x)

unfoldable pub decimal_text : Bool → ℕ → ℤ → List ℕ
decimal_text negative m k =
    cond (m == 0) (48 ∷ []) (cond negative (45 ∷ []) [] ++ digits_text (trimmed (digits_of 10 m)) (exponent m k))

-- the one content that stands for this value
unfoldable pub content_of : Value → List ℕ
content_of null_value = codes "null"
content_of (bool_value true) = codes "true"
content_of (bool_value false) = codes "false"
content_of (int_value n) = int_text n
content_of (decimal_value negative m k) = decimal_text negative m k
content_of (infinity true) = codes "-.inf"
content_of (infinity false) = codes ".inf"
content_of not_a_number = codes ".nan"

-- from `- 2 ^ int_bits` to `2 ^ int_bits - 1`
abbrev pub int_fits : ℤ → Bool
int_fits (pos n) = nat_lt n (2 ^ int_bits)
int_fits (negsuc n) = nat_lt n (2 ^ int_bits)

-- the cause for which a value is refused
abbrev pub refused : Value → Option Cause
refused (int_value n) = cond (int_fits n) None (Some int_range)
refused (decimal_value negative m k) = cond (m == 0 || nat_le (nat_abs (exponent m k)) exponent_limit) None (Some float_range)
refused _ = None

-- ---- tags

-- a tag and a content, or the cause of a refusal
abbrev pub Resolved : Type 0
Resolved = Result (List ℕ × List ℕ) Cause

abbrev pub accepted : List ℕ → Value → Option Cause → Resolved
accepted g v None = Ok (g, content_of v)
accepted g v (Some cause) = Err cause

abbrev pub by_range : List ℕ → Value → Resolved
by_range g v = accepted g v (refused v)

-- what the text denotes by this tag's own patterns
unfoldable pub null_of : List ℕ → Option Value
null_of x = cond (is_null x) (Some null_value) None

abbrev pub as_bool : Option Bool → Option Value
as_bool None = None
as_bool (Some b) = Some (bool_value b)

abbrev pub as_int : Option ℤ → Option Value
as_int None = None
as_int (Some n) = Some (int_value n)

-- the value that the text denotes under null, bool, int or float; under another tag a text stands for itself
unfoldable pub value_of : (tag text : List ℕ) → Option Value
value_of g x =
    if bytes_eq g null_tag then null_of x
    else if bytes_eq g bool_tag then as_bool (bool_of x)
    else if bytes_eq g int_tag then as_int (int_of x)
    else if bytes_eq g float_tag then float_of x
    else None

-- by a pattern, or else
abbrev pub by_pattern : List ℕ → Option Value → Resolved → Resolved
by_pattern g (Some v) or = by_range g v
by_pattern g None or = or

-- by the first pattern of the table that matches, else str
unfoldable pub by_table : List ℕ → Resolved
by_table x =
    by_pattern null_tag (null_of x) (by_pattern bool_tag (as_bool (bool_of x)) (by_pattern int_tag (as_int (int_of x)) (by_pattern float_tag (float_of x) (Ok (str_tag, x)))))

-- by a tag that is written out
unfoldable pub by_tag : List ℕ → List ℕ → Resolved
by_tag g x =
    if bytes_eq g null_tag then by_pattern g (null_of x) (Err bad_content)
    else if bytes_eq g bool_tag then by_pattern g (as_bool (bool_of x)) (Err bad_content)
    else if bytes_eq g int_tag then by_pattern g (as_int (int_of x)) (Err bad_content)
    else if bytes_eq g float_tag then by_pattern g (float_of x) (Err bad_content)
    else if bytes_eq g seq_tag || bytes_eq g map_tag then Err wrong_kind
    else Ok (g, x)

unfoldable pub resolve : WrittenTag → Style → List ℕ → Resolved
resolve untagged plain x = by_table x
resolve untagged _ x = Ok (str_tag, x)
resolve non_specific y x = Ok (str_tag, x)
resolve (full g) y x = by_tag g x

-- the tag of a sequence or a mapping, by its kind
unfoldable pub collection_tag : ℕ → WrittenTag → Result (List ℕ) Cause
collection_tag kind untagged = Ok (default_tag kind)
collection_tag kind non_specific = Ok (default_tag kind)
collection_tag kind (full g) = if bytes_eq g (default_tag kind) then Ok g else if is_core g then Err wrong_kind else Ok g
