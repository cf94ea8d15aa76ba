-- What is left of some bytes is shorter than they are.
use Rattle.std.proofs.Common.{◌≡◌, ◌≤◌, ◌<◌, ◌+◌, ℕ, List, ◌∷◌, length, Bor, inl, inr, ap, arith}
use Rattle.std.specs.Prelude.{◌⊎◌}
use Rattle.yaml_json.specs.Json.{Ws, no_white, white, Digits, no_digit, digit, SomeDigits, some_digits, Minus, no_minus, minus, Int, zero_int, other_int, Frac, no_frac, frac, Exp, no_exp, exp, signed_exp, Number, number, Chars, no_char, unescaped, escape, code_point, Str, string}
use Rattle.yaml_json.specs.Reading.{Char, plain_char, escaped_char, numbered_char, Scalar, false_scalar, null_scalar, true_scalar, number_scalar, string_scalar, left}
use Rattle.yaml_json.specs.declared.next.Next.{Next}
use Rattle.yaml_json.specs.declared.next.Next.TheVariants as next

pub white_shorter : {s r : List ℕ} → Ws s r → length r ≤ length s
white_shorter no_white = omega arith
white_shorter (white h w) = let l = white_shorter w in omega arith

digits_shorter : {s r : List ℕ} → Digits s r → length r ≤ length s
digits_shorter no_digit = omega arith
digits_shorter (digit h d) = let l = digits_shorter d in omega arith

some_shorter : {s r : List ℕ} → SomeDigits s r → length r < length s
some_shorter (some_digits h d) = let l = digits_shorter d in omega arith

minus_shorter : {s r : List ℕ} → Minus s r → length r ≤ length s
minus_shorter no_minus = omega arith
minus_shorter minus = omega arith

int_shorter : {s r : List ℕ} → Int s r → length r < length s
int_shorter zero_int = omega arith
int_shorter (other_int h d) = let l = digits_shorter d in omega arith

frac_shorter : {s r : List ℕ} → Frac s r → length r ≤ length s
frac_shorter no_frac = omega arith
frac_shorter (frac d) = let l = some_shorter d in omega arith

exp_shorter : {s r : List ℕ} → Exp s r → length r ≤ length s
exp_shorter no_exp = omega arith
exp_shorter (exp h d) = let l = some_shorter d in omega arith
exp_shorter (signed_exp h g d) = let l = some_shorter d in omega arith

number_shorter : {s r : List ℕ} → Number s r → length r < length s
number_shorter (number m i f x) =
    let a = minus_shorter m in
    let b = int_shorter i in
    let c = frac_shorter f in
    let d = exp_shorter x in
    omega arith

pub char_shorter : {s r : List ℕ} → Char s r → length r < length s
char_shorter (plain_char h e) = let l = ap length e in omega arith
char_shorter (escaped_char h e) = let l = ap length e in omega arith
char_shorter (numbered_char a b c d e) = let l = ap length e in omega arith

chars_shorter : {s r : List ℕ} → Chars s r → length r ≤ length s
chars_shorter no_char = omega arith
chars_shorter (unescaped h k) = let l = chars_shorter k in omega arith
chars_shorter (escape h k) = let l = chars_shorter k in omega arith
chars_shorter (code_point a b c d k) = let l = chars_shorter k in omega arith

pub str_shorter : {s r : List ℕ} → Str s r → length r < length s
str_shorter (string k) = let l = chars_shorter k in omega arith

pub scalar_shorter : {s r : List ℕ} → Scalar s r → length r < length s
scalar_shorter (false_scalar e) = let l = ap length e in omega arith
scalar_shorter (null_scalar e) = let l = ap length e in omega arith
scalar_shorter (true_scalar e) = let l = ap length e in omega arith
scalar_shorter (number_scalar n) = number_shorter n
scalar_shorter (string_scalar q) = str_shorter q

pub behind_shorter : (bytes inside rest : List ℕ) (c : ℕ) → Ws bytes inside → inside ≡ c ∷ rest → length rest < length bytes
behind_shorter bytes inside rest c w e = let l = ap length e in let k = white_shorter w in omega arith

pub scalar_behind : (bytes start rest : List ℕ) → Ws bytes start → Scalar start rest → length rest < length bytes
scalar_behind bytes start rest w x = let l = scalar_shorter x in let k = white_shorter w in omega arith

pub named_behind : (bytes inside value : List ℕ) → Ws bytes inside → (t : List ℕ) × Str inside t × Ws t (58 ∷ value) → length value < length bytes
named_behind bytes inside value w (t, q, x) =
    let a = white_shorter w in
    let b = str_shorter q in
    let c = white_shorter x in
    omega arith

smaller : (n m k : ℕ) → (n ≡ 0) ⊎ (n < m) → n ≡ k + 1 → n < m
smaller n m k (inl z) e = absurd (omega arith)
smaller n m k (inr l) e = l

-- fewer tokens are left where the reading goes on
pub goes_smaller : (n m : Next) → (left n ≡ 0) ⊎ (left n < left m) → ((s : Bor (List ℕ)) × (n ≡ next.Value s)) ⊎ ((s : Bor (List ℕ)) × (n ≡ next.Rest s)) → left n < left m
goes_smaller n m l (inl (s, e)) = smaller (left n) (left m) (length s.now) l (ap left e)
goes_smaller n m l (inr (s, e)) = smaller (left n) (left m) (length s.now) l (ap left e)
