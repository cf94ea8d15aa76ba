-- White space, numbers, strings and scalars are read in one way: where each ends.
use Rattle.std.proofs.Common.{◌≡◌, ℕ, Bool, true, false, List, ◌∷◌, length, inl, inr, refl, sym, ◌∙◌, ap, subst, nat_eq, arith}
use Rattle.std.specs.Prelude.{◌==◌, ◌⊎◌, ◌||◌, ◌<◌}
use Rattle.std.proofs.lemmas.Bool.{true≢false}
use Rattle.std.proofs.lemmas.Bool.Decides.{nat_tests}
use Rattle.yaml_json.specs.Json.{is_white, is_digit, is_nonzero_digit, is_hex_digit, is_e, is_sign, is_unescaped, is_escaped, Ws, no_white, white, Digits, no_digit, digit, SomeDigits, some_digits, Minus, no_minus, minus, Int, zero_int, other_int, Frac, no_frac, frac, Exp, no_exp, exp, signed_exp, Number, number, Chars, no_char, unescaped, escape, code_point, Str, string}
use Rattle.yaml_json.specs.Reading.{begins, is_minus, is_dot, Only, No, Stops, DigitsTo, MinusTo, IntTo, FracTo, ExpTo, NumberTo, Char, plain_char, escaped_char, numbered_char, Scalar, false_scalar, null_scalar, true_scalar, number_scalar, string_scalar, ScalarTo}

-- ---- the first byte

-- the byte of one class is of no other
abbrev pub Apart : (ℕ → Bool) → (ℕ → Bool) → Type 0
Apart p q = (c : ℕ) → p c ≡ true → q c ≡ false

never : {P : Type 0} (b : Bool) → b ≡ true → b ≡ false → P
never b t f = absurd (true≢false (sym t ∙ f))

-- the bytes begin with one of a class
abbrev pub First : (ℕ → Bool) → List ℕ → Type 0
First p s = (c : ℕ) × (t : List ℕ) × (p c ≡ true) × (s ≡ c ∷ t)

pub begins_other : (p q : ℕ → Bool) (s : List ℕ) → Apart p q → First p s → begins q s ≡ false
begins_other p q s apart (c, t, h, e) = ap (begins q) e ∙ apart c h

pub first_not : {P : Type 0} (p q : ℕ → Bool) (s : List ℕ) → Apart p q → First p s → First q s → P
first_not p q s apart f (c, t, h, e) = never (q c) h (sym (ap (begins q) e) ∙ begins_other p q s apart f)

pub begins_is : (p : ℕ → Bool) (c : ℕ) (s t : List ℕ) → s ≡ c ∷ t → begins p s ≡ p c
begins_is p c s t e = ap (begins p) e

pub shorter : (c : ℕ) (s t : List ℕ) → s ≡ c ∷ t → length t < length s
shorter c s t e = let l = ap length e in omega arith

-- the same first byte, and the same bytes behind it
pub same_rest : (c d : ℕ) (s t r : List ℕ) → s ≡ c ∷ t → s ≡ d ∷ r → t ≡ r
same_rest c d s t r e f = cc

pub same_first : (c d : ℕ) (s t r : List ℕ) → s ≡ c ∷ t → s ≡ d ∷ r → c ≡ d
same_first c d s t r e f = cc

-- ---- classes of bytes

e_no_digit : Apart is_e is_digit
e_no_digit c h = grind (arith, nat_tests)

e_no_dot : Apart is_e is_dot
e_no_dot c h = grind (arith, nat_tests)

sign_no_digit : Apart is_sign is_digit
sign_no_digit c h = grind (arith, nat_tests)

digit_no_minus : Apart is_digit is_minus
digit_no_minus c h = grind (arith, nat_tests)

nonzero_digit_is : (c : ℕ) → is_nonzero_digit c ≡ true → is_digit c ≡ true
nonzero_digit_is c h = grind (arith, nat_tests)

pub white_no_digit : Apart is_white is_digit
white_no_digit c h = grind (arith, nat_tests)

pub white_no_dot : Apart is_white is_dot
white_no_dot c h = grind (arith, nat_tests)

pub white_no_e : Apart is_white is_e
white_no_e c h = grind (arith, nat_tests)

-- ---- white space

pub white_here : {s t : List ℕ} → begins is_white s ≡ false → Ws s t → t ≡ s
white_here n no_white = refl
white_here n (white {c} h w) = never (is_white c) h n

pub white_one : {s a b : List ℕ} → Ws s a → begins is_white a ≡ false → Ws s b → begins is_white b ≡ false → a ≡ b
white_one no_white n k m = sym (white_here n k)
white_one (white {c} h w) n no_white m = never (is_white c) h m
white_one (white h w) n (white g k) m = white_one w n k m

-- ---- digits

digits_here : {s t : List ℕ} → begins is_digit s ≡ false → Digits s t → t ≡ s
digits_here n no_digit = refl
digits_here n (digit {c} h d) = never (is_digit c) h n

digits_one : {s a b : List ℕ} → Digits s a → begins is_digit a ≡ false → Digits s b → begins is_digit b ≡ false → a ≡ b
digits_one no_digit n k m = sym (digits_here n k)
digits_one (digit {c} h d) n no_digit m = never (is_digit c) h m
digits_one (digit h d) n (digit g k) m = digits_one d n k m

-- at least one
some_inv : {s r : List ℕ} → SomeDigits s r → (c : ℕ) × (t : List ℕ) × (is_digit c ≡ true) × (s ≡ c ∷ t) × Digits t r
some_inv (some_digits h d) = (_, _, h, refl, d)

some_first : {s r : List ℕ} → SomeDigits s r → First is_digit s
some_first d = let i = some_inv d in (i.0, i.1, i.2, i.3)

pub some_one : (s more rest : List ℕ) → (c : ℕ) × (is_digit c ≡ true) × (s ≡ c ∷ more) → Digits more rest → begins is_digit rest ≡ false → Only (DigitsTo s) rest
some_one s more rest (c, h, e) d n r (k, m) =
    let i = some_inv k in
    digits_one (subst (λ z. Digits z r) (same_rest _ _ _ _ _ i.3 e) i.4) m d n

-- ---- the parts of a number

minus_inv : {s r : List ℕ} → Minus s r → (r ≡ s) ⊎ (s ≡ 45 ∷ r)
minus_inv no_minus = inl refl
minus_inv minus = inr refl

int_inv : {s r : List ℕ} → Int s r → (s ≡ 48 ∷ r) ⊎ ((c : ℕ) × (t : List ℕ) × (is_nonzero_digit c ≡ true) × (s ≡ c ∷ t) × Digits t r)
int_inv zero_int = inl refl
int_inv (other_int h d) = inr (_, _, h, refl, d)

int_first : {s r : List ℕ} → Int s r → First is_digit s
int_first i = elim (int_inv i) [
  | inl h ↦ (48, _, refl, h)
  | inr x ↦ (x.0, x.1, nonzero_digit_is x.0 x.2, x.3)
]

pub int_other : (s more rest : List ℕ) (c : ℕ) (b : Bool) → s ≡ c ∷ more → b ≡ is_nonzero_digit c → b ≡ true → Digits more rest → begins is_digit rest ≡ false → Only (IntTo s) rest
int_other s more rest c b e h t d n r (i, m) = elim (int_inv i) [
  | inl k ↦ never (is_nonzero_digit c) (sym h ∙ t) (ap is_nonzero_digit (same_first _ _ _ _ _ e k))
  | inr x ↦ digits_one (subst (λ z. Digits z r) (same_rest _ _ _ _ _ x.3 e) x.4) m d n
]

frac_inv : {s r : List ℕ} → Frac s r → (r ≡ s) ⊎ ((t : List ℕ) × (s ≡ 46 ∷ t) × SomeDigits t r)
frac_inv no_frac = inl refl
frac_inv (frac d) = inr (_, refl, d)

-- an exponent: its `e`, a sign or none, and its digits
abbrev pub Power : List ℕ → List ℕ → Type 0
Power p r = SomeDigits p r ⊎ ((c : ℕ) × (t : List ℕ) × (is_sign c ≡ true) × (p ≡ c ∷ t) × SomeDigits t r)

exp_inv : {s r : List ℕ} → Exp s r → (r ≡ s) ⊎ ((e : ℕ) × (p : List ℕ) × (is_e e ≡ true) × (s ≡ e ∷ p) × Power p r)
exp_inv no_exp = inl refl
exp_inv (exp h d) = inr (_, _, h, refl, inl d)
exp_inv (signed_exp h g d) = inr (_, _, h, refl, inr (_, _, g, refl, d))

power_of : (e : ℕ) (p r : List ℕ) → is_e e ≡ true → ExpTo (e ∷ p) r → Power p r
power_of e p r h (x, stops) = elim (exp_inv x) [
  | inl i ↦ never (is_e e) h (sym (ap (begins is_e) i) ∙ stops.e)
  | inr y ↦ subst (λ z. Power z r) (same_rest _ _ _ _ _ y.3 refl) y.4
]

pub power_signed : (p digits rest : List ℕ) (e c : ℕ) (b : Bool) → is_e e ≡ true → p ≡ c ∷ digits → b ≡ is_sign c → b ≡ true → Only (DigitsTo digits) rest → Only (ExpTo (e ∷ p)) rest
power_signed p digits rest e c b h q k t only r x = elim (power_of e p r h x) [
  | inl d ↦ first_not is_sign is_digit p sign_no_digit (c, digits, sym k ∙ t, q) (some_first d)
  | inr y ↦ only r (subst (λ z. SomeDigits z r) (same_rest _ _ _ _ _ y.3 q) y.4, x.1.digit)
]

pub power_plain : (p more rest : List ℕ) (e c : ℕ) (b : Bool) → is_e e ≡ true → p ≡ c ∷ more → b ≡ is_sign c → b ≡ false → Only (DigitsTo p) rest → Only (ExpTo (e ∷ p)) rest
power_plain p more rest e c b h q k f only r x = elim (power_of e p r h x) [
  | inl d ↦ only r (d, x.1.digit)
  | inr y ↦ never (is_sign c) (ap is_sign (same_first _ _ _ _ _ q y.3) ∙ y.2) (sym k ∙ f)
]

pub power_plain_none : (p more : List ℕ) (e c : ℕ) (b : Bool) → is_e e ≡ true → p ≡ c ∷ more → b ≡ is_sign c → b ≡ false → No (DigitsTo p) → No (ExpTo (e ∷ p))
power_plain_none p more e c b h q k f lack r x = elim (power_of e p r h x) [
  | inl d ↦ lack r (d, x.1.digit)
  | inr y ↦ never (is_sign c) (ap is_sign (same_first _ _ _ _ _ q y.3) ∙ y.2) (sym k ∙ f)
]

-- ---- a whole number

exp_stops : {s r : List ℕ} → Exp s r → Stops r → (begins is_digit s ≡ false) × (begins is_dot s ≡ false)
exp_stops x stops = elim (exp_inv x) [
  | inl h ↦ (sym (ap (begins is_digit) h) ∙ stops.digit, sym (ap (begins is_dot) h) ∙ stops.dot)
  | inr y ↦ (begins_other is_e is_digit _ e_no_digit (y.0, y.1, y.2, y.3), begins_other is_e is_dot _ e_no_dot (y.0, y.1, y.2, y.3))
]

frac_stops : {s r : List ℕ} → Frac s r → begins is_digit r ≡ false → begins is_digit s ≡ false
frac_stops f n = elim (frac_inv f) [
  | inl h ↦ sym (ap (begins is_digit) h) ∙ n
  | inr x ↦ begins_is is_digit _ _ _ x.1
]

int_stops : {s r : List ℕ} → Int s r → begins is_minus s ≡ false
int_stops i = begins_other is_digit is_minus _ digit_no_minus (int_first i)

-- the parts of a number, each as far as it goes
pub record Parts (s r : List ℕ) : Type 0 where
  pub t : List ℕ
  pub u : List ℕ
  pub v : List ℕ
  pub minus_to : MinusTo s t
  pub int_to : IntTo t u
  pub frac_to : FracTo u v
  pub exp_to : ExpTo v r

parts_of : {s r : List ℕ} → NumberTo s r → Parts s r
parts_of (number {s} {t} {u} {v} {r} m i f x, stops) =
    let xs = exp_stops x stops in
    record { t = t; u = u; v = v; minus_to = (m, int_stops i); int_to = (i, frac_stops f xs.0); frac_to = (f, xs.0, xs.1); exp_to = (x, stops) }

pub number_one : (s t u v rest : List ℕ) → Only (MinusTo s) t → Only (IntTo t) u → Only (FracTo u) v → Only (ExpTo v) rest → Only (NumberTo s) rest
number_one s t u v rest a b c d r n =
    let p = parts_of n in
    let i = b _ (subst (λ z. IntTo z p.u) (a _ p.minus_to) p.int_to) in
    let f = c _ (subst (λ z. FracTo z p.v) i p.frac_to) in
    d _ (subst (λ z. ExpTo z r) f p.exp_to)

pub number_no_int : (s t : List ℕ) → Only (MinusTo s) t → No (IntTo t) → No (NumberTo s)
number_no_int s t a lack r n =
    let p = parts_of n in
    lack _ (subst (λ z. IntTo z p.u) (a _ p.minus_to) p.int_to)

pub number_no_frac : (s t u : List ℕ) → Only (MinusTo s) t → Only (IntTo t) u → No (FracTo u) → No (NumberTo s)
number_no_frac s t u a b lack r n =
    let p = parts_of n in
    let i = b _ (subst (λ z. IntTo z p.u) (a _ p.minus_to) p.int_to) in
    lack _ (subst (λ z. FracTo z p.v) i p.frac_to)

pub number_no_exp : (s t u v : List ℕ) → Only (MinusTo s) t → Only (IntTo t) u → Only (FracTo u) v → No (ExpTo v) → No (NumberTo s)
number_no_exp s t u v a b c lack r n =
    let p = parts_of n in
    let i = b _ (subst (λ z. IntTo z p.u) (a _ p.minus_to) p.int_to) in
    let f = c _ (subst (λ z. FracTo z p.v) i p.frac_to) in
    lack _ (subst (λ z. ExpTo z r) f p.exp_to)

-- ---- the first byte of a number

-- a minus or a digit
abbrev pub is_numeric : ℕ → Bool
is_numeric c = is_minus c || is_digit c

numeric_no_white : Apart is_numeric is_white
numeric_no_white c h = grind (arith, nat_tests)

digit_is_numeric : (c : ℕ) → is_digit c ≡ true → is_numeric c ≡ true
digit_is_numeric c h = grind (arith, nat_tests)

pub number_first : {s r : List ℕ} → Number s r → First is_numeric s
number_first (number {s} {t} m i f x) = elim (minus_inv m) [
  | inl h ↦ let k = int_first i in (k.0, k.1, digit_is_numeric k.0 k.2, sym h ∙ k.3)
  | inr h ↦ (45, t, refl, h)
]

pub number_bare : {s r : List ℕ} → Number s r → begins is_white s ≡ false
number_bare n = begins_other is_numeric is_white _ numeric_no_white (number_first n)

-- ---- strings

pub chars_inv : {s r : List ℕ} → Chars s r → (r ≡ s) ⊎ ((t : List ℕ) × Char s t × Chars t r)
chars_inv no_char = inl refl
chars_inv (unescaped h k) = inr (_, plain_char h refl, k)
chars_inv (escape h k) = inr (_, escaped_char h refl, k)
chars_inv (code_point a b c d k) = inr (_, numbered_char a b c d refl, k)

escaped_same : (c d : ℕ) (s t r : List ℕ) → s ≡ 92 ∷ c ∷ t → s ≡ 92 ∷ d ∷ r → t ≡ r
escaped_same c d s t r e f = cc

escaped_first : (c d : ℕ) (s t r : List ℕ) → s ≡ 92 ∷ c ∷ t → s ≡ 92 ∷ d ∷ r → c ≡ d
escaped_first c d s t r e f = cc

numbered_same : (a b c d w x y z : ℕ) (s t r : List ℕ) → s ≡ 92 ∷ 117 ∷ a ∷ b ∷ c ∷ d ∷ t → s ≡ 92 ∷ 117 ∷ w ∷ x ∷ y ∷ z ∷ r → t ≡ r
numbered_same a b c d w x y z s t r e f = cc

plain_escaped : {P : Type 0} (c : ℕ) (s t r : List ℕ) → is_unescaped c ≡ true → s ≡ c ∷ t → s ≡ 92 ∷ r → P
plain_escaped c s t r h e f = never (is_unescaped c) h (ap is_unescaped (same_first _ _ _ _ _ e f))

escaped_numbered : {P : Type 0} (c : ℕ) (s t r : List ℕ) → is_escaped c ≡ true → s ≡ 92 ∷ c ∷ t → s ≡ 92 ∷ 117 ∷ r → P
escaped_numbered c s t r h e f = never (is_escaped c) h (ap is_escaped (escaped_first _ _ _ _ _ e f))

pub char_one : {s a b : List ℕ} → Char s a → Char s b → a ≡ b
char_one (plain_char h e) (plain_char g f) = same_rest _ _ _ _ _ e f
char_one (plain_char h e) (escaped_char g f) = plain_escaped _ _ _ _ h e f
char_one (plain_char h e) (numbered_char a b c d f) = plain_escaped _ _ _ _ h e f
char_one (escaped_char h e) (plain_char g f) = plain_escaped _ _ _ _ g f e
char_one (escaped_char h e) (escaped_char g f) = escaped_same _ _ _ _ _ e f
char_one (escaped_char h e) (numbered_char a b c d f) = escaped_numbered _ _ _ _ h e f
char_one (numbered_char a b c d e) (plain_char g f) = plain_escaped _ _ _ _ g f e
char_one (numbered_char a b c d e) (escaped_char g f) = escaped_numbered _ _ _ _ g f e
char_one (numbered_char a b c d e) (numbered_char w x y z f) = numbered_same _ _ _ _ _ _ _ _ _ _ _ e f

char_no_quote : {P : Type 0} {s r : List ℕ} (t : List ℕ) → s ≡ 34 ∷ t → Char s r → P
char_no_quote t q (plain_char {c} h e) = never (is_unescaped c) h (ap is_unescaped (same_first _ _ _ _ _ e q))
char_no_quote t q (escaped_char h e) = let n = same_first _ _ _ _ _ e q in absurd (omega arith)
char_no_quote t q (numbered_char a b c d e) = let n = same_first _ _ _ _ _ e q in absurd (omega arith)

pub chars_on : (s t r : List ℕ) → No (λ rest. s ≡ 34 ∷ rest) → Char s t → Chars s (34 ∷ r) → Chars t (34 ∷ r)
chars_on s t r lack h k = elim (chars_inv k) [
  | inl e ↦ absurd (lack r (sym e))
  | inr x ↦ subst (λ z. Chars z (34 ∷ r)) (char_one x.1 h) x.2
]

pub chars_end : (s after r : List ℕ) → s ≡ 34 ∷ after → Chars s (34 ∷ r) → r ≡ after
chars_end s after r e k = elim (chars_inv k) [
  | inl h ↦ same_rest _ _ _ _ _ (sym h) e
  | inr x ↦ char_no_quote after e x.1
]

pub chars_none : (s r : List ℕ) → No (λ rest. s ≡ 34 ∷ rest) → No (Char s) → Chars s (34 ∷ r) → ⊥
chars_none s r lack stuck k = elim (chars_inv k) [
  | inl e ↦ lack r (sym e)
  | inr x ↦ stuck x.0 x.1
]

str_inv : {s r : List ℕ} → Str s r → (t : List ℕ) × (s ≡ 34 ∷ t) × Chars t (34 ∷ r)
str_inv (string k) = (_, refl, k)

pub str_first : {s r : List ℕ} → Str s r → (t : List ℕ) × (s ≡ 34 ∷ t)
str_first q = let i = str_inv q in (i.0, i.1)

pub str_one : (s chars rest : List ℕ) → s ≡ 34 ∷ chars → Only (λ r. Chars chars (34 ∷ r)) rest → Only (Str s) rest
str_one s chars rest e only r q = let i = str_inv q in only r (subst (λ z. Chars z (34 ∷ r)) (same_rest _ _ _ _ _ i.1 e) i.2)

-- ---- escapes

abbrev pub HexDigit : List ℕ → List ℕ → Type 0
HexDigit s rest = (c : ℕ) × (is_hex_digit c ≡ true) × (s ≡ c ∷ rest)

pub point_read : (s one two three four : List ℕ) → HexDigit s one → HexDigit one two → HexDigit two three → HexDigit three four → Char (92 ∷ 117 ∷ s) four
point_read s one two three four (a, ha, ea) (b, hb, eb) (c, hc, ec) (d, hd, ed) = numbered_char ha hb hc hd (joined _ _ _ _ _ _ _ _ _ ea eb ec ed)
  where
    joined : (a b c d : ℕ) (s one two three four : List ℕ) → s ≡ a ∷ one → one ≡ b ∷ two → two ≡ c ∷ three → three ≡ d ∷ four → 92 ∷ 117 ∷ s ≡ 92 ∷ 117 ∷ a ∷ b ∷ c ∷ d ∷ four
    joined a b c d s one two three four e f g h = cc

-- the digits of an escape
pub record Point (s r : List ℕ) : Type 0 where
  pub a : ℕ
  pub b : ℕ
  pub c : ℕ
  pub d : ℕ
  pub a_is : is_hex_digit a ≡ true
  pub b_is : is_hex_digit b ≡ true
  pub c_is : is_hex_digit c ≡ true
  pub d_is : is_hex_digit d ≡ true
  pub is : s ≡ a ∷ b ∷ c ∷ d ∷ r

point_of : (s r : List ℕ) → Char (92 ∷ 117 ∷ s) r → Point s r
point_of s r (plain_char h e) = plain_escaped _ _ _ _ h e refl
point_of s r (escaped_char h e) = escaped_numbered _ _ _ _ h e refl
point_of s r (numbered_char {a} {b} {c} {d} ha hb hc hd e) = record { a = a; b = b; c = c; d = d; a_is = ha; b_is = hb; c_is = hc; d_is = hd; is = digits_of s _ e }
  where
    digits_of : (s t : List ℕ) → 92 ∷ 117 ∷ s ≡ 92 ∷ 117 ∷ t → s ≡ t
    digits_of s t e = cc

no_digit_there : (s t : List ℕ) (c : ℕ) → begins is_hex_digit s ≡ false → is_hex_digit c ≡ true → s ≡ c ∷ t → ⊥
no_digit_there s t c n h e = never (is_hex_digit c) h (sym (begins_is is_hex_digit _ _ _ e) ∙ n)

pub point_no_first : (s : List ℕ) → begins is_hex_digit s ≡ false → No (Char (92 ∷ 117 ∷ s))
point_no_first s n r k = let p = point_of s r k in no_digit_there s _ p.a n p.a_is p.is

pub point_no_second : (s one : List ℕ) → HexDigit s one → begins is_hex_digit one ≡ false → No (Char (92 ∷ 117 ∷ s))
point_no_second s one (a, ha, ea) n r k = let p = point_of s r k in no_digit_there one _ p.b n p.b_is (same_rest _ _ _ _ _ ea p.is)

pub point_no_third : (s one two : List ℕ) → HexDigit s one → HexDigit one two → begins is_hex_digit two ≡ false → No (Char (92 ∷ 117 ∷ s))
point_no_third s one two (a, ha, ea) (b, hb, eb) n r k =
    let p = point_of s r k in
    no_digit_there two _ p.c n p.c_is (same_rest _ _ _ _ _ eb (same_rest _ _ _ _ _ ea p.is))

pub point_no_fourth : (s one two three : List ℕ) → HexDigit s one → HexDigit one two → HexDigit two three → begins is_hex_digit three ≡ false → No (Char (92 ∷ 117 ∷ s))
point_no_fourth s one two three (a, ha, ea) (b, hb, eb) (c, hc, ec) n r k =
    let p = point_of s r k in
    no_digit_there three _ p.d n p.d_is (same_rest _ _ _ _ _ ec (same_rest _ _ _ _ _ eb (same_rest _ _ _ _ _ ea p.is)))

-- ---- scalars

-- the first byte of a scalar
abbrev pub is_start : ℕ → Bool
is_start c = is_numeric c || (c == 34 || (c == 102 || (c == 110 || c == 116)))

numeric_is_start : (c : ℕ) → is_numeric c ≡ true → is_start c ≡ true
numeric_is_start c h = ap (λ z. z || (c == 34 || (c == 102 || (c == 110 || c == 116)))) h

pub scalar_first : {s r : List ℕ} → Scalar s r → First is_start s
scalar_first (false_scalar e) = (102, _, refl, e)
scalar_first (null_scalar e) = (110, _, refl, e)
scalar_first (true_scalar e) = (116, _, refl, e)
scalar_first (number_scalar n) = let f = number_first n in (f.0, f.1, numeric_is_start f.0 f.2, f.3)
scalar_first (string_scalar q) = let f = str_first q in (34, f.0, refl, f.1)

-- no scalar begins with this byte
pub not_scalar : {P : Type 0} {s r : List ℕ} (c : ℕ) (t : List ℕ) → is_start c ≡ false → s ≡ c ∷ t → Scalar s r → P
not_scalar c t n e x = let f = scalar_first x in never (is_start c) (ap is_start (same_first _ _ _ _ _ e f.3) ∙ f.2) n

not_number : {P : Type 0} {s r : List ℕ} (c : ℕ) (t : List ℕ) → is_numeric c ≡ false → s ≡ c ∷ t → Number s r → P
not_number c t n e x = let f = number_first x in never (is_numeric c) (ap is_numeric (same_first _ _ _ _ _ e f.3) ∙ f.2) n

-- two first bytes
pub two_firsts : {P : Type 0} (c d : ℕ) (s t r : List ℕ) → nat_eq c d ≡ false → s ≡ c ∷ t → s ≡ d ∷ r → P
two_firsts c d s t r n e f = let k = same_first c d s t r e f in let h : nat_eq c d ≡ true = grind (arith, nat_tests) in never (nat_eq c d) h n

pub scalar_string : (s rest : List ℕ) → Str s rest → Only (Str s) rest → Only (ScalarTo s) rest
scalar_string s rest q only r (string_scalar p, stops) = only r p
scalar_string s rest q only r (number_scalar n, stops) = let f = str_first q in not_number 34 f.0 refl f.1 n
scalar_string s rest q only r (false_scalar e, stops) = let f = str_first q in two_firsts 34 102 s _ _ refl f.1 e
scalar_string s rest q only r (null_scalar e, stops) = let f = str_first q in two_firsts 34 110 s _ _ refl f.1 e
scalar_string s rest q only r (true_scalar e, stops) = let f = str_first q in two_firsts 34 116 s _ _ refl f.1 e

pub scalar_number : (s rest : List ℕ) → No (Str s) → Number s rest → Only (NumberTo s) rest → Only (ScalarTo s) rest
scalar_number s rest lack n only r (string_scalar q, stops) = absurd (lack r q)
scalar_number s rest lack n only r (number_scalar m, stops) = only r (m, stops)
scalar_number s rest lack n only r (false_scalar e, stops) = not_number 102 _ refl e n
scalar_number s rest lack n only r (null_scalar e, stops) = not_number 110 _ refl e n
scalar_number s rest lack n only r (true_scalar e, stops) = not_number 116 _ refl e n
