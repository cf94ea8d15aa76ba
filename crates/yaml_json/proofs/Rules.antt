-- The rules of scalars, by what a reader took.
use Rattle.std.proofs.Common.{◌≡◌, ℕ, List, ◌∷◌, true, Bool, Option, None, Bor, subst, ap, sym, ◌∙◌}
use Rattle.std.specs.Prelude.{IfNone}
use Rattle.yaml_json.specs.Json.{is_white, is_digit, is_nonzero_digit, is_e, is_sign, is_unescaped, is_escaped, Ws, no_white, white, Digits, no_digit, digit, SomeDigits, some_digits, Minus, minus, Int, zero_int, other_int, Frac, frac, Exp, signed_exp, Chars, unescaped, escape, code_point, Str, string, Value, false_value, null_value, true_value, number_value, string_value}
use Rattle.yaml_json.specs.Reading.{No, Char, plain_char, escaped_char, numbered_char, Scalar, false_scalar, null_scalar, true_scalar, number_scalar, string_scalar}

-- what is told of a `None` by `?`
pub none_told : {T : Type 0} (o : Option T) (P : Type 0) → o ≡ None → P → IfNone o P
none_told o P e p = subst (λ z. IfNone z P) (sym e) p

-- ---- white space

pub white_joined : {s t r : List ℕ} → Ws s t → Ws t r → Ws s r
white_joined no_white k = k
white_joined (white h w) k = white h (white_joined w k)

pub took_white : (bytes rest after : List ℕ) → Ws bytes rest → (c : ℕ) × (is_white c ≡ true) × (rest ≡ c ∷ after) → Ws bytes after
took_white bytes rest after w (c, h, e) = white_joined w (subst (λ z. Ws z after) (sym e) (white h no_white))

-- ---- numbers

pub digits_joined : {s t r : List ℕ} → Digits s t → Digits t r → Digits s r
digits_joined no_digit k = k
digits_joined (digit h d) k = digit h (digits_joined d k)

pub took_digit : (bytes rest after : List ℕ) → Digits bytes rest → (c : ℕ) × (is_digit c ≡ true) × (rest ≡ c ∷ after) → Digits bytes after
took_digit bytes rest after d (c, h, e) = digits_joined d (subst (λ z. Digits z after) (sym e) (digit h no_digit))

pub took_some : (bytes more rest : List ℕ) → (c : ℕ) × (is_digit c ≡ true) × (bytes ≡ c ∷ more) → Digits more rest → SomeDigits bytes rest
took_some bytes more rest (c, h, e) d = subst (λ z. SomeDigits z rest) (sym e) (some_digits h d)

pub took_minus : (bytes rest : List ℕ) → bytes ≡ 45 ∷ rest → Minus bytes rest
took_minus bytes rest e = subst (λ z. Minus z rest) (sym e) minus

pub took_zero : (bytes rest : List ℕ) (c : ℕ) → bytes ≡ c ∷ rest → c ≡ 48 → Int bytes rest
took_zero bytes rest c e z = subst (λ y. Int y rest) (sym e) (subst (λ d. Int (d ∷ rest) rest) (sym z) zero_int)

pub took_int : (bytes more rest : List ℕ) (c : ℕ) (b : Bool) → bytes ≡ c ∷ more → b ≡ is_nonzero_digit c → b ≡ true → Digits more rest → Int bytes rest
took_int bytes more rest c b e h t d = subst (λ z. Int z rest) (sym e) (other_int (sym h ∙ t) d)

pub took_frac : (bytes digits rest : List ℕ) → bytes ≡ 46 ∷ digits → SomeDigits digits rest → Frac bytes rest
took_frac bytes digits rest e d = subst (λ z. Frac z rest) (sym e) (frac d)

pub took_signed : (bytes digits rest : List ℕ) (e c : ℕ) (b : Bool) → is_e e ≡ true → bytes ≡ c ∷ digits → b ≡ is_sign c → b ≡ true → SomeDigits digits rest → Exp (e ∷ bytes) rest
took_signed bytes digits rest e c b i q h t d = subst (λ z. Exp (e ∷ z) rest) (sym q) (signed_exp i (sym h ∙ t) d)

pub took_exp : (bytes power rest : List ℕ) (e : ℕ) → bytes ≡ e ∷ power → Exp (e ∷ power) rest → Exp bytes rest
took_exp bytes power rest e q x = subst (λ z. Exp z rest) (sym q) x

-- ---- strings

pub plain_read : (bytes rest : List ℕ) (c : ℕ) (b : Bool) → bytes ≡ c ∷ rest → b ≡ is_unescaped c → b ≡ true → Char bytes rest
plain_read bytes rest c b e h t = plain_char (sym h ∙ t) e

pub escaped_read : (bytes rest : List ℕ) (c : ℕ) (b : Bool) → bytes ≡ c ∷ rest → b ≡ is_escaped c → b ≡ true → Char (92 ∷ bytes) rest
escaped_read bytes rest c b e h t = escaped_char (sym h ∙ t) (ap (λ z. 92 ∷ z) e)

-- nothing is read behind a byte
pub none_behind : (Read : List ℕ → List ℕ → Type 0) (o : Option (Bor (List ℕ))) (bytes rest : List ℕ) (c d : ℕ) → bytes ≡ c ∷ rest → c ≡ d → IfNone o (No (Read (d ∷ rest))) → IfNone o (No (Read bytes))
none_behind Read o bytes rest c d e f h = subst (λ z. IfNone o (No (Read z))) (ap (λ z. z ∷ rest) (sym f) ∙ sym e) h

-- one character more
pub char_read : (s t r : List ℕ) → Char s t → Chars t r → Chars s r
char_read s t r (plain_char h e) k = subst (λ z. Chars z r) (sym e) (unescaped h k)
char_read s t r (escaped_char h e) k = subst (λ z. Chars z r) (sym e) (escape h k)
char_read s t r (numbered_char a b c d e) k = subst (λ z. Chars z r) (sym e) (code_point a b c d k)

pub took_string : (bytes chars rest : List ℕ) → bytes ≡ 34 ∷ chars → Chars chars (34 ∷ rest) → Str bytes rest
took_string bytes chars rest e k = subst (λ z. Str z rest) (sym e) (string k)

-- ---- values

pub scalar_read : (s r : List ℕ) → Scalar s r → Value s r
scalar_read s r (false_scalar e) = subst (λ z. Value z r) (sym e) false_value
scalar_read s r (null_scalar e) = subst (λ z. Value z r) (sym e) null_value
scalar_read s r (true_scalar e) = subst (λ z. Value z r) (sym e) true_value
scalar_read s r (number_scalar n) = number_value n
scalar_read s r (string_scalar q) = string_value q
