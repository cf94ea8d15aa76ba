-- JSON by its grammar (RFC 8259). Each rule of the standard is a relation under its name: `Value s r` says that the bytes `s` are a `value`,
-- and then the bytes `r`. The bytes are those of a text in UTF-8 (8.1). The grammar names no character past ASCII but in `unescaped`: there,
-- each byte from 128 on is part of such a character, and is itself.
use Rattle.std.specs.Prelude.{◌≡◌, ◌||◌, ◌==◌, ℕ, Bool, true, List, [], ◌∷◌, ◌++◌, codes}
use Rattle.std.specs.Int.{is_in_range}

-- ---- characters by their names in the standard (2, 7)

-- `[`
abbrev pub left-square-bracket : ℕ
left-square-bracket = 91

-- `{`
abbrev pub left-curly-bracket : ℕ
left-curly-bracket = 123

-- `:`
abbrev pub colon : ℕ
colon = 58

-- `"`
abbrev pub quotation-mark : ℕ
quotation-mark = 34

-- `\`
abbrev pub reverse-solidus : ℕ
reverse-solidus = 92

-- `u`, which comes before the four digits of an escape
abbrev pub letter-u : ℕ
letter-u = 117

-- ---- the grammar

-- white space (2): a space, a tab, a line feed or a carriage return
abbrev pub is_white : ℕ → Bool
is_white c = c == 32 || c == 9 || c == 10 || c == 13

-- DIGIT, and digit1-9 (6)
abbrev pub is_digit : ℕ → Bool
is_digit c = is_in_range 48 57 c

abbrev pub is_nonzero_digit : ℕ → Bool
is_nonzero_digit c = is_in_range 49 57 c

-- HEXDIG (RFC 5234, B.1), in either case (7)
abbrev pub is_hex_digit : ℕ → Bool
is_hex_digit c = is_digit c || is_in_range 65 70 c || is_in_range 97 102 c

-- e (6): `e` or `E`
abbrev pub is_e : ℕ → Bool
is_e c = c == 101 || c == 69

-- minus or plus (6)
abbrev pub is_sign : ℕ → Bool
is_sign c = c == 45 || c == 43

-- unescaped (7): no control character, `"` or `\`
abbrev pub is_unescaped : ℕ → Bool
is_unescaped c = is_in_range 32 33 c || is_in_range 35 91 c || is_in_range 93 255 c

-- what an escape of two characters ends with (7): `"`, `\`, `/`, `b`, `f`, `n`, `r`, `t`
abbrev pub is_escaped : ℕ → Bool
is_escaped c = c == 34 || c == 92 || c == 47 || c == 98 || c == 102 || c == 110 || c == 114 || c == 116

-- ws (2)
pub data Ws : List ℕ → List ℕ → Type 0 where
  no_white : {r : List ℕ} → Ws r r
  white : {c : ℕ} {s r : List ℕ} → is_white c ≡ true → Ws s r → Ws (c ∷ s) r

-- a structural character (2), with the white space around it
pub data Structural (c : ℕ) : List ℕ → List ℕ → Type 0 where
  structural : {s t r : List ℕ} → Ws s (c ∷ t) → Ws t r → Structural c s r

abbrev pub BeginArray : List ℕ → List ℕ → Type 0
BeginArray = Structural 91

abbrev pub EndArray : List ℕ → List ℕ → Type 0
EndArray = Structural 93

abbrev pub BeginObject : List ℕ → List ℕ → Type 0
BeginObject = Structural 123

abbrev pub EndObject : List ℕ → List ℕ → Type 0
EndObject = Structural 125

abbrev pub NameSeparator : List ℕ → List ℕ → Type 0
NameSeparator = Structural 58

abbrev pub ValueSeparator : List ℕ → List ℕ → Type 0
ValueSeparator = Structural 44

-- *DIGIT, and 1*DIGIT
pub data Digits : List ℕ → List ℕ → Type 0 where
  no_digit : {r : List ℕ} → Digits r r
  digit : {c : ℕ} {s r : List ℕ} → is_digit c ≡ true → Digits s r → Digits (c ∷ s) r

pub data SomeDigits : List ℕ → List ℕ → Type 0 where
  some_digits : {c : ℕ} {s r : List ℕ} → is_digit c ≡ true → Digits s r → SomeDigits (c ∷ s) r

-- [ minus ] (6)
pub data Minus : List ℕ → List ℕ → Type 0 where
  no_minus : {r : List ℕ} → Minus r r
  minus : {r : List ℕ} → Minus (45 ∷ r) r

-- int (6): no zero is before other digits
pub data Int : List ℕ → List ℕ → Type 0 where
  zero_int : {r : List ℕ} → Int (48 ∷ r) r
  other_int : {c : ℕ} {s r : List ℕ} → is_nonzero_digit c ≡ true → Digits s r → Int (c ∷ s) r

-- [ frac ] (6)
pub data Frac : List ℕ → List ℕ → Type 0 where
  no_frac : {r : List ℕ} → Frac r r
  frac : {s r : List ℕ} → SomeDigits s r → Frac (46 ∷ s) r

-- [ exp ] (6)
pub data Exp : List ℕ → List ℕ → Type 0 where
  no_exp : {r : List ℕ} → Exp r r
  exp : {e : ℕ} {s r : List ℕ} → is_e e ≡ true → SomeDigits s r → Exp (e ∷ s) r
  signed_exp : {e c : ℕ} {s r : List ℕ} → is_e e ≡ true → is_sign c ≡ true → SomeDigits s r → Exp (e ∷ c ∷ s) r

-- number (6): [ minus ] int [ frac ] [ exp ]
pub data Number : List ℕ → List ℕ → Type 0 where
  number : {s t u v r : List ℕ} → Minus s t → Int t u → Frac u v → Exp v r → Number s r

-- *char (7)
pub data Chars : List ℕ → List ℕ → Type 0 where
  no_char : {r : List ℕ} → Chars r r
  unescaped : {c : ℕ} {s r : List ℕ} → is_unescaped c ≡ true → Chars s r → Chars (c ∷ s) r
  escape : {c : ℕ} {s r : List ℕ} → is_escaped c ≡ true → Chars s r → Chars (92 ∷ c ∷ s) r
  code_point : {a b c d : ℕ} {s r : List ℕ} → is_hex_digit a ≡ true → is_hex_digit b ≡ true → is_hex_digit c ≡ true → is_hex_digit d ≡ true → Chars s r → Chars (92 ∷ 117 ∷ a ∷ b ∷ c ∷ d ∷ s) r

-- string (7): quotation-mark *char quotation-mark
pub data Str : List ℕ → List ℕ → Type 0 where
  string : {s r : List ℕ} → Chars s (34 ∷ r) → Str (34 ∷ s) r

mutual
  -- value (3)
  pub data Value : List ℕ → List ℕ → Type 0 where
    false_value : {r : List ℕ} → Value (codes "false" ++ r) r
    null_value : {r : List ℕ} → Value (codes "null" ++ r) r
    true_value : {r : List ℕ} → Value (codes "true" ++ r) r
    object_value : {s r : List ℕ} → Object s r → Value s r
    array_value : {s r : List ℕ} → Array s r → Value s r
    number_value : {s r : List ℕ} → Number s r → Value s r
    string_value : {s r : List ℕ} → Str s r → Value s r

  -- object (4): begin-object [ member *( value-separator member ) ] end-object
  pub data Object : List ℕ → List ℕ → Type 0 where
    empty_object : {s t r : List ℕ} → BeginObject s t → EndObject t r → Object s r
    object : {s t u v r : List ℕ} → BeginObject s t → Member t u → MoreMembers u v → EndObject v r → Object s r

  -- member (4): string name-separator value
  pub data Member : List ℕ → List ℕ → Type 0 where
    member : {s t u r : List ℕ} → Str s t → NameSeparator t u → Value u r → Member s r

  -- *( value-separator member ) (4)
  pub data MoreMembers : List ℕ → List ℕ → Type 0 where
    no_member : {r : List ℕ} → MoreMembers r r
    more_members : {s t u r : List ℕ} → ValueSeparator s t → Member t u → MoreMembers u r → MoreMembers s r

  -- array (5): begin-array [ value *( value-separator value ) ] end-array
  pub data Array : List ℕ → List ℕ → Type 0 where
    empty_array : {s t r : List ℕ} → BeginArray s t → EndArray t r → Array s r
    array : {s t u v r : List ℕ} → BeginArray s t → Value t u → MoreItems u v → EndArray v r → Array s r

  -- *( value-separator value ) (5)
  pub data MoreItems : List ℕ → List ℕ → Type 0 where
    no_item : {r : List ℕ} → MoreItems r r
    more_items : {s t u r : List ℕ} → ValueSeparator s t → Value t u → MoreItems u r → MoreItems s r

-- The bytes are a JSON-text (2): ws value ws.
pub data IsJson : List ℕ → Type 0 where
  json_text : {s t u : List ℕ} → Ws s t → Value t u → Ws u [] → IsJson s
