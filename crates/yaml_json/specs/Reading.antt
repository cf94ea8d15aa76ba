-- How JSON is read: where a part of the text ends, which arrays and objects are open, and what is read next.
use Rattle.std.specs.Prelude.{◌≡◌, ◌+◌, ◌==◌, ℕ, Bool, true, false, List, [], ◌∷◌, ◌++◌, length, codes}
use Rattle.yaml_json.specs.Json.{is_digit, is_e, is_hex_digit, is_unescaped, is_escaped, Ws, SomeDigits, Minus, Int, Frac, Exp, Number, Str, EndArray, EndObject, MoreMembers, MoreItems, Value}
use Rattle.yaml_json.specs.declared.next.Collection.{Collection}
use Rattle.yaml_json.specs.declared.next.Collection.TheVariants as collections
use Rattle.yaml_json.specs.declared.next.Next.{Next}
use Rattle.yaml_json.specs.declared.next.Next.TheVariants as next

-- ---- the one end of what is read

-- the first byte is one of these
abbrev pub begins : (ℕ → Bool) → List ℕ → Bool
begins is [] = false
begins is (c ∷ s) = is c

-- `-` and `.`
abbrev pub is_minus : ℕ → Bool
is_minus c = c == 45

abbrev pub is_dot : ℕ → Bool
is_dot c = c == 46

-- these bytes alone can be left
abbrev pub Only : (List ℕ → Type 0) → List ℕ → Type 0
Only Left rest = (r : List ℕ) → Left r → r ≡ rest

-- no bytes can be left
abbrev pub No : (List ℕ → Type 0) → Type 0
No Left = (r : List ℕ) → Left r → ⊥

-- A byte with which a number goes on is not the first.
pub record Stops (r : List ℕ) : Type 0 where
  pub digit : begins is_digit r ≡ false
  pub dot : begins is_dot r ≡ false
  pub e : begins is_e r ≡ false

-- each part of a number, as far as it goes
abbrev pub DigitsTo : List ℕ → List ℕ → Type 0
DigitsTo s r = SomeDigits s r × (begins is_digit r ≡ false)

abbrev pub MinusTo : List ℕ → List ℕ → Type 0
MinusTo s r = Minus s r × (begins is_minus r ≡ false)

abbrev pub IntTo : List ℕ → List ℕ → Type 0
IntTo s r = Int s r × (begins is_digit r ≡ false)

abbrev pub FracTo : List ℕ → List ℕ → Type 0
FracTo s r = Frac s r × (begins is_digit r ≡ false) × (begins is_dot r ≡ false)

abbrev pub ExpTo : List ℕ → List ℕ → Type 0
ExpTo s r = Exp s r × Stops r

abbrev pub NumberTo : List ℕ → List ℕ → Type 0
NumberTo s r = Number s r × Stops r

-- char (RFC 8259, 7)
pub data Char (s r : List ℕ) : Type 0 where
  plain_char : {c : ℕ} → is_unescaped c ≡ true → s ≡ c ∷ r → Char s r
  escaped_char : {c : ℕ} → is_escaped c ≡ true → s ≡ 92 ∷ c ∷ r → Char s r
  numbered_char : {a b c d : ℕ} → is_hex_digit a ≡ true → is_hex_digit b ≡ true → is_hex_digit c ≡ true → is_hex_digit d ≡ true → s ≡ 92 ∷ 117 ∷ a ∷ b ∷ c ∷ d ∷ r → Char s r

-- a value that is no array and no object
pub data Scalar (s r : List ℕ) : Type 0 where
  false_scalar : s ≡ codes "false" ++ r → Scalar s r
  null_scalar : s ≡ codes "null" ++ r → Scalar s r
  true_scalar : s ≡ codes "true" ++ r → Scalar s r
  number_scalar : Number s r → Scalar s r
  string_scalar : Str s r → Scalar s r

abbrev pub ScalarTo : List ℕ → List ℕ → Type 0
ScalarTo s r = Scalar s r × Stops r

-- ---- what is open

-- what is left of a collection behind one of its values
abbrev pub Left : Collection → List ℕ → List ℕ → Type 0
Left collections.Array s r = (t : List ℕ) × MoreItems s t × EndArray t r
Left collections.Object s r = (t : List ℕ) × MoreMembers s t × EndObject t r

-- what is left of all that is open, the outermost first
abbrev pub Leave : List Collection → List ℕ → List ℕ → Type 0
Leave [] s r = s ≡ r
Leave (k ∷ ks) s r = (t : List ℕ) × Leave ks s t × Left k t r

-- the bytes end what is open, and the text
abbrev pub Ends : List Collection → List ℕ → Type 0
Ends around s = (t : List ℕ) × Leave around s t × Ws t []

-- the bytes are a value, after white space, and end what is open, and the text
abbrev pub GoesAt : List Collection → List ℕ → Type 0
GoesAt around s = (t u : List ℕ) × Ws s t × Value t u × Ends around u

-- The rest of the text is as it must be if this is read next.
abbrev pub GoesOn : List Collection → Next → Type 0
GoesOn around (next.Value s) = GoesAt around s.now
GoesOn around (next.Rest s) = Ends around s.now
GoesOn around next.End = Unit {0}
GoesOn around next.Fault = ⊥

-- a bound of the tokens that are left
abbrev pub left : Next → ℕ
left (next.Value s) = length s.now + 1
left (next.Rest s) = length s.now + 1
left next.End = 0
left next.Fault = 0
