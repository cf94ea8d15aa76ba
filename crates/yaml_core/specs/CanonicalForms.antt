-- The forms of canonical content. A pattern is said by the texts that it matches.
use Rattle.std.specs.Prelude.{◌≡◌, ◌⊎◌, ◌≤◌, ℕ, ◌==◌, ◌-◌, ◌^◌, Bool, true, not, ◌&&◌, List, [], ◌∷◌, ◌++◌, codes, Some, Ok}
use Rattle.std.specs.List.{list_all}
use Rattle.std.specs.Char.{is_digit}
use Rattle.yaml_definitions.specs.model.Limits.{int_bits, exponent_limit}
use Rattle.yaml_definitions.specs.model.Event.{Style, WrittenTag, full}
use Rattle.yaml_definitions.specs.model.Tag.{null_tag, bool_tag, int_tag, float_tag}
use Rattle.yaml_definitions.specs.model.Core.{Value, number_in, value_of, content_of, resolve}

abbrev pub Pattern : Type 1
Pattern = List ℕ → Type 0

infixr 11 ◌◆◌
infixr 10 ◌⊔◌
-- one after another, and either of two
abbrev pub ◌◆◌ : Pattern → Pattern → Pattern
(P ◆ Q) x = (y : List ℕ) × (z : List ℕ) × P y × Q z × (x ≡ y ++ z)

abbrev pub ◌⊔◌ : Pattern → Pattern → Pattern
(P ⊔ Q) x = P x ⊎ Q x

-- this text alone
abbrev pub word : List ℕ → Pattern
word w x = x ≡ w

abbrev pub maybe : Pattern → Pattern
maybe P = word [] ⊔ P

-- one character that passes, and any number of them
abbrev pub one : (ℕ → Bool) → Pattern
one f x = (c : ℕ) × (f c ≡ true) × (x ≡ c ∷ [])

abbrev pub any : (ℕ → Bool) → Pattern
any f x = list_all f x ≡ true

-- `[0-9]`
abbrev pub digit : ℕ → Bool
digit c = is_digit c 10

-- `[1-9]`
abbrev pub nonzero : ℕ → Bool
nonzero c = digit c && not (c == 48)

-- ---- the forms

-- `null`
abbrev pub null_form : Pattern
null_form = word (codes "null")

-- `true|false`
abbrev pub bool_form : Pattern
bool_form = word (codes "true") ⊔ word (codes "false")

abbrev pub minus : Pattern
minus = word (codes "-")

-- `[1-9][0-9]*`
abbrev pub counting : Pattern
counting = one nonzero ◆ any digit

-- the same of a number that is at most this
abbrev pub up_to : ℕ → Pattern
up_to most x = counting x × (number_in 10 x ≤ most)

-- `0|N|-M`, where N and M are `[1-9][0-9]*`, in range or not
abbrev pub int_form : (N M : Pattern) → Pattern
int_form N M = word (codes "0") ⊔ N ⊔ (minus ◆ M)

-- `\.[0-9]*[1-9]`
abbrev pub fraction : Pattern
fraction = word (codes ".") ◆ any digit ◆ one nonzero

-- `e[+-]N`
abbrev pub scale : (N : Pattern) → Pattern
scale N = word (codes "e") ◆ (word (codes "+") ⊔ word (codes "-")) ◆ N

-- `-?[1-9](\.[0-9]*[1-9])?(e[+-]N)?`
abbrev pub decimal_form : (N : Pattern) → Pattern
decimal_form N = maybe minus ◆ one nonzero ◆ maybe fraction ◆ maybe (scale N)

-- `0`, a decimal, `-?\.inf` and `\.nan`
abbrev pub float_form : (N : Pattern) → Pattern
float_form N = word (codes "0") ⊔ decimal_form N ⊔ (maybe minus ◆ word (codes ".inf")) ⊔ word (codes ".nan")

-- ---- of every value, in range or not

-- the canonical content of what some text denotes under this tag
abbrev pub Content : List ℕ → Pattern
Content g x = (y : List ℕ) × (v : Value) × (value_of g y ≡ Some v) × (x ≡ content_of v)

-- the canonical content of what it denotes itself
abbrev pub OwnContent : List ℕ → Pattern
OwnContent g x = (v : Value) × (value_of g x ≡ Some v) × (x ≡ content_of v)

-- Each canonical content under this tag is of this form, and each text of the form is its own content.
abbrev pub HasForm : List ℕ → Pattern → Type 0
HasForm g P = (x : List ℕ) → (Content g x → P x) × (P x → OwnContent g x)

abbrev pub NullForm : Type 0
NullForm = HasForm null_tag null_form

abbrev pub BoolForm : Type 0
BoolForm = HasForm bool_tag bool_form

abbrev pub IntForm : Type 0
IntForm = HasForm int_tag (int_form counting counting)

abbrev pub FloatForm : Type 0
FloatForm = HasForm float_tag (float_form counting)

-- ---- of what resolving gives, where a value that is out of range is refused

-- what some scalar resolves to, with this tag
abbrev pub Resolving : List ℕ → Pattern
Resolving g x = (written : WrittenTag) × (style : Style) × (y : List ℕ) × (resolve written style y ≡ Ok (g, x))

-- The contents that resolving gives with this tag are of this form, and each text of the form gives itself under the tag.
abbrev pub Gives : List ℕ → Pattern → Type 0
Gives g P = (x : List ℕ) → (Resolving g x → P x) × (P x → (style : Style) → resolve (full g) style x ≡ Ok (g, x))

abbrev pub GivesNull : Type 0
GivesNull = Gives null_tag null_form

abbrev pub GivesBool : Type 0
GivesBool = Gives bool_tag bool_form

abbrev pub GivesInt : Type 0
GivesInt = Gives int_tag (int_form (up_to (2 ^ int_bits - 1)) (up_to (2 ^ int_bits)))

abbrev pub GivesFloat : Type 0
GivesFloat = Gives float_tag (float_form (up_to exponent_limit))
