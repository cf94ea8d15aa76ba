-- What a plain text is in YAML 1.1, and where the core schema of YAML 1.2 (1.2.2, 10.3.2) reads it otherwise. The patterns are those by which PyYAML resolves a plain scalar, in its order: bool, float, int, merge, null, timestamp, value. Two things are otherwise: `y` and `n` are a bool too, as YAML 1.1 has it, and `<<` is a merge as a key alone. A pattern is in the line above its definition. A `[..]*` or `[..]+` takes as much as there is: what follows it begins with another byte.
use Rattle.std.specs.Prelude.{◌≡◌, ◌==◌, ◌||◌, ◌&&◌, ◌+◌, ◌*◌, ◌-◌, ℕ, Bool, true, false, not, cond, if◌then◌else◌, List, [], ◌∷◌, ◌++◌, take, codes, Option, Some, None, IfSome, bytes_eq, unwrap_or}
use Rattle.std.specs.List.{list_all, list_any, ends_with}
use Rattle.yaml_core.specs.declared.kind.PlainKind.{PlainKind}
use Rattle.yaml_core.specs.declared.kind.PlainKind.TheVariants as plain
use Rattle.yaml_core.specs.Form.{table_kind}
use Rattle.review_text.specs.declared.yaml11.Kind.{Kind}
use Rattle.review_text.specs.declared.yaml11.Kind.TheVariants as kinds
use Rattle.review_text.specs.declared.yaml11.Older.{Older}
use Rattle.review_text.specs.declared.yaml11.Older.TheVariants as olders

-- ---- pieces of patterns

-- `[..]`: whether a byte is one of these
abbrev pub has : List ℕ → ℕ → Bool
has set c = list_any (λ b. b == c) set

-- what follows a first byte of a set
abbrev pub after_one : List ℕ → List ℕ → Option (List ℕ)
after_one set [] = None
after_one set (c ∷ x) = cond (has set c) (Some x) None

abbrev pub passes : (List ℕ → Bool) → Option (List ℕ) → Bool
passes rest None = false
passes rest (Some x) = rest x

-- `[..]` and then the rest
abbrev pub one : List ℕ → (List ℕ → Bool) → List ℕ → Bool
one set rest x = passes rest (after_one set x)

-- `[..]*` up to the end
abbrev pub all_of : List ℕ → List ℕ → Bool
all_of set x = list_all (λ c. has set c) x

-- `[..]+` up to the end
abbrev pub some_of : List ℕ → List ℕ → Bool
some_of set [] = false
some_of set (c ∷ x) = all_of set (c ∷ x)

-- what follows `[..]*`
abbrev pub behind_all : List ℕ → List ℕ → List ℕ
behind_all set [] = []
behind_all set (c ∷ x) = cond (has set c) (behind_all set x) (c ∷ x)

-- what follows `[-+]?`; nothing that comes after it begins with a sign
abbrev pub unsigned : List ℕ → List ℕ
unsigned x = unwrap_or (after_one (codes "+-") x) x

abbrev pub is_in : List (List ℕ) → List ℕ → Bool
is_in words x = list_any (λ word. bytes_eq x word) words

-- the number that digits write in a base
abbrev pub number_behind : ℕ → ℕ → List ℕ → ℕ
number_behind base n [] = n
number_behind base n (c ∷ x) = number_behind base (n * base + (c - 48)) x

abbrev pub number : ℕ → List ℕ → ℕ
number base x = number_behind base 0 x

-- ---- bool and null

abbrev pub is_bool_word : List ℕ → Bool
is_bool_word x =
    is_in (codes "y" ∷ codes "Y" ∷ codes "yes" ∷ codes "Yes" ∷ codes "YES" ∷ codes "n" ∷ codes "N" ∷ codes "no" ∷ codes "No" ∷ codes "NO"
    ∷ codes "true" ∷ codes "True" ∷ codes "TRUE" ∷ codes "false" ∷ codes "False" ∷ codes "FALSE"
    ∷ codes "on" ∷ codes "On" ∷ codes "ON" ∷ codes "off" ∷ codes "Off" ∷ codes "OFF" ∷ []) x

abbrev pub is_null_word : List ℕ → Bool
is_null_word x = is_in ([] ∷ codes "~" ∷ codes "null" ∷ codes "Null" ∷ codes "NULL" ∷ []) x

-- ---- float

-- `([eE][-+][0-9]+)?`
abbrev pub old_exponent : List ℕ → Bool
old_exponent [] = true
old_exponent (c ∷ x) = one (codes "eE") (one (codes "+-") (some_of (codes "0123456789"))) (c ∷ x)

-- `[0-9_]*([eE][-+][0-9]+)?`
abbrev pub old_fraction : List ℕ → Bool
old_fraction x = old_exponent (behind_all (codes "0123456789_") x)

-- `[0-9][0-9_]*\.[0-9_]*([eE][-+][0-9]+)?`
abbrev pub old_decimal : List ℕ → Bool
old_decimal u = one (codes "0123456789") (λ x. one (codes ".") old_fraction (behind_all (codes "0123456789_") x)) u

-- `\.[0-9][0-9_]*([eE][-+][0-9]+)?`
abbrev pub pointed : List ℕ → Bool
pointed x = one (codes ".") (one (codes "0123456789") old_fraction) x

-- `[-+]?\.(inf|Inf|INF)` and `\.(nan|NaN|NAN)`
abbrev pub is_float_word : List ℕ → Bool
is_float_word x =
    is_in (codes ".inf" ∷ codes ".Inf" ∷ codes ".INF" ∷ codes "+.inf" ∷ codes "+.Inf" ∷ codes "+.INF"
    ∷ codes "-.inf" ∷ codes "-.Inf" ∷ codes "-.INF" ∷ codes ".nan" ∷ codes ".NaN" ∷ codes ".NAN" ∷ []) x

-- without those of base 60
abbrev pub is_old_float : List ℕ → Bool
is_old_float x = old_decimal (unsigned x) || (pointed x || is_float_word x)

-- ---- int

-- `0` and a letter and `[..]+`
abbrev pub prefixed : List ℕ → List ℕ → List ℕ → Bool
prefixed letter set x = one (codes "0") (one letter (some_of set)) x

-- `0[0-7_]*` and `[1-9][0-9_]*`
abbrev pub spaced : List ℕ → Bool
spaced u = one (codes "0") (all_of (codes "01234567_")) u || one (codes "123456789") (all_of (codes "0123456789_")) u

-- these, `0b[01_]+` and `0x[0-9a-fA-F_]+` behind `[-+]?`, without those of base 60
abbrev pub is_old_int : List ℕ → Bool
is_old_int x =
    spaced (unsigned x) || (prefixed (codes "b") (codes "01_") (unsigned x) || prefixed (codes "x") (codes "0123456789abcdefABCDEF_") (unsigned x))

-- `0[0-7]+`, an int of base 8 in YAML 1.1 and of base 10 in YAML 1.2, where these are two numbers
abbrev pub octal : List ℕ → Bool
octal u = one (codes "0") (some_of (codes "01234567")) u && not (number 8 u == number 10 u)

-- ---- kinds

-- without numbers of base 60 and timestamps
abbrev pub old_kind : List ℕ → Bool → Kind
old_kind x is_key =
    if is_bool_word x then kinds.Bool
    else if is_old_float x then kinds.Float
    else if is_old_int x then kinds.Int
    else if is_key && bytes_eq x (codes "<<") then kinds.Merge
    else if is_null_word x then kinds.Null
    else if bytes_eq x (codes "=") then kinds.Default
    else kinds.Str

abbrev pub kind_of : PlainKind → Kind
kind_of plain.Null = kinds.Null
kind_of plain.Bool = kinds.Bool
kind_of plain.Int = kinds.Int
kind_of plain.Float = kinds.Float
kind_of plain.Str = kinds.Str

-- by the core schema
abbrev pub new_kind : List ℕ → Kind
new_kind x = kind_of (table_kind x)

abbrev pub are_same : Kind → Kind → Bool
are_same kinds.Null kinds.Null = true
are_same kinds.Bool kinds.Bool = true
are_same kinds.Int kinds.Int = true
are_same kinds.Float kinds.Float = true
are_same kinds.Str kinds.Str = true
are_same _ _ = false

-- ---- a zero that a value does not keep

-- `[0-9][0-9]*0`
abbrev pub long_fraction : List ℕ → Bool
long_fraction x = one (codes "0123456789") (λ x. all_of (codes "0123456789") x && ends_with ◌==◌ x (codes "0")) x

-- `[0-9]+\.[0-9][0-9]*0`, as `3.10`; not `1.0`, by which one writes a float that is whole
abbrev pub trailing_zero : List ℕ → Bool
trailing_zero u = one (codes "0123456789") (λ x. one (codes ".") long_fraction (behind_all (codes "0123456789") x)) u

-- ---- what is warned of

-- a text of two kinds, or of two numbers, or one whose zero at the end is lost
abbrev pub older_of : List ℕ → Bool → Option Older
older_of x is_key =
    if not (are_same (new_kind x) (old_kind x is_key)) then Some (olders.Kinds (new_kind x) (old_kind x is_key))
    else if octal (unsigned x) then Some olders.Octal
    else if trailing_zero (unsigned x) then Some olders.Shorter
    else None

-- by the patterns of base 60 and of timestamps, of which nothing else is said here
abbrev pub is_timed : Kind → Bool
is_timed kinds.Int = true
is_timed kinds.Float = true
is_timed kinds.Timestamp = true
is_timed _ = false

abbrev pub IsTimed : Option Kind → Type 0
IsTimed told = IfSome told (λ kind. is_timed kind ≡ true)

-- a string by the core schema
abbrev pub is_timed_warning : Kind → Older → Bool
is_timed_warning kinds.Str (olders.Kinds kinds.Str there) = is_timed there
is_timed_warning _ _ = false

abbrev pub IsTimedWarning : Kind → Option Older → Type 0
IsTimedWarning here told = IfSome told (λ why. is_timed_warning here why ≡ true)

-- The warning is the one of the patterns; a string by both is none, or by these others.
abbrev pub IsOlder : Option Older → Kind → Option Older → Type 0
IsOlder (Some why) here told = told ≡ Some why
IsOlder None here told = IsTimedWarning here told

-- ---- the words of a warning

abbrev pub kind_words : Kind → List ℕ
kind_words kinds.Null = codes "a null"
kind_words kinds.Bool = codes "a bool"
kind_words kinds.Int = codes "an int"
kind_words kinds.Float = codes "a float"
kind_words kinds.Str = codes "a string"
kind_words kinds.Merge = codes "a merge"
kind_words kinds.Timestamp = codes "a timestamp"
kind_words kinds.Default = codes "a default value"

-- the number without zeros at its end, and without a point there: the text up to a byte
abbrev pub SaysShorter : List ℕ → List ℕ → Type 0
SaysShorter text words = (n : ℕ) × (m : ℕ) × (words ≡ codes "a float, " ++ take m (take n text))

-- What is said of a text that is warned of. Of an octal nothing is said here.
abbrev pub SaysOlder : Older → List ℕ → List ℕ → Type 0
SaysOlder (olders.Kinds here there) text words = words ≡ kind_words here ++ (codes " here, " ++ (kind_words there ++ codes " in YAML 1.1"))
SaysOlder olders.Octal text words = Unit {0}
SaysOlder olders.Shorter text words = SaysShorter text words
