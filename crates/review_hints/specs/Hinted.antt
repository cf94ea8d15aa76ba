-- What the words of a hint are.
use Rattle.std.specs.Prelude.{◌≡◌, ◌≤◌, ◌<◌, ◌⊎◌, ◌==◌, ◌&&◌, ◌||◌, ℕ, Bool, true, false, not, cond, nat_le, nat_lt, filter, slice_get, List, [], ◌∷◌, ◌++◌, Option, Some, None, codes}
use Rattle.std.specs.Fmt.{decimal}
use Rattle.std.specs.List.{list_all, starts_with}
use Rattle.yaml_definitions.specs.model.Limits.{text_limit, open_limit, height_limit, key_limit, int_bits, exponent_limit}
use Rattle.yaml_text.specs.declared.fault.Fault.{Fault}
use Rattle.yaml_text.specs.declared.fault.Fault.TheVariants as faults
use Rattle.yaml_path.specs.LineModel.{IsPlace}

-- ---- how they look

-- a character of ASCII that is no control character
abbrev pub is_printed : ℕ → Bool
is_printed byte = nat_le 32 byte && nat_lt byte 127

-- some words on one line, which each terminal shows as they are
abbrev pub is_line : List ℕ → Bool
is_line [] = false
is_line (byte ∷ words) = list_all is_printed (byte ∷ words)

abbrev pub begins_with : List ℕ → List ℕ → Bool
begins_with front words = starts_with (λ a b. a == b) words front

-- the words begin with a line, or with the place at which something was opened
abbrev pub tells_where : List ℕ → Bool
tells_where words = begins_with (codes "line ") words || (begins_with (codes "the bracket opened ") words || (begins_with (codes "the brace opened ") words || begins_with (codes "the quote opened ") words))

-- a line that tells no place
abbrev pub is_plain : List ℕ → Bool
is_plain words = is_line words && not (tells_where words)

-- ---- which limit they tell

-- the limit that is passed where there is this fault
abbrev pub limit_of : Fault → Option ℕ
limit_of faults.TooLong = Some text_limit
limit_of (faults.KeyTooLong at) = Some key_limit
limit_of (faults.TooDeep at) = Some open_limit
limit_of (faults.IntRange event) = Some int_bits
limit_of (faults.FloatRange event) = Some exponent_limit
limit_of (faults.TooHigh document) = Some height_limit
limit_of faults.TextTooLong = Some text_limit
limit_of _ = None

abbrev pub holds : List ℕ → List ℕ → Bool
holds part [] = begins_with part []
holds part (byte ∷ text) = begins_with part (byte ∷ text) || holds part text

abbrev pub without_commas : List ℕ → List ℕ
without_commas words = filter (λ byte. not (byte == 44)) words

-- the words hold the limit, if there is one, with or without commas between its digits
abbrev pub HoldsLimit : Option ℕ → List ℕ → Type 0
HoldsLimit None words = Unit {0}
HoldsLimit (Some limit) words = holds (decimal limit) (without_commas words) ≡ true

-- ---- which place they tell

-- They tell the line of this offset of the text, which is not after the fault.
pub record TellsLine (text : List ℕ) (at offset : ℕ) (words : List ℕ) : Type 0 where
  pub row : ℕ
  pub column : ℕ
  pub before : offset ≤ at
  pub placed : IsPlace text offset row column
  pub more : List ℕ
  pub is : words ≡ codes "line " ++ (decimal row ++ (codes " " ++ more))

-- the quotes, the bracket and the brace that open something
abbrev pub is_mark : ℕ → Bool
is_mark byte = (byte == 34) || ((byte == 39) || ((byte == 91) || (byte == 123)))

abbrev pub name_of : ℕ → List ℕ
name_of mark = cond (mark == 91) (codes "bracket") (cond (mark == 123) (codes "brace") (codes "quote"))

-- They tell the place of this offset, which is before the fault and at which the text has such a character, and call it by its name.
pub record TellsOpened (text : List ℕ) (at offset : ℕ) (words : List ℕ) : Type 0 where
  pub mark : ℕ
  pub row : ℕ
  pub column : ℕ
  pub before : offset < at
  pub stands : slice_get text offset ≡ Some mark
  pub opens : is_mark mark ≡ true
  pub placed : IsPlace text offset row column
  pub more : List ℕ
  pub is : words ≡ codes "the " ++ (name_of mark ++ (codes " opened at line " ++ (decimal row ++ (codes ", column " ++ (decimal column ++ (codes " " ++ more))))))

-- The words for a fault at this offset of a text tell no place, or that of its cause.
abbrev pub IsHint : List ℕ → ℕ → Option ℕ → List ℕ → Type 0
IsHint text at None words = is_plain words ≡ true
IsHint text at (Some cause) words = TellsLine text at cause words ⊎ TellsOpened text at cause words
