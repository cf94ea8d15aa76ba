-- The texts that are read (YAML 1.2.2, 5.1 and 5.2): not too long, in UTF-8, after at most one byte order mark, and printable throughout.
use Rattle.std.specs.Prelude.{◌≡◌, ℕ, ◌≤◌, Bool, true, cond, ◌&&◌, not, ◌==◌, List, [], ◌∷◌, length, drop}
use Rattle.std.specs.List.{starts_with, All}
use Rattle.std.specs.Str.{encode_utf8_all, all_scalars}
use Rattle.yaml_definitions.specs.model.Limits.{text_limit}
use Rattle.yaml_definitions.specs.grammar.Characters.{is_printable}

-- a character that a text may hold; U+FEFF is none
abbrev pub is_text : ℕ → Bool
is_text c = is_printable c && not (c == 0xFEFF)

-- the byte order mark, and its length where the bytes begin with one
abbrev pub byte_order_mark : List ℕ
byte_order_mark = 0xEF ∷ 0xBB ∷ 0xBF ∷ []

abbrev pub mark_len : List ℕ → ℕ
mark_len bytes = cond (starts_with ◌==◌ bytes byte_order_mark) 3 0

-- the bytes are a text of these characters
pub record Text (bytes chars : List ℕ) : Type 0 where
  pub short : length bytes ≤ text_limit
  pub decodes : drop (mark_len bytes) bytes ≡ encode_utf8_all chars
  pub scalars : all_scalars chars ≡ true
  pub permitted : All (λ c. is_text c ≡ true) chars
