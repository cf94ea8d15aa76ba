-- The pieces of a content's spelling.
use Rattle.std.specs.Prelude.{◌≡◌, ◌≢◌, ◌⊎◌, ◌<◌, ◌≤◌, ℕ, true, false, List, [], ◌++◌, length, slice_index, Option, None, Some}
use Rattle.std.specs.Str.{encode_utf8_all}
use Rattle.yaml_definitions.specs.canonical.CharText.{spell_char}
use Rattle.yaml_scalar.specs.Spelling.{is_verbatim}
use Rattle.yaml_spell.specs.declared.quoted.Piece.{Piece}

-- A byte of characters that are written as they are: a letter of ASCII, or a byte of one beyond it. Beyond ASCII an escape
-- stands for U+0080 to U+009F, U+FEFF, U+FFFE and U+FFFF alone, which begin with 194 or 239, and no other byte of a character
-- is one of these two.
abbrev pub Plain : ℕ → Type 0
Plain b = (b < 128 → is_verbatim b ≡ true) × (b ≢ 194) × (b ≢ 239)

-- a byte that is none
abbrev pub Other : ℕ → Type 0
Other b = (b < 128 → is_verbatim b ≡ false) × (128 ≤ b → (b ≡ 194) ⊎ (b ≡ 239))

abbrev pub AllPlain : List ℕ → Type 0
AllPlain bytes = (k : ℕ) → k < length bytes → Plain (slice_index bytes k)

-- one is none
abbrev pub SomeOther : List ℕ → Type 0
SomeOther bytes = (k : ℕ) × (k < length bytes) × Other (slice_index bytes k)

-- the spelling of a character, if there is one
abbrev pub next_text : Option ℕ → List ℕ
next_text None = []
next_text (Some c) = encode_utf8_all (spell_char c)

abbrev pub piece_text : Piece → List ℕ
piece_text p = p.run.now ++ next_text p.next
