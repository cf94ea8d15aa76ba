-- A content's spelling between double quotes, by runs of characters that stand for themselves.
use Rattle.std.specs.Prelude.{◌≡◌, ℕ, Bool, true, drop, not, cond, ◌/◌, ◌%◌, ◌&&◌, ◌==◌, nat_lt, List, [], ◌∷◌, ◌++◌, flat_map}
use Rattle.std.specs.Str.{encode_utf8_all, all_scalars, chars}
use Rattle.yaml_text.specs.LeafAnswer.{Only}
use Rattle.yaml_definitions.specs.canonical.CharText.{is_plain, hex_digit, spell_char}
use Rattle.yaml_definitions.specs.canonical.NodeText.{quoted}
use Rattle.yaml_definitions.specs.grammar.FlowScalars.{c-double-quoted as double}
use Rattle.yaml_definitions.specs.grammar.Separation.{Ctx}

-- the bytes of a content's spelling, quotes included
abbrev pub quoted_bytes : List ℕ → List ℕ
quoted_bytes text = encode_utf8_all (34 ∷ quoted (chars text) [])

-- the same without the quotes
abbrev pub spelled_chars : List ℕ → List ℕ
spelled_chars text = encode_utf8_all (flat_map spell_char (chars text))

-- nothing is taken away
pub record Grows (old new : List ℕ) : Type 0 where
  pub added : List ℕ
  pub is : new ≡ old ++ added

-- a character that stands for itself between double quotes
unfoldable pub is_verbatim : ℕ → Bool
is_verbatim c = is_plain c && (not (c == 34) && not (c == 92))

-- the escape of a character by its number, which is below 65536
abbrev pub code_text : ℕ → List ℕ
code_text c =
    cond (nat_lt c 256) (92 ∷ 120 ∷ hex_digit (c / 16) ∷ hex_digit (c % 16) ∷ [])
    (92 ∷ 117 ∷ hex_digit (c / 4096) ∷ hex_digit (c / 256 % 16) ∷ hex_digit (c / 16 % 16) ∷ hex_digit (c % 16) ∷ [])

-- two digits of base 16, of a number below 256
abbrev pub byte_text : ℕ → List ℕ
byte_text b = hex_digit (b / 16) ∷ hex_digit (b % 16) ∷ []

-- A spelling is read back: wherever it stands it is a double-quoted scalar of the content that it spells, and no other
-- reading begins there.
abbrev pub ReadsBack : Type 0
ReadsBack = (n : ℕ) (c : Ctx) (cs xs more : List ℕ) (i : ℕ) → all_scalars xs ≡ true → drop i cs ≡ 34 ∷ quoted xs more →
    (j : ℕ) × Only (double cs n c) i j xs × (drop j cs ≡ more)
