-- The texts that are refused: the first of the three passes over the bytes, and its place.
use Rattle.std.specs.Prelude.{◌≡◌, ℕ, ◌+◌, ◌<◌, ◌≤◌, true, false, List, ◌++◌, length, drop}
use Rattle.std.specs.Char.{encode_utf8}
use Rattle.std.specs.List.{All}
use Rattle.std.specs.Str.{encode_utf8_all, all_scalars, IsUtf8, IsValidUpTo}
use Rattle.yaml_definitions.specs.model.Limits.{text_limit}
use Rattle.yaml_definitions.specs.model.Text.{is_text, mark_len}
use Rattle.yaml_text.specs.declared.fault.Fault.{Fault}
use Rattle.yaml_text.specs.declared.fault.Fault.TheVariants.{TooLong, NotUtf8, NotPrintable}

-- at the byte `at` of the text stands its first character that no text may hold
pub record IsFirstRefused (text : List ℕ) (at : ℕ) : Type 0 where
  pub before : List ℕ
  pub refused : ℕ
  pub after : List ℕ
  pub split : text ≡ encode_utf8_all before ++ (encode_utf8 refused ++ after)
  pub permitted : All (λ c. is_text c ≡ true) before
  pub forbidden : is_text refused ≡ false
  pub place : at ≡ length (encode_utf8_all before)

-- the first of the three passes that refuses the bytes gives this fault
abbrev pub RefusesText : List ℕ → Fault → Type 0
RefusesText bytes TooLong = text_limit < length bytes
RefusesText bytes (NotUtf8 at) = (length bytes ≤ text_limit) × IsValidUpTo bytes at
RefusesText bytes (NotPrintable at) = (length bytes ≤ text_limit) × IsUtf8 bytes
    × ((i : ℕ) × (at ≡ mark_len bytes + i) × IsFirstRefused (drop (mark_len bytes) bytes) i)
RefusesText bytes _ = ⊥

-- the text is of characters that a text may hold
abbrev pub AllText : List ℕ → Type 0
AllText text = (chars : List ℕ) × (text ≡ encode_utf8_all chars) × (all_scalars chars ≡ true) × All (λ c. is_text c ≡ true) chars

-- the front of the text before this rest is of characters that a text may hold
pub record IsScanned (text rest : List ℕ) : Type 0 where
  pub before : List ℕ
  pub split : text ≡ encode_utf8_all before ++ rest
  pub permitted : All (λ c. is_text c ≡ true) before
