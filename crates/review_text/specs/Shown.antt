-- What is shown of a text for which there may be too little room.
use Rattle.std.specs.Prelude.{◌≡◌, ◌⊎◌, ◌≤◌, ℕ, zero, suc, Bool, ◌==◌, cond, nat_lt, nat_le, take, List, ◌++◌, length, slice_index, codes}
use Rattle.std.specs.Str.{IsUtf8}
use Rattle.yaml_path.specs.LineModel.{starts_char}

-- a character starts at this byte, or the text ends there
abbrev pub is_border : List ℕ → ℕ → Bool
is_border text k = cond (nat_lt k (length text)) (starts_char (slice_index text k)) (k == length text)

-- the last place up to this one at which a character ends, or the text's start
abbrev pub last_border : List ℕ → ℕ → ℕ
last_border text zero = 0
last_border text (suc k) = cond (is_border text (suc k)) (suc k) (last_border text k)

-- as many whole characters as have at most so many bytes
abbrev pub front : ℕ → List ℕ → List ℕ
front room text = take (last_border text room) text

-- all of a text of at most so many bytes, and of a longer one its front and `...`
abbrev pub shown : ℕ → List ℕ → List ℕ
shown room text = cond (nat_le (length text) room) text (front room text ++ codes "...")

-- whole characters of at least so many bytes, or all of the text
pub record IsLongFront (room : ℕ) (text piece : List ℕ) : Type 0 where
  pub rest : List ℕ
  pub is : text ≡ piece ++ rest
  pub whole : IsUtf8 piece
  pub others : IsUtf8 rest
  pub long : (room ≤ length piece) ⊎ (piece ≡ text)
