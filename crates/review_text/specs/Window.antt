-- A line of a text, and below it a caret under the character of an offset.
use Rattle.std.specs.Prelude.{◌≡◌, ℕ, ◌+◌, ◌-◌, ◌≤◌, ◌==◌, min, cond, unwrap_or, false, List, [], ◌∷◌, ◌++◌, length, take, drop, codes, slice_range}
use Rattle.std.specs.List.{flat_map}
use Rattle.std.specs.Str.{chars}
use Rattle.std.specs.Str.Lossy.{utf8_lossy}
use Rattle.unicode_width.specs.Width.{char_width}
use Rattle.yaml_path.specs.LineModel.{IsLine}
use Rattle.review_text.specs.Terminal.{terminal_char, terminal}

-- how many bytes of a line are shown whole on either side of the offset, and of how many there may be a part
abbrev pub side : ℕ
side = 80

abbrev pub side_bytes : ℕ
side_bytes = 320

-- so many spaces; no character is wider than three
abbrev pub spaces : ℕ → List ℕ
spaces width = cond (width == 1) (codes " ") (cond (width == 2) (codes "  ") (cond (width == 3) (codes "   ") []))

-- below a character that is shown stands a tab for a tab, and as many spaces as it is wide for every other
unfoldable pub below : ℕ → List ℕ
below c = cond (c == 9) (9 ∷ []) (spaces (unwrap_or (char_width false c) 0))

-- what stands below a text as it is shown
abbrev pub margin : List ℕ → List ℕ
margin text = flat_map (λ c. below (terminal_char c)) (chars text)

-- the part of a text from a byte on, and the part up to one
abbrev pub IsPartFrom : List ℕ → List ℕ → Type 0
IsPartFrom whole part = (from : ℕ) × (part ≡ drop from whole)

abbrev pub IsPartTo : List ℕ → List ℕ → Type 0
IsPartTo whole part = (to : ℕ) × (part ≡ take to whole)

-- a text's end, and its start; all of a short one
abbrev pub IsEnd : List ℕ → List ℕ → Type 0
IsEnd whole part = IsPartFrom whole part × (length whole ≤ side → part ≡ whole)

abbrev pub IsStart : List ℕ → List ℕ → Type 0
IsStart whole part = IsPartTo whole part × (length whole ≤ side → part ≡ whole)

-- What stands on the offset's line before it and behind it, of each side so many bytes at most.
pub record Sides (text : List ℕ) (at : ℕ) (left right : List ℕ) : Type 0 where
  pub start : ℕ
  pub stop : ℕ
  pub line : IsLine text at start stop
  pub before : left ≡ slice_range text (at - min (at - start) side_bytes) at
  pub behind : right ≡ slice_range text at (at + min (stop - at) side_bytes)

-- the line of these two pieces, and a caret below the first character of the second
abbrev pub window : List ℕ → List ℕ → List ℕ
window before behind = terminal before ++ (terminal behind ++ (codes "\n" ++ (margin before ++ codes "^\n")))

-- Of the line so much is shown as stands close to the offset. Of bytes that are not UTF-8 U+FFFD is shown.
pub record ShowsLine (text : List ℕ) (at : ℕ) (shown : List ℕ) : Type 0 where
  pub left : List ℕ
  pub right : List ℕ
  pub before : List ℕ
  pub behind : List ℕ
  pub sides : Sides text at left right
  pub ends : IsEnd (utf8_lossy left) before
  pub starts : IsStart (utf8_lossy right) behind
  pub is : shown ≡ window before behind

-- it is written behind the old text
pub record PutsLine (text : List ℕ) (at : ℕ) (old new : List ℕ) : Type 0 where
  pub shown : List ℕ
  pub shows : ShowsLine text at shown
  pub is : new ≡ old ++ shown
