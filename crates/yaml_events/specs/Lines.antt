-- Event texts by their lines.
use Rattle.std.specs.Prelude.{◌≡◌, ◌≢◌, ◌<◌, ◌+◌, ℕ, List, [], ◌∷◌, ◌++◌, length, All}
use Rattle.yaml_definitions.specs.model.Event.{Event}
use Rattle.yaml_definitions.specs.model.EventText.{IsSound, event_line}

-- The bytes are the line of an event, without its LF.
abbrev pub IsEventLine : List ℕ → Type 0
IsEventLine line = (e : Event) × IsSound e × (line ≡ event_line e)

-- no LF stands in the bytes
abbrev pub IsOneLine : List ℕ → Type 0
IsOneLine line = All (λ b. b ≢ 10) line

-- the lines, each ended by LF
abbrev pub lines_text : List (List ℕ) → List ℕ
lines_text [] = []
lines_text (line ∷ lines) = line ++ (10 ∷ lines_text lines)

-- what stands before `after`, or before the end, is no event line: it has no LF, or is the line of no event
abbrev pub IsBadBefore : List ℕ → List ℕ → Type 0
IsBadBefore line [] = 0 < length line
IsBadBefore line (c ∷ after) = (c ≡ 10) × (IsEventLine line → ⊥)

-- Of the lines of a text, counted from 1, the one of this number is the first that is no event line.
pub record IsFirstBadLine (text : List ℕ) (number : ℕ) : Type 0 where
  pub before : List (List ℕ)
  pub line : List ℕ
  pub after : List ℕ
  pub split : text ≡ lines_text before ++ (line ++ after)
  pub place : number ≡ length before + 1
  pub whole : All IsOneLine (line ∷ before)
  pub good : All IsEventLine before
  pub bad : IsBadBefore line after
