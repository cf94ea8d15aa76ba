-- The parts of a line of a list.
use Rattle.std.specs.Prelude.{◌==◌, ◌||◌, ℕ, Bool, true, false, cond, List, [], ◌∷◌, Option, Some, None}
use Rattle.std.specs.Borrow.{Bor}

-- a line without the carriage return at its end
abbrev pub line_text : List ℕ → List ℕ
line_text [] = []
line_text (b ∷ []) = cond (b == 13) [] (b ∷ [])
line_text (b ∷ c ∷ bs) = b ∷ line_text (c ∷ bs)

-- a space or a tab
abbrev pub is_white : ℕ → Bool
is_white b = (b == 32) || (b == 9)

-- a text without those at its start
abbrev pub skip_white : List ℕ → List ℕ
skip_white [] = []
skip_white (b ∷ bs) = cond (is_white b) (skip_white bs) (b ∷ bs)

-- a backslash at the start of a line says that its name is written with escapes
abbrev pub is_marked : List ℕ → Bool
is_marked [] = false
is_marked (b ∷ bs) = b == 92

-- the line without it
abbrev pub unmarked : List ℕ → List ℕ
unmarked [] = []
unmarked (b ∷ bs) = cond (b == 92) bs (b ∷ bs)

-- a byte more before a cut
abbrev pub with_byte : ℕ → List ℕ → Option (List ℕ × List ℕ) → Option (List ℕ × List ℕ)
with_byte b bs (Some cut) = Some (b ∷ cut.0, cut.1)
with_byte b bs None = cond (b == 41) (Some ([], bs)) None

-- what is before the last closing bracket, and what is behind it
abbrev pub cut_last : List ℕ → Option (List ℕ × List ℕ)
cut_last [] = None
cut_last (b ∷ bs) = with_byte b bs (cut_last bs)

-- two parts where they are in memory
abbrev pub pair_of : Bor (List ℕ) × Bor (List ℕ) → List ℕ × List ℕ
pair_of parts = (parts.0.now, parts.1.now)
