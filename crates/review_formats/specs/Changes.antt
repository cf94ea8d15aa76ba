-- The changed lines of two strings, each behind a tab and its sign.
use Rattle.std.specs.Prelude.{ℕ, ◌==◌, cond, List, [], ◌∷◌}
use Rattle.std.specs.List.{slice_split}

-- the text without this byte at its end, if it has it there
abbrev pub without_last : ℕ → List ℕ → List ℕ
without_last last [] = []
without_last last (b ∷ []) = cond (b == last) [] (b ∷ [])
without_last last (b ∷ c ∷ text) = b ∷ without_last last (c ∷ text)

-- the same of a line feed
abbrev pub without_end : List ℕ → List ℕ
without_end text = without_last 10 text

-- the line without the tab at its beginning, if it has one there
abbrev pub without_tab : List ℕ → List ℕ
without_tab [] = []
without_tab (b ∷ line) = cond (b == 9) line (b ∷ line)

-- the lines, with their tabs
abbrev pub changed_lines : List ℕ → List (List ℕ)
changed_lines text = slice_split (λ b. b == 10) (without_end text)
