-- Texts, one behind the other, and their numbers.
use Rattle.std.specs.Prelude.{◌≡◌, ℕ, ◌+◌, ◌-◌, ◌^◌, min, List, [], ◌∷◌, ◌++◌}

-- the number of what so many come before, as far as a number of 64 bits counts
abbrev pub number_after : ℕ → ℕ
number_after before = min (before + 1) (2 ^ 64 - 1)

module _ {X : Type 0} (IsText : X → List ℕ → Type 0) where
  -- a text of each
  abbrev pub AreTexts : List X → List ℕ → Type 0
  AreTexts [] text = text ≡ []
  AreTexts (x ∷ xs) text = (one : List ℕ) × (rest : List ℕ) × IsText x one × AreTexts xs rest × (text ≡ one ++ rest)
