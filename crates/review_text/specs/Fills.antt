-- Texts that are written as far as there is room.
use Rattle.std.specs.Prelude.{◌≡◌, ℕ, ◌+◌, take, List, ◌++◌}

-- As far as one byte past the room goes, the new text is the old one and then this text.
abbrev pub Fills : ℕ → List ℕ → List ℕ → List ℕ → Type 0
Fills room old new text = take (room + 1) new ≡ take (room + 1) (old ++ text)
