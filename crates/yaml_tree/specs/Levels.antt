-- Nodes by height.
use Rattle.std.specs.Prelude.{◌≡◌, ℕ, zero, suc, ◌+◌, ◌<◌, List, [], ◌∷◌, Vec, length, Some}
use Rattle.std.specs.List.{slice_get}
use Rattle.std.proofs.Common.{Global}

-- numbers of nodes, by height
abbrev pub Levels : Type 0
Levels = List (Vec ℕ Global)

-- the numbers of this height
abbrev pub level_of : Levels → ℕ → List ℕ
level_of [] h = []
level_of (v ∷ vs) zero = v.items
level_of (v ∷ vs) (suc h) = level_of vs h

-- how many numbers there are
abbrev pub total : Levels → ℕ
total [] = 0
total (v ∷ vs) = length v.items + total vs

-- there is a level of this height, and each level is as it was
pub record Reaches (h : ℕ) (old new : Levels) : Type 0 where
  pub within : h < length new
  pub same : (k : ℕ) → level_of new k ≡ level_of old k
  pub count : total new ≡ total old

-- The first numbers, so many, each once at its height, in rising order.
pub record LevelsBy (high : ℕ → ℕ) (end : ℕ) (levels : Levels) : Type 0 where
  pub sound : (h k i : ℕ) → slice_get (level_of levels h) k ≡ Some i → (i < end) × (high i ≡ h)
  pub whole : (i : ℕ) → i < end → (k : ℕ) × (slice_get (level_of levels (high i)) k ≡ Some i)
  pub rises : (h j k x y : ℕ) → j < k → slice_get (level_of levels h) j ≡ Some x → slice_get (level_of levels h) k ≡ Some y → x < y
  pub count : total levels ≡ end
