-- Lists that stand in another one.
use Rattle.std.specs.Prelude.{◌≡◌, ◌≤◌, ℕ, List, [], ◌∷◌, ◌++◌, length}
use Rattle.std.specs.List.{slice_range}

-- These are the elements from one place up to another.
pub record IsRange {X : Type 0} (xs : List X) (start end : ℕ) (ys : List X) : Type 0 where
  pub in_order : start ≤ end
  pub within : end ≤ length xs
  pub is : slice_range xs start end ≡ ys

-- A list grew at its end.
pub record Grows {X : Type 0} (old new : List X) : Type 0 where
  pub more : List X
  pub is : new ≡ old ++ more

-- A list grew at its end, and now these elements stand there.
pub record Puts {X : Type 0} (old new : List X) (start end : ℕ) (ys : List X) : Type 0 where
  pub grows : Grows old new
  pub range : IsRange new start end ys

-- keys and values in turn
abbrev pub in_turn : List (ℕ × ℕ) → List ℕ
in_turn [] = []
in_turn (p ∷ ps) = p.0 ∷ p.1 ∷ in_turn ps
