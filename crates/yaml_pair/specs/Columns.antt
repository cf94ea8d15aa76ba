-- Columns of places, one for each step of a list: none where a step has no place on this side.
use Rattle.std.specs.Prelude.{◌≡◌, ℕ, ◌<◌, ◌≤◌, List, Option, Some, None}
use Rattle.std.specs.List.{slice_get}

-- each place below the bound stands there once, and no other place does
pub record EachOf (column : List (Option ℕ)) (n : ℕ) : Type 0 where
  pub within : (k i : ℕ) → slice_get column k ≡ Some (Some i) → i < n
  pub there : (i : ℕ) → i < n → (k : ℕ) × (slice_get column k ≡ Some (Some i))
  pub once : (j k i : ℕ) → slice_get column j ≡ Some (Some i) → slice_get column k ≡ Some (Some i) → j ≡ k

-- where the places of the first so many steps were seen
pub record Seen (column seen : List (Option ℕ)) (so_far n : ℕ) : Type 0 where
  pub within : (k i : ℕ) → k < so_far → slice_get column k ≡ Some (Some i) → i < n
  pub noted : (k i : ℕ) → k < so_far → slice_get column k ≡ Some (Some i) → slice_get seen i ≡ Some (Some k)
  pub stands : (k i : ℕ) → slice_get seen i ≡ Some (Some k) → slice_get column k ≡ Some (Some i)

-- the places rise
abbrev pub Rising : List (Option ℕ) → Type 0
Rising column = (a b i j : ℕ) → a < b → slice_get column a ≡ Some (Some i) → slice_get column b ≡ Some (Some j) → i < j

-- a place stands behind one that is not less
abbrev pub Falls : List (Option ℕ) → Type 0
Falls column = (a b i j : ℕ) × (a < b) × (slice_get column a ≡ Some (Some i)) × (slice_get column b ≡ Some (Some j)) × (j ≤ i)

-- the place stands behind the last one, if there is one
abbrev pub Behind : Option ℕ → ℕ → Type 0
Behind None at = Unit {0}
Behind (Some last) at = last < at

-- so far the places rise up to the last one
pub record RisesTo (column : List (Option ℕ)) (so_far : ℕ) (last : Option ℕ) : Type 0 where
  pub low : (k i at : ℕ) → k < so_far → slice_get column k ≡ Some (Some i) → Behind last at → i < at
  pub rise : (a b i j : ℕ) → a < b → b < so_far → slice_get column a ≡ Some (Some i) → slice_get column b ≡ Some (Some j) → i < j
  pub there : (l : ℕ) → last ≡ Some l → (k : ℕ) × (k < so_far) × (slice_get column k ≡ Some (Some l))
