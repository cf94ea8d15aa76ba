-- Which moves one line tells.
use Rattle.std.specs.Prelude.{◌≡◌, ◌<◌, ◌≤◌, ◌+◌, ◌&&◌, ℕ, suc, Bool, true, false, List, [], ◌∷◌, Some}
use Rattle.std.specs.List.{slice_get}
use Rattle.yaml_path.specs.declared.places.Places.{Places}
use Rattle.yaml_path.specs.declared.places.Places.TheVariants.{Both, Left, Right}
use Rattle.yaml_diff.specs.declared.difference.Difference.{Difference}
use Rattle.yaml_diff.specs.declared.difference.Move.{Move}
use Rattle.yaml_diff.specs.declared.difference.Found.{Found}
use Rattle.review_folds.specs.Lists.{IsBelow, IsSpan}
use Rattle.review_folds.specs.declared.lists.Span.{Span}
use Rattle.review_folds.specs.declared.moves.Group.{Group}

-- places of items so many behind
abbrev pub places_up : ℕ → Places → Places
places_up n (Both j k) = Both (j + n) (k + n)
places_up n (Left j) = Left (j + n)
places_up n (Right k) = Right (k + n)

-- The moves from the first one to the one before the end are of neighbours in one list that moved together: each is of the items behind those of the move before.
abbrev pub IsRange : List Move → ℕ → ℕ → Type 0
IsRange moves first end = (n : ℕ) (a b : Move) → first + n < end → slice_get moves first ≡ Some a → slice_get moves (first + n) ≡ Some b → (b.path.items ≡ a.path.items) × (b.places ≡ places_up n a.places)

-- the moves from the first one to the one before the end are of one list
abbrev pub OfOneList : List Move → ℕ → ℕ → Type 0
OfOneList moves first end = (k : ℕ) (a b : Move) → first ≤ k → k < end → slice_get moves first ≡ Some a → slice_get moves k ≡ Some b → b.path.items ≡ a.path.items

-- the span is that of the list of this move
abbrev pub IsSpanOf : Found → ℕ → Span → Type 0
IsSpanOf f first s = (a : Move) → slice_get f.moves.items first ≡ Some a → IsSpan f a.path.items s

-- All moves are known. Those from the first one to the one before the end are all of one list; there are several, no other move is of this list or of one below it, and no difference is at or below it. So only the order of the list changed.
pub record IsWhole (f : Found) (first end : ℕ) : Type 0 where
  pub all : f.whole ≡ true
  pub several : suc first < end
  pub one : OfOneList f.moves.items first end
  pub alone : (k : ℕ) (a b : Move) → slice_get f.moves.items first ≡ Some a → slice_get f.moves.items k ≡ Some b → IsBelow b.path.items a.path.items → (first ≤ k) × (k < end)
  pub calm : (k : ℕ) (a : Move) (d : Difference) → slice_get f.moves.items first ≡ Some a → slice_get f.list.items k ≡ Some d → IsBelow d.path.items a.path.items → ⊥

-- a list of which only the order changed, if moves are folded; or neighbours that moved together, of which there are several only if those are folded too
abbrev pub Tells : Bool → Bool → Found → Bool → ℕ → ℕ → Type 0
Tells folds ranges f true first end = (folds ≡ true) × IsWhole f first end
Tells folds ranges f false first end = IsRange f.moves.items first end × (suc first < end → (folds && ranges) ≡ true)

-- Groups of the moves from a number on to the one before another: each begins where the one before ends.
abbrev pub Groups : Bool → Bool → Found → ℕ → ℕ → List Group → Type 0
Groups folds ranges f at end [] = at ≡ end
Groups folds ranges f at end (g ∷ gs) = (g.first ≡ at) × (g.first < g.end) × Tells folds ranges f g.whole g.first g.end × Groups folds ranges f g.end end gs
