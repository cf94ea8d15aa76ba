-- What is looked at of steps that were put together: places, and whether they are told to be a pair that moved.
use Rattle.std.specs.Prelude.{◌≡◌, ◌⊎◌, ℕ, Bool, false, cond, List, [], ◌∷◌, map, Option, Some, None}
use Rattle.yaml_path.specs.Ways.{left_place, right_place}
use Rattle.yaml_path.specs.declared.places.Places.{Places}
use Rattle.yaml_path.specs.declared.places.Places.TheVariants.{Both, Left, Right}
use Rattle.yaml_pair.specs.Columns.{EachOf, Rising, Falls}

abbrev pub place_of : Places × Bool → Places
place_of s = s.0

abbrev pub left_of : Places × Bool → Option ℕ
left_of s = left_place s.0

abbrev pub right_of : Places × Bool → Option ℕ
right_of s = right_place s.0

-- only a pair moves
abbrev pub moves : Places → Bool → Bool
moves (Both i j) told = told
moves (Left i) told = false
moves (Right j) told = false

abbrev pub has_moved : Places × Bool → Bool
has_moved s = moves s.0 s.1

-- the left place of what did not move
abbrev pub stayer_of : Places × Bool → Option ℕ
stayer_of s = cond (has_moved s) None (left_of s)

-- the left place of a pair
abbrev pub pair_left : Places → Option ℕ
pair_left (Both i j) = Some i
pair_left (Left i) = None
pair_left (Right j) = None

abbrev pub pair_of : Places × Bool → Option ℕ
pair_of s = pair_left s.0

abbrev pub places_in : List (Places × Bool) → List Places
places_in steps = map place_of steps

-- the places of what moved
abbrev pub moved_in : List (Places × Bool) → List Places
moved_in [] = []
moved_in (s ∷ steps) = cond (has_moved s) (s.0 ∷ moved_in steps) (moved_in steps)

-- Each place below these bounds stands in one step; the right ones rise, and so do the left ones of what did not move. Some moved only where pairs cross.
pub record IsRight (steps : List (Places × Bool)) (moved : List Places) (lefts rights : ℕ) : Type 0 where
  pub left : EachOf (map left_of steps) lefts
  pub right : EachOf (map right_of steps) rights
  pub order : Rising (map right_of steps)
  pub rise : Rising (map stayer_of steps)
  pub crosses : (moved ≡ []) ⊎ Falls (map pair_of steps)

-- the places of steps that are right, and of those that moved
pub record Checked (steps : List (Places × Bool)) (list moved : List Places) (lefts rights : ℕ) : Type 0 where
  pub is_right : IsRight steps moved lefts rights
  pub all : list ≡ places_in steps
  pub are : moved ≡ moved_in steps
