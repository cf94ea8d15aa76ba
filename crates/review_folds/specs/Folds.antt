-- How many differences each line tells.
use Rattle.std.specs.Prelude.{◌≡◌, ◌==◌, ◌<◌, ◌≤◌, ℕ, suc, Bool, true, false, cond, List, [], ◌∷◌, length, Some}
use Rattle.std.specs.List.{slice_get}
use Rattle.yaml_diff.specs.declared.difference.Difference.{Difference}

-- the two have the same left node, or none, and the same right one
abbrev pub OfSameNodes : Difference → Difference → Type 0
OfSameNodes d e = (d.left ≡ e.left) × (d.right ≡ e.right)

-- the same of those of these numbers
abbrev pub OfSameAt : List Difference → ℕ → ℕ → Type 0
OfSameAt list k i = (d e : Difference) → slice_get list k ≡ Some d → slice_get list i ≡ Some e → OfSameNodes d e

-- The line of the difference of this number `i`, which tells itself, tells that of the number `k` too: it stands behind it and is of the same nodes.
pub record TellsFor (list : List Difference) (tellers : List ℕ) (k i : ℕ) : Type 0 where
  pub before : i ≤ k
  pub own : slice_get tellers i ≡ Some i
  pub nodes : OfSameAt list k i

-- For each difference the number of the one whose line tells it.
pub record Tellers (list : List Difference) (tellers : List ℕ) : Type 0 where
  pub all : length tellers ≡ length list
  pub each : (k i : ℕ) → slice_get tellers k ≡ Some i → TellsFor list tellers k i

-- how often a number stands in a list
abbrev pub times : ℕ → List ℕ → ℕ
times n [] = 0
times n (x ∷ xs) = cond (x == n) (suc (times n xs)) (times n xs)

-- for each number below the length of a list how often it stands there
pub record Counted (list counts : List ℕ) : Type 0 where
  pub level : length counts ≡ length list
  pub each : (n : ℕ) → n < length list → slice_get counts n ≡ Some (times n list)

-- Each difference is told by a line. The line of each one tells so many: 0 where another line tells it.
pub record IsFold (list : List Difference) (counts : List ℕ) : Type 0 where
  pub tellers : List ℕ
  pub are : Tellers list tellers
  pub counted : Counted tellers counts

-- this number stands so many times in the list, and no other does
abbrev pub Filled : ℕ → ℕ → List ℕ → Type 0
Filled n count xs = (length xs ≡ count) × ((k m : ℕ) → slice_get xs k ≡ Some m → m ≡ n)

-- the same or, without folds, a line for each difference alone
abbrev pub Folds : Bool → List Difference → List ℕ → Type 0
Folds true list counts = IsFold list counts
Folds false list counts = Filled 1 (length list) counts
