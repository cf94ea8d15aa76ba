-- How the items of two sequences are taken for each other.
use Rattle.std.specs.Prelude.{◌≡◌, ℕ, suc, ◌+◌, ◌-◌, ◌<◌, ◌≤◌, List, ◌++◌, length}
use Rattle.yaml_tree.specs.declared.node.NodeId.{NodeId}
use Rattle.yaml_store_rank.specs.Forests.{Forests}
use Rattle.yaml_path.specs.Ways.{left_place, right_place, places_by, numbers}
use Rattle.yaml_path.specs.declared.places.Places.{Places}
use Rattle.yaml_diff.specs.Found.{SameRanks}

-- so many items have the same ranks from the front on, and no more
pub record IsFront (g : Forests) (lefts rights : List NodeId) (front : ℕ) : Type 0 where
  pub left : front ≤ length lefts
  pub right : front ≤ length rights
  pub same : (i : ℕ) → i < front → SameRanks g lefts rights i i
  pub ends : SameRanks g lefts rights front front → ⊥

-- so many items behind the front have the same ranks from the back on, and no more
pub record IsBack (g : Forests) (lefts rights : List NodeId) (front back : ℕ) : Type 0 where
  pub left : front + back ≤ length lefts
  pub right : front + back ≤ length rights
  pub same : (i j k : ℕ) → i < back → i + suc j ≡ length lefts → i + suc k ≡ length rights → SameRanks g lefts rights j k
  pub ends : (j k : ℕ) → back + suc j ≡ length lefts → back + suc k ≡ length rights → front ≤ j → front ≤ k → SameRanks g lefts rights j k → ⊥

-- the list goes on by places from these to those, each once and in the order of both sides
pub record AlignsFrom (old : List Places) (j k n m : ℕ) (new : List Places) : Type 0 where
  pub more : List Places
  pub is : new ≡ old ++ more
  pub left : places_by left_place more ≡ numbers j (n - j)
  pub right : places_by right_place more ≡ numbers k (m - k)
