-- Where the nodes of a store that keeps equal nodes once stand among the nodes of a stream.
use Rattle.std.specs.Prelude.{◌≡◌, ◌<◌, ◌≤◌, ℕ, List, length, Some}
use Rattle.std.specs.List.{slice_get}
use Rattle.yaml_definitions.specs.model.Tree.{Tree}

-- For each of some trees, the place of the first of the closed trees that it stands for; and each of these is stood for.
pub record Numbers (trees : List Tree) (numbers : List ℕ) (closed : List Tree) : Type 0 where
  pub long : length numbers ≡ length trees
  pub stands : (i k : ℕ) (t : Tree) → slice_get numbers i ≡ Some k → slice_get trees i ≡ Some t → slice_get closed k ≡ Some t
  pub rises : (i j k l : ℕ) → i < j → slice_get numbers i ≡ Some k → slice_get numbers j ≡ Some l → k < l
  pub covers : (k : ℕ) (t : Tree) → slice_get closed k ≡ Some t → (i : ℕ) × (n : ℕ) × (slice_get trees i ≡ Some t) × (slice_get numbers i ≡ Some n) × (n ≤ k)
