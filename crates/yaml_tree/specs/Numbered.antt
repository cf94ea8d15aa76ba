-- Nodes with keys of any type, and their ranks.
use Rattle.std.specs.Prelude.{◌≡◌, ℕ, ◌+◌, ◌<◌, ◌≤◌, false, List, Some, slice_index}
use Rattle.std.specs.List.{slice_get}
use Rattle.std.specs.declared.cmp.Ordering.{Ordering}
use Rattle.std.specs.Ordering.{nat_cmp, is_lt, ordering_then}
use Rattle.yaml_definitions.specs.model.Tree.{Tree}
use Rattle.yaml_definitions.specs.model.Order.{tree_cmp}

-- two numbers, then two more
abbrev pub pair_cmp : ℕ × ℕ → ℕ × ℕ → Ordering
pair_cmp p q = ordering_then (nat_cmp p.0 q.0) (nat_cmp p.1 q.1)

-- no key is below the one before it
abbrev pub RisesBy : {K : Type 0} → (K → K → Ordering) → List (K × ℕ) → Type 0
RisesBy {K} cmp keys = (k : ℕ) (x y : K × ℕ) → slice_get keys k ≡ Some x → slice_get keys (k + 1) ≡ Some y → is_lt (cmp y.0 x.0) ≡ false

-- the keys compare as these trees of their nodes do
abbrev pub AgreeBy : {K : Type 0} → (K → K → Ordering) → (ℕ → Tree) → List (K × ℕ) → Type 0
AgreeBy {K} cmp a keys = (j k : ℕ) (x y : K × ℕ) → slice_get keys j ≡ Some x → slice_get keys k ≡ Some y → cmp x.0 y.0 ≡ tree_cmp (a x.1) (a y.1)

-- the number is that of one of the keys
abbrev pub Among : {K : Type 0} → ℕ → List (K × ℕ) → Type 0
Among {K} i keys = (k : ℕ) × (x : K × ℕ) × (slice_get keys k ≡ Some x) × (x.1 ≡ i)

-- The nodes' ranks compare as their trees do, and lie from `start` on, less than `end` above it.
pub record NumberedUpto {K : Type 0} (a : ℕ → Tree) (start end : ℕ) (keys : List (K × ℕ)) (ranks : List ℕ) : Type 0 where
  pub ordered : (j k : ℕ) (x y : K × ℕ) → j < end → k < end → slice_get keys j ≡ Some x → slice_get keys k ≡ Some y → nat_cmp (slice_index ranks x.1) (slice_index ranks y.1) ≡ tree_cmp (a x.1) (a y.1)
  pub from : (k : ℕ) (x : K × ℕ) → k < end → slice_get keys k ≡ Some x → start ≤ slice_index ranks x.1
  pub below : (k : ℕ) (x : K × ℕ) → k < end → slice_get keys k ≡ Some x → slice_index ranks x.1 < start + end
