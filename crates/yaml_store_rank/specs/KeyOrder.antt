-- The places of entries in the order of their keys.
use Rattle.std.specs.Prelude.{◌≡◌, ℕ, ◌<◌, ◌≤◌, List, map, length, slice_index, Option, Some, None}
use Rattle.std.specs.List.{slice_get, slice_index_or, slice_range, All, Contains}
use Rattle.yaml_tree.specs.declared.node.NodeId.{NodeId}
use Rattle.yaml_store.specs.declared.nodes.Span.{Span}
use Rattle.yaml_store.specs.declared.nodes.Node.{Node}
use Rattle.yaml_store.specs.declared.nodes.Place.{Place}
use Rattle.yaml_store.specs.declared.nodes.Place.TheVariants.{Mapping}
use Rattle.yaml_store.specs.StoreModel.{place_of, SpanWithin, SpansApart}
use Rattle.yaml_store_rank.specs.PartsModel.{Differ}

-- the numbers of nodes
abbrev pub numbers : List NodeId → List ℕ
numbers is = map (λ i. i.0) is

abbrev pub number_pairs : List (NodeId × NodeId) → List (ℕ × ℕ)
number_pairs es = map (λ p. (p.0.0, p.1.0)) es

abbrev pub entry_at : List (ℕ × ℕ) → ℕ → ℕ × ℕ
entry_at es k = slice_index_or es k (0, 0)

-- the rank of each key
abbrev pub ranks_of_keys : (ℕ → ℕ) → List (ℕ × ℕ) → List ℕ
ranks_of_keys rank es = map (λ p. rank p.0) es

-- The places of these entries, each once, in strictly rising order of the ranks of their keys.
pub record IsOrder (rank : ℕ → ℕ) (es : List (ℕ × ℕ)) (order : List ℕ) : Type 0 where
  pub count : length order ≡ length es
  pub within : All (λ k. k < length es) order
  pub whole : (k : ℕ) → k < length es → Contains order k
  pub rises : (j k : ℕ) → j < k → k < length order → rank (entry_at es (slice_index order j)).0 < rank (entry_at es (slice_index order k)).0

-- the places of a mapping's entries; another node has none
abbrev pub SpanIs : Place → Option Span → Type 0
SpanIs p (Some s) = p ≡ Mapping s
SpanIs p None = (s : Span) → p ≡ Mapping s → ⊥

-- the node of this number is a mapping whose entries have these places
abbrev pub MappingAt : List Node → ℕ → Span → Type 0
MappingAt nodes i s = (n : Node) × (slice_get nodes i ≡ Some n) × (place_of n ≡ Mapping s)

-- The places of each mapping's entries lie in their list and behind those of earlier nodes, and no two of its keys have one rank.
pub record CanOrder (nodes : List Node) (es : List (ℕ × ℕ)) (ranks : List ℕ) : Type 0 where
  pub within : (i : ℕ) (s : Span) → MappingAt nodes i s → SpanWithin (length es) s
  pub apart : (i j : ℕ) (s t : Span) → i < j → MappingAt nodes i s → MappingAt nodes j t → s.end ≤ t.start
  pub below : (i : ℕ) (s : Span) → MappingAt nodes i s → All (λ p. p.0 < length ranks) (slice_range es s.start s.end)
  pub differ : (i : ℕ) (s : Span) → MappingAt nodes i s → Differ (ranks_of_keys (slice_index ranks) (slice_range es s.start s.end))

-- Where the entries of a mapping stand, their places stand in order, and elsewhere what stood there.
pub record IsPut (s : Span) (rank : ℕ → ℕ) (es : List (ℕ × ℕ)) (old new : List ℕ) : Type 0 where
  pub long : length new ≡ length old
  pub here : IsOrder rank (slice_range es s.start s.end) (slice_range new s.start s.end)
  pub others : (t : Span) → SpansApart s t → SpanWithin (length es) t → slice_range new t.start t.end ≡ slice_range old t.start t.end

-- The same of each mapping among the first so many nodes.
pub record OrderedUpto (end : ℕ) (rank : ℕ → ℕ) (es : List (ℕ × ℕ)) (nodes : List Node) (order : List ℕ) : Type 0 where
  pub long : length order ≡ length es
  pub ordered : (i : ℕ) (s : Span) → i < end → MappingAt nodes i s → IsOrder rank (slice_range es s.start s.end) (slice_range order s.start s.end)
