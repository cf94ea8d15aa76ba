-- The nodes of a stream's events.
use Rattle.std.specs.Prelude.{◌≡◌, ℕ, ◌+◌, Bool, true, false, cond, List, [], ◌∷◌, ◌++◌, Some, slice_get, length}
use Rattle.review_places.specs.declared.trace.Shape.{Shape}
use Rattle.review_places.specs.declared.trace.Shape.TheVariants.{Scalar, Alias, Opens, Closes, Other}

-- Of the events from one number up to another: those that begin the outermost nodes there; and of each node there but an alias, in the
-- order in which they end, the event that begins it and those that begin its parts.
pub data Nodes (s : List Shape) : ℕ → ℕ → List ℕ → List (ℕ × List ℕ) → Type 0 where
  nothing : {i : ℕ} → Nodes s i i [] []
  other : {i j : ℕ} {ns : List ℕ} {ds : List (ℕ × List ℕ)} → Nodes s i j ns ds → slice_get s j ≡ Some Other → Nodes s i (j + 1) ns ds
  alias : {i j : ℕ} {ns : List ℕ} {ds : List (ℕ × List ℕ)} → Nodes s i j ns ds → slice_get s j ≡ Some Alias → Nodes s i (j + 1) (ns ++ (j ∷ [])) ds
  scalar : {i j : ℕ} {ns : List ℕ} {ds : List (ℕ × List ℕ)} → Nodes s i j ns ds → slice_get s j ≡ Some Scalar → Nodes s i (j + 1) (ns ++ (j ∷ [])) (ds ++ ((j, []) ∷ []))
  collection : {i j k : ℕ} {ns ps : List ℕ} {ds es : List (ℕ × List ℕ)} → Nodes s i j ns ds → slice_get s j ≡ Some Opens → Nodes s (j + 1) k ps es → slice_get s k ≡ Some Closes
      → Nodes s i (k + 1) (ns ++ (j ∷ [])) (ds ++ (es ++ ((j, ps) ∷ [])))

-- The same of the events before one, where collections may be open. Of each of these, the outermost first: its event, and how many nodes are before its parts. Then the events of all these nodes and parts; and the nodes that ended.
pub data Open (s : List Shape) : ℕ → List (ℕ × ℕ) → List ℕ → List (ℕ × List ℕ) → Type 0 where
  ground : {j : ℕ} {ns : List ℕ} {ds : List (ℕ × List ℕ)} → Nodes s 0 j ns ds → Open s j [] ns ds
  inside : {i j : ℕ} {outer : List (ℕ × ℕ)} {ns ps : List ℕ} {ds es : List (ℕ × List ℕ)} → Open s i outer ns ds → slice_get s i ≡ Some Opens → Nodes s (i + 1) j ps es
      → Open s j (outer ++ ((i, length ns) ∷ [])) (ns ++ ps) (ds ++ es)

abbrev pub is_alias : Shape → Bool
is_alias Alias = true
is_alias Scalar = false
is_alias Opens = false
is_alias Closes = false
is_alias Other = false

-- the events that are aliases, of which the first has this number
abbrev pub aliases_from : ℕ → List Shape → List ℕ
aliases_from i [] = []
aliases_from i (x ∷ s) = cond (is_alias x) (i ∷ []) [] ++ aliases_from (i + 1) s
