-- What the composer does, event by event, on plain values.
use Rattle.std.specs.Prelude.{ℕ, suc, Bool, true, false, cond, List, [], ◌∷◌, ◌++◌, length, Ok, Err, Option, None, Some}
use Rattle.yaml_definitions.specs.model.Tree.{Tree, scalar, sequence, mapping, a_sequence, a_mapping}
use Rattle.yaml_definitions.specs.model.Event.{Anchor, Event, document_start, sequence_start, sequence_end, mapping_start, mapping_end, scalar_event, alias_event}
use Rattle.yaml_definitions.specs.model.Core.{resolve, collection_tag}
use Rattle.yaml_definitions.specs.model.Unfold.{Outcome, Table, and_then, placed, opened, closed, last_named, tree_named}
use Rattle.yaml_tree.specs.TreeLists.{trees, pairs}

-- A collection that is open: its anchor, the anchor's place in the table, its tag, and the whole nodes before it in its parent.
pub record Open : Type 0 where
  pub anchor : Anchor
  pub slot : ℕ
  pub tag : List ℕ
  pub before : List Tree

-- The whole nodes of the innermost open collection, or the roots; the open collections, the innermost first; the anchors; the trees of all whole nodes, in the order in which they closed.
pub record State : Type 0 where
  pub inner : List Tree
  pub outer : List Open
  pub table : Table
  pub done : List Tree

abbrev pub initial_state : State
initial_state = record { inner = []; outer = []; table = []; done = [] }

-- keys and values in turn, as pairs
abbrev pub paired : {X : Type 0} → List X → List (X × X)
paired [] = []
paired (k ∷ []) = []
paired (k ∷ (v ∷ ts)) = (k, v) ∷ paired ts

-- the collection with this tag and these parts
abbrev pub collection_from : (is_mapping : Bool) → List ℕ → List Tree → Tree
collection_from is_mapping h ts = cond is_mapping (mapping h (pairs (paired ts))) (sequence h (trees ts))

-- a node that has this anchor begins
abbrev pub node_begun : Anchor → State → State
node_begun a s = record { inner = s.inner; outer = s.outer; table = opened a s.table; done = s.done }

-- a node is whole, whose anchor stands at this place
abbrev pub whole : Anchor → ℕ → Tree → State → State
whole a slot t s = record { inner = s.inner ++ (t ∷ []); outer = s.outer; table = closed a slot t s.table; done = s.done ++ (t ∷ []) }

abbrev pub scalar_added : Anchor → State → List ℕ × List ℕ → Outcome State
scalar_added a s r = Ok (whole a (length s.table) (scalar r.0 r.1) (node_begun a s))

-- a collection begins
abbrev pub collection_begun : Anchor → State → List ℕ → State
collection_begun a s h = record { inner = []; outer = (record { anchor = a; slot = length s.table; tag = h; before = s.inner }) ∷ s.outer; table = opened a s.table; done = s.done }

-- the innermost collection ends, if there is one
abbrev pub collection_ended : Bool → State → List Open → Option (Outcome State)
collection_ended is_mapping s [] = None
collection_ended is_mapping s (o ∷ os) =
    Some (Ok (whole o.anchor o.slot (collection_from is_mapping o.tag s.inner) (record { inner = o.before; outer = os; table = s.table; done = s.done })))

-- a document begins, where no collection is open
abbrev pub cleared : State → List Open → Option (Outcome State)
cleared s [] = Some (Ok (record { inner = s.inner; outer = []; table = []; done = s.done }))
cleared s (o ∷ os) = None

abbrev pub added : State → Tree → Outcome State
added s t = Ok (record { inner = s.inner ++ (t ∷ []); outer = s.outer; table = s.table; done = s.done })

-- The event's number, and the event. None: no documents have this event here.
unfoldable pub step : ℕ → Event → State → Option (Outcome State)
step at (scalar_event a g y x) s = Some (and_then (placed at (resolve g y x)) (scalar_added a s))
step at (alias_event name) s = Some (and_then (placed at (tree_named (last_named name s.table))) (added s))
step at (sequence_start b a g) s = Some (and_then (placed at (collection_tag a_sequence g)) (λ h. Ok (collection_begun a s h)))
step at (mapping_start b a g) s = Some (and_then (placed at (collection_tag a_mapping g)) (λ h. Ok (collection_begun a s h)))
step at sequence_end s = collection_ended false s s.outer
step at mapping_end s = collection_ended true s s.outer
step at (document_start b) s = cleared s s.outer
step at _ s = Some (Ok s)

abbrev pub on_outcome : {X Y : Type 0} → Outcome X → (X → Option (Outcome Y)) → Option (Outcome Y)
on_outcome (Err e) f = Some (Err e)
on_outcome (Ok x) f = f x

abbrev pub next : {X Y : Type 0} → Option (Outcome X) → (X → Option (Outcome Y)) → Option (Outcome Y)
next None f = None
next (Some o) f = on_outcome o f

unfoldable pub steps : ℕ → List Event → State → Option (Outcome State)
steps at [] s = Some (Ok s)
steps at (e ∷ es) s = next (step at e s) (steps (suc at) es)
