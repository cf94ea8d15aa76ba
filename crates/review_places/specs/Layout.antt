-- What a layout holds of the events of a stream.
use Rattle.std.specs.Prelude.{◌≡◌, ℕ, ◌+◌, ◌==◌, cond, Bool, List, Option, Some, None, [], ◌∷◌, ◌++◌, slice_set, take, length, slice_get, option_and_then}
use Rattle.std.specs.List.{list_any}
use Rattle.review_places.specs.declared.layout.Layout.{Layout}
use Rattle.review_places.specs.declared.trace.Shape.{Shape}
use Rattle.review_places.specs.declared.layout.Open.{Open}
use Rattle.review_places.specs.Nodes.{Nodes, Open as OpenNodes, aliases_from}

-- the offset of each event's own text
abbrev pub offsets_of : Layout → List ℕ
offsets_of layout = layout.offsets.items

-- the events of the documents' roots
abbrev pub root_events : Layout → List ℕ
root_events layout = layout.roots.items

-- the events that are aliases
abbrev pub alias_events : Layout → List ℕ
alias_events layout = layout.aliases.items

-- whether an event is an alias
abbrev pub is_alias_event : Layout → ℕ → Bool
is_alias_event layout event = list_any (λ alias. alias == event) (alias_events layout)

-- the number of the node of each event, and 4294967295 where there is none
abbrev pub node_numbers : Layout → List ℕ
node_numbers layout = layout.nodes.items

abbrev pub node_told : Option ℕ → Option ℕ
node_told None = None
node_told (Some n) = cond (n == 4294967295) None (Some n)

-- the event of a part of a node, by the number of the node and the place among its parts
abbrev pub part_event : Layout → ℕ → ℕ → Option ℕ
part_event layout node place = option_and_then (λ first. slice_get layout.parts.items (first + place)) (slice_get layout.firsts.items node)

-- the event of a part of the node that an event begins, or that it stands for
abbrev pub event_below : Layout → ℕ → ℕ → Option ℕ
event_below layout event place = option_and_then (λ node. part_event layout node place) (slice_get (node_numbers layout) event)

-- A node has this number, this event, and parts at these events.
pub record IsNumbered (layout : Layout) (n e : ℕ) (ps : List ℕ) : Type 0 where
  pub node : slice_get (node_numbers layout) e ≡ Some n
  pub parts : (k p : ℕ) → slice_get ps k ≡ Some p → part_event layout n k ≡ Some p

-- These nodes are whole, but for aliases.
pub record Holds (layout : Layout) (ds : List (ℕ × List ℕ)) : Type 0 where
  pub count : length layout.firsts.items ≡ length ds
  pub each : (n e : ℕ) (ps : List ℕ) → slice_get ds n ≡ Some (e, ps) → IsNumbered layout n e ps

-- One more node is whole, that of an event, with parts at these.
pub record IsWhole (event : ℕ) (ps : List ℕ) (old new : Layout) : Type 0 where
  pub nodes : node_numbers new ≡ slice_set (node_numbers old) event (length old.firsts.items)
  pub firsts : new.firsts.items ≡ old.firsts.items ++ (length old.parts.items ∷ [])
  pub parts : new.parts.items ≡ old.parts.items ++ ps
  pub aliases : alias_events new ≡ alias_events old

-- Of the events before one, the nodes that ended are whole, and the others are open.
pub record Stands (s : List Shape) (at : ℕ) (layout : Layout) (around : Open) : Type 0 where
  pub ds : List (ℕ × List ℕ)
  pub nodes : OpenNodes s at around.outer.items around.nodes.items ds
  pub holds : Holds layout ds
  pub slots : length (node_numbers layout) ≡ length s
  pub aliases : alias_events layout ≡ aliases_from 0 (take at s)

-- The layout of events of these shapes: their nodes, numbered in the order in which they end, and the roots.
pub record IsLayout (s : List Shape) (layout : Layout) : Type 0 where
  pub ds : List (ℕ × List ℕ)
  pub nodes : Nodes s 0 (length s) (root_events layout) ds
  pub aliases : alias_events layout ≡ aliases_from 0 s
  pub numbered : (n e : ℕ) (ps : List ℕ) → slice_get ds n ≡ Some (e, ps) → IsNumbered layout n e ps
