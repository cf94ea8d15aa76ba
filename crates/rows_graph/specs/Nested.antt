-- Nodes and documents among events.
use Rattle.std.specs.Prelude.{◌≡◌, ◌<◌, ◌≤◌, ℕ, Bool, true, not, List, [], ◌∷◌, length, map, drop}
use Rattle.yaml_definitions.specs.model.Event.{Event}
use Rattle.yaml_definitions.specs.model.Serial.{SerialNode, flat, Document, documents_events}
use Rattle.yaml_text.specs.EventModel.{event_of}
use Rattle.yaml_text.specs.declared.event.Event as code

-- the events from this place on
abbrev pub from : List code.Event → ℕ → List Event
from events at = map event_of (drop at events)

abbrev pub flat_list : List SerialNode → List Event → List Event
flat_list [] more = more
flat_list (t ∷ ts) more = flat t (flat_list ts more)

abbrev pub is_even : List SerialNode → Bool
is_even [] = true
is_even (t ∷ ts) = not (is_even ts)

-- a node stands between these places
pub record IsNode (events : List code.Event) (at end : ℕ) : Type 0 where
  pub node : SerialNode
  pub after : at < end
  pub within : end ≤ length events
  pub is : from events at ≡ flat node (from events end)

-- some nodes do
pub record AreNodes (events : List code.Event) (at end : ℕ) (even : Bool) : Type 0 where
  pub nodes : List SerialNode
  pub after : at ≤ end
  pub within : end ≤ length events
  pub number : is_even nodes ≡ even
  pub are : from events at ≡ flat_list nodes (from events end)

-- a document does
pub record IsDocument (events : List code.Event) (at end : ℕ) : Type 0 where
  pub document : Document
  pub after : at < end
  pub within : end ≤ length events
  pub is : from events at ≡ documents_events (document ∷ []) (from events end)

-- some documents do
pub record AreDocuments (events : List code.Event) (at end : ℕ) : Type 0 where
  pub documents : List Document
  pub after : at ≤ end
  pub within : end ≤ length events
  pub are : from events at ≡ documents_events documents (from events end)
