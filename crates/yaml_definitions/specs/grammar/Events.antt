-- The events that productions give. A production's texts are characters, and an event's are their UTF-8 bytes.
use Rattle.std.specs.Prelude.{ℕ, List, [], ◌∷◌, ◌++◌, Bool, None, encode_utf8_all}
use Rattle.yaml_definitions.specs.model.Event.{Style, plain, WrittenTag, untagged, Anchor, Event, sequence_start, mapping_start, scalar_event, alias_event}

-- no production: what a node's properties are (6.9)
pub record Props : Type 0 where
  pub anchor : Anchor
  pub tag : WrittenTag

-- no production: a node without properties
abbrev pub no_props : Props
no_props = record { anchor = None; tag = untagged }

-- no production: the event that begins a sequence
abbrev pub seq_start : Bool → Props → Event
seq_start flow p = sequence_start flow p.anchor p.tag

-- no production: the event that begins a mapping
abbrev pub map_start : Bool → Props → Event
map_start flow p = mapping_start flow p.anchor p.tag

-- no production: a scalar's event
abbrev pub scalar : Props → Style → List ℕ → Event
scalar p style text = scalar_event p.anchor p.tag style (encode_utf8_all text)

-- no production: an alias's event
abbrev pub alias_node : List ℕ → Event
alias_node name = alias_event (encode_utf8_all name)

-- [105] e-scalar (7.2), as events
abbrev pub e-scalar : Props → List Event
e-scalar p = scalar p plain [] ∷ []

-- no production: events between two others
abbrev pub wrapped : Event → Event → List Event → List Event
wrapped a b es = a ∷ (es ++ (b ∷ []))
