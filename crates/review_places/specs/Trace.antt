-- What a trace of events holds.
use Rattle.std.specs.Prelude.{◌≡◌, ℕ, ◌&&◌, cond, List, [], map, length, nat_le, slice_range, Some, slice_get}
use Rattle.yaml_definitions.specs.model.Event.{Event, stream_start, stream_end, document_start, document_end, sequence_start, sequence_end, mapping_start, mapping_end, scalar_event, alias_event}
use Rattle.yaml_definitions.specs.grammar.Characters.{c-tag}
use Rattle.review_places.specs.declared.trace.Note.TheVariants.{Tag}
use Rattle.review_places.specs.declared.trace.Noted.{Noted}
use Rattle.review_places.specs.declared.trace.Shape.{Shape}
use Rattle.review_places.specs.declared.trace.Shape.TheVariants.{Scalar, Alias, Opens, Closes, Other}
use Rattle.review_places.specs.declared.trace.Trace.{Trace}

-- what an event does to the nodes that are open
abbrev pub shape_of : Event → Shape
shape_of (scalar_event a t style text) = Scalar
shape_of (alias_event name) = Alias
shape_of (sequence_start flow a t) = Opens
shape_of (mapping_start flow a t) = Opens
shape_of sequence_end = Closes
shape_of mapping_end = Closes
shape_of stream_start = Other
shape_of stream_end = Other
shape_of (document_start explicit) = Other
shape_of (document_end explicit) = Other

-- of events of a trace: what each does, and the offsets that were noted
abbrev pub shapes_in : List (Shape × ℕ) → List Shape
shapes_in events = map (λ event. event.0) events

abbrev pub offsets_in : List (Shape × ℕ) → List ℕ
offsets_in events = map (λ event. event.1) events

-- the events of a trace from one up to another; none where it has fewer
abbrev pub events_in : Trace → ℕ → ℕ → List (Shape × ℕ)
events_in trace first end = cond (nat_le first end && nat_le end (length trace.events.items)) (slice_range trace.events.items first end) []

-- It has what each event does that was put down and not taken back, in their order, and so an offset for each.
pub record TraceHolds (t : Trace) (log : List Event) : Type 0 where
  pub shapes : shapes_in t.events.items ≡ map shape_of log

-- A note tells that the node of this event has a tag at this offset, and a tag begins there in the text.
pub record IsTagNote (noted : Noted) (text : List ℕ) (event at : ℕ) : Type 0 where
  pub tag : noted.note ≡ Tag at
  pub here : noted.event ≡ event
  pub begins : slice_get text at ≡ Some c-tag

-- such a note was made
pub record IsTagAt (t : Trace) (text : List ℕ) (event at : ℕ) : Type 0 where
  pub place : ℕ
  pub noted : Noted
  pub made : slice_get t.notes.items place ≡ Some noted
  pub tells : IsTagNote noted text event at
