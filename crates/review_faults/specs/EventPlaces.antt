-- Where a fault of an event is: at the offset that was noted at that event when the text was read.
use Rattle.std.specs.Prelude.{◌≡◌, ◌⊎◌, ◌<◌, ◌≤◌, ◌*◌, ◌^◌, ℕ, List, length, Option, Some, None, option_map, slice_get}
use Rattle.yaml_text.specs.declared.fault.Fault.{Fault}
use Rattle.yaml_text.specs.declared.fault.Fault.TheVariants as faults
use Rattle.yaml_path.specs.LineModel.{IsPlace}
use Rattle.yaml_path.specs.declared.place.Place.{Place}
use Rattle.review_places.specs.Layout.{IsLayout, root_events, part_event}
use Rattle.review_places.specs.Trace.{IsTagAt}
use Rattle.review_places.specs.declared.layout.Layout.{Layout}
use Rattle.review_places.specs.declared.trace.Shape.{Shape}
use Rattle.review_places.specs.declared.trace.Trace.{Trace}

-- Of these events the one at which a fault is: the event that it names, the root of the document, or the second of two equal keys. A layout has the events of a document's root and of a mapping's keys and values in turn.
abbrev pub IsEventOf : List Shape → Fault → Option ℕ → Type 0
IsEventOf shapes (faults.UndefinedAlias event) found = found ≡ Some event
IsEventOf shapes (faults.CyclicAlias event) found = found ≡ Some event
IsEventOf shapes (faults.WrongKind event) found = found ≡ Some event
IsEventOf shapes (faults.BadContent event) found = found ≡ Some event
IsEventOf shapes (faults.IntRange event) found = found ≡ Some event
IsEventOf shapes (faults.FloatRange event) found = found ≡ Some event
IsEventOf shapes (faults.TooHigh document) found = (layout : Layout) × IsLayout shapes layout × (found ≡ slice_get (root_events layout) document)
IsEventOf shapes (faults.EqualKeys node first second) found = (layout : Layout) × IsLayout shapes layout × (second * 2 < 2 ^ 64 → found ≡ part_event layout node (second * 2))
IsEventOf shapes _ found = found ≡ None

-- of these events the one of the first of two equal keys; another fault has none
abbrev pub IsFirstOf : List Shape → Fault → Option ℕ → Type 0
IsFirstOf shapes (faults.EqualKeys node first second) found = (layout : Layout) × IsLayout shapes layout × (first * 2 < 2 ^ 64 → found ≡ part_event layout node (first * 2))
IsFirstOf shapes _ found = found ≡ None

-- the offset that was noted at an event
abbrev pub noted_offset : Trace → ℕ → Option ℕ
noted_offset trace event = option_map (λ traced. traced.1) (slice_get trace.events.items event)

-- the offset of the event's tag if one was noted, else that of the event
abbrev pub IsTagOrEvent : Trace → List ℕ → ℕ → Option ℕ → Type 0
IsTagOrEvent trace text event at =
    ((tag : ℕ) × IsTagAt trace text event tag × (at ≡ Some tag))
    ⊎ (((tag : ℕ) → IsTagAt trace text event tag → ⊥) × (at ≡ noted_offset trace event))

-- where a fault of an event is shown: at the tag if the tag is what is wrong
abbrev pub IsShownAt : Trace → List ℕ → Fault → ℕ → Option ℕ → Type 0
IsShownAt trace text (faults.WrongKind e) event at = IsTagOrEvent trace text event at
IsShownAt trace text (faults.BadContent e) event at = IsTagOrEvent trace text event at
IsShownAt trace text _ event at = at ≡ noted_offset trace event

-- the line and the column of an offset of a text; none of one after its end
abbrev pub IsPlaceAt : List ℕ → ℕ → Option Place → Type 0
IsPlaceAt text at (Some place) = (at ≤ length text) × IsPlace text at place.line place.column
IsPlaceAt text at None = length text < at

-- the place of an offset, if there is an offset and the text has it
abbrev pub IsPlaceOf : List ℕ → Option ℕ → Option Place → Type 0
IsPlaceOf text None place = place ≡ None
IsPlaceOf text (Some at) place = IsPlaceAt text at place
