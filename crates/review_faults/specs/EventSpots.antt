-- What is known of a fault of an event: where it is, the path of its node, what is said of its tag or key, and where the first of two equal keys is.
use Rattle.std.specs.Prelude.{◌≡◌, ◌+◌, ◌==◌, ◌&&◌, ◌||◌, ℕ, Bool, true, false, cond, bytes_eq, take, drop, length, List, [], ◌∷◌, ◌++◌, codes, Option, Some, None, MatchOption, IsSomeAnd, option_map, option_and_then, slice_get, string_bytes}
use Rattle.std.specs.Fmt.{decimal}
use Rattle.std.specs.List.{count_by, starts_with, ends_with}
use Rattle.yaml_definitions.specs.grammar.Reading.{Reads}
use Rattle.yaml_definitions.specs.model.Event.{Event, stream_start, stream_end, document_start, document_end, sequence_start, sequence_end, mapping_start, mapping_end, scalar_event, alias_event}
use Rattle.yaml_definitions.specs.model.Text.{mark_len}
use Rattle.yaml_text.specs.declared.fault.Fault.{Fault}
use Rattle.yaml_text.specs.declared.fault.Fault.TheVariants as faults
use Rattle.yaml_path.specs.declared.place.Place.{Place}
use Rattle.review_places.specs.Trace.{TraceHolds, shapes_in}
use Rattle.review_places.specs.Trails.{frames_of, path_text}
use Rattle.review_places.specs.declared.trace.Trace.{Trace}
use Rattle.review_text.specs.TagWords.{tag_words}
use Rattle.review_faults.specs.EventPlaces.{IsEventOf, IsFirstOf, IsShownAt, IsPlaceOf, noted_offset}
use Rattle.review_faults.specs.Labels.{Label, is_name_byte, node_of}
use Rattle.review_faults.specs.Says.{label_text}
use Rattle.review_faults.specs.declared.equal_keys.Repeat.{Repeat}
use Rattle.review_faults.specs.declared.equal_keys.Repeat.TheVariants as repeats
use Rattle.review_faults.specs.declared.spots.Spot.{Spot}

-- ---- the path

abbrev pub ends_document : Event → Bool
ends_document (document_end explicit) = true
ends_document stream_start = false
ends_document stream_end = false
ends_document (document_start explicit) = false
ends_document (sequence_start flow a t) = false
ends_document (mapping_start flow a t) = false
ends_document sequence_end = false
ends_document mapping_end = false
ends_document (scalar_event a t style text) = false
ends_document (alias_event name) = false

-- The path of the node that begins at the event of this number. As many documents have ended as end up to this event. The collections are those that are open behind it.
abbrev pub path_at : List Event → ℕ → List ℕ
path_at events event = path_text events (count_by ends_document (take (event + 1) events)) (frames_of (take (event + 1) events))

-- ---- the words

-- the text of a scalar or the name of an alias, of at most 60 bytes, between backticks; an empty text and a collection are not shown
abbrev pub key_name : Option Label → List ℕ
key_name None = codes "this key"
key_name (Some label) = cond (length label.text == 0) (codes "this key") (codes "`" ++ (label_text (Some label) ++ codes "`"))

abbrev pub at_line : Option Place → List ℕ
at_line None = []
at_line (Some place) = codes ", at line " ++ decimal place.line

-- an item of a block sequence begins at this offset
abbrev pub begins_item : List ℕ → ℕ → Bool
begins_item text at = ends_with ◌==◌ (take at text) (codes "- ")

-- it is one of the letters of ASCII, the digits, `-` and `_`
abbrev pub is_name_at : Option ℕ → Bool
is_name_at None = false
is_name_at (Some byte) = is_name_byte byte

-- a line feed, `---`, and such a character: no document marker
abbrev pub begins_marker : List ℕ → Bool
begins_marker text = starts_with ◌==◌ text (10 ∷ codes "---") && is_name_at (slice_get text 4)

abbrev pub has_marker : List ℕ → Bool
has_marker [] = false
has_marker (byte ∷ text) = begins_marker (byte ∷ text) || has_marker text

-- the text from one offset to another one
abbrev pub between : List ℕ → ℕ → Option ℕ → List ℕ
between text first None = []
between text first (Some second) = drop first (take second text)

-- what is around the first of two equal keys, whose offsets are these
abbrev pub repeat_at : List ℕ → Option ℕ → Option ℕ → Repeat
repeat_at text None second = repeats.Plain
repeat_at text (Some first) second = cond (has_marker (between text first second)) repeats.Marker (cond (begins_item text first) repeats.Item repeats.Plain)

-- what to do with the second of two equal keys: by which tools merge, of which the first begins an item, and others
abbrev pub merge_advice : List ℕ
merge_advice = codes ": remove one: tools that merge take `<<: [*a, *b]`, and for YAML 1.2 `<<` is a key like others"

abbrev pub item_advice : List ℕ
item_advice = codes ": remove or rename one, or begin a new item with `- `"

abbrev pub plain_advice : List ℕ
plain_advice = codes ": remove or rename one"

abbrev pub is_merge : Option Label → Bool
is_merge None = false
is_merge (Some label) = bytes_eq label.text (codes "<<")

-- what to do with the second of two equal keys
abbrev pub advice : Repeat → Option Label → List ℕ
advice repeats.Marker label = codes ": put a line break after the `---` between them, which begins no document so"
advice repeats.Item label = cond (is_merge label) merge_advice item_advice
advice repeats.Plain label = cond (is_merge label) merge_advice plain_advice

-- what is said of a key, and of the place of an equal one
abbrev pub equal_key_words : Event → Option Place → Repeat → List ℕ
equal_key_words event first around = key_name (node_of event) ++ (codes " is in this mapping already" ++ (at_line first ++ advice around (node_of event)))

-- what is said of an event with a tag that is not for it, and of a key that is equal to the one at this place; nothing of another fault
abbrev pub fault_words : Fault → Option Place → Repeat → Option Event → Option (List ℕ)
fault_words (faults.WrongKind number) first around (Some event) = Some (tag_words event)
fault_words (faults.BadContent number) first around (Some event) = Some (tag_words event)
fault_words (faults.EqualKeys node one other) first around (Some event) = Some (equal_key_words event first around)
fault_words _ _ _ _ = None

-- ---- all of it

-- it has no node
abbrev pub HasNoNode : Spot → Type 0
HasNoNode spot = (spot.path ≡ None) × (spot.words ≡ None) × (spot.first ≡ None)

-- What is known of a fault of this event: where it is shown, the path of its node, what is said of its tag or key, and the place of the first of two equal keys.
pub record IsSpotAt (trace : Trace) (events : List Event) (text : List ℕ) (fault : Fault) (event : ℕ) (spot : Spot) : Type 0 where
  pub shown : IsShownAt trace text fault event spot.at
  pub path : IsSomeAnd spot.path (λ path. string_bytes path ≡ path_at events event)
  pub key : Option ℕ
  pub of_key : IsFirstOf (shapes_in trace.events.items) fault key
  pub first : IsPlaceOf text (option_and_then (noted_offset trace) key) spot.first
  pub words : option_map string_bytes spot.words ≡ fault_words fault spot.first (repeat_at text (option_and_then (noted_offset trace) key) spot.at) (slice_get events event)

-- The bytes are read to events that a trace holds, and of these the fault is at one. Nothing is known if it is at no event.
pub record IsEventSpot (bytes : List ℕ) (fault : Fault) (spot : Spot) : Type 0 where
  pub trace : Trace
  pub events : List Event
  pub reads : Reads bytes events
  pub holds : TraceHolds trace events
  pub event : Option ℕ
  pub is : IsEventOf (shapes_in trace.events.items) fault event
  pub known : MatchOption event ((spot.at ≡ None) × HasNoNode spot) (λ e. IsSpotAt trace events (drop (mark_len bytes) bytes) fault e spot)
