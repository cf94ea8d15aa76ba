-- What a trail of events holds, and the steps of its path.
use Rattle.std.specs.Prelude.{ℕ, ◌+◌, ◌^◌, ◌-◌, min, ◌%◌, ◌==◌, ◌&&◌, nat_lt, Bool, true, false, not, cond, List, [], ◌∷◌, ◌++◌, codes, length, take, flat_map, slice_get, Option, Some, None, Ok, Err}
use Rattle.std.specs.List.{count_by}
use Rattle.std.specs.Fmt.{decimal}
use Rattle.yaml_definitions.specs.model.Event.{Event, stream_start, stream_end, document_start, document_end, sequence_start, sequence_end, mapping_start, mapping_end, scalar_event, alias_event}
use Rattle.yaml_definitions.specs.model.Core.{Resolved, resolve}
use Rattle.yaml_definitions.specs.model.Tree.{scalar}
use Rattle.review_text.specs.PathText.{key_text}
use Rattle.review_places.specs.declared.trail.Trail.{Trail}
use Rattle.review_places.specs.declared.trail.Frame.{Frame}

-- how many documents ended, which is the number of the document that is open
abbrev pub documents_before : Trail → ℕ
documents_before trail = trail.document

-- the collections that are open, the outermost one first
abbrev pub open_frames : Trail → List Frame
open_frames trail = trail.frames.items

-- one more at a document's end, up to the greatest u64
abbrev pub documents_after : Event → ℕ → ℕ
documents_after (document_end explicit) n = min (n + 1) (2 ^ 64 - 1)
documents_after _ n = n

-- A part begins in a collection, at the event of this number. Parts are counted up to the greatest u64.
abbrev pub begun : ℕ → Frame → Frame
begun at frame = record {
  event = frame.event;
  is_mapping = frame.is_mapping;
  parts = min (frame.parts + 1) (2 ^ 64 - 1);
  last = at;
  key = frame.last;
}

-- A node begins at the event of this number. It is a part of the innermost collection. A document's root is a part of none.
abbrev pub begun_in : ℕ → List Frame → List Frame
begun_in at [] = []
begun_in at (frame ∷ []) = begun at frame ∷ []
begun_in at (outer ∷ inner ∷ frames) = outer ∷ begun_in at (inner ∷ frames)

-- a collection that begins at the event of this number, before its first part
abbrev pub new_frame : ℕ → Bool → Frame
new_frame at is_mapping = record {
  event = at;
  is_mapping = is_mapping;
  parts = 0;
  last = at;
  key = at;
}

-- A collection begins at the event of this number. It is then the innermost one.
abbrev pub opened : ℕ → Bool → List Frame → List Frame
opened at is_mapping frames = begun_in at frames ++ (new_frame at is_mapping ∷ [])

-- the innermost one ends
abbrev pub closed : List Frame → List Frame
closed frames = take (length frames - 1) frames

-- The collections that are open behind the event of this number. A node begins at a scalar, at an alias and at the start of a collection.
abbrev pub frames_after : ℕ → Event → List Frame → List Frame
frames_after at (scalar_event a t style text) frames = begun_in at frames
frames_after at (alias_event name) frames = begun_in at frames
frames_after at (sequence_start flow a t) frames = opened at false frames
frames_after at (mapping_start flow a t) frames = opened at true frames
frames_after at sequence_end frames = closed frames
frames_after at mapping_end frames = closed frames
frames_after at stream_start frames = frames
frames_after at stream_end frames = frames
frames_after at (document_start explicit) frames = frames
frames_after at (document_end explicit) frames = frames

-- the same behind all of these events, of which the first has this number
abbrev pub frames_from : ℕ → List Event → List Frame → List Frame
frames_from at [] frames = frames
frames_from at (event ∷ events) frames = frames_from (at + 1) events (frames_after at event frames)

-- the collections that are open behind these events, of which the first has the number 0
abbrev pub frames_of : List Event → List Frame
frames_of events = frames_from 0 events []

-- the step to the value of a key that no path has
abbrev pub untold : List ℕ
untold = codes "[?]"

-- of a scalar the step that a path has to its tag and content, if it has a value
abbrev pub resolved_step : Resolved → List ℕ
resolved_step (Ok s) = key_text (scalar s.0 s.1)
resolved_step (Err cause) = untold

-- the step to the value of the key that an event begins: of an alias its name
abbrev pub key_step : Option Event → List ℕ
key_step None = untold
key_step (Some (scalar_event a t style text)) = resolved_step (resolve t style text)
key_step (Some (alias_event name)) = codes "[*" ++ (name ++ codes "]")
key_step (Some (sequence_start flow a t)) = untold
key_step (Some (mapping_start flow a t)) = untold
key_step (Some sequence_end) = untold
key_step (Some mapping_end) = untold
key_step (Some stream_start) = untold
key_step (Some stream_end) = untold
key_step (Some (document_start explicit)) = untold
key_step (Some (document_end explicit)) = untold

-- a part began in the collection
abbrev pub has_part : Frame → Bool
has_part frame = nat_lt 0 frame.parts

-- in a mapping, keys and values begin in turn
abbrev pub is_key : Option Frame → Bool
is_key None = false
is_key (Some frame) = frame.is_mapping && (frame.parts % 2 == 1)

-- the event of the key that began last in a mapping
abbrev pub key_event : Frame → ℕ
key_event frame = cond (frame.parts % 2 == 1) frame.last frame.key

-- the step from a collection to the part that began last, if one began: to the value of a key, or to the item at a place
abbrev pub frame_step : List Event → Frame → List ℕ
frame_step events frame = cond (frame.parts == 0) [] (cond frame.is_mapping (key_step (slice_get events (key_event frame))) (codes "[" ++ (decimal (frame.parts - 1) ++ codes "]")))

abbrev pub begins_document : Event → Bool
begins_document (document_start explicit) = true
begins_document stream_start = false
begins_document stream_end = false
begins_document (document_end explicit) = false
begins_document (sequence_start flow a t) = false
begins_document (mapping_start flow a t) = false
begins_document sequence_end = false
begins_document mapping_end = false
begins_document (scalar_event a t style text) = false
begins_document (alias_event name) = false

-- unless the stream has one document, a path begins with the number of the document
abbrev pub is_numbered : List Event → Bool
is_numbered events = not (count_by begins_document events == 1)

abbrev pub number_text : List Event → ℕ → List ℕ
number_text events document = cond (is_numbered events) (decimal document) []

abbrev pub steps_text : List Event → List Frame → List ℕ
steps_text events frames = flat_map (frame_step events) frames

-- the only document is a dot
abbrev pub or_dot : List ℕ → List ℕ
or_dot text = cond (length text == 0) (codes ".") text

-- the path of the node that began last, by the number of its document and the collections that are open
abbrev pub path_text : List Event → ℕ → List Frame → List ℕ
path_text events document frames = or_dot (number_text events document ++ steps_text events frames)

-- the same by a trail, in the stream of these events
abbrev pub path_of : Trail → List Event → List ℕ
path_of trail events = path_text events (documents_before trail) (open_frames trail)
