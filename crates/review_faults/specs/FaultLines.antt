-- What is told of a fault of a file, and where.
use Rattle.std.specs.Prelude.{◌≡◌, ◌==◌, ◌+◌, ◌-◌, ℕ, Bool, true, false, cond, List, [], ◌∷◌, ◌++◌, drop, Option, Some, None, option_map, unwrap_or, codes, string_bytes}
use Rattle.std.specs.Fmt.{decimal}
use Rattle.yaml_definitions.specs.model.Text.{mark_len}
use Rattle.yaml_text.specs.Fault.{fault_number, fault_name}
use Rattle.yaml_text.specs.declared.fault.Fault.{Fault}
use Rattle.yaml_text.specs.declared.fault.Fault.TheVariants as faults
use Rattle.yaml_path.specs.declared.place.Place.{Place}
use Rattle.review_text.specs.declared.options.Form.{Form}
use Rattle.review_text.specs.declared.options.Form.TheVariants as form
use Rattle.review_text.specs.Objects.{count_data, text_data, said_data, object_line}
use Rattle.review_text.specs.declared.json.Said.TheVariants as said
use Rattle.serde_json.specs.Data.{Data}
use Rattle.review_faults.specs.EventPlaces.{IsPlaceAt, IsPlaceOf}
use Rattle.review_faults.specs.EventSpots.{HasNoNode, IsEventSpot}
use Rattle.review_faults.specs.Explained.{AreWords, IsExplained, shown_place}
use Rattle.review_faults.specs.Heads.{head}
use Rattle.review_faults.specs.declared.spots.Point.{Point}
use Rattle.review_faults.specs.declared.spots.Spot.{Spot}
use Rattle.review_faults.specs.declared.spots.Told.{Told}

-- ---- where

-- the offset in the input that a fault names
abbrev pub offset_in : Fault → Option ℕ
offset_in (faults.NotUtf8 at) = Some at
offset_in (faults.NotPrintable at) = Some at
offset_in (faults.Syntax at) = Some at
offset_in (faults.Tab at) = Some at
offset_in (faults.KeyTooLong at) = Some at
offset_in (faults.TooDeep at) = Some at
offset_in (faults.BadEscape at) = Some at
offset_in (faults.BadDirective at) = Some at
offset_in (faults.UnknownHandle at) = Some at
offset_in (faults.BadTag at) = Some at
offset_in _ = None

-- the fault names an event, a document, or a node with two of its entries
abbrev pub names_event : Fault → Bool
names_event (faults.UndefinedAlias event) = true
names_event (faults.CyclicAlias event) = true
names_event (faults.WrongKind event) = true
names_event (faults.BadContent event) = true
names_event (faults.IntRange event) = true
names_event (faults.FloatRange event) = true
names_event (faults.TooHigh document) = true
names_event (faults.EqualKeys node first second) = true
names_event _ = false

-- the text behind a byte order mark
abbrev pub text_in : List ℕ → List ℕ
text_in bytes = drop (mark_len bytes) bytes

-- A fault that names an offset of the input, which counts a byte order mark, is there. Of another one that names no event nothing is known.
abbrev pub IsSpot : List ℕ → Fault → Option ℕ → Spot → Type 0
IsSpot bytes fault (Some offset) spot = (spot.at ≡ Some (offset - mark_len bytes)) × HasNoNode spot
IsSpot bytes fault None spot = (names_event fault ≡ false → (spot.at ≡ None) × HasNoNode spot) × (names_event fault ≡ true → IsEventSpot bytes fault spot)

-- The place is where the reader stopped: that of the offset that the fault names, or of the node of its event.
abbrev pub IsStop : List ℕ → Fault → Option Place → Type 0
IsStop bytes fault place = (spot : Spot) × IsSpot bytes fault (offset_in fault) spot × IsPlaceOf (text_in bytes) spot.at place

-- a point of another line than the one where the reader stopped
abbrev pub other_line : Option Place → ℕ → Option Place → Option Point
other_line (Some stop) at (Some place) = cond (stop.line == place.line) None (Some (record { at = at; place = place }))
other_line _ at _ = None

-- The cause has a point if it is on another line than the one where the reader stopped.
abbrev pub IsCause : List ℕ → Option Place → Option ℕ → Option Point → Type 0
IsCause text stop None told = told ≡ None
IsCause text stop (Some at) told = (place : Option Place) × IsPlaceAt text at place × (told ≡ other_line stop at place)

-- What is told of a fault is what is known of it, with places for offsets, and what is said of it.
pub record IsTold (bytes : List ℕ) (fault : Fault) (told : Told) : Type 0 where
  pub spot : Spot
  pub known : IsSpot bytes fault (offset_in fault) spot
  pub at : told.at ≡ unwrap_or spot.at 0
  pub place : IsPlaceOf (text_in bytes) spot.at told.place
  pub path : told.path ≡ spot.path
  pub cause_at : Option ℕ
  pub words : AreWords (text_in bytes) fault told.at spot.words cause_at (string_bytes told.words)
  pub cause : IsCause (text_in bytes) told.place cause_at told.cause
  pub first : told.first ≡ spot.first

-- ---- a line

-- the number and the name of a fault
abbrev pub called : Fault → List ℕ
called fault = decimal (fault_number fault) ++ (codes " " ++ fault_name fault)

-- and the offset in the input, where there is a place
abbrev pub byte_part : Option Place → ℕ → List ℕ
byte_part None byte = []
byte_part (Some p) byte = codes " at byte " ++ decimal byte

-- The first line has the file, the place that is printed first, the number, the name and the offset at which the reader stopped, and then what is said.
abbrev pub AreLines : List ℕ → List ℕ → Fault → Told → List ℕ → Type 0
AreLines name bytes fault told text =
    (more : List ℕ) × IsExplained name (text_in bytes) told more × (text ≡ head name (shown_place told) ++ (called fault ++ (byte_part told.place (mark_len bytes + told.at) ++ (codes ": " ++ more))))

-- ---- an object of JSON

abbrev pub number_data : Option ℕ → Data
number_data n = said_data (said.Number n)

abbrev pub line_of : Option Place → Option ℕ
line_of place = option_map (λ (p : Place). p.line) place

abbrev pub column_of : Option Place → Option ℕ
column_of place = option_map (λ (p : Place). p.column) place

-- the offset in the input, where there is a place
abbrev pub byte_of : List ℕ → Told → Option ℕ
byte_of bytes told = option_map (λ (p : Place). mark_len bytes + told.at) told.place

abbrev pub cause_place : Told → Option Place
cause_place told = option_map (λ (p : Point). p.place) told.cause

-- The object has the same as the lines, except the source line and the caret. The first place is always where the reader stopped.
abbrev pub object_text : List ℕ → Fault → Told → Option ℕ → List ℕ
object_text name fault told byte =
    object_line ((codes "file", text_data (Some name)) ∷ (codes "line", number_data (line_of told.place)) ∷ (codes "column", number_data (column_of told.place)) ∷ (codes "byte", number_data byte)
    ∷ (codes "number", count_data (fault_number fault)) ∷ (codes "name", text_data (Some (fault_name fault))) ∷ (codes "path", text_data (option_map string_bytes told.path)) ∷ (codes "words", text_data (Some (string_bytes told.words)))
    ∷ (codes "first_line", number_data (line_of told.first)) ∷ (codes "first_column", number_data (column_of told.first))
    ∷ (codes "cause_line", number_data (line_of (cause_place told))) ∷ (codes "cause_column", number_data (column_of (cause_place told))) ∷ [])

-- ---- either

abbrev pub HasTold : Form → List ℕ → List ℕ → Fault → Told → List ℕ → Type 0
HasTold form.Line name bytes fault told text = AreLines name bytes fault told text
HasTold form.Json name bytes fault told text = text ≡ object_text name fault told (byte_of bytes told)

-- The text tells of this fault of a file of this name and these bytes, in the form that is asked for: its number, its name and its place, the path of its node, what is said of it, and where its cause or the first of two equal keys is.
pub record TellsFault (form : Form) (name bytes : List ℕ) (fault : Fault) (text : List ℕ) : Type 0 where
  pub told : Told
  pub is_told : IsTold bytes fault told
  pub has : HasTold form name bytes fault told text
