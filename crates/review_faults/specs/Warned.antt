-- Which events of a stream `warn` reports, where, and in which lines.
use Rattle.std.specs.Prelude.{◌≡◌, ◌≤◌, ℕ, zero, suc, Bool, false, nat_le, cond, length, drop, take, slice_get, List, [], ◌∷◌, ◌++◌, Option, Some, None, option_map, option_and_then, codes, string_bytes}
use Rattle.std.specs.Borrow.{Bor}
use Rattle.std.specs.List.{flat_map}
use Rattle.std.specs.declared.cmp.Ordering.{Ordering}
use Rattle.yaml_definitions.specs.model.Event.{Event, sequence_start, mapping_start, scalar_event}
use Rattle.yaml_definitions.specs.model.Text.{mark_len}
use Rattle.yaml_definitions.specs.grammar.Reading.{Reads}
use Rattle.yaml_path.specs.LineModel.{IsPlace}
use Rattle.review_text.specs.Forms.{more_text}
use Rattle.review_text.specs.declared.options.Form.{Form}
use Rattle.review_text.specs.declared.options.Form.TheVariants as form
use Rattle.review_text.specs.Objects.{count_data, text_data, object_line}
use Rattle.review_text.specs.Shown.{front}
use Rattle.review_text.specs.Terminal.{terminal}
use Rattle.review_places.specs.declared.trace.Trace.{Trace}
use Rattle.review_places.specs.Trails.{open_frames, frames_of, is_key}
use Rattle.review_faults.specs.Causes.{name_cause, indicator_cause, equal_cause, tagged_cause, slip_cause, plain_text, TellsOlder, cause_rule, shown_label, is_allowed}
use Rattle.review_faults.specs.Heads.{head}
use Rattle.review_faults.specs.Keys.{begun_at, collection_at, IsEqualKey}
use Rattle.review_faults.specs.Labels.{Label, whole}
use Rattle.review_faults.specs.Says.{Says}
use Rattle.review_faults.specs.Seen.{Holds}
use Rattle.review_faults.specs.Slips.{is_doubled, has_no_value, is_listed, is_joined, is_pointer, is_below, has_empty_block, has_call, has_pair}
use Rattle.review_faults.specs.declared.cause.Cause.{Cause}
use Rattle.review_faults.specs.declared.find.Found.{Found}
use Rattle.review_faults.specs.declared.find.Known.{Known}
use Rattle.review_faults.specs.declared.keys.Key.{Key}
use Rattle.review_faults.specs.declared.keys.Reader.TheVariants as readers
use Rattle.review_faults.specs.declared.slip.Around.{Around}
use Rattle.review_faults.specs.declared.warn.Warning.{Warning}
use Rattle.review_faults.specs.declared.warn.Warnings.{Warnings}

-- ---- which

-- the collection that begins at an event is a flow collection
abbrev pub flow_of : Option Event → Bool
flow_of (Some (sequence_start flow a t)) = flow
flow_of (Some (mapping_start flow a t)) = flow
flow_of _ = false

-- the innermost collection at the event of this number is a flow collection
abbrev pub is_in_flow : List Event → ℕ → Bool
is_in_flow events n = flow_of (option_and_then (slice_get events) (begun_at (collection_at events n)))

abbrev pub behind : List ℕ → Option ℕ → List ℕ
behind text None = []
behind text (Some at) = drop at text

-- the text from the offset that was noted at the event of this number
abbrev pub source_at : List ℕ → Trace → ℕ → List ℕ
source_at text trace n = behind text (option_map (λ traced. traced.1) (slice_get trace.events.items n))

-- the text of a scalar
abbrev pub scalar_text : Event → List ℕ
scalar_text (scalar_event anchor tag style x) = x
scalar_text _ = []

-- what is around the event of this number, which begins at this source
abbrev pub around : (ℕ → List ℕ) → List Event → ℕ → Event → Around
around source events n e = record { is_key = is_key (collection_at events n); is_in_flow = is_in_flow events n; is_doubled = is_doubled events n; has_no_value = has_no_value events n; is_listed = is_listed (source n) (scalar_text e); is_joined = is_joined (source n) (scalar_text e); is_pointer = is_pointer (source n) (scalar_text e); is_below = is_below (source n) (scalar_text e); has_empty_block = has_empty_block events n; has_call = has_call events n; has_pair = has_pair events n }

-- The causes for which the event of this number may be warned of: its name, its first character, the keys that are equal to it in Python and in JavaScript, YAML 1.1, an int with a tag, and a slip. A scalar is judged as a key where it is one.
pub record AreCauses (source : ℕ → List ℕ) (events : List Event) (n : ℕ) (e : Event) (causes : List (Option Cause)) : Type 0 where
  pub python : Option ℕ
  pub script : Option ℕ
  pub older : Option Cause
  pub equal_in_python : IsEqualKey readers.Python events n python
  pub equal_in_script : IsEqualKey readers.JavaScript events n script
  pub tells : TellsOlder (is_key (collection_at events n)) (plain_text e) older
  pub are : causes ≡ name_cause e ∷ indicator_cause (is_in_flow events n) e ∷ equal_cause readers.Python python ∷ equal_cause readers.JavaScript script ∷ older ∷ tagged_cause e ∷ slip_cause (around source events n e) (plain_text e) ∷ []

-- the warning of an event for a cause, unless what it shows is one of these words
abbrev pub noted : List (Bor (List ℕ)) → Event → ℕ → Option Cause → List (ℕ × Cause)
noted allowed e n None = []
noted allowed e n (Some cause) = cond (is_allowed allowed cause e) [] ((n, cause) ∷ [])

-- All warnings of the first so many events, in their order: for each the number of its event, and its cause.
abbrev pub AllWarned : (ℕ → List ℕ) → List (Bor (List ℕ)) → List Event → ℕ → List (ℕ × Cause) → Type 0
AllWarned source allowed events zero all = all ≡ []
AllWarned source allowed events (suc n) all =
    (before : List (ℕ × Cause)) × (e : Event) × (causes : List (Option Cause))
    × AllWarned source allowed events n before × (slice_get events n ≡ Some e) × AreCauses source events n e causes × (all ≡ before ++ flat_map (noted allowed e n) causes)

-- the first of these, as many as there is room for, and whether these are all
pub record Keeps (room : ℕ) (all : List (ℕ × Cause)) (found : Found) : Type 0 where
  pub first : found.list.items ≡ take room all
  pub are_all : found.whole ≡ nat_le (length all) room

pub record FindsWarned (source : ℕ → List ℕ) (allowed : List (Bor (List ℕ))) (room : ℕ) (events : List Event) (found : Found) : Type 0 where
  pub all : List (ℕ × Cause)
  pub warned : AllWarned source allowed events (length events) all
  pub keeps : Keeps room all found

-- what is known of the first so many events: the collections that are open, the keys and the anchors
pub record Knows (cmp : Key → Key → Ordering) (events : List Event) (n : ℕ) (known : Known) : Type 0 where
  pub frames : open_frames known.trail ≡ frames_of (take n events)
  pub keys : Holds cmp events n known.keys

-- ---- where

abbrev pub shown_of : Cause → Option Event → Option Label
shown_of cause None = None
shown_of cause (Some e) = shown_label cause e

-- what the warning shows of the event of this number
abbrev pub label_in : List Event → ℕ × Cause → Option Label
label_in events warning = shown_of warning.1 (slice_get events warning.0)

-- a warning is called by its cause, and has what is shown of its event and what is said of it, at the place of some offset of the text
pub record IsWarning (events : List Event) (text : List ℕ) (warning : ℕ × Cause) (one : Warning) : Type 0 where
  pub rule : one.rule.now ≡ cause_rule warning.1
  pub shows : option_map whole (label_in events warning) ≡ Some (string_bytes one.text)
  pub says : Says events warning.1 (string_bytes one.text) (string_bytes one.words)
  pub at : ℕ
  pub within : at ≤ length text
  pub placed : IsPlace text at one.place.line one.place.column

-- these are the warnings that were found, one by one
abbrev pub AreWarnings : List Event → List ℕ → List (ℕ × Cause) → List Warning → Type 0
AreWarnings events text [] list = list ≡ []
AreWarnings events text (warning ∷ found) list = (one : Warning) × (rest : List Warning) × IsWarning events text warning one × AreWarnings events text found rest × (list ≡ one ∷ rest)

-- The bytes are read as some events, for which some offsets were noted. All warnings of these are as said, and the first so many are the list.
pub record ListsFirst (bytes : List ℕ) (allowed : List (Bor (List ℕ))) (all : List (ℕ × Cause)) (lines : ℕ) (list : List Warning) : Type 0 where
  pub events : List Event
  pub reads : Reads bytes events
  pub trace : Trace
  pub warned : AllWarned (source_at (drop (mark_len bytes) bytes) trace) allowed events (length events) all
  pub are : AreWarnings events (drop (mark_len bytes) bytes) (take lines all) list

-- as many as there is room for, and whether these are all
pub record ListsWarnings (bytes : List ℕ) (allowed : List (Bor (List ℕ))) (room : ℕ) (warnings : Warnings) : Type 0 where
  pub all : List (ℕ × Cause)
  pub first : ListsFirst bytes allowed all room warnings.list.items
  pub whole : warnings.whole ≡ nat_le (length all) room

-- ---- in which lines

-- the file, the line and the column, 60 bytes at most of what is shown, and what is said of it
abbrev pub warning_line : List ℕ → Warning → List ℕ
warning_line name w = head name (Some w.place) ++ (codes "warning: " ++ (terminal (front 60 (string_bytes w.text)) ++ (codes ": " ++ (string_bytes w.words ++ codes "\n"))))

-- the same as an object, with all of what is shown
abbrev pub warning_object : List ℕ → Warning → List ℕ
warning_object name w =
    object_line ((codes "file", text_data (Some name)) ∷ (codes "line", count_data w.place.line) ∷ (codes "column", count_data w.place.column) ∷ (codes "rule", text_data (Some w.rule.now)) ∷ (codes "text", text_data (Some (string_bytes w.text))) ∷ (codes "words", text_data (Some (string_bytes w.words))) ∷ [])

abbrev pub warning_text : Form → List ℕ → Warning → List ℕ
warning_text form.Line name w = warning_line name w
warning_text form.Json name w = warning_object name w

-- a line for each, and one more if these are not all
abbrev pub warnings_text : Form → List ℕ → List Warning → Bool → List ℕ
warnings_text f name list whole = flat_map (warning_text f name) list ++ cond whole [] (more_text f)
