-- Keys that are equal in Python or JavaScript, and not in YAML.
use Rattle.std.specs.Prelude.{is_nan, to_bits, ◌≡◌, ◌<◌, ◌+◌, ◌&&◌, ℕ, Bool, false, not, nat_le, bytes_eq, cond, if◌then◌else◌, length, take, find, reverse, slice_get, List, Option, Some, None, Ok, Err, option_map, codes}
use Rattle.std.specs.Float.{Float, binary64}
use Rattle.fast_float.specs.Parse.{parse_float}
use Rattle.yaml_definitions.specs.model.Core.{Resolved, resolve, by_table}
use Rattle.yaml_definitions.specs.model.Event.{Event, Anchor, scalar_event, alias_event}
use Rattle.yaml_definitions.specs.model.Tag.{null_tag, bool_tag, int_tag, float_tag, str_tag}
use Rattle.review_places.specs.Trails.{frames_of, is_key, has_part}
use Rattle.review_places.specs.declared.trail.Frame.{Frame}
use Rattle.review_faults.specs.Labels.{anchor_of}
use Rattle.review_faults.specs.declared.keys.Form.{Form}
use Rattle.review_faults.specs.declared.keys.Form.TheVariants as forms
use Rattle.review_faults.specs.declared.keys.Key.{Key}
use Rattle.review_faults.specs.declared.keys.Reader.{Reader}
use Rattle.review_faults.specs.declared.keys.Reader.TheVariants as readers

-- ---- what a scalar is there, by its tag and its canonical content

abbrev pub bits_form : Option Float → Option Form
bits_form None = None
bits_form (Some x) = cond (is_nan x) None (Some (forms.Number (to_bits binary64 x)))

-- the binary float that is nearest to a number
abbrev pub number : List ℕ → Option Form
number x = bits_form (parse_float binary64 x)

-- bools, ints and floats are numbers; an int of more than 15 characters, which a float may not have without loss, is left out
abbrev pub python_form : List ℕ → List ℕ → Option Form
python_form g x =
    if bytes_eq g bool_tag then number (cond (bytes_eq x (codes "true")) (codes "1") (codes "0"))
    else if bytes_eq g int_tag && nat_le (length x) 15 then number x
    else if bytes_eq g float_tag then number (if bytes_eq x (codes ".inf") then codes "inf" else if bytes_eq x (codes "-.inf") then codes "-inf" else x)
    else None

-- a null, a bool or a number
abbrev pub value_form : List ℕ → List ℕ → Option Form
value_form g x =
    if bytes_eq g null_tag then Some forms.Null
    else if bytes_eq g bool_tag then Some (cond (bytes_eq x (codes "true")) forms.True forms.False)
    else if bytes_eq g int_tag then number x
    else if bytes_eq g float_tag then number x
    else None

-- a string is the canonical content of a scalar, which is no float and has 15 characters at most
abbrev pub is_its_text : List ℕ → List ℕ → List ℕ → Bool
is_its_text g content x = not (bytes_eq g float_tag) && (nat_le (length x) 15 && bytes_eq content x)

-- such a string stands for what it would be if it were plain
abbrev pub string_form : List ℕ → Resolved → Option Form
string_form x (Ok s) = cond (is_its_text s.0 s.1 x) (value_form s.0 s.1) None
string_form x (Err cause) = None

abbrev pub script_form : List ℕ → List ℕ → Option Form
script_form g x = cond (bytes_eq g str_tag) (string_form x (by_table x)) (value_form g x)

abbrev pub form_in : Reader → List ℕ → List ℕ → Option Form
form_in readers.Python = python_form
form_in readers.JavaScript = script_form

-- ---- what the node of an event is there

abbrev pub resolved_form : Reader → Resolved → Option Form
resolved_form reader (Ok s) = form_in reader s.0 s.1
resolved_form reader (Err cause) = None

-- nothing but a scalar is compared
abbrev pub event_form : Reader → Option Event → Option Form
event_form reader (Some (scalar_event a t style x)) = resolved_form reader (resolve t style x)
event_form reader _ = None

abbrev pub is_name : List ℕ → Anchor → Bool
is_name name None = false
is_name name (Some own) = bytes_eq own name

-- the last event of these whose anchor has this name
abbrev pub named : List Event → List ℕ → Option Event
named events name = find (λ e. is_name name (anchor_of e)) (reverse events)

-- the event of the node: an alias stands for an earlier one
abbrev pub node_of : List Event → Option Event → Option Event
node_of before (Some (alias_event name)) = named before name
node_of before e = e

abbrev pub form_at : Reader → List Event → ℕ → Option Form
form_at reader events n = event_form reader (node_of (take n events) (slice_get events n))

-- ---- which keys are equal

-- the innermost collection that has a part at the event of this number
abbrev pub collection_at : List Event → ℕ → Option Frame
collection_at events n = find has_part (reverse (frames_of (take (n + 1) events)))

abbrev pub begun_at : Option Frame → Option ℕ
begun_at frame = option_map (λ frame. frame.event) frame

abbrev pub mapping_of : Option Frame → Option ℕ
mapping_of frame = cond (is_key frame) (begun_at frame) None

-- a key begins at the event of this number, and its mapping at that one
abbrev pub mapping_at : List Event → ℕ → Option ℕ
mapping_at events n = mapping_of (collection_at events n)

abbrev pub form_key : ℕ → Option Form → Option Key
form_key mapping None = None
form_key mapping (Some form) = Some (record { mapping = mapping; form = form })

abbrev pub key_of : Option ℕ → Option Form → Option Key
key_of None form = None
key_of (Some mapping) form = form_key mapping form

-- the key that begins at the event of this number, as it is for a reader
abbrev pub key_at : Reader → List Event → ℕ → Option Key
key_at reader events n = key_of (mapping_at events n) (form_at reader events n)

-- The first event before the one of this number at which this key begins, if there is one.
abbrev pub IsFirst : Reader → List Event → Key → ℕ → Option ℕ → Type 0
IsFirst reader events key n None = (j : ℕ) → j < n → key_at reader events j ≡ Some key → ⊥
IsFirst reader events key n (Some i) = (i < n) × (key_at reader events i ≡ Some key) × ((j : ℕ) → j < i → key_at reader events j ≡ Some key → ⊥)

abbrev pub IsFirstOf : Reader → List Event → Option Key → ℕ → Option ℕ → Type 0
IsFirstOf reader events None n told = told ≡ None
IsFirstOf reader events (Some key) n told = IsFirst reader events key n told

-- At the event of this number a key begins that is equal, for a reader, to earlier ones of its mapping: the event of the first of these.
abbrev pub IsEqualKey : Reader → List Event → ℕ → Option ℕ → Type 0
IsEqualKey reader events n told = IsFirstOf reader events (key_at reader events n) n told
