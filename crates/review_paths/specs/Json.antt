-- Paths and places as JSON (RFC 8259).
use Rattle.std.specs.Prelude.{ℕ, ◌&&◌, nat_le, cond, List, [], ◌∷◌, ◌++◌, Option, Some, None, length, codes, bytes_eq}
use Rattle.std.specs.List.{flat_map}
use Rattle.std.specs.Fmt.{decimal}
use Rattle.serde_json.specs.Data.{string}
use Rattle.serde_json.specs.Written.{compact_text}
use Rattle.yaml_definitions.specs.model.Tree.{Tree, scalar, sequence, mapping}
use Rattle.yaml_definitions.specs.model.Tag.{str_tag}
use Rattle.yaml_path.specs.Ways.{Way, Step, at_places, at_key}
use Rattle.yaml_path.specs.declared.places.Places.{Places}
use Rattle.yaml_path.specs.declared.places.Places.TheVariants.{Both, Left, Right}
use Rattle.yaml_path.specs.declared.place.Place.{Place}
use Rattle.review_text.specs.Shown.{shown}
use Rattle.review_text.specs.NodeText.{text_of}
use Rattle.review_text.specs.PathText.{whole_limit}

-- a string
abbrev pub string_json : List ℕ → List ℕ
string_json x = compact_text (string x)

-- ---- members of an object

abbrev pub text_json : Option (List ℕ) → List ℕ
text_json None = codes "null"
text_json (Some x) = string_json x

abbrev pub place_json : Option Place → List ℕ
place_json None = codes "null"
place_json (Some p) = codes "{\"column\":" ++ (decimal p.column ++ (codes ",\"line\":" ++ (decimal p.line ++ codes "}")))

-- what stands before a member's value, and its text; nothing for none
abbrev pub raw_text : List ℕ → Option (List ℕ) → List ℕ
raw_text front None = []
raw_text front (Some x) = front ++ x

-- ---- paths

-- the places of an item or a document on the sides that have it
abbrev pub places_json : Places → List ℕ
places_json (Both j k) = codes "{\"left\":" ++ (decimal j ++ (codes ",\"right\":" ++ (decimal k ++ codes "}")))
places_json (Left j) = codes "{\"left\":" ++ (decimal j ++ codes "}")
places_json (Right k) = codes "{\"right\":" ++ (decimal k ++ codes "}")

-- a key by its text, as a path has it between brackets
abbrev pub key_object : List ℕ → List ℕ
key_object text = codes "{\"key\":" ++ (string_json text ++ codes "}")

unfoldable pub unnamed_json : Tree → List ℕ
unnamed_json t = key_object (shown whole_limit (text_of t))

-- a str as a string, and any other key, or one that is too long, by its text
unfoldable pub key_json : Tree → List ℕ
key_json (scalar g x) = cond (bytes_eq g str_tag && nat_le (length x) whole_limit) (string_json x) (unnamed_json (scalar g x))
key_json (sequence g ts) = unnamed_json (sequence g ts)
key_json (mapping g ps) = unnamed_json (mapping g ps)

abbrev pub step_json : Step → List ℕ
step_json (at_places p) = places_json p
step_json (at_key x) = key_json x

-- a step behind another
abbrev pub next_json : Step → List ℕ
next_json s = codes "," ++ step_json s

-- the steps, that to the document first
abbrev pub inner_json : Way → List ℕ
inner_json [] = []
inner_json (s ∷ w) = step_json s ++ flat_map next_json w

-- an array of the steps
abbrev pub steps_json : Way → List ℕ
steps_json w = codes "[" ++ (inner_json w ++ codes "]")
