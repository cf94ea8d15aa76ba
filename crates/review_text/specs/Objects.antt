-- Objects of JSON by what is said of something.
use Rattle.std.specs.Prelude.{ℕ, List, [], ◌∷◌, ◌++◌, Option, Some, None, option_map, codes}
use Rattle.serde_json.specs.Data.{Data, null, number, unsigned, string, object, Members, member, no_members, put}
use Rattle.serde_json.specs.Written.{compact_text}
use Rattle.yaml_path.specs.declared.place.Place.{Place}
use Rattle.review_text.specs.Hidden.{json_visible}
use Rattle.review_text.specs.declared.json.Said.{Said}
use Rattle.review_text.specs.declared.json.Said.TheVariants as said

abbrev pub count_data : ℕ → Data
count_data n = number (unsigned n)

abbrev pub place_data : Option Place → Data
place_data None = null
place_data (Some p) = object (member (codes "column") (count_data p.column) (member (codes "line") (count_data p.line) no_members))

abbrev pub text_data : Option (List ℕ) → Data
text_data None = null
text_data (Some x) = string x

-- a number, a text or a place, or null for none
abbrev pub said_data : Said → Data
said_data (said.Number None) = null
said_data (said.Number (Some n)) = count_data n
said_data (said.Text t) = text_data (option_map (λ told. told.now) t)
said_data (said.Place p) = place_data p

-- Each key once, in the order of keys; of a key that is given twice what is said last.
abbrev pub with_members : List (List ℕ × Data) → Members → Members
with_members [] ms = ms
with_members (m ∷ given) ms = with_members given (put m.0 m.1 ms)

-- an object in one line, with escapes for what a terminal does not show
abbrev pub object_line : List (List ℕ × Data) → List ℕ
object_line given = json_visible (compact_text (object (with_members given no_members))) ++ codes "\n"
