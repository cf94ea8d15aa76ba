-- The text of a path.
use Rattle.std.specs.Prelude.{ℕ, Bool, false, ◌&&◌, ◌||◌, ◌==◌, nat_le, cond, List, [], ◌∷◌, ◌++◌, length, codes, bytes_eq}
use Rattle.std.specs.List.{list_all, flat_map}
use Rattle.std.specs.Fmt.{decimal}
use Rattle.yaml_definitions.specs.model.Tree.{Tree, scalar, sequence, mapping}
use Rattle.yaml_definitions.specs.model.Tag.{str_tag}
use Rattle.yaml_path.specs.Ways.{Way, Step, at_places, at_key}
use Rattle.yaml_path.specs.declared.places.Places.{Places}
use Rattle.yaml_path.specs.declared.places.Places.TheVariants.{Both, Left, Right}
use Rattle.review_text.specs.Shown.{shown}
use Rattle.review_text.specs.NodeText.{text_of}

-- the greatest length of a key in a path, in bytes: aliases in place may double at each level
abbrev pub whole_limit : ℕ
whole_limit = 65536

-- ---- names

-- `[A-Za-z_]`
abbrev pub is_name_start : ℕ → Bool
is_name_start c = (nat_le 65 c && nat_le c 90) || ((nat_le 97 c && nat_le c 122) || (c == 95))

-- `[A-Za-z0-9_-]`
abbrev pub is_name_byte : ℕ → Bool
is_name_byte c = is_name_start c || ((nat_le 48 c && nat_le c 57) || (c == 45))

-- `[A-Za-z_][A-Za-z0-9_-]*`
abbrev pub is_name : List ℕ → Bool
is_name [] = false
is_name (c ∷ x) = is_name_start c && list_all is_name_byte x

-- ---- steps

abbrev pub bracketed : List ℕ → List ℕ
bracketed text = codes "[" ++ (text ++ codes "]")

-- Where an item stands: its place, or two places where it has another on the right.
abbrev pub place_text : Places → List ℕ
place_text (Both j k) = decimal j ++ cond (j == k) [] (codes ":" ++ decimal k)
place_text (Left j) = decimal j
place_text (Right k) = decimal k

-- to the value of a key: a str that is a name is written as it is, and any other key by its text
unfoldable pub key_text : Tree → List ℕ
key_text (scalar g x) = cond (bytes_eq g str_tag && is_name x) (codes "." ++ x) (bracketed (shown whole_limit (text_of (scalar g x))))
key_text (sequence g ts) = bracketed (shown whole_limit (text_of (sequence g ts)))
key_text (mapping g ps) = bracketed (shown whole_limit (text_of (mapping g ps)))

abbrev pub step_text : Step → List ℕ
step_text (at_places p) = bracketed (place_text p)
step_text (at_key x) = key_text x

-- the first step of a path in a stream, which leads to a document
abbrev pub first_text : Step → List ℕ
first_text (at_places p) = place_text p
first_text (at_key x) = key_text x

-- how a path begins: where the document stands or, if no number is told, nothing before a step, and `.` for the document itself
abbrev pub start_text : Bool → Bool → Step → List ℕ
start_text numbered alone s = cond numbered (first_text s) (cond alone (codes ".") [])

-- where the document stands, if that is told, and then one step after another
abbrev pub path_text : Bool → Way → List ℕ
path_text numbered [] = []
path_text numbered (s ∷ w) = start_text numbered (length w == 0) s ++ flat_map step_text w
