-- Paths that can be pasted: filters of jq, and JSON pointers (RFC 6901).
use Rattle.std.specs.Prelude.{ℕ, Bool, true, false, not, ◌&&◌, ◌||◌, ◌==◌, nat_le, cond, List, [], ◌∷◌, ◌++◌, length, codes, bytes_eq, Option, Some, None, unwrap_or}
use Rattle.std.specs.List.{list_all, flat_map}
use Rattle.std.specs.Fmt.{decimal}
use Rattle.yaml_definitions.specs.model.Tree.{Tree, scalar, sequence, mapping}
use Rattle.yaml_definitions.specs.model.Tag.{str_tag}
use Rattle.yaml_path.specs.Ways.{Way, Step, at_places, at_key}
use Rattle.yaml_path.specs.declared.places.Places.{Places}
use Rattle.yaml_path.specs.declared.places.Places.TheVariants.{Both, Left, Right}
use Rattle.review_text.specs.Hidden.{visible}
use Rattle.review_text.specs.Terminal.{terminal}
use Rattle.review_text.specs.PathText.{path_text}

-- ---- keys

-- the content of a string
abbrev pub str_content : Tree → Option (List ℕ)
str_content (scalar g x) = cond (bytes_eq g str_tag) (Some x) None
str_content (sequence g ts) = None
str_content (mapping g ps) = None

abbrev pub is_no_tab : ℕ → Bool
is_no_tab c = not (c == 9)

-- a terminal shows each character as itself
abbrev pub is_seen : List ℕ → Bool
is_seen x = (list_all is_no_tab x && bytes_eq (terminal x) x) && bytes_eq (visible x) x

-- the greatest length of a key, in bytes
abbrev pub is_short : List ℕ → Bool
is_short x = nat_le (length x) 65536

-- short, and each character is seen
abbrev pub is_fit : List ℕ → Bool
is_fit x = is_short x && is_seen x

abbrev pub fits_content : Option (List ℕ) → Bool
fits_content None = false
fits_content (Some x) = is_fit x

-- a step to an item, or to the value of a key that is a string and fits
abbrev pub fits_step : Step → Bool
fits_step (at_places p) = true
fits_step (at_key x) = fits_content (str_content x)

-- ---- escapes

-- in a string of a filter: `\"` for `"`, and `\\` for `\`
abbrev pub filter_char : ℕ → List ℕ
filter_char c = cond (c == 34) (92 ∷ 34 ∷ []) (cond (c == 92) (92 ∷ 92 ∷ []) (c ∷ []))

-- in a token of a pointer (RFC 6901, 3): `~0` for `~`, and `~1` for `/`
abbrev pub pointer_char : ℕ → List ℕ
pointer_char c = cond (c == 126) (126 ∷ 48 ∷ []) (cond (c == 47) (126 ∷ 49 ∷ []) (c ∷ []))

abbrev pub escaped_char : Bool → ℕ → List ℕ
escaped_char is_filter c = cond is_filter (filter_char c) (pointer_char c)

-- of UTF-8: a byte of ASCII is no part of another character
abbrev pub escaped : Bool → List ℕ → List ℕ
escaped is_filter x = flat_map (escaped_char is_filter) x

-- ---- steps

-- `[A-Za-z_]`
abbrev pub is_letter : ℕ → Bool
is_letter c = (nat_le 65 c && nat_le c 90) || ((nat_le 97 c && nat_le c 122) || (c == 95))

-- `[A-Za-z0-9_]`
abbrev pub is_filter_byte : ℕ → Bool
is_filter_byte c = is_letter c || (nat_le 48 c && nat_le c 57)

-- `[A-Za-z_][A-Za-z0-9_]*`
abbrev pub is_filter_name : List ℕ → Bool
is_filter_name [] = false
is_filter_name (c ∷ x) = is_letter c && list_all is_filter_byte x

-- `.name`, or `["text"]`
abbrev pub filter_key : List ℕ → List ℕ
filter_key x = cond (is_filter_name x) (codes "." ++ x) (codes "[\"" ++ (escaped true x ++ codes "\"]"))

-- `/token`
abbrev pub pointer_key : List ℕ → List ℕ
pointer_key x = codes "/" ++ escaped false x

abbrev pub key_step : Bool → List ℕ → List ℕ
key_step is_filter x = cond is_filter (filter_key x) (pointer_key x)

-- `[2]` or `/2`
abbrev pub item_step : Bool → ℕ → List ℕ
item_step is_filter k = cond is_filter (codes "[" ++ (decimal k ++ codes "]")) (codes "/" ++ decimal k)

-- the place on a side, or that on the other one where there is none
abbrev pub side_place : Bool → Places → ℕ
side_place is_left (Both j k) = cond is_left j k
side_place is_left (Left j) = j
side_place is_left (Right k) = k

abbrev pub pasted_step : Bool → Bool → Step → List ℕ
pasted_step is_filter is_left (at_places p) = item_step is_filter (side_place is_left p)
pasted_step is_filter is_left (at_key x) = key_step is_filter (unwrap_or (str_content x) [])

-- ---- paths

-- the steps that are written: the first one, to the document, only if its number is told
abbrev pub kept_steps : Bool → Way → Way
kept_steps numbered [] = []
kept_steps numbered (s ∷ w) = cond numbered (s ∷ w) w

abbrev pub has_dot : List ℕ → Bool
has_dot [] = false
has_dot (c ∷ x) = c == 46

abbrev pub dotted : List ℕ → List ℕ
dotted text = cond (has_dot text) text (codes "." ++ text)

-- a filter begins with a dot
abbrev pub begun : Bool → List ℕ → List ℕ
begun is_filter text = cond is_filter (dotted text) text

-- what is written where a step does not fit: `!`, with which no filter and no pointer begins, and the path as it is written where no other form is asked for
abbrev pub unfit : Bool → Way → List ℕ
unfit numbered w = codes "!" ++ path_text numbered w

-- the path on one side: one step after another, if each fits
abbrev pub side_text : Bool → Bool → Bool → Way → List ℕ
side_text is_filter numbered is_left w =
    cond (list_all fits_step (kept_steps numbered w)) (begun is_filter (flat_map (pasted_step is_filter is_left) (kept_steps numbered w))) (unfit numbered w)

-- the same, or `-` if this side has no node there
abbrev pub column_text : Bool → Bool → Bool → Bool → Way → List ℕ
column_text is_there is_filter numbered is_left w = cond is_there (side_text is_filter numbered is_left w) (codes "-")

-- both sides, with a tab between them
abbrev pub pasted : Bool → Bool → Bool → Bool → Way → List ℕ
pasted is_filter numbered has_left has_right w = column_text has_left is_filter numbered true w ++ (codes "\t" ++ column_text has_right is_filter numbered false w)
