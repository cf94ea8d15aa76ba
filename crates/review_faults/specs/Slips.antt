-- What is commonly a slip, although it is read.
use Rattle.std.specs.Prelude.{◌==◌, ◌&&◌, ◌||◌, ◌-◌, ℕ, Bool, true, false, not, nat_le, nat_lt, cond, if◌then◌else◌, bytes_eq, List, [], ◌∷◌, length, drop, take, Option, Some, None, codes, slice_get}
use Rattle.std.specs.List.{list_all, list_any, starts_with, ends_with}
use Rattle.yaml_definitions.specs.model.Event.{Event, untagged, full, plain, literal, folded, scalar_event, mapping_start}
use Rattle.review_faults.specs.Labels.{is_name_byte}
use Rattle.review_faults.specs.declared.slip.Around.{Around}
use Rattle.review_faults.specs.declared.slip.Slip.{Slip}
use Rattle.review_faults.specs.declared.slip.Slip.TheVariants as slips

-- ---- texts

-- what is after a first letter, digit, `-` or `_`
abbrev pub after_name_byte : List ℕ → Option (List ℕ)
after_name_byte [] = None
after_name_byte (c ∷ x) = cond (is_name_byte c) (Some x) None

-- without those with which it begins
abbrev pub after_word : List ℕ → List ℕ
after_word [] = []
after_word (c ∷ x) = cond (is_name_byte c) (after_word x) (c ∷ x)

abbrev pub is_between : List ℕ → List ℕ → List ℕ → Bool
is_between front end x = starts_with ◌==◌ x front && ends_with ◌==◌ x end

-- a word, a colon, and brackets or braces
abbrev pub is_tight : List ℕ → Bool
is_tight x = not (length (after_word x) == length x) && (is_between (codes ":{") (codes "}") (after_word x) || is_between (codes ":[") (codes "]") (after_word x))

-- U+2018 to U+201F in UTF-8
abbrev pub is_quote_end : Option ℕ → Bool
is_quote_end None = false
is_quote_end (Some c) = nat_le 152 c && nat_le c 159

abbrev pub begins_quote : List ℕ → Bool
begins_quote x = starts_with ◌==◌ x (226 ∷ 128 ∷ []) && is_quote_end (slice_get x 2)

abbrev pub is_quoted : List ℕ → Bool
is_quoted x = nat_lt 3 (length x) && (begins_quote x && begins_quote (drop (length x - 3) x))

-- U+00A0, U+200B, U+202F and U+2060 in UTF-8
abbrev pub begins_space : List ℕ → Bool
begins_space x =
    starts_with ◌==◌ x (194 ∷ 160 ∷ []) || (starts_with ◌==◌ x (226 ∷ 128 ∷ 139 ∷ []) || (starts_with ◌==◌ x (226 ∷ 128 ∷ 175 ∷ []) || starts_with ◌==◌ x (226 ∷ 129 ∷ 160 ∷ [])))

abbrev pub has_space : List ℕ → Bool
has_space [] = false
has_space (c ∷ x) = begins_space (c ∷ x) || has_space x

abbrev pub has_colon : List ℕ → Bool
has_colon x = list_any (λ c. c == 58) x

abbrev pub has_equals : List ℕ → Bool
has_equals x = list_any (λ c. c == 61) x

-- the first such byte is the last byte
abbrev pub ends_first : ℕ → List ℕ → Bool
ends_first mark [] = false
ends_first mark (c ∷ x) = cond (c == mark) (length x == 0) (ends_first mark x)

-- it ends with a bracket or a brace, and has none that opens it
abbrev pub is_unopened : List ℕ → Bool
is_unopened x =
    (ends_with ◌==◌ x (codes "]") && not (list_any (λ c. c == 91) x)) || (ends_with ◌==◌ x (codes "}") && not (list_any (λ c. c == 123) x))

-- stops and commas alone, and a comma among them: `.` and `..` are names of folders
abbrev pub is_mark : ℕ → Bool
is_mark c = c == 44 || c == 46

abbrev pub is_comma : ℕ → Bool
is_comma c = c == 44

abbrev pub is_marks : List ℕ → Bool
is_marks x = list_all is_mark x && list_any is_comma x

-- ---- scalars of several lines

-- what is left of a text from where the source has something else: behind the end of its first line, if it has several
abbrev pub after_same : List ℕ → List ℕ → Option (List ℕ × List ℕ)
after_same [] x = None
after_same (d ∷ source) [] = None
after_same (d ∷ source) (c ∷ x) = cond (d == c) (Some (source, x)) None

abbrev pub apart : List ℕ → List ℕ → List ℕ
apart [] x = x
apart (d ∷ source) [] = []
apart (d ∷ source) (c ∷ x) = cond (d == c) (apart source x) (c ∷ x)

-- without spaces and line feeds at its beginning
abbrev pub after_break : List ℕ → Option (List ℕ)
after_break [] = None
after_break (c ∷ x) = cond (c == 32 || c == 10) (Some x) None

abbrev pub after_breaks : List ℕ → List ℕ
after_breaks [] = []
after_breaks (c ∷ x) = cond (c == 32 || c == 10) (after_breaks x) (c ∷ x)

-- one dash, which another one or other text follows
abbrev pub is_dashed : List ℕ → Bool
is_dashed x = starts_with ◌==◌ x (codes "-") && not (starts_with ◌==◌ x (codes "--"))

-- a line of a text is commonly an item by a slip: it begins as one, or this line and the text begin with one dash
abbrev pub is_item : List ℕ → List ℕ → Bool
is_item x line = starts_with ◌==◌ line (codes "- ") || (is_dashed x && is_dashed line)

-- The second line of a plain scalar is such a line: its text is read from this source.
abbrev pub is_listed : List ℕ → List ℕ → Bool
is_listed source x = is_item x (after_breaks (apart source x))

abbrev pub begins_comment : List ℕ → Bool
begins_comment x = starts_with ◌==◌ x (codes "//") || starts_with ◌==◌ x (codes "/*")

abbrev pub has_blank : List ℕ → Bool
has_blank x = list_any (λ c. c == 32) x

abbrev pub has_quote : List ℕ → Bool
has_quote x = list_any (λ c. c == 34) x

-- It ends with a quote, and has no other one. A text of several words may end with an apostrophe.
abbrev pub is_half_quoted : List ℕ → Bool
is_half_quoted x = ends_first 34 x || (ends_first 39 x && not (has_blank x))

-- the first line of a text that is read from this source, if it has several
abbrev pub first_line : List ℕ → List ℕ → List ℕ
first_line source x = take (length x - length (apart source x)) x

-- It has two lines, each of one word.
abbrev pub is_joined : List ℕ → List ℕ → Bool
is_joined source x =
    (not (length (apart source x) == 0) && not (length (first_line source x) == 0))
    && (not (has_blank (first_line source x)) && not (has_blank (after_breaks (apart source x))))

-- ---- what follows a text in its source

abbrev pub is_pointer : List ℕ → List ℕ → Bool
is_pointer source x = starts_with ◌==◌ (drop (length x) source) (codes ": #/")

abbrev pub is_below : List ℕ → List ℕ → Bool
is_below source x = starts_with ◌==◌ (drop (length x) source) (codes ":\n")

-- two words with a colon between them
abbrev pub is_colon_word : List ℕ → Bool
is_colon_word [] = false
is_colon_word (c ∷ x) = c == 58 && (not (length x == 0) && length (after_word x) == 0)

abbrev pub is_word_pair : List ℕ → Bool
is_word_pair x = not (length (after_word x) == length x) && is_colon_word (after_word x)

-- ---- what is around a scalar

abbrev pub begins_flow_mapping : Option Event → Bool
begins_flow_mapping (Some (mapping_start flow a t)) = flow
begins_flow_mapping _ = false

-- a node that is not written begins
abbrev pub is_unwritten : Option Event → Bool
is_unwritten (Some (scalar_event a t plain x)) = length x == 0
is_unwritten _ = false

-- a block scalar has no text
abbrev pub is_empty_block : Option Event → Bool
is_empty_block (Some (scalar_event a t literal x)) = length x == 0
is_empty_block (Some (scalar_event a t folded x)) = length x == 0
is_empty_block _ = false

-- a node that is not written has a tag with a parenthesis in it
abbrev pub is_call : Option Event → Bool
is_call (Some (scalar_event a (full t) plain x)) = length x == 0 && list_any (λ c. c == 40) t
is_call _ = false

-- a plain scalar is two words with a colon between them
abbrev pub is_pair : Option Event → Bool
is_pair (Some (scalar_event a untagged plain x)) = is_word_pair x
is_pair _ = false

-- flow mappings begin at the two events before the one of this number
abbrev pub is_doubled : List Event → ℕ → Bool
is_doubled events n = begins_flow_mapping (slice_get events (n - 1)) && begins_flow_mapping (slice_get events (n - 2))

-- the node at the next event is not written
abbrev pub has_no_value : List Event → ℕ → Bool
has_no_value events n = is_unwritten (slice_get (drop n events) 1)

abbrev pub has_empty_block : List Event → ℕ → Bool
has_empty_block events n = is_empty_block (slice_get (drop n events) 1)

abbrev pub has_call : List Event → ℕ → Bool
has_call events n = is_call (slice_get (drop n events) 1)

abbrev pub has_pair : List Event → ℕ → Bool
has_pair events n = is_pair (slice_get (drop n events) 1)

-- ---- slips

-- of the value of a key
abbrev pub value_slip : Around → Option Slip
value_slip around =
    if around.has_empty_block then Some slips.Empty
    else if around.has_call then Some slips.Call
    else if around.has_no_value && around.is_pointer then Some slips.Pointer
    else if around.has_pair && around.is_below then Some slips.Below
    else None

-- of the text of a plain scalar
abbrev pub slip_in : Around → List ℕ → Option Slip
slip_in around x =
    if around.is_doubled && around.has_no_value then Some slips.Template
    else if around.is_in_flow && begins_comment x then Some slips.Comment
    else if around.is_key && (around.is_in_flow && (has_blank x && has_quote x)) then Some slips.Comma
    else if around.is_key && (around.is_in_flow && (around.has_no_value && has_colon x)) then Some slips.Key
    else if is_tight x then Some slips.Value
    else if not around.is_key && bytes_eq x (codes "<<") then Some slips.Merge
    else if around.is_listed then Some slips.Lines
    else if is_quoted x then Some slips.Quotes
    else if has_space x then Some slips.Space
    else if is_marks x then Some slips.Marks
    else if around.is_key && (around.is_in_flow && (around.has_no_value && has_equals x)) then Some slips.Equals
    else if around.is_key && ends_with ◌==◌ x (codes ":") then Some slips.Colon
    else if is_half_quoted x then Some slips.Quote
    else if is_unopened x then Some slips.Bracket
    else if around.is_in_flow && around.is_joined then Some slips.Joined
    else if around.is_key then value_slip around
    else None

abbrev pub slip_words : Slip → List ℕ
slip_words slips.Template = codes "a key in a key here, as in `{{ x }}`: render a template first, or quote the value"
slip_words slips.Comment = codes "a text here: a comment begins with `#`"
slip_words slips.Comma = codes "one key here: a comma is missing before its quote"
slip_words slips.Key = codes "a key without a value here: a space is missing after its colon"
slip_words slips.Value = codes "one string here: a space is missing after its colon"
slip_words slips.Merge = codes "a string here, which PyYAML rejects"
slip_words slips.Lines = codes "one string of several lines here: an item begins with `- `, below a key without a value"
slip_words slips.Quotes = codes "its quotes are part of the string here: the quotes of YAML are \" and '"
slip_words slips.Space = codes "a string with a no-break space or a space of no width"
slip_words slips.Marks = codes "a string here: a comma is an indicator in brackets and braces alone"
slip_words slips.Equals = codes "a key without a value here: an entry has `: ` in place of `=`"
slip_words slips.Colon = codes "its last colon is part of the key here"
slip_words slips.Quote = codes "its quote is part of the string here: the first one is missing"
slip_words slips.Bracket = codes "a string here: what opens its bracket or brace is missing"
slip_words slips.Joined = codes "one string of two lines here: two items have a comma between them"
slip_words slips.Empty = codes "its value is an empty block scalar here: quote `|` or `>` if that is meant"
slip_words slips.Call = codes "its value is a tag and no text here: quote a value that begins with `!`"
slip_words slips.Pointer = codes "its value is null here: what begins with ` #` is a comment, unless it is quoted"
slip_words slips.Below = codes "its value is one string here: a space is missing after its colon"
