-- The lines of a comparison.
use Rattle.std.specs.Prelude.{ℕ, zero, suc, Bool, cond, List, [], ◌∷◌, ◌++◌, Option, Some, None, option_map, unwrap_or, String, codes, string_bytes}
use Rattle.std.specs.declared.alloc.Global.{Global}
use Rattle.std.specs.Fmt.{decimal}
use Rattle.yaml_path.specs.declared.place.Place.{Place}
use Rattle.review_text.specs.declared.options.Form.{Form}
use Rattle.review_text.specs.declared.options.Form.TheVariants as form
use Rattle.review_text.specs.declared.options.Diff.{Diff}
use Rattle.review_formats.specs.LeftOut.{is_none, between_text}
use Rattle.review_formats.specs.declared.left_out.LeftOut.{LeftOut}
use Rattle.review_text.specs.Hidden.{visible, json_visible}
use Rattle.review_paths.specs.Json.{text_json, place_json, raw_text}
use Rattle.review_paths.specs.declared.members.Members.{Members}
use Rattle.review_lines.specs.Stat.{whole_text}
use Rattle.review_lines.specs.declared.lines.Changes.{Changes}
use Rattle.review_lines.specs.declared.lines.Line.{Line}

abbrev pub Text : Type 0
Text = Option (String Global)

-- ---- columns

-- what is told of the two sides: other things, of one of them nothing, or of both nothing, where a pair of items moved
abbrev pub by_sides : {X : Type 0} → X → X → X → X → Text → Text → X
by_sides both left right none (Some t) (Some u) = both
by_sides both left right none (Some t) None = left
by_sides both left right none None (Some u) = right
by_sides both left right none None None = none

abbrev pub sign : Line → List ℕ
sign l = by_sides (codes "~") (codes "-") (codes "+") (codes ">") l.left l.right

abbrev pub text_or_none : Text → List ℕ
text_or_none t = unwrap_or (option_map string_bytes t) []

abbrev pub place_text : Option Place → List ℕ
place_text None = []
place_text (Some p) = decimal p.line ++ (codes ":" ++ decimal p.column)

abbrev pub column : List ℕ → List ℕ
column text = codes "\t" ++ text

-- what stands where the left text does: the label in its place, if there is one
abbrev pub label_or : Text → Text → List ℕ
label_or (Some t) left = string_bytes t
label_or None left = text_or_none left

-- what the sides have: both texts or, of scalars whose changed lines are printed below, how many lines there are and which are changed; of items that moved their label
abbrev pub values : Option Changes → Line → List ℕ
values None l = column (visible (label_or l.label l.left)) ++ column (visible (text_or_none l.right))
values (Some c) l = column (visible (string_bytes c.summary))

abbrev pub below : Option Changes → List ℕ
below None = []
below (Some c) = visible (string_bytes c.text)

abbrev pub places_text : Bool → Line → List ℕ
places_text places l = cond places (column (place_text l.left_place) ++ column (place_text l.right_place)) []

-- what turns the colour of a terminal on: red for what the left side has alone, green for the right one, blue for what moved, and yellow
abbrev pub color_text : Line → List ℕ
color_text l = by_sides (27 ∷ codes "[33m") (27 ∷ codes "[31m") (27 ∷ codes "[32m") (27 ∷ codes "[34m") l.left l.right

-- and what turns it off
abbrev pub plain_text : List ℕ
plain_text = 27 ∷ codes "[0m"

-- Sign, path, what the sides have, parted by tabs, and behind these the places if they are told; below them the changed lines of scalars. A character that a terminal would not show is written as its escape.
abbrev pub columns : Bool → Bool → Line → List ℕ
columns places color l =
    cond color (color_text l) [] ++ (sign l ++ (column (visible (string_bytes l.path)) ++ (values l.changes l
    ++ (places_text places l ++ (cond color plain_text [] ++ (codes "\n" ++ below l.changes))))))

-- how many other differences a line tells, on a line of its own behind a tab, if there are some
abbrev pub others_text : ℕ → List ℕ
others_text zero = []
others_text (suc n) = codes "\t(and " ++ (decimal (suc n) ++ codes " more through aliases)\n")

-- a line that tells so many differences: nothing where another line tells its own
abbrev pub told_text : ℕ → List ℕ → List ℕ
told_text zero text = []
told_text (suc n) text = text ++ others_text n

-- ---- JSON

abbrev pub kind : Line → List ℕ
kind l = by_sides (codes "changed") (codes "left") (codes "right") (codes "moved") l.left l.right

-- what a program reads beside the texts, where it is told
abbrev pub left_value : Option Members → Option (List ℕ)
left_value None = None
left_value (Some m) = option_map string_bytes m.left

abbrev pub right_value : Option Members → Option (List ℕ)
right_value None = None
right_value (Some m) = option_map string_bytes m.right

abbrev pub steps_text : Option Members → Option (List ℕ)
steps_text None = None
steps_text (Some m) = Some (string_bytes m.steps)

-- an object with the members in the order of their names, and the end of the line
abbrev pub line_object : Line → List ℕ
line_object l =
    (codes "{\"kind\":" ++ text_json (Some (kind l))) ++ ((codes ",\"left\":" ++ text_json (option_map string_bytes l.left)) ++ ((codes ",\"left_place\":" ++ place_json l.left_place)
    ++ (raw_text (codes ",\"left_value\":") (left_value l.members) ++ ((codes ",\"path\":" ++ text_json (Some (string_bytes l.path))) ++ ((codes ",\"right\":" ++ text_json (option_map string_bytes l.right))
    ++ ((codes ",\"right_place\":" ++ place_json l.right_place) ++ (raw_text (codes ",\"right_value\":") (right_value l.members) ++ (raw_text (codes ",\"steps\":") (steps_text l.members) ++ codes "}\n"))))))))

-- the same with an escape for each character that a terminal does not show
abbrev pub line_json : Line → List ℕ
line_json l = json_visible (line_object l)

-- ---- a line in each form

abbrev pub form_text : Form → Bool → Bool → Line → List ℕ
form_text form.Line places color l = told_text l.count (columns places color l)
form_text form.Json places color l = line_json l

abbrev pub line_text : Diff → Line → List ℕ
line_text asked l = form_text asked.form asked.places asked.color l

-- what stands behind lines that are not all
abbrev pub more_text : Form → List ℕ
more_text form.Line = codes "...\n"
more_text form.Json = codes "{\"kind\":\"more\"}\n"

-- what no line tells as an object, if there is something
abbrev pub rest_object : LeftOut → List ℕ
rest_object l = (codes "{\"differences\":" ++ decimal l.differences) ++ ((codes ",\"kind\":\"more\",\"moves\":" ++ decimal l.moves) ++ whole_text l.whole)

abbrev pub rest_json : LeftOut → List ℕ
rest_json l = cond (is_none l) [] (rest_object l)

-- the same in the form that is asked for
abbrev pub rest_text : Form → LeftOut → List ℕ
rest_text form.Line l = between_text (codes "... not listed: ") (codes "\n") l
rest_text form.Json l = rest_json l

-- one line after another
abbrev pub lines_text : Diff → List Line → List ℕ
lines_text asked [] = []
lines_text asked (l ∷ ls) = line_text asked l ++ lines_text asked ls
