-- What a page of HTML has of a finding.
use Rattle.std.specs.Prelude.{ℕ, zero, suc, ◌==◌, true, false, cond, List, [], ◌∷◌, ◌++◌, Option, Some, None, String, codes, string_bytes}
use Rattle.std.specs.declared.alloc.Global.{Global}
use Rattle.std.specs.List.{flat_map}
use Rattle.std.specs.Fmt.{decimal}
use Rattle.yaml_path.specs.declared.place.Place.{Place}
use Rattle.review_formats.specs.Changes.{without_tab, changed_lines}
use Rattle.review_formats.specs.Escaped.{escaped}
use Rattle.review_formats.specs.Findings.{sides_says}
use Rattle.review_formats.specs.declared.escape.Escape.TheVariants.{Html}
use Rattle.review_formats.specs.declared.finding.Finding.{Finding}
use Rattle.review_formats.specs.declared.finding.Sides.{Sides}
use Rattle.review_formats.specs.declared.finding.Sign.{Sign}
use Rattle.review_formats.specs.declared.finding.Sign.TheVariants.{Changed, Left, Right, Moved}
use Rattle.review_html.specs.declared.side.Side.{Side}

-- ---- places

-- what a line of a file is called by: the side, the number of the part if there are several, and the line
abbrev pub part_front : ℕ → List ℕ
part_front zero = []
part_front (suc n) = decimal (suc n) ++ codes "-"

abbrev pub line_id : Side → ℕ → List ℕ
line_id side line = cond side.is_left (codes "l") (codes "r") ++ (part_front side.part ++ decimal line)

-- a place as a link to its line
abbrev pub known_link : Side → Place → List ℕ
known_link side place =
    codes " <a href=\"#" ++ (line_id side place.line ++ (codes "\">" ++ (decimal place.line ++ (codes ":" ++ (decimal place.column ++ codes "</a>")))))

abbrev pub place_link : Side → Option Place → List ℕ
place_link side None = []
place_link side (Some place) = known_link side place

-- ---- a difference

abbrev pub value_text : Option (String Global) → List ℕ
value_text None = codes "<p class=\"none\">nothing</p>"
value_text (Some text) = codes "<pre>" ++ (escaped Html (string_bytes text) ++ codes "</pre>")

abbrev pub title_text : Side → List ℕ
title_text side = cond side.is_left (codes "left") (codes "right")

abbrev pub side_begin : List ℕ → List ℕ
side_begin title = codes "<div class=\"" ++ (title ++ (codes "\"><h3>" ++ title))

-- what one side has
abbrev pub side_text : Side → Option Place → Option (String Global) → List ℕ
side_text side place value = side_begin (title_text side) ++ (place_link side place ++ (codes "</h3>" ++ (value_text value ++ codes "</div>\n")))

-- the class of a changed line, by its sign
abbrev pub line_class : List ℕ → List ℕ
line_class [] = codes "same"
line_class (b ∷ line) = cond (b == 45) (codes "left") (cond (b == 43) (codes "right") (codes "same"))

abbrev pub line_text : List ℕ → List ℕ
line_text line = codes "<span class=\"" ++ (line_class (without_tab line) ++ (codes "\">" ++ (escaped Html (without_tab line) ++ codes "\n</span>")))

abbrev pub changes_text : List ℕ → List ℕ
changes_text changes = codes "<pre class=\"changes\">" ++ (flat_map line_text (changed_lines changes) ++ codes "</pre>\n")

-- the two sides of this number's part
abbrev pub left_of : ℕ → Side
left_of part = record { is_left = true; part = part }

abbrev pub right_of : ℕ → Side
right_of part = record { is_left = false; part = part }

abbrev pub both_places : ℕ → Sides → List ℕ
both_places part sides = codes ": left" ++ (place_link (left_of part) sides.left_place ++ (codes ", right" ++ place_link (right_of part) sides.right_place))

-- both places are told here if no side is shown below
abbrev pub places_by : ℕ → Sides → Option (String Global) → Sign → List ℕ
places_by part sides (Some changes) sign = both_places part sides
places_by part sides None Moved = both_places part sides
places_by part sides None Changed = []
places_by part sides None Left = []
places_by part sides None Right = []

abbrev pub both_text : ℕ → Sides → List ℕ
both_text part sides =
    codes "<div class=\"both\">\n" ++ (side_text (left_of part) sides.left_place sides.left ++ (side_text (right_of part) sides.right_place sides.right ++ codes "</div>\n"))

-- the changed lines, or both sides, or nothing of what moved
abbrev pub values_by : ℕ → Sides → Option (String Global) → Sign → List ℕ
values_by part sides (Some changes) sign = changes_text (string_bytes changes)
values_by part sides None Moved = []
values_by part sides None Changed = both_text part sides
values_by part sides None Left = both_text part sides
values_by part sides None Right = both_text part sides

abbrev pub sides_text : ℕ → Sides → List ℕ
sides_text part sides = codes "<p>" ++ (sides_says sides ++ (places_by part sides sides.changes sides.sign ++ (codes "</p>\n" ++ values_by part sides sides.changes sides.sign)))

-- ---- a fault or a warning

abbrev pub path_text : Option (String Global) → List ℕ
path_text None = []
path_text (Some path) = codes "<code>" ++ (escaped Html (string_bytes path) ++ codes "</code>: ")

abbrev pub source_text : Option (String Global) → List ℕ
source_text None = []
source_text (Some line) = codes "<pre>" ++ (escaped Html (string_bytes line) ++ codes "</pre>\n")

-- what is said, with the path before it and the line below it
abbrev pub said_text : Finding → List ℕ
said_text one = codes "<p>" ++ (path_text one.path ++ (escaped Html (string_bytes one.message) ++ (codes "</p>\n" ++ source_text one.line)))

-- ---- either

abbrev pub body_by : ℕ → Finding → Option Sides → List ℕ
body_by part one None = said_text one
body_by part one (Some sides) = sides_text part sides

abbrev pub body_text : ℕ → Finding → List ℕ
body_text part one = body_by part one one.sides
