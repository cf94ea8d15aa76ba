-- Tables in Markdown, each with changed lines below it.
use Rattle.std.specs.Prelude.{ℕ, zero, suc, ◌==◌, Bool, true, false, cond, not, is_some, List, [], ◌++◌, Option, Some, None, String, codes, string_bytes}
use Rattle.std.specs.declared.alloc.Global.{Global}
use Rattle.std.specs.List.{flat_map, list_any, slice_split, enumerate_from}
use Rattle.std.specs.Fmt.{decimal}
use Rattle.yaml_path.specs.declared.place.Place.{Place}
use Rattle.review_formats.specs.Changes.{without_tab, changed_lines}
use Rattle.review_formats.specs.Escaped.{escaped}
use Rattle.review_formats.specs.Findings.{sides_says, left_out_of, count_of}
use Rattle.review_formats.specs.LeftOut.{between_text}
use Rattle.review_formats.specs.declared.escape.Escape.TheVariants.{Markdown}
use Rattle.review_formats.specs.declared.finding.Finding.{Finding}
use Rattle.review_formats.specs.declared.finding.Findings.{Findings}
use Rattle.review_formats.specs.declared.finding.Part.{Part}
use Rattle.review_formats.specs.declared.finding.Sides.{Sides}

-- ---- texts of files

-- what stands between two `@`, with the `@` before it as code of its own if it is not the first
abbrev pub code_part : ℕ × List ℕ → List ℕ
code_part (zero, part) = escaped Markdown part
code_part (suc n, part) = codes "</code><code>&#x40;</code><code>" ++ escaped Markdown part

-- a text as code
abbrev pub code_text : List ℕ → List ℕ
code_text text = codes "<code>" ++ (flat_map code_part (enumerate_from 0 (slice_split (λ b. b == 64) text)) ++ codes "</code>")

-- ---- the rows of a table

abbrev pub code_cell : List ℕ → List ℕ
code_cell text = codes " " ++ (code_text text ++ codes " |")

-- the cell is empty where there is no text
abbrev pub cell_text : Option (String Global) → List ℕ
cell_text None = codes " |"
cell_text (Some text) = code_cell (string_bytes text)

abbrev pub place_cell : Option Place → List ℕ
place_cell None = codes " |"
place_cell (Some place) = codes " " ++ (decimal place.line ++ (codes ":" ++ (decimal place.column ++ codes " |")))

-- a difference: what it is, its path, what each side has, and where
abbrev pub difference_row : Finding → Sides → List ℕ
difference_row one sides =
    codes "| " ++ (sides_says sides ++ (codes " |" ++ (cell_text one.path ++ (cell_text sides.left ++ (cell_text sides.right
    ++ (place_cell sides.left_place ++ (place_cell sides.right_place ++ codes "\n")))))))

-- a fault or a warning: its file and place, its name, its path and what is said of it
abbrev pub other_row : Finding → List ℕ
other_row one =
    codes "|" ++ (code_cell (string_bytes one.file) ++ (place_cell one.place ++ (codes " " ++ (escaped Markdown one.rule.now ++ (codes " |"
    ++ (cell_text one.path ++ (code_cell (string_bytes one.message) ++ codes "\n")))))))

-- whether a finding is a difference, or whether it is none
abbrev pub is_of : Bool → Finding → Bool
is_of true one = is_some one.sides
is_of false one = not (is_some one.sides)

abbrev pub row_of : Bool → Finding → Option Sides → List ℕ
row_of true one (Some sides) = difference_row one sides
row_of true one None = []
row_of false one (Some sides) = []
row_of false one None = other_row one

-- the row of a finding in the table of differences, or in the table of what is none
abbrev pub row_text : Bool → Finding → List ℕ
row_text sides one = row_of sides one one.sides

abbrev pub table_head : Bool → List ℕ
table_head true = codes "| | path | left | right | left at | right at |\n|---|---|---|---|---|---|\n"
table_head false = codes "| file | at | | path | |\n|---|---|---|---|---|\n"

-- a table, if it has a row
abbrev pub table_text : Bool → List Finding → List ℕ
table_text sides list = cond (list_any (λ one. is_of sides one) list) (table_head sides ++ flat_map (row_text sides) list) []

-- ---- changed lines

abbrev pub line_text : List ℕ → List ℕ
line_text line = escaped Markdown (without_tab line) ++ codes "\n"

-- the path, which is `.` where there is none
abbrev pub summary_text : Option (String Global) → List ℕ
summary_text None = code_text (codes ".")
summary_text (Some path) = code_text (string_bytes path)

abbrev pub details_text : Option (String Global) → List ℕ → List ℕ
details_text path changes =
    codes "\n<details><summary>" ++ (summary_text path ++ (codes "</summary>\n\n<pre>\n" ++ (flat_map line_text (changed_lines changes) ++ codes "</pre>\n\n</details>\n")))

-- the changed lines of a difference, if they are shown
abbrev pub shown_changes : Option (String Global) → Option (String Global) → List ℕ
shown_changes path None = []
shown_changes path (Some changes) = details_text path (string_bytes changes)

abbrev pub sides_changes : Option (String Global) → Option Sides → List ℕ
sides_changes path None = []
sides_changes path (Some sides) = shown_changes path sides.changes

abbrev pub changes_text : Finding → List ℕ
changes_text one = sides_changes one.path one.sides

-- ---- the whole

-- the name of the file if there are several, the differences, what is none, and changed lines
abbrev pub name_text : Option (String Global) → List ℕ
name_text None = []
name_text (Some name) = codes "\n" ++ (code_text (string_bytes name) ++ codes "\n\n")

abbrev pub part_text : Part → List ℕ
part_text part = name_text part.name ++ (table_text true part.list.items ++ (table_text false part.list.items ++ flat_map changes_text part.list.items))

-- what was compared, if two were
abbrev pub names_text : Option (String Global × String Global) → List ℕ
names_text None = []
names_text (Some names) = codes " " ++ (code_text (string_bytes names.0) ++ (codes " " ++ code_text (string_bytes names.1)))

abbrev pub none_text : List Part → List ℕ
none_text parts = cond (count_of parts == 0) (codes "Nothing is found.\n") []

abbrev pub head_text : Findings → List ℕ
head_text found = codes "**yamlreview " ++ (found.command.now ++ (codes "**" ++ (names_text found.names ++ (codes "\n\n" ++ none_text found.parts.items))))

-- what is not listed, if there is something
abbrev pub more_text : Findings → List ℕ
more_text found = between_text (codes "\nNot listed: ") (codes "\n") (left_out_of found.parts.items)

-- what was compared, and then each part in turn
abbrev pub markdown_text : Findings → List ℕ
markdown_text found = head_text found ++ (flat_map part_text found.parts.items ++ more_text found)
