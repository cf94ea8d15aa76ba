-- The lines of a file in a page of HTML.
use Rattle.std.specs.Prelude.{◌≡◌, ◌⊎◌, ◌≤◌, ◌==◌, ℕ, zero, suc, true, false, List, [], ◌++◌, length, get_or, take, Option, Some, None, codes, string_bytes}
use Rattle.std.specs.List.{flat_map, slice_split, enumerate_from}
use Rattle.std.specs.Fmt.{decimal}
use Rattle.review_formats.specs.Changes.{without_last, without_end}
use Rattle.review_formats.specs.Escaped.{escaped}
use Rattle.review_formats.specs.declared.escape.Escape.TheVariants.{Html}
use Rattle.review_formats.specs.declared.finding.Finding.{Finding}
use Rattle.review_formats.specs.declared.finding.Shown.{Shown}
use Rattle.review_html.specs.Marks.{AreMarks, is_shown}
use Rattle.review_html.specs.Texts.{number_after, AreTexts}
use Rattle.review_html.specs.Sides.{line_id, left_of, right_of}
use Rattle.review_html.specs.declared.side.Side.{Side}

-- ---- the lines of a text, which end in CR LF, LF or CR

abbrev pub line_parts : List ℕ → List (List ℕ)
line_parts line = slice_split (λ b. b == 13) (without_last 13 line)

abbrev pub file_lines : List ℕ → List (List ℕ)
file_lines text = flat_map line_parts (slice_split (λ b. b == 10) (without_end text))

-- ---- a line

-- a front of it, which is all of a line of 400 bytes at most
abbrev pub IsFront : List ℕ → List ℕ → Type 0
IsFront line text = ((count : ℕ) × (text ≡ take count line)) × (length line ≤ 400 → text ≡ line)

-- a line with a finding leads to it by its number, which is 0 where there is none
abbrev pub line_begin : ℕ → List ℕ
line_begin zero = codes "<li id=\""
line_begin (suc n) = codes "<li class=\"marked\" id=\""

abbrev pub line_link : ℕ → List ℕ
line_link zero = []
line_link (suc n) = codes "<a href=\"#d" ++ (decimal (suc n) ++ codes "\" title=\"to what differs here\">")

abbrev pub line_end : ℕ → List ℕ
line_end zero = codes "</li>\n"
line_end (suc n) = codes "</a></li>\n"

abbrev pub line_front : Side → ℕ → ℕ → List ℕ
line_front side number mark = line_begin mark ++ (line_id side number ++ (codes "\" value=\"" ++ (decimal number ++ codes "\">")))

-- the line of this place, which counts from 0
abbrev pub line_text : Side → ℕ → ℕ → List ℕ → List ℕ
line_text side at mark front =
    line_front side (number_after at) mark ++ (line_link mark ++ (codes "<code>" ++ (escaped Html front ++ (codes "</code>" ++ line_end mark))))

-- a line is shown with its number, and leads to the finding of its mark, or it is not shown
abbrev pub ShowsLine : Side → List ℕ → ℕ × List ℕ → List ℕ → Type 0
ShowsLine side marks (at, line) text =
    ((is_shown marks at ≡ false) × (text ≡ []))
    ⊎ ((is_shown marks at ≡ true) × ((front : List ℕ) × IsFront line front × (text ≡ line_text side at (get_or marks at 0) front)))

-- ---- a file

-- the name, and the lines that are shown in their order, with marks by a list before which there are so many findings
abbrev pub ShowsLines : Side → List Finding → ℕ → Shown → List ℕ → Type 0
ShowsLines side list before shown text =
    (marks : List ℕ) × AreMarks side before list (length (file_lines (string_bytes shown.text))) marks
    × (lines : List ℕ) × AreTexts (ShowsLine side marks) (enumerate_from 0 (file_lines (string_bytes shown.text))) lines
    × (text ≡ codes "<div><h2><code>" ++ (escaped Html (string_bytes shown.name) ++ (codes "</code></h2>\n<ol class=\"lines\">\n" ++ (lines ++ codes "</ol></div>\n"))))

-- both files of the part of this number, if they are shown
abbrev pub ShowsFiles : ℕ → List Finding → ℕ → Option (Shown × Shown) → List ℕ → Type 0
ShowsFiles number list before None text = text ≡ []
ShowsFiles number list before (Some files) text =
    (left : List ℕ) × (right : List ℕ) × ShowsLines (left_of number) list before files.0 left × ShowsLines (right_of number) list before files.1 right
    × (text ≡ codes "<section class=\"files\"><div class=\"both\">\n" ++ (left ++ (right ++ codes "</div></section>\n")))
