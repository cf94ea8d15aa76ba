-- A page of HTML.
use Rattle.std.specs.Prelude.{◌≡◌, ℕ, ◌+◌, ◌-◌, ◌^◌, nat_lt, min, zero, suc, cond, List, [], ◌∷◌, ◌++◌, length, Option, Some, None, String, codes, string_bytes}
use Rattle.std.specs.declared.alloc.Global.{Global}
use Rattle.std.specs.List.{flat_map, enumerate_from}
use Rattle.std.specs.Fmt.{decimal}
use Rattle.review_formats.specs.Escaped.{escaped}
use Rattle.review_formats.specs.Findings.{left_out_of, count_of}
use Rattle.review_formats.specs.LeftOut.{between_text}
use Rattle.review_formats.specs.declared.escape.Escape.TheVariants.{Html}
use Rattle.review_formats.specs.declared.finding.Finding.{Finding}
use Rattle.review_formats.specs.declared.finding.Findings.{Findings}
use Rattle.review_formats.specs.declared.finding.Part.{Part}
use Rattle.review_html.specs.declared.style.TheConstants.{HEAD, STYLE}
use Rattle.review_html.specs.Headings.{link_text, front_text, file_link, file_front}
use Rattle.review_html.specs.Lines.{ShowsFiles}
use Rattle.review_html.specs.Sides.{body_text}
use Rattle.review_html.specs.Texts.{number_after, AreTexts}

-- ---- the head

-- an arrow between two names
abbrev pub arrow : List ℕ
arrow = 226 ∷ 134 ∷ 146 ∷ []

abbrev pub title_names : Option (String Global × String Global) → List ℕ
title_names None = []
title_names (Some names) = codes ": " ++ (escaped Html (string_bytes names.0) ++ (codes " " ++ (arrow ++ (codes " " ++ escaped Html (string_bytes names.1)))))

-- the name of the page: the command, and what was compared
abbrev pub title_text : Findings → List ℕ
title_text found = codes "<title>yamlreview " ++ (found.command.now ++ (title_names found.names ++ codes "</title>\n<style>\n"))

abbrev pub compared_text : List ℕ → List ℕ → List ℕ
compared_text left right =
    codes "<p class=\"names\"><code>" ++ (escaped Html left ++ (codes "</code> " ++ (arrow ++ (codes " <code>" ++ (escaped Html right ++ codes "</code></p>\n")))))

abbrev pub header_names : Option (String Global × String Global) → List ℕ
header_names None = []
header_names (Some names) = compared_text (string_bytes names.0) (string_bytes names.1)

abbrev pub places_text : ℕ → List ℕ
places_text zero = codes "<p>Nothing is found.</p>"
places_text (suc zero) = codes "<p>1 place is found"
places_text (suc (suc n)) = codes "<p>" ++ (decimal (suc (suc n)) ++ codes " places are found")

-- in how many files, if there are several
abbrev pub files_text : ℕ → List ℕ
files_text files = cond (nat_lt 1 files) (codes ", in " ++ (decimal files ++ codes " files")) []

-- how much is found
abbrev pub count_text : ℕ → ℕ → List ℕ
count_text zero files = places_text 0
count_text (suc n) files = places_text (suc n) ++ (files_text files ++ codes ".</p>")

-- what is not listed, if there is something
abbrev pub more_text : List Part → List ℕ
more_text parts = between_text (codes "<p><strong>Not listed: ") (codes "</strong></p>") (left_out_of parts)

abbrev pub header_text : Findings → List ℕ
header_text found =
    codes "<header><h1>yamlreview " ++ (found.command.now ++ (codes "</h1>\n" ++ (header_names found.names ++ (count_text (count_of found.parts.items) (length found.parts.items)
    ++ (more_text found.parts.items ++ codes "</header>\n")))))

-- ---- the parts

-- each part with its number, and the number of findings before it as far as a number of 64 bits counts
abbrev pub numbered : ℕ → ℕ → List Part → List (ℕ × ℕ × Part)
numbered number before [] = []
numbered number before (part ∷ parts) = (number, before, part) ∷ numbered (number + 1) (min (before + length part.list.items) (2 ^ 64 - 1)) parts

abbrev pub link_item : ℕ × Finding → List ℕ
link_item (before, one) = link_text (number_after before) one

-- links to all findings of a part
abbrev pub part_links : ℕ × ℕ × Part → List ℕ
part_links (number, before, part) = file_link number part.name ++ (codes "<ol>\n" ++ (flat_map link_item (enumerate_from before part.list.items) ++ codes "</ol>\n"))

abbrev pub links_text : List Part → List ℕ
links_text parts = codes "<nav aria-label=\"All that is found\">\n" ++ (flat_map part_links (numbered 1 0 parts) ++ codes "</nav>\n")

-- a part that has no name is there alone, and has no number
abbrev pub number_by : ℕ → Option (String Global) → ℕ
number_by number None = 0
number_by number (Some name) = number

-- what is found in a part of this number
abbrev pub section_text : ℕ → ℕ × Finding → List ℕ
section_text number (before, one) = front_text (number_after before) one ++ (body_text number one ++ codes "</section>\n")

abbrev pub sections_text : ℕ → ℕ → List Finding → List ℕ
sections_text number before list = flat_map (section_text number) (enumerate_from before list)

-- a part: its name, a section for each finding, and the lines of its files
abbrev pub IsPartText : ℕ × ℕ × Part → List ℕ → Type 0
IsPartText (number, before, part) text =
    (files : List ℕ) × ShowsFiles (number_by number part.name) part.list.items before part.shown files
    × (text ≡ file_front number part.name ++ (sections_text (number_by number part.name) before part.list.items ++ files))

-- ---- the whole

abbrev pub page_text : Findings → List ℕ → List ℕ
page_text found parts =
    HEAD.now ++ (title_text found ++ (STYLE.now ++ (codes "</style>\n</head>\n<body>\n" ++ (header_text found ++ (links_text found.parts.items ++ (codes "<main>\n"
    ++ (parts ++ codes "</main>\n</body>\n</html>\n")))))))

-- The page has the names of what was compared, how much is found, a link to each finding, and each finding in turn, with its number, and with escapes for each character of a file that would be markup.
abbrev pub IsHtml : Findings → List ℕ → Type 0
IsHtml found text = (parts : List ℕ) × AreTexts IsPartText (numbered 1 0 found.parts.items) parts × (text ≡ page_text found parts)
