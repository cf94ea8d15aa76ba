-- What a finding begins with in a page of HTML.
use Rattle.std.specs.Prelude.{ℕ, List, [], ◌∷◌, ◌++◌, Option, Some, None, String, codes, string_bytes}
use Rattle.std.specs.declared.alloc.Global.{Global}
use Rattle.std.specs.Fmt.{decimal}
use Rattle.yaml_path.specs.declared.place.Place.{Place}
use Rattle.review_formats.specs.Escaped.{escaped}
use Rattle.review_formats.specs.Findings.{sign_word, sign_mark}
use Rattle.review_formats.specs.declared.escape.Escape.TheVariants.{Html}
use Rattle.review_formats.specs.declared.finding.Finding.{Finding}
use Rattle.review_formats.specs.declared.finding.Level.{Level}
use Rattle.review_formats.specs.declared.finding.Level.TheVariants.{Error, Warning, Note}
use Rattle.review_formats.specs.declared.finding.Sides.{Sides}

-- the class of a finding's colour
abbrev pub class_by : Option Sides → Level → List ℕ
class_by (Some sides) level = sign_word sides.sign
class_by None Error = codes "left"
class_by None Warning = codes "changed"
class_by None Note = codes "changed"

abbrev pub class_text : Finding → List ℕ
class_text one = class_by one.sides one.level

-- the sign of a difference, a cross for a fault, and `!` for a warning
abbrev pub mark_by : Option Sides → Level → List ℕ
mark_by (Some sides) level = sign_mark sides.sign
mark_by None Error = 226 ∷ 156 ∷ 151 ∷ []
mark_by None Warning = codes "!"
mark_by None Note = codes "!"

abbrev pub mark_text : Finding → List ℕ
mark_text one = mark_by one.sides one.level

-- the line and the column, if they are known
abbrev pub position_text : Option Place → List ℕ
position_text None = []
position_text (Some place) = codes ":" ++ (decimal place.line ++ (codes ":" ++ decimal place.column))

abbrev pub file_text : Finding → List ℕ
file_text one = escaped Html (string_bytes one.file) ++ position_text one.place

-- a difference is called by its path, anything else by its file and place
abbrev pub name_by : Finding → Option Sides → Option (String Global) → List ℕ
name_by one None path = file_text one
name_by one (Some sides) None = file_text one
name_by one (Some sides) (Some path) = escaped Html (string_bytes path)

abbrev pub name_text : Finding → List ℕ
name_text one = name_by one one.sides one.path

-- the name of a fault or a warning
abbrev pub rule_by : List ℕ → Option Sides → List ℕ
rule_by rule None = codes " " ++ escaped Html rule
rule_by rule (Some sides) = []

abbrev pub rule_text : Finding → List ℕ
rule_text one = rule_by one.rule.now one.sides

abbrev pub heading_text : Finding → List ℕ
heading_text one = codes "<span class=\"mark\">" ++ (mark_text one ++ (codes "</span> <code>" ++ (name_text one ++ (codes "</code>" ++ rule_text one))))

abbrev pub link_begin : ℕ → List ℕ → List ℕ
link_begin number class = codes "<li class=\"" ++ (class ++ (codes "\" value=\"" ++ (decimal number ++ (codes "\"><a href=\"#d" ++ (decimal number ++ codes "\">")))))

-- the link to the finding of this number
abbrev pub link_text : ℕ → Finding → List ℕ
link_text number one = link_begin number (class_text one) ++ (heading_text one ++ codes "</a></li>\n")

abbrev pub section_begin : ℕ → List ℕ → List ℕ
section_begin number class = codes "<section class=\"" ++ (class ++ (codes "\" id=\"d" ++ (decimal number ++ (codes "\"><h2><a href=\"#d" ++ (decimal number ++ codes "\">")))))

-- the front of its section, which is what the link leads to
abbrev pub front_text : ℕ → Finding → List ℕ
front_text number one = section_begin number (class_text one) ++ (heading_text one ++ codes "</a></h2>\n")

-- ---- a file of several

-- the name of a file as a link to the part of this number
abbrev pub file_link : ℕ → Option (String Global) → List ℕ
file_link number None = []
file_link number (Some name) = codes "<h2 class=\"file\"><a href=\"#f" ++ (decimal number ++ (codes "\"><code>" ++ (escaped Html (string_bytes name) ++ codes "</code></a></h2>\n")))

-- the same name above that part
abbrev pub file_front : ℕ → Option (String Global) → List ℕ
file_front number None = []
file_front number (Some name) = codes "<h2 class=\"file\" id=\"f" ++ (decimal number ++ (codes "\"><code>" ++ (escaped Html (string_bytes name) ++ codes "</code></h2>\n")))
