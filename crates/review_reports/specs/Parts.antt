-- What a page has of two files.
use Rattle.std.specs.Prelude.{◌≡◌, ℕ, List, ◌++◌, Option, Some, None, String, codes, string_bytes}
use Rattle.std.specs.declared.alloc.Global.{Global}
use Rattle.std.specs.Str.{IsUtf8}
use Rattle.review_text.specs.declared.options.Page.{Page}
use Rattle.review_text.specs.declared.options.Page.TheVariants.{Html, Markdown, Sarif, Github}
use Rattle.review_formats.specs.declared.finding.Finding.{Finding}
use Rattle.review_formats.specs.declared.finding.Findings.{Findings}
use Rattle.review_formats.specs.declared.finding.Part.{Part}
use Rattle.review_formats.specs.declared.finding.Shown.{Shown}
use Rattle.review_lines.specs.declared.listed.Listed.{Listed}
use Rattle.review_reports.specs.Differences.{AreDifferences}
use Rattle.review_reports.specs.Texts.{IsPageText}
use Rattle.review_text.specs.Hidden.{visible}

-- the differences and then the pairs of items that moved
abbrev pub ListsAll : List ℕ → List ℕ → Listed → List Finding → Type 0
ListsAll left right listed list = (lines : List Finding) × (moves : List Finding) × AreDifferences left right listed.lines.items lines × AreDifferences left right listed.moves.items moves × (list ≡ lines ++ moves)

-- a file of this name, with its text, in which escapes stand for the characters that would not be seen
pub record IsShown (name bytes : List ℕ) (shown : Shown) : Type 0 where
  pub named : string_bytes shown.name ≡ name
  pub text : IsUtf8 bytes → string_bytes shown.text ≡ visible bytes

abbrev pub ShowsBoth : List ℕ → List ℕ → List ℕ → List ℕ → Option (Shown × Shown) → Type 0
ShowsBoth left_name left right_name right None = ⊥
ShowsBoth left_name left right_name right (Some both) = IsShown left_name left both.0 × IsShown right_name right both.1

-- a page of HTML shows the lines of both files
abbrev pub ShowsLines : Page → List ℕ → List ℕ → List ℕ → List ℕ → Option (Shown × Shown) → Type 0
ShowsLines Html left_name left right_name right both = ShowsBoth left_name left right_name right both
ShowsLines Markdown left_name left right_name right both = both ≡ None
ShowsLines Sarif left_name left right_name right both = both ≡ None
ShowsLines Github left_name left right_name right both = both ≡ None

-- two files or folders of these names
abbrev pub AreNames : List ℕ → List ℕ → Option (String Global × String Global) → Type 0
AreNames left right None = ⊥
AreNames left right (Some names) = (string_bytes names.0 ≡ left) × (string_bytes names.1 ≡ right)

-- what `diff` finds in these parts of what has these names
pub record AreParts (left right : List ℕ) (parts : List Part) (found : Findings) : Type 0 where
  pub command : found.command.now ≡ codes "diff"
  pub named : AreNames left right found.names
  pub parted : found.parts.items ≡ parts

-- the text of it
abbrev pub IsPartsText : List ℕ → List ℕ → Page → List Part → List ℕ → Type 0
IsPartsText left right page parts text = (found : Findings) × AreParts left right parts found × IsPageText page found text
