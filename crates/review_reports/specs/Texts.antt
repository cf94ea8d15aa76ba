-- What is found as text, by the form of the page.
use Rattle.std.specs.Prelude.{◌≡◌, ℕ, List, [], ◌∷◌, None, true, codes}
use Rattle.review_text.specs.declared.options.Page.{Page}
use Rattle.review_text.specs.declared.options.Page.TheVariants.{Html, Markdown, Sarif, Github}
use Rattle.review_formats.specs.Github.{github_text}
use Rattle.review_formats.specs.LeftOut.{no_left_out}
use Rattle.review_formats.specs.Markdown.{markdown_text}
use Rattle.review_formats.specs.Sarif.{sarif_text}
use Rattle.review_formats.specs.declared.finding.Finding.{Finding}
use Rattle.review_formats.specs.declared.finding.Findings.{Findings}
use Rattle.review_formats.specs.declared.finding.Part.{Part}
use Rattle.review_html.specs.Html.{IsHtml}
use Rattle.review_reports.specs.declared.reports.Kind.{Kind}
use Rattle.review_reports.specs.declared.reports.Kind.TheVariants.{Faults, Warnings}

-- The text of annotations, of a log, of tables or of a page of HTML.
abbrev pub IsPageText : Page → Findings → List ℕ → Type 0
IsPageText Github found text = text ≡ github_text found
IsPageText Sarif found text = text ≡ sarif_text found
IsPageText Markdown found text = text ≡ markdown_text found
IsPageText Html found text = IsHtml found text

-- the command that finds this
abbrev pub command_word : Kind → List ℕ
command_word Faults = codes "faults"
command_word (Warnings w) = codes "warn"

-- what this command found: one part with this list, which is whole
pub record AreFound (kind : Kind) (list : List Finding) (found : Findings) : Type 0 where
  pub command : found.command.now ≡ command_word kind
  pub names : found.names ≡ None
  pub part : Part
  pub parts : found.parts.items ≡ part ∷ []
  pub unnamed : part.name ≡ None
  pub listed : part.list.items ≡ list
  pub unshown : part.shown ≡ None
  pub whole : part.left_out ≡ no_left_out

-- the text of such a list
abbrev pub IsListText : Kind → Page → List Finding → List ℕ → Type 0
IsListText kind page list text = (found : Findings) × AreFound kind list found × IsPageText page found text
