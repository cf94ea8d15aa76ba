-- What `warn` does, by the warnings that are asked for.
use Rattle.std.proofs.Common.{◌≡◌, ℕ, Bor, List, Option}
use Rattle.review_text.specs.declared.options.Page.{Page}
use Rattle.review_args.specs.declared.words.Report.{Report}
use Rattle.review_args.specs.declared.words.Warn.{Warn}
use Rattle.review_command.specs.Runs.{AsksWarnings, ReportsTell, PagesTell}
use Rattle.review_reports.specs.declared.reports.Kind.{Kind}
use Rattle.review_reports.specs.declared.reports.Kind.TheVariants.{Warnings}

module _ {R W E : Type 0} (holds : List ℕ → Option (List ℕ)) (remaining : R → Option (List ℕ)) (contents : W → Option (List ℕ)) (told : E → Option (List ℕ)) where
  pub warns : (asked : Report) (warn : Warn) (w : Bor Warn) (input : R) (out : W) (status : ℕ) → w.now ≡ warn → ReportsTell holds remaining contents told (Warnings w) asked input out status
      → (kind : Kind) × AsksWarnings warn kind × ReportsTell holds remaining contents told kind asked input out status
  warns asked warn w input out status e t = (Warnings w, e, t)

  pub warns_page : (page : Page) (asked : Report) (warn : Warn) (w : Bor Warn) (input : R) (out : W) (status : ℕ) → w.now ≡ warn → PagesTell holds remaining contents told (Warnings w) page asked input out status
      → (kind : Kind) × AsksWarnings warn kind × PagesTell holds remaining contents told kind page asked input out status
  warns_page page asked warn w input out status e t = (Warnings w, e, t)
