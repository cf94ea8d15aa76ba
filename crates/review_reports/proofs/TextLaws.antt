-- What is found, written as text.
use Rattle.std.proofs.Common.{◌≡◌, ℕ, max, List, Option, inl, inr, ◌∙◌, ap}
use Rattle.yaml_text.specs.declared.fault.Fault.{Fault}
use Rattle.yaml_text.specs.declared.fault.Fault.TheVariants.{WriteFault}
use Rattle.yaml_text.specs.declared.counted.Counted.{Counted}
use Rattle.yaml_command.specs.Printing.{PrintFails}
use Rattle.review_text.specs.declared.options.Page.{Page}
use Rattle.review_formats.specs.declared.finding.Finding.{Finding}
use Rattle.review_files.specs.Statuses.{fault_status}
use Rattle.review_reports.specs.declared.reports.Kind.{Kind}
use Rattle.review_reports.specs.Pages.{WritesPage}
use Rattle.review_reports.specs.Texts.{IsListText}

-- the output fails behind a beginning of the text
pub page_cut : {W : Type 0} (contents : W → Option (List ℕ)) (kind : Kind) (page : Page) (list : List Finding) (out end : Counted W) (text : List ℕ) (found last all : ℕ) (fault : Fault) → IsListText kind page list text → PrintFails contents out end text fault → last ≡ fault_status fault → all ≡ max found last → WritesPage contents kind page list out end found all
page_cut contents kind page list out end text found last all WriteFault is p l m = inr (inl (text, is, p, m ∙ ap (max found) l))
page_cut contents kind page list out end text found last all _ is p l m = absurd p
