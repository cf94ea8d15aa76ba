use Rattle.std.proofs.Common.{Bor, List, ℕ, ◌<◌, ◌-◌, ◌^◌, map, drop}
use Rattle.yaml_text.specs.CountedModel.{faults_of}
use Rattle.review_reports.proofs.ReportLaws.{GoesOn}
use Rattle.review_reports.proofs.reports.reports.Given as goal

abbrev pub invariant-files : goal.invariant-files
invariant-files g l =
    let names : List (List ℕ) = map {A = Bor (List ℕ)} {B = List ℕ} (λ s. s.now) l.files in
    record {
      few : faults_of l.out < 2 ^ 64 - 1;
      on : GoesOn (g.S.Shelf.holds l.shelf) g.R.Read.remaining g.W.Write.contents l.kind l.form names l.initial.input l.initial.out (drop l.name-index names) l.input l.out l.status;
    }
