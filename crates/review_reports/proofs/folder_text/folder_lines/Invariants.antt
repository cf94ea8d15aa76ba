use Rattle.std.proofs.Common.{◌<◌, ◌-◌, ◌^◌, drop}
use Rattle.yaml_text.specs.CountedModel.{faults_of}
use Rattle.review_reports.proofs.LineLaws.{GoesOn}
use Rattle.review_reports.proofs.folder_text.folder_lines.Given as goal

abbrev pub invariant-entries : goal.invariant-entries
invariant-entries g l = record {
  few : faults_of l.out < 2 ^ 64 - 1;
  on : GoesOn (g.S.Shelf.holds l.shelf) g.W.Write.contents g.E.Write.contents l.asked l.ignored l.entries l.initial.out l.initial.err (drop l.entry-index l.entries) l.out l.err l.status;
}
