use Rattle.std.proofs.Common.{inl}
use Rattle.review_reports.specs.Reports.{CutsFile}
use Rattle.review_reports.proofs.ReportLaws.{at_err, cuts}
use Rattle.review_reports.proofs.reports.report.Goals as goal

pub returns-in_err-write_out-clause-cut : goal.returns-in_err-write_out-clause-cut
returns-in_err-write_out-clause-cut g c =
    let b = cuts (g.S.Shelf.holds c.args.shelf.now) g.R.Read.remaining g.W.Write.contents c.args.kind c.args.named.1 c.args.named.0.now c.args.input.now c.told_of.new.input c.args.out.now c.write_out.new.out
    _ c.in-Ok.told.1 c.in_err-write_out.field-0.0 c.in-Ok.ensures.ok (rw c.as_bytes.ensures.value at c.in_err-write_out.ensures.err) in
    at_err c.from_residual.result _ (CutsFile (g.S.Shelf.holds c.args.shelf.now) g.R.Read.remaining g.W.Write.contents c.args.kind c.args.named.1 c.args.named.0.now c.args.input.now c.told_of.new.input c.args.out.now c.write_out.new.out) c.from_residual.ensures.1 b

pub returns-clause-ok : goal.returns-clause-ok
returns-clause-ok g c = inl (_, c.in-Ok.ensures.ok, rw c.as_bytes.ensures.value at c.in_ok-write_out.ensures.ok)
