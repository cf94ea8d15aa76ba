use Rattle.std.proofs.Common.{subst, arith}
use Rattle.review_reports.specs.Pages.{IsFoundWarning}
use Rattle.review_reports.proofs.WarningLaws.{found_next}
use Rattle.review_reports.proofs.pages.warnings_found.Goals as goal

pub warnings-preserved : goal.warnings-preserved
warnings-preserved c =
    let one = c.in_ok-warning_found.field-0 in
    let is = subst (λ z. IsFoundWarning c.args.name.now z one) c.warning-item.is c.in_ok-warning_found.ensures.ok in
    found_next c.args.name.now c.args.warnings.now c.warnings.warning-index _ c.warnings.list.items c.push.new.self.items one (omega (arith, c.warnings-test.true)) c.in_ok-push.ensures.items is c.warnings.invariant
