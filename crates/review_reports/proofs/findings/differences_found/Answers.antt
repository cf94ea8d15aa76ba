use Rattle.std.proofs.Common.{subst, arith}
use Rattle.review_reports.specs.Differences.{IsDifference}
use Rattle.review_reports.proofs.DifferenceLaws.{found_next}
use Rattle.review_reports.proofs.findings.differences_found.Goals as goal

pub lines-preserved : goal.lines-preserved
lines-preserved c =
    let one = c.in_ok-difference_found.field-0 in
    let is = subst (λ z. IsDifference c.args.left.now c.args.right.now z one) c.line-item.is c.in_ok-difference_found.ensures.ok in
    found_next c.args.left.now c.args.right.now c.args.lines.now c.lines.line-index _ c.lines.list.items c.push.new.self.items one (omega (arith, c.lines-test.true)) c.in_ok-push.ensures.items is c.lines.invariant
