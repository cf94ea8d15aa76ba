use Rattle.std.proofs.Common.{take}
use Rattle.review_reports.specs.Differences.{AreDifferences}
use Rattle.review_reports.proofs.findings.differences_found.Given as goal

abbrev pub invariant-lines : goal.invariant-lines
invariant-lines l = AreDifferences l.left l.right (take l.line-index l.lines) l.list.items
