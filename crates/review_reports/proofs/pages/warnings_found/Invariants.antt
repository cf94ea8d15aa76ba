use Rattle.std.proofs.Common.{take}
use Rattle.review_reports.specs.Pages.{AreFoundWarnings}
use Rattle.review_reports.proofs.pages.warnings_found.Given as goal

abbrev pub invariant-warnings : goal.invariant-warnings
invariant-warnings l = AreFoundWarnings l.name (take l.warning-index l.warnings) l.list.items
