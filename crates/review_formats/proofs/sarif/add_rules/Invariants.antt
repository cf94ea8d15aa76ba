use Rattle.std.proofs.Common.{◌≡◌, drop}
use Rattle.review_formats.specs.Sarif.{with_findings}
use Rattle.review_formats.proofs.SarifLaws.{texts_of}
use Rattle.review_formats.proofs.sarif.add_rules.Given as goal

abbrev pub invariant-findings : goal.invariant-findings
invariant-findings l = with_findings (texts_of l.rules.items) (drop l.finding-index l.part.list.items) ≡ with_findings (texts_of l.fn.rules.items) l.part.list.items
