use Rattle.std.proofs.Common.{◌≡◌, take}
use Rattle.review_formats.specs.Findings.{differences_in}
use Rattle.review_formats.proofs.finding.Findings.differences.Given as goal

abbrev pub invariant-parts : goal.invariant-parts
invariant-parts l = l.differences ≡ differences_in (take l.part-index l.self.parts.items)
