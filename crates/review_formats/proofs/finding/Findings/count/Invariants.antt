use Rattle.std.proofs.Common.{◌≡◌, ◌-◌, ◌^◌, take}
use Rattle.std.specs.Prelude.{min}
use Rattle.review_formats.specs.Findings.{findings_in}
use Rattle.review_formats.proofs.finding.Findings.count.Given as goal

abbrev pub invariant-parts : goal.invariant-parts
invariant-parts l = l.count ≡ min (findings_in (take l.part-index l.self.parts.items)) (2 ^ 64 - 1)
