use Rattle.std.proofs.Common.{◌≡◌, take}
use Rattle.review_formats.specs.Findings.{moves_in}
use Rattle.review_formats.proofs.finding.Findings.moves.Given as goal

abbrev pub invariant-parts : goal.invariant-parts
invariant-parts l = l.moves ≡ moves_in (take l.part-index l.self.parts.items)
