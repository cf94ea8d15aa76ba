use Rattle.std.proofs.Common.{◌≡◌, [], drop}
use Rattle.std.specs.List.{flat_map}
use Rattle.review_formats.specs.Sarif.{with_findings, part_findings}
use Rattle.review_formats.proofs.SarifLaws.{texts_of}
use Rattle.review_formats.proofs.sarif.rules_of.Given as goal

abbrev pub invariant-parts : goal.invariant-parts
invariant-parts l = with_findings (texts_of l.rules.items) (flat_map part_findings (drop l.part-index l.parts)) ≡ with_findings [] (flat_map part_findings l.parts)
