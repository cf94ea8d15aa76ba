use Rattle.std.proofs.Common.{◌∙◌, ap, arith}
use Rattle.review_formats.specs.Sarif.{with_findings}
use Rattle.review_formats.proofs.SarifLaws.{texts_of, part_next}
use Rattle.review_formats.proofs.sarif.rules_of.Goals as goal

pub parts-preserved : goal.parts-preserved
parts-preserved c = part_next c.args.parts.now c.parts.part-index _ _ _ _ (omega (arith, c.parts-test.true)) c.parts.invariant (c.in_ok-add_rules.ensures.ok ∙ ap (λ z. with_findings (texts_of c.parts.rules.items) z.list.items) c.part-item.is)
