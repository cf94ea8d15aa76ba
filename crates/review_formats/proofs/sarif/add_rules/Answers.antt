use Rattle.std.proofs.Common.{◌∙◌, ap, arith}
use Rattle.review_formats.specs.Sarif.{with_rule}
use Rattle.review_formats.proofs.SarifLaws.{texts_of, rule_next, rule_all}
use Rattle.review_formats.proofs.sarif.add_rules.Goals as goal

pub findings-preserved : goal.findings-preserved
findings-preserved c =
    let is = rw c.deref-finding-items.ensures.value at c.finding-item.is in
    rule_next c.args.part.now.list.items c.findings.finding-index _ _ _ _ (omega (arith, c.findings-test.true)) c.findings.invariant (c.in_ok-add_rule.ensures.ok ∙ ap (λ z. with_rule (texts_of c.findings.rules.items) z.rule.now) is)

pub returns : goal.returns
returns c = record { ok = (rule_all c.args.part.now.list.items c.findings.finding-index _ _ (omega (arith, c.findings-test.false)) c.findings.invariant) }
