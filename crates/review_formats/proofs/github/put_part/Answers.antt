use Rattle.std.proofs.Common.{◌++◌, ◌∙◌, ap, arith}
use Rattle.std.specs.String.{string_bytes}
use Rattle.review_formats.specs.Github.{finding_line}
use Rattle.review_formats.proofs.PieceLaws.{flat_next, flat_all}
use Rattle.review_formats.proofs.github.put_part.Goals as goal

pub findings-preserved : goal.findings-preserved
findings-preserved c =
    let is = rw c.deref-finding-items.ensures.value at c.finding-item.is in
    flat_next finding_line c.args.part.now.list.items c.findings.finding-index _ _ _ _ (omega (arith, c.findings-test.true)) c.findings.invariant (c.in_ok-put_finding.ensures.ok ∙ ap (λ z. string_bytes c.findings.out ++ finding_line z) is)

pub returns : goal.returns
returns c = record { ok = (flat_all finding_line c.args.part.now.list.items c.findings.finding-index _ _ (omega (arith, c.findings-test.false)) c.findings.invariant) }
