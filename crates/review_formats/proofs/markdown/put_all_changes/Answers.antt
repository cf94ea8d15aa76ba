use Rattle.std.proofs.Common.{◌++◌, ◌∙◌, ap, arith}
use Rattle.std.specs.String.{string_bytes}
use Rattle.review_formats.specs.Markdown.{changes_text}
use Rattle.review_formats.proofs.PieceLaws.{flat_next, flat_all}
use Rattle.review_formats.proofs.markdown.put_all_changes.Goals as goal

pub findings-preserved : goal.findings-preserved
findings-preserved c = flat_next changes_text c.args.list.now c.findings.finding-index _ _ _ _ (omega (arith, c.findings-test.true)) c.findings.invariant (c.in_ok-put_changes.ensures.ok ∙ ap (λ z. string_bytes c.findings.out ++ changes_text z) c.finding-item.is)

pub returns : goal.returns
returns c = record { ok = (flat_all changes_text c.args.list.now c.findings.finding-index _ _ (omega (arith, c.findings-test.false)) c.findings.invariant) }
