use Rattle.std.proofs.Common.{◌∙◌, ap, arith}
use Rattle.serde_json.specs.View.{view}
use Rattle.review_formats.specs.Sarif.{result_data}
use Rattle.review_formats.proofs.SarifLaws.{push_next, push_all}
use Rattle.review_formats.proofs.sarif.add_results.Goals as goal

pub findings-preserved : goal.findings-preserved
findings-preserved c =
    let is = rw c.deref-finding-items.ensures.value at c.finding-item.is in
    push_next result_data view c.args.part.now.list.items c.findings.finding-index _ _ _ c.in_ok-result_of.field-0 _ (omega (arith, c.findings-test.true)) c.findings.invariant c.in_ok-push.ensures.items (c.in_ok-result_of.ensures.ok ∙ ap result_data is)

pub returns : goal.returns
returns c = record { ok = (push_all result_data view c.args.part.now.list.items c.findings.finding-index _ _ (omega (arith, c.findings-test.false)) c.findings.invariant) }
