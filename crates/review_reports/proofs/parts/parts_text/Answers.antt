use Rattle.std.proofs.Common.{string_bytes}
use Rattle.std.proofs.lemmas.Result.{IfOk-weaker}
use Rattle.review_reports.specs.Texts.{IsPageText}
use Rattle.review_reports.specs.Parts.{IsPartsText}
use Rattle.review_reports.proofs.parts.parts_text.Goals as goal

pub returns : goal.returns
returns c = record {
  ok = (
      let found = c.in_ok-parts_found.field-0 in
      let asked = c.args.asked.now in
      IfOk-weaker c.page_text.result (λ text. IsPageText c.args.page found (string_bytes text)) (λ text. IsPartsText asked.left.now asked.right.now c.args.page c.args.parts.items (string_bytes text)) (λ text h. (found, c.in_ok-parts_found.ensures.ok, h)) c.page_text.ensures.ok);
}
