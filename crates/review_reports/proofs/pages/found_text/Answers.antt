use Rattle.std.proofs.Common.{string_bytes}
use Rattle.std.proofs.lemmas.Result.{IfOk-weaker}
use Rattle.review_reports.specs.Texts.{IsPageText, IsListText}
use Rattle.review_reports.proofs.pages.found_text.Goals as goal

pub returns : goal.returns
returns c = record {
  ok = (
      let found = c.in_ok-as_found.field-0 in
      IfOk-weaker c.page_text.result (λ text. IsPageText c.args.page found (string_bytes text)) (λ text. IsListText c.args.kind c.args.page c.args.list.items (string_bytes text)) (λ text h. (found, c.in_ok-as_found.ensures.ok, h)) c.page_text.ensures.ok);
}
