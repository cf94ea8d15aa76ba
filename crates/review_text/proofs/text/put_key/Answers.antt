use Rattle.std.proofs.Common.{sym, ◌∙◌, ◌++◌, ap}
use Rattle.std.proofs.lemmas.Result.{err_from_is_err_and}
use Rattle.std.specs.String.{string_bytes}
use Rattle.review_text.specs.PathText.{bracketed}
use Rattle.review_text.proofs.Pieces.{on_ok}
use Rattle.review_text.proofs.text.put_key.Goals as goal

pub returns-in_err-node_text-in-None : goal.returns-in_err-node_text-in-None
returns-in_err-node_text-in-None c = record {
  ok = (
      let p = err_from_is_err_and c.from_residual.result c.from_residual.ensures.1 in
      rw p.1 tt);
}

pub returns-in_ok-node_text-in-None : goal.returns-in_ok-node_text-in-None
returns-in_ok-node_text-in-None c = record {
  ok = (
      let e = ap bracketed (c.deref.ensures ∙ c.in_ok-node_text-in-None.ensures.ok) ∙ sym c.in-None.ensures in
      on_ok c.put_bracketed.result c.put_bracketed.ensures.ok (λ h. h ∙ ap (λ z. string_bytes c.args.out.now ++ z) e));
}
