use Rattle.std.proofs.Common.{sym, ◌∙◌, ◌++◌, ap}
use Rattle.std.specs.String.{string_bytes}
use Rattle.review_text.specs.PathText.{bracketed, whole_limit}
use Rattle.review_text.proofs.Pieces.{on_ok}
use Rattle.review_text.proofs.ShownLaws.{shown_filled}
use Rattle.review_text.proofs.KeyLaws.{named_put, unnamed}
use Rattle.review_text.proofs.text.put_scalar_key.Goals as goal

pub returns-then-is_named : goal.returns-then-is_named
returns-then-is_named c = record { ok = (on_ok c.put_all.result c.put_all.ensures.ok (λ h. h ∙ ap (λ z. string_bytes c.args.out.now ++ z) (named_put c.args.tag.now c.args.content.now (sym c.is_named.ensures ∙ c.if-is_named.true)))) }

pub returns : goal.returns
returns c = record {
  ok = (
      let s = shown_filled whole_limit _ _ _ c.new-text.ensures.bytes c.in_ok-put_scalar.ensures.ok in
      let e = ap bracketed (c.deref.ensures ∙ c.in_ok-cut.ensures.ok ∙ s) ∙ sym (unnamed c.args.tag.now c.args.content.now (sym c.is_named.ensures ∙ c.if-is_named.false)) in
      on_ok c.put_bracketed.result c.put_bracketed.ensures.ok (λ h. h ∙ ap (λ z. string_bytes c.args.out.now ++ z) e));
}
