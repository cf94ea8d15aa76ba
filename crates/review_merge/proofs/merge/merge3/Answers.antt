use Rattle.std.proofs.Common.{inl, inr, refl, sym, subst}
use Rattle.std.proofs.lemmas.Result.{err_from_is_err_and}
use Rattle.std.specs.Option.{is_some}
use Rattle.std.specs.Prelude.{Some}
use Rattle.std.specs.String.{string_bytes}
use Rattle.review_merge.specs.Merges.{TellsMerge, IsMergeText}
use Rattle.review_merge.proofs.RefusalLaws.{cut_short}
use Rattle.review_merge.proofs.merge.merge3.Goals as goal

pub returns-in-Ok-write_out-clause-tells : goal.returns-in-Ok-write_out-clause-tells
returns-in-Ok-write_out-clause-tells g c =
    let v = c.in_ok-bytes.bytes in
    let t = subst (λ z. TellsMerge z v.base.items v.ours.items v.theirs.items v.result.items c.in-Ok.told.answer) c.is_some-given.ensures c.in-Ok.ensures.tells in
    let s = subst (λ z. IsMergeText z c.args.print v.base.items v.ours.items v.theirs.items v.result.items c.in-Ok.told.answer (string_bytes c.in-Ok.told.text)) c.is_some-given.ensures c.in-Ok.ensures.shows in
    record {
      bytes = v;
      read = c.in_ok-bytes.ensures.ok;
      answer = c.in-Some.answer;
      tells = subst (TellsMerge (is_some c.args.names.now.result) v.base.items v.ours.items v.theirs.items v.result.items) c.in-Some.is t;
      told = c.status_of.ensures;
      text = c.as_bytes.result.now;
      shows = subst (λ z. IsMergeText (is_some c.args.names.now.result) c.args.print v.base.items v.ours.items v.theirs.items v.result.items (Some c.in-Some.answer) z) (sym c.as_bytes.ensures.value) (subst (λ z. IsMergeText (is_some c.args.names.now.result) c.args.print v.base.items v.ours.items v.theirs.items v.result.items z (string_bytes c.in-Ok.told.text)) c.in-Some.is s);
      printed = c.in-Ok-write_out.ensures.ok;
    }

pub returns-in_err-bytes-clause-refuses : goal.returns-in_err-bytes-clause-refuses
returns-in_err-bytes-clause-refuses g c =
    let p = err_from_is_err_and c.from_residual.result c.from_residual.ensures.1 in
    rw (p.1, p.2) (inl (c.in_err-bytes.ensures.why, refl))

pub returns-in-Err-clause-refuses : goal.returns-in-Err-clause-refuses
returns-in-Err-clause-refuses g c = inr (record { bytes = c.in_ok-bytes.bytes; read = c.in_ok-bytes.ensures.ok; why = inl (c.rejected.ensures.told, refl) })

pub returns-in_default-clause-refuses : goal.returns-in_default-clause-refuses
returns-in_default-clause-refuses g c =
    let v = c.in_ok-bytes.bytes in
    let t = subst (λ z. TellsMerge z v.base.items v.ours.items v.theirs.items v.result.items c.in-Ok.told.answer) c.is_some-given.ensures c.in-Ok.ensures.tells in
    inr (record {
      bytes = v;
      read = c.in_ok-bytes.ensures.ok;
      why = inr (inl (subst (TellsMerge (is_some c.args.names.now.result) v.base.items v.ours.items v.theirs.items v.result.items) c.in_default.is t, c.too_many.ensures.told, refl));
    })

pub returns-clause-refuses : goal.returns-clause-refuses
returns-clause-refuses g c = inr (record {
  bytes = c.in_ok-bytes.bytes;
  read = c.in_ok-bytes.ensures.ok;
  why = inr (inr (cut_short g.W.Write.contents c.args.out.now c.write_out.new.out c.as_bytes.result.now c.in-Err-write_out.fault c.in-Err-write_out.ensures.err));
})
