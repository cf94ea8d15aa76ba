use Rattle.std.proofs.Common.{◌∙◌, arith, ap, get_or}
use Rattle.std.proofs.lemmas.Result.{err_from_is_err_and}
use Rattle.yaml_show_scalar.proofs.StopLaws.{stops_longer}
use Rattle.yaml_show_scalar.proofs.TagLaws.{encoded_next, encoded_within}
use Rattle.yaml_show_scalar.proofs.tag.put_encoded.Goals as goal

pub loop-byte-preserved : goal.loop-byte-preserved
loop-byte-preserved c =
    (c.in_ok-put_byte.ensures.limit ∙ c.loop-byte.invariant.0, encoded_next c.args.tag.now c.loop-byte.byte-index _ _ _ _ (omega arith, ap (λ z. get_or z c.loop-byte.byte-index 0) c.as_bytes-byte-items.ensures.value) c.loop-byte.invariant.1 c.in_ok-put_byte.ensures.ok)

pub returns-in_err-put_byte-clause-limit : goal.returns-in_err-put_byte-clause-limit
returns-in_err-put_byte-clause-limit c = c.in_err-put_byte.ensures.limit ∙ c.loop-byte.invariant.0

pub returns-in_err-put_byte-clause-err : goal.returns-in_err-put_byte-clause-err
returns-in_err-put_byte-clause-err c =
    let p = err_from_is_err_and c.from_residual.result c.from_residual.ensures.1 in
    rw (p.1, p.2) (stops_longer _ _ _ _ _ _ c.loop-byte.invariant.0 (encoded_within c.args.tag.now c.loop-byte.byte-index _ _ _ (omega arith, ap (λ z. get_or z c.loop-byte.byte-index 0) c.as_bytes-byte-items.ensures.value) c.loop-byte.invariant.1) c.in_err-put_byte.ensures.err)

pub returns-clause-limit : goal.returns-clause-limit
returns-clause-limit c = c.loop-byte.invariant.0
