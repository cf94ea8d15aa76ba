use Rattle.std.proofs.Common.{◌∙◌, arith}
use Rattle.std.proofs.lemmas.Result.{err_from_is_err_and}
use Rattle.yaml_show_scalar.proofs.StopLaws.{stops_longer}
use Rattle.yaml_show_scalar.proofs.TextLaws.{times_next, times_within}
use Rattle.yaml_show_scalar.proofs.output.Out.put_times.Goals as goal

pub loop-preserved : goal.loop-preserved
loop-preserved c = (c.in_ok-put.ensures.limit ∙ c.loop.invariant.0, times_next c.loop.counter _ _ _ _ c.loop.invariant.1 c.in_ok-put.ensures.ok)

pub returns-in_err-put-clause-limit : goal.returns-in_err-put-clause-limit
returns-in_err-put-clause-limit c = c.in_err-put.ensures.limit ∙ c.loop.invariant.0

pub returns-in_err-put-clause-err : goal.returns-in_err-put-clause-err
returns-in_err-put-clause-err c =
    let p = err_from_is_err_and c.from_residual.result c.from_residual.ensures.1 in rw (p.1, p.2) (stops_longer _ _ _ _ _ _ c.loop.invariant.0 (times_within c.loop.counter c.args.count _ _ _ (omega arith) c.loop.invariant.1) c.in_err-put.ensures.err)

pub returns-clause-limit : goal.returns-clause-limit
returns-clause-limit c = c.loop.invariant.0
