use Rattle.std.proofs.lemmas.Result.{err_from_is_err_and}
use Rattle.review_paths.proofs.UnsaidLaws.{unsays_stop}
use Rattle.review_paths.proofs.value.put_scalar.Goals as goal

pub returns-in_err-put_written-clause-err : goal.returns-in_err-put_written-clause-err
returns-in_err-put_written-clause-err c =
    let p = err_from_is_err_and c.from_residual.result c.from_residual.ensures.1 in
    rw p.1 (unsays_stop _ _ _ _ _ _ _ p.2 c.in_err-put_written.ensures.err)
