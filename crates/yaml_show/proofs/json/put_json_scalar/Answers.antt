use Rattle.std.proofs.lemmas.Result.{err_from_is_err_and}
use Rattle.yaml_show.proofs.JsonLaws.{stop_overruns}
use Rattle.yaml_show.proofs.json.put_json_scalar.Goals as goal

pub returns-in_err-put_text-clause-stops : goal.returns-in_err-put_text-clause-stops
returns-in_err-put_text-clause-stops c =
    let p = err_from_is_err_and c.from_residual.result c.from_residual.ensures.1 in
    rw p.1 (stop_overruns _ _ _ _ p.2 c.in_err-put_text.ensures.err)
