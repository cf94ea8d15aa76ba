use Rattle.std.proofs.Common.{refl, sym, ◌∙◌, ap, ◌++◌, List, ℕ}
use Rattle.std.specs.Prelude.{codes}
use Rattle.std.proofs.lemmas.List.{append_assoc}
use Rattle.std.proofs.lemmas.Result.{err_from_is_err_and}
use Rattle.yaml_show_scalar.proofs.StopLaws.{stops_longer, stops_same}
use Rattle.yaml_show.proofs.JsonLaws.{stop_overruns}
use Rattle.yaml_show.proofs.json.put_string_key.Goals as goal

pub returns-in_err-put_json_string-clause-stops : goal.returns-in_err-put_json_string-clause-stops
returns-in_err-put_json_string-clause-stops c =
    let p = err_from_is_err_and c.from_residual.result c.from_residual.ensures.1 in
    rw p.1 (stop_overruns _ _ _ _ p.2 (stops_longer _ _ _ _ _ _ refl (sym (append_assoc _ _ (codes ": "))) c.in_err-put_json_string.ensures.err))

pub returns-in_err-put-clause-stops : goal.returns-in_err-put-clause-stops
returns-in_err-put-clause-stops c =
    let p = err_from_is_err_and c.from_residual-in_err-put.result c.from_residual-in_err-put.ensures.1 in
    rw p.1 (stop_overruns _ _ _ _ p.2 (stops_same _ _ _ _ _ c.in_ok-put_json_string.ensures.limit (sym (ap (λ (z : List ℕ). z ++ codes ": ") c.in_ok-put_json_string.ensures.ok ∙ append_assoc _ _ (codes ": "))) c.in_err-put.ensures.err))
