use Rattle.std.proofs.Common.{refl, inl}
use Rattle.std.proofs.lemmas.Result.{err_from_is_err_and}
use Rattle.yaml_store_rank.specs.Forests.{tree}
use Rattle.review_paths.proofs.ValueLaws.{name_is, other_string, key_says}
use Rattle.review_paths.proofs.UnsaidLaws.{name_fails, colon_fails}
use Rattle.review_paths.proofs.value.put_key.Goals as goal

pub returns-in_err-put_json_string-clause-err : goal.returns-in_err-put_json_string-clause-err
returns-in_err-put_json_string-clause-err c =
    let n = name_is (tree c.args.forests.now c.args.key.0) c.in-Some.name.now c.in-Some.ensures in
    let p = err_from_is_err_and c.from_residual.result c.from_residual.ensures.1 in
    rw p.1 (name_fails _ _ _ _ _ _ _ n p.2 refl c.in_err-put_json_string.ensures.err)

pub returns-in_err-put-clause-err : goal.returns-in_err-put-clause-err
returns-in_err-put-clause-err c =
    let n = name_is (tree c.args.forests.now c.args.key.0) c.in-Some.name.now c.in-Some.ensures in
    let p = err_from_is_err_and c.from_residual-in_err-put.result c.from_residual-in_err-put.ensures.1 in
    rw p.1 (colon_fails _ _ _ _ _ _ _ n p.2 c.in_ok-put_json_string.ensures.limit _ c.in_ok-put_json_string.ensures.ok c.in_err-put.ensures.err)

pub returns-in_default-clause-err : goal.returns-in_default-clause-err
returns-in_default-clause-err c = inl (other_string (tree c.args.forests.now c.args.key.0) c.in_default.ensures)

pub returns-clause-ok : goal.returns-clause-ok
returns-clause-ok c =
    let n = name_is (tree c.args.forests.now c.args.key.0) c.in-Some.name.now c.in-Some.ensures in
    key_says _ _ _ _ _ n c.in_ok-put_json_string.ensures.ok c.in_ok-put.ensures.ok
