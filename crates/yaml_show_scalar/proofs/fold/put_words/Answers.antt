use Rattle.std.proofs.Common.{refl, sym, arith}
use Rattle.std.specs.Prelude.{Some, None}
use Rattle.std.proofs.lemmas.Result.{on_ok_weaker, err_from_is_err_and}
use Rattle.std.proofs.lemmas.Str.Pattern.{split_parts}
use Rattle.yaml_show_scalar.proofs.StopLaws.{stops_longer, if_same}
use Rattle.yaml_show_scalar.proofs.FoldLaws.{no_space, words_more, words_within, words_alone}
use Rattle.yaml_show_scalar.proofs.fold.put_words.Goals as goal

pub returns-in_default-clause-ok : goal.returns-in_default-clause-ok
returns-in_default-clause-ok c =
    let f = split_parts 32 c.args.line.now None c.in_default.ensures.cases (omega arith) in
    on_ok_weaker c.put.result (words_alone c.args.level c.args.line.now _ _ (no_space c.args.line.now f)) c.put.ensures.ok

pub returns-in_default-clause-err : goal.returns-in_default-clause-err
returns-in_default-clause-err c =
    let f = split_parts 32 c.args.line.now None c.in_default.ensures.cases (omega arith) in
    if_same c.put.result _ _ _ _ refl (sym (words_alone c.args.level c.args.line.now _ _ (no_space c.args.line.now f) refl)) c.put.ensures.err

pub returns-clause-ok : goal.returns-clause-ok
returns-clause-ok c =
    let f = split_parts 32 c.args.line.now (Some (c.in-Some.first, c.in-Some.words)) c.in-Some.ensures.cases (omega arith) in
    on_ok_weaker c.put_further.result (words_more c.args.level c.args.line.now c.in-Some.first.now c.in-Some.words.now _ _ _ f.0 (no_space c.in-Some.first.now f.1) c.in_ok-put.ensures.ok) c.put_further.ensures.ok

pub returns-clause-err : goal.returns-clause-err
returns-clause-err c =
    let f = split_parts 32 c.args.line.now (Some (c.in-Some.first, c.in-Some.words)) c.in-Some.ensures.cases (omega arith) in
    if_same c.put_further.result _ _ _ _ c.in_ok-put.ensures.limit (sym (words_more c.args.level c.args.line.now c.in-Some.first.now c.in-Some.words.now _ _ _ f.0 (no_space c.in-Some.first.now f.1) c.in_ok-put.ensures.ok refl)) c.put_further.ensures.err

pub returns-in_err-put-clause-err : goal.returns-in_err-put-clause-err
returns-in_err-put-clause-err c =
    let p = err_from_is_err_and c.from_residual.result c.from_residual.ensures.1 in
    let f = split_parts 32 c.args.line.now (Some (c.in-Some.first, c.in-Some.words)) c.in-Some.ensures.cases (omega arith) in
    rw (p.1, p.2) (stops_longer _ _ _ _ _ _ refl (words_within c.args.level c.args.line.now c.in-Some.first.now c.in-Some.words.now _ f.0 (no_space c.in-Some.first.now f.1)) c.in_err-put.ensures.err)
