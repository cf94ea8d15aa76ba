use Rattle.std.proofs.Common.{ℕ, List, ◌++◌, refl, sym, subst, ap, ◌∙◌, arith}
use Rattle.std.specs.List.{slice_split}
use Rattle.std.specs.Prelude.{Some, None}
use Rattle.std.specs.Str.{IsUtf8, IsCharBoundary}
use Rattle.std.proofs.lemmas.Result.{on_ok_weaker, err_from_is_err_and}
use Rattle.std.proofs.lemmas.Str.{IsUtf8-drop}
use Rattle.std.proofs.lemmas.Str.Pattern.{split_parts}
use Rattle.yaml_show_scalar.specs.Folds.{is_space, column_after, further_words}
use Rattle.yaml_show_scalar.specs.Texts.{written}
use Rattle.yaml_show_scalar.proofs.StopLaws.{stops_longer, if_same}
use Rattle.yaml_show_scalar.proofs.FoldLaws.{no_space, word_utf8, fold_next, fold_within, fold_last}
use Rattle.yaml_show_scalar.proofs.fold.put_further.Goals as goal

pub words-init : goal.words-init
words-init c =
    (refl, record { before_utf8 = c.utf8.first; utf8 = c.utf8.words; is = ap (λ z. written c.args.out.now ++ further_words c.args.level z c.args.first.now (slice_split is_space c.args.words.now)) (c.column_after-column.ensures ∙ ap (column_after 0) c.width.ensures) })

pub words-preserved : goal.words-preserved
words-preserved c =
    let rest : List ℕ = c.words.rest.now in
    let f = split_parts 32 rest (Some (c.in-Some.word, c.in-Some.after)) c.in-Some.ensures.cases (omega arith) in
    let s = c.in-Some.ensures.cases in
    let u : IsUtf8 c.in-Some.after.now = subst IsUtf8 (sym s.4) (IsUtf8-drop rest s.1 c.words.invariant.1.utf8 (subst (IsCharBoundary rest) (sym s.2.1.ends) s.2.1.after)) in
    let v = word_utf8 rest c.in-Some.word.now c.in-Some.after.now c.words.invariant.1.utf8 u f.0 in
    (c.in_ok-put_next.ensures.limit ∙ c.words.invariant.0, fold_next c.args.level c.words.column c.words.before.now rest c.in-Some.word.now c.in-Some.after.now _ _ _ _ _ c.words.invariant.1 f.0 (no_space c.in-Some.word.now f.1) v u c.ends_line-ends.ensures c.next_column-column.ensures c.in_ok-put_next.ensures.ok)

pub returns-in_default-clause-ok : goal.returns-in_default-clause-ok
returns-in_default-clause-ok c =
    let rest : List ℕ = c.words.rest.now in
    let f = split_parts 32 rest None c.in_default.ensures.cases (omega arith) in
    on_ok_weaker c.put_next.result (fold_last c.args.level c.words.column c.words.before.now rest _ _ _ _ c.words.invariant.1 (no_space rest f) c.ends_line.ensures) c.put_next.ensures.ok

pub returns-in_default-clause-limit : goal.returns-in_default-clause-limit
returns-in_default-clause-limit c = c.put_next.ensures.limit ∙ c.words.invariant.0

pub returns-in_default-clause-err : goal.returns-in_default-clause-err
returns-in_default-clause-err c =
    let rest : List ℕ = c.words.rest.now in
    let f = split_parts 32 rest None c.in_default.ensures.cases (omega arith) in
    if_same c.put_next.result _ _ _ _ c.words.invariant.0 (sym (fold_last c.args.level c.words.column c.words.before.now rest _ _ _ _ c.words.invariant.1 (no_space rest f) c.ends_line.ensures refl)) c.put_next.ensures.err

pub returns-in_err-put_next-clause-limit : goal.returns-in_err-put_next-clause-limit
returns-in_err-put_next-clause-limit c = c.in_err-put_next.ensures.limit ∙ c.words.invariant.0

pub returns-in_err-put_next-clause-err : goal.returns-in_err-put_next-clause-err
returns-in_err-put_next-clause-err c =
    let p = err_from_is_err_and c.from_residual.result c.from_residual.ensures.1 in
    let rest : List ℕ = c.words.rest.now in
    let f = split_parts 32 rest (Some (c.in-Some.word, c.in-Some.after)) c.in-Some.ensures.cases (omega arith) in
    rw (p.1, p.2) (stops_longer _ _ _ _ _ _ c.words.invariant.0 (fold_within c.args.level c.words.column c.words.before.now rest c.in-Some.word.now c.in-Some.after.now _ _ _ c.words.invariant.1 f.0 (no_space c.in-Some.word.now f.1) c.ends_line-ends.ensures) c.in_err-put_next.ensures.err)
