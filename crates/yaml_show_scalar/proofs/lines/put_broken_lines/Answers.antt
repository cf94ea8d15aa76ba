use Rattle.std.proofs.Common.{ℕ, List, refl, sym, subst, ◌∙◌, arith}
use Rattle.std.specs.Prelude.{Some, None}
use Rattle.std.specs.Str.{IsUtf8, IsCharBoundary}
use Rattle.std.proofs.lemmas.Result.{on_ok_weaker}
use Rattle.std.proofs.lemmas.Str.{IsUtf8-drop}
use Rattle.std.proofs.lemmas.Str.Pattern.{split_parts}
use Rattle.std.proofs.lemmas.Result.{err_from_is_err_and}
use Rattle.yaml_show_scalar.specs.Scalars.{broken_line, broken_feed}
use Rattle.yaml_show_scalar.proofs.StopLaws.{stops_longer, if_same}
use Rattle.yaml_show_scalar.proofs.TextLaws.{no_feed, joined_next, joined_within, between_within, joined_last}
use Rattle.yaml_show_scalar.proofs.lines.put_broken_lines.Goals as goal

pub lines-init : goal.lines-init
lines-init c = (refl, record { utf8 = c.utf8.body; is = refl })

pub lines-preserved : goal.lines-preserved
lines-preserved c =
    let rest : List ℕ = c.lines.rest.now in
    let f = split_parts 10 rest (Some (c.in-Some.line, c.in-Some.after)) c.in-Some.ensures.cases (omega arith) in
    let s = c.in-Some.ensures.cases in
    let u : IsUtf8 c.in-Some.after.now = subst IsUtf8 (sym s.4) (IsUtf8-drop rest s.1 c.lines.invariant.1.utf8 (subst (IsCharBoundary rest) (sym s.2.1.ends) s.2.1.after)) in
    (c.in_ok-put.ensures.limit ∙ c.in_ok-put_broken_line.ensures.limit ∙ c.lines.invariant.0, joined_next (broken_line c.args.level) broken_feed c.args.body.now rest c.in-Some.line.now c.in-Some.after.now _ _ _ _ c.lines.invariant.1 f.0 (no_feed c.in-Some.line.now f.1) u c.in_ok-put_broken_line.ensures.ok c.in_ok-put.ensures.ok)

pub returns-in_default-clause-ok : goal.returns-in_default-clause-ok
returns-in_default-clause-ok c =
    let rest : List ℕ = c.lines.rest.now in
    let f = split_parts 10 rest None c.in_default.ensures.cases (omega arith) in
    on_ok_weaker c.put_broken_line.result (joined_last (broken_line c.args.level) broken_feed c.args.body.now rest _ _ _ c.lines.invariant.1 (no_feed rest f)) c.put_broken_line.ensures.ok

pub returns-in_default-clause-limit : goal.returns-in_default-clause-limit
returns-in_default-clause-limit c = c.put_broken_line.ensures.limit ∙ c.lines.invariant.0

pub returns-in_default-clause-err : goal.returns-in_default-clause-err
returns-in_default-clause-err c =
    let rest : List ℕ = c.lines.rest.now in
    let f = split_parts 10 rest None c.in_default.ensures.cases (omega arith) in
    if_same c.put_broken_line.result _ _ _ _ c.lines.invariant.0 (sym (joined_last (broken_line c.args.level) broken_feed c.args.body.now rest _ _ _ c.lines.invariant.1 (no_feed rest f) refl)) c.put_broken_line.ensures.err

pub returns-in_err-put_broken_line-clause-limit : goal.returns-in_err-put_broken_line-clause-limit
returns-in_err-put_broken_line-clause-limit c = c.in_err-put_broken_line.ensures.limit ∙ c.lines.invariant.0

pub returns-in_err-put_broken_line-clause-err : goal.returns-in_err-put_broken_line-clause-err
returns-in_err-put_broken_line-clause-err c =
    let p = err_from_is_err_and c.from_residual.result c.from_residual.ensures.1 in
    let rest : List ℕ = c.lines.rest.now in
    let f = split_parts 10 rest (Some (c.in-Some.line, c.in-Some.after)) c.in-Some.ensures.cases (omega arith) in
    rw (p.1, p.2) (stops_longer _ _ _ _ _ _ c.lines.invariant.0 (joined_within (broken_line c.args.level) broken_feed c.args.body.now rest c.in-Some.line.now c.in-Some.after.now _ _ c.lines.invariant.1 f.0 (no_feed c.in-Some.line.now f.1)) c.in_err-put_broken_line.ensures.err)

pub returns-in_err-put-clause-limit : goal.returns-in_err-put-clause-limit
returns-in_err-put-clause-limit c = c.in_err-put.ensures.limit ∙ c.in_ok-put_broken_line.ensures.limit ∙ c.lines.invariant.0

pub returns-in_err-put-clause-err : goal.returns-in_err-put-clause-err
returns-in_err-put-clause-err c =
    let p = err_from_is_err_and c.from_residual-in_err-put.result c.from_residual-in_err-put.ensures.1 in
    let rest : List ℕ = c.lines.rest.now in
    let f = split_parts 10 rest (Some (c.in-Some.line, c.in-Some.after)) c.in-Some.ensures.cases (omega arith) in
    rw (p.1, p.2) (stops_longer _ _ _ _ _ _ (c.in_ok-put_broken_line.ensures.limit ∙ c.lines.invariant.0) (between_within (broken_line c.args.level) broken_feed c.args.body.now rest c.in-Some.line.now c.in-Some.after.now _ _ _ c.lines.invariant.1 f.0 (no_feed c.in-Some.line.now f.1) c.in_ok-put_broken_line.ensures.ok) c.in_err-put.ensures.err)
