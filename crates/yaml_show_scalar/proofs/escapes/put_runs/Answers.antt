use Rattle.std.proofs.Common.{◌≡◌, ℕ, List, ◌++◌, sym, ap, ◌∙◌, refl}
use Rattle.std.proofs.lemmas.List.{nil_from_length}
use Rattle.std.proofs.lemmas.Result.{on_ok_weaker}
use Rattle.std.specs.Str.Iter.{char_indices_rest, char_indices_offset}
use Rattle.std.proofs.lemmas.Result.{err_from_is_err_and}
use Rattle.yaml_show_scalar.specs.Texts.{written}
use Rattle.yaml_show_scalar.proofs.StopLaws.{stops_longer, if_same}
use Rattle.yaml_show_scalar.proofs.EscapeLaws.{first, further, border, after_escape, run_within, escape_within, all_shown}
use Rattle.yaml_show_scalar.proofs.escapes.put_runs.Goals as goal

pub spell-init : goal.spell-init
spell-init c =
    let text : List ℕ = c.args.text.now in
    let rest : char_indices_rest c.into_iter-at-iterator.result ≡ text = ap char_indices_rest c.into_iter-at-iterator.ensures.into_iter_gives ∙ c.char_indices-at-items.ensures.rest in
    let at : char_indices_offset c.into_iter-at-iterator.result ≡ 0 = ap char_indices_offset c.into_iter-at-iterator.ensures.into_iter_gives ∙ c.char_indices-at-items.ensures.offset in
    (refl, first c.args.language text _ (written c.args.out.now) _ c.utf8.text rest at)

pub range-requires-clause-start_boundary : goal.range-requires-clause-start_boundary
range-requires-clause-start_boundary c = λ _. border c.args.language _ _ _ _ _ _ c.spell.invariant.1

pub spell-preserved : goal.spell-preserved
spell-preserved c = (c.spell.invariant.0, further c.args.language _ _ _ _ _ _ _ _ _ _ c.spell.invariant.1 c.in-Some.ensures.steps (sym c.is_escaped.ensures ∙ c.if-is_escaped.false))

pub spell-preserved-then-is_escaped : goal.spell-preserved-then-is_escaped
spell-preserved-then-is_escaped c =
    (c.in_ok-put_escape.ensures.limit ∙ c.in_ok-put.ensures.limit ∙ c.spell.invariant.0, after_escape c.args.language _ _ _ _ _ _ _ _ _ _ _ _ _ _ c.spell.invariant.1 c.in-Some.ensures.steps (sym c.is_escaped.ensures ∙ c.if-is_escaped.true) (rw c.len_utf8.ensures.len refl) c.range.ensures.value c.in_ok-put.ensures.ok c.in_ok-put_escape.ensures.ok)

pub range_from-requires : goal.range_from-requires
range_from-requires c = λ _. border c.args.language _ _ _ _ _ _ c.spell.invariant.1

pub returns-clause-ok : goal.returns-clause-ok
returns-clause-ok c =
    on_ok_weaker c.put-2.result (λ e. all_shown c.args.language _ _ _ _ _ _ _ c.spell.invariant.1 (nil_from_length _ c.in-None.ensures.steps.0) (e ∙ ap (λ x. written c.spell.out ++ x) c.range_from.ensures.value)) c.put-2.ensures.ok

pub returns-in_err-put-clause-limit : goal.returns-in_err-put-clause-limit
returns-in_err-put-clause-limit c = c.in_err-put.ensures.limit ∙ c.spell.invariant.0

pub returns-in_err-put-clause-err : goal.returns-in_err-put-clause-err
returns-in_err-put-clause-err c =
    let p = err_from_is_err_and c.from_residual.result c.from_residual.ensures.1 in
    rw (p.1, p.2) (stops_longer _ _ _ _ _ _ c.spell.invariant.0 (run_within c.args.language _ _ _ _ _ _ _ _ c.spell.invariant.1 c.in-Some.ensures.steps.0 c.range.ensures.value) c.in_err-put.ensures.err)

pub returns-in_err-put_escape-clause-limit : goal.returns-in_err-put_escape-clause-limit
returns-in_err-put_escape-clause-limit c = c.in_err-put_escape.ensures.limit ∙ c.in_ok-put.ensures.limit ∙ c.spell.invariant.0

pub returns-in_err-put_escape-clause-err : goal.returns-in_err-put_escape-clause-err
returns-in_err-put_escape-clause-err c =
    let p = err_from_is_err_and c.from_residual-in_err-put_escape.result c.from_residual-in_err-put_escape.ensures.1 in
    rw (p.1, p.2) (stops_longer _ _ _ _ _ _ (c.in_ok-put.ensures.limit ∙ c.spell.invariant.0)
    (escape_within c.args.language _ _ _ _ _ _ _ _ _ _ _ _ c.spell.invariant.1 c.in-Some.ensures.steps (sym c.is_escaped.ensures ∙ c.if-is_escaped.true) c.range.ensures.value c.in_ok-put.ensures.ok) c.in_err-put_escape.ensures.err)

pub returns-clause-limit : goal.returns-clause-limit
returns-clause-limit c = c.put-2.ensures.limit ∙ c.spell.invariant.0

pub returns-clause-err : goal.returns-clause-err
returns-clause-err c =
    if_same c.put-2.result _ _ _ _ c.spell.invariant.0
    (sym (all_shown c.args.language _ _ _ _ _ _ _ c.spell.invariant.1 (nil_from_length _ c.in-None.ensures.steps.0) (ap (λ x. written c.spell.out ++ x) c.range_from.ensures.value))) c.put-2.ensures.err
