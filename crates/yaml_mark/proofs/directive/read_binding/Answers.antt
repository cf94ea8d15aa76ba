use Rattle.std.proofs.Common.{sym, ◌∙◌}
use Rattle.yaml_text.specs.Source.{text_of}
use Rattle.yaml_mark.specs.HandlesModel.{bindings_of}
use Rattle.yaml_mark.proofs.AsciiLemmas.{ascii_text, low_handle, low_prefix}
use Rattle.yaml_mark.proofs.BodyLemmas.{any_err}
use Rattle.yaml_mark.proofs.DirectiveLemmas.{no_binding_gap, no_binding_bang, bound_repeats, no_handle_gap, no_prefix_start, binding_settles, settles_texts, prefix_inside}
use Rattle.yaml_mark.proofs.directive.read_binding.Goals as goal

pub returns-in_err-start-clause-none : goal.returns-in_err-start-clause-none
returns-in_err-start-clause-none c = any_err _ (no_binding_gap (text_of c.args.source.now) _ c.in_err-start.ensures.none (bindings_of c.args.handles.now))

pub returns-in-None-clause-none : goal.returns-in-None-clause-none
returns-in-None-clause-none c =
    let g = c.in_ok-start.ensures in
    no_binding_bang (text_of c.args.source.now) _ _ g.spaces g.furthest c.in-None.ensures.none (bindings_of c.args.handles.now)

pub returns-then-binds-clause-none : goal.returns-then-binds-clause-none
returns-then-binds-clause-none c =
    let cs = text_of c.args.source.now in
    let g = c.in_ok-start.ensures in
    let b = c.in-Some.ensures.some in
    let r = c.skip_handle-after.ensures.rest in
    let t = ascii_text cs c.text_between-handle.result.now _ _ c.text_between-handle.utf8 c.text_between-handle.ensures (low_handle cs _ _ _ b.is b.next r) in
    bound_repeats cs _ _ _ _ _ g.spaces g.furthest b.next r t (bindings_of c.args.handles.now) (sym c.binds.ensures ∙ c.if-binds.true)

pub returns-in-Some-skip_prefix-clause-fresh : goal.returns-in-Some-skip_prefix-clause-fresh
returns-in-Some-skip_prefix-clause-fresh c = λ v. sym c.binds.ensures ∙ c.if-binds.false

pub returns-in_err-prefix-clause-none : goal.returns-in_err-prefix-clause-none
returns-in_err-prefix-clause-none c =
    let g = c.in_ok-start.ensures in
    any_err _
    (no_handle_gap (text_of c.args.source.now) _ _ _ _ g.spaces g.furthest c.in-Some.ensures.some.next c.skip_handle-after.ensures.rest c.in_err-prefix.ensures.none (bindings_of c.args.handles.now))

pub returns-in-None-skip_prefix-clause-none : goal.returns-in-None-skip_prefix-clause-none
returns-in-None-skip_prefix-clause-none c =
    let g = c.in_ok-start.ensures in
    let h = c.in_ok-prefix.ensures in
    no_prefix_start (text_of c.args.source.now) _ _ _ _ _ g.spaces g.furthest c.in-Some.ensures.some.next c.skip_handle-after.ensures.rest h.spaces h.furthest c.in-None-skip_prefix.ensures.none (bindings_of c.args.handles.now)

pub returns-in-Some-skip_prefix-clause-settles : goal.returns-in-Some-skip_prefix-clause-settles
returns-in-Some-skip_prefix-clause-settles c =
    let cs = text_of c.args.source.now in
    let g = c.in_ok-start.ensures in
    let h = c.in_ok-prefix.ensures in
    let b = c.in-Some.ensures.some in
    let p = c.in-Some-skip_prefix.ensures in
    let t = ascii_text cs c.text_between-handle.result.now _ _ c.text_between-handle.utf8 c.text_between-handle.ensures (low_handle cs _ _ _ b.is b.next c.skip_handle-after.ensures.rest) in
    let u = ascii_text cs c.text_between.result.now _ _ c.text_between.utf8 c.text_between.ensures (low_prefix cs _ _ p.some) in
    settles_texts cs _ _ _ _ _ _ t u (binding_settles cs _ _ _ _ _ _ g.spaces g.furthest b.is b.next c.skip_handle-after.ensures.rest h.spaces h.furthest p.some p.furthest (λ k r. prefix_inside cs _ k r))
