use Rattle.std.proofs.Common.{sym, ◌∙◌, ap, arith}
use Rattle.std.proofs.lemmas.Str.{IsUtf8-had}
use Rattle.yaml_text.specs.Source.{text_of, place_of}
use Rattle.yaml_text.proofs.PlaceLemmas.{place_less}
use Rattle.yaml_mark.specs.HandlesModel.{bindings_of}
use Rattle.yaml_mark.proofs.BodyLemmas.{any_err, is_yaml, is_tag, no_yaml, no_tag, version_repeats, no_version, version_settles, binding_repeats, binding_body, no_body, reserved_settles}
use Rattle.yaml_mark.proofs.directive.read_body.Goals as goal

pub returns-then-has_version-clause-none : goal.returns-then-has_version-clause-none
returns-then-has_version-clause-none c =
    let s = c.skip_run-end.ensures in
    version_repeats (text_of c.args.source.now) _ _ _ c.requires.percent s.run s.furthest
    (is_yaml c.text_between-name.result.now _ c.text_between-name.ensures (sym c.eq.ensures ∙ c.if-eq.true)) c.args.has_version (bindings_of c.args.handles.now) c.if-has_version.true

pub returns-in_err-to-clause-none : goal.returns-in_err-to-clause-none
returns-in_err-to-clause-none c =
    let s = c.skip_run-end.ensures in
    any_err _ (no_version (text_of c.args.source.now) _ _ _ c.requires.percent s.run s.furthest
    (is_yaml c.text_between-name.result.now _ c.text_between-name.ensures (sym c.eq.ensures ∙ c.if-eq.true)) c.in_err-to.ensures.none c.args.has_version (bindings_of c.args.handles.now))

pub returns-then-eq-clause-settles : goal.returns-then-eq-clause-settles
returns-then-eq-clause-settles c =
    let s = c.skip_run-end.ensures in
    version_settles (text_of c.args.source.now) _ _ _ c.requires.percent s.run s.furthest _
    (is_yaml c.text_between-name.result.now _ c.text_between-name.ensures (sym c.eq.ensures ∙ c.if-eq.true)) c.in_ok-to.ensures.is

pub returns-in_err-handle-clause-none : goal.returns-in_err-handle-clause-none
returns-in_err-handle-clause-none c =
    let s = c.skip_run-end.ensures in
    any_err _ (binding_repeats (text_of c.args.source.now) _ _ _ c.requires.percent s.run s.furthest
    (is_tag c.text_between-name.result.now _ c.text_between-name.ensures (sym c.eq-2.ensures ∙ c.if-eq-2.true)) c.args.has_version (bindings_of c.args.handles.now) (c.in_err-handle.ensures.none _))

pub returns-then-eq-2-clause-fresh : goal.returns-then-eq-2-clause-fresh
returns-then-eq-2-clause-fresh c = c.in_ok-handle.ensures.fresh c.args.has_version

pub returns-then-eq-2-clause-settles : goal.returns-then-eq-2-clause-settles
returns-then-eq-2-clause-settles c =
    let s = c.skip_run-end.ensures in
    binding_body (text_of c.args.source.now) _ _ _ c.requires.percent s.run s.furthest _ _
    (is_tag c.text_between-name.result.now _ c.text_between-name.ensures (sym c.eq-2.ensures ∙ c.if-eq-2.true)) c.in_ok-handle.ensures.settles

pub returns-then-end-start-clause-none : goal.returns-then-end-start-clause-none
returns-then-end-start-clause-none c =
    let s = c.skip_run-end.ensures in
    no_body (text_of c.args.source.now) _ _ _ c.requires.percent s.run s.furthest (ap (place_of c.args.source.now) c.if-end-start.true) c.args.has_version (bindings_of c.args.handles.now)

pub returns-clause-settles : goal.returns-clause-settles
returns-clause-settles c =
    let s = c.skip_run-end.ensures in
    let n = c.text_between-name in
    let p = c.skip_parameters.ensures in
    reserved_settles (text_of c.args.source.now) _ _ _ c.requires.percent s.run s.furthest _
    (place_less _ _ _ (IsUtf8-had c.args.source.now.text.now c.args.source.now.utf8) c.requires.start s.border (omega (arith, s.onward, c.if-end-start.false)))
    (no_yaml n.result.now _ n.utf8 n.ensures (sym c.eq.ensures ∙ c.if-eq.false)) (no_tag n.result.now _ n.utf8 n.ensures (sym c.eq-2.ensures ∙ c.if-eq-2.false)) p.spans p.furthest
