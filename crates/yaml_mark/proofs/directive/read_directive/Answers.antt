use Rattle.yaml_text.specs.Source.{text_of}
use Rattle.yaml_text.specs.Calls as calls
use Rattle.yaml_mark.specs.HandlesModel.{bindings_of}
use Rattle.yaml_mark.proofs.BodyLemmas.{any_err, directive_repeats, no_comments_after, directive_only}
use Rattle.yaml_mark.proofs.directive.read_directive.Goals as goal

pub returns-in_err-directive-clause-none : goal.returns-in_err-directive-clause-none
returns-in_err-directive-clause-none c = any_err _ (directive_repeats (text_of c.args.source.now) _ c.args.has_version (bindings_of c.args.handles.now) c.in_err-directive.ensures.none)

pub returns-in-Some-clause-only : goal.returns-in-Some-clause-only
unfolding calls.skip_comments
returns-in-Some-clause-only c =
    let e = c.in-Some.ensures in
    directive_only (text_of c.args.source.now) _ _ _ _ _ c.requires.percent c.requires.line c.in_ok-directive.ensures.settles e.some.0 e.stuck

pub returns-in-None-clause-none : goal.returns-in-None-clause-none
returns-in-None-clause-none c = no_comments_after (text_of c.args.source.now) _ _ _ c.args.has_version (bindings_of c.args.handles.now) c.in_ok-directive.ensures.settles c.in-None.ensures.none
