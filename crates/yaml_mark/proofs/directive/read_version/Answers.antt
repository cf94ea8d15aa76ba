use Rattle.yaml_text.specs.Source.{text_of}
use Rattle.yaml_mark.proofs.BodyLemmas.{any_err}
use Rattle.yaml_mark.proofs.DirectiveLemmas.{version_is, no_version_gap, no_one, no_dot, no_two}
use Rattle.yaml_mark.proofs.directive.read_version.Goals as goal

pub returns-in_err-digit-clause-none : goal.returns-in_err-digit-clause-none
returns-in_err-digit-clause-none c = any_err _ (no_version_gap (text_of c.args.source.now) _ c.in_err-digit.ensures.none)

pub returns-in-None-clause-none : goal.returns-in-None-clause-none
returns-in-None-clause-none c =
    let g = c.in_ok-digit.ensures in no_one (text_of c.args.source.now) _ _ g.spaces g.furthest c.in-None.ensures.none

pub returns-in-None-accept-clause-none : goal.returns-in-None-accept-clause-none
returns-in-None-accept-clause-none c =
    let g = c.in_ok-digit.ensures in no_dot (text_of c.args.source.now) _ _ _ g.spaces g.furthest c.in-Some.ensures.some.next c.in-None-accept.ensures.none

pub returns-in-None-accept-2-clause-none : goal.returns-in-None-accept-2-clause-none
returns-in-None-accept-2-clause-none c =
    let g = c.in_ok-digit.ensures in
    no_two (text_of c.args.source.now) _ _ _ _ g.spaces g.furthest c.in-Some.ensures.some.next c.in-Some-accept.ensures.some.next c.in-None-accept-2.ensures.none

pub returns-in-Some-accept-2-clause-is : goal.returns-in-Some-accept-2-clause-is
returns-in-Some-accept-2-clause-is c =
    let a = c.in-Some.ensures.some in
    let b = c.in-Some-accept.ensures.some in
    let d = c.in-Some-accept-2.ensures.some in
    version_is (text_of c.args.source.now) _ _ _ _ _ c.in_ok-digit.ensures.spaces a.is a.next b.is b.next d.is d.next
