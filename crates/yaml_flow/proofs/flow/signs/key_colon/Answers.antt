use Rattle.std.proofs.Common.{subst, arith}
use Rattle.yaml_text.specs.Source.{text_of}
use Rattle.yaml_text.specs.EventModel.{context_of}
use Rattle.yaml_text.proofs.LineRuns.{indent_run}
use Rattle.yaml_flow.specs.FlowRules.{MayFollowColon}
use Rattle.yaml_flow.proofs.flow.signs.key_colon.Goals as goal

pub returns-in-None-clause-none : goal.returns-in-None-clause-none
returns-in-None-clause-none c =
    let s = c.skip_spaces-colon.ensures in
    (_, (indent_run (text_of c.args.source.now) _ _ _ s.spaces, s.furthest), λ sign fits. c.in-None.ensures.none sign)

pub returns-in-Broken-clause-none : goal.returns-in-Broken-clause-none
returns-in-Broken-clause-none c =
    let s = c.skip_spaces-colon.ensures in
    (_, (indent_run (text_of c.args.source.now) _ _ _ s.spaces, s.furthest), λ sign fits. c.in-Broken.ensures fits.0)

pub returns-in-Long-clause-long : goal.returns-in-Long-clause-long
returns-in-Long-clause-long c =
    let s = c.skip_spaces-colon.ensures in
    let sign = c.in-Some.ensures in (
      _,
      (indent_run (text_of c.args.source.now) _ _ _ s.spaces, s.furthest),
      (sign.colon.is, subst (MayFollowColon c.args.kind (context_of c.args.context) (text_of c.args.source.now)) sign.colon.next sign.sign),
      λ fits. omega (arith, c.in-Long.ensures.1, fits.1),
    )

pub returns-in-Fits-clause-found : goal.returns-in-Fits-clause-found
returns-in-Fits-clause-found c =
    let s = c.skip_spaces-colon.ensures in
    let sign = c.in-Some.ensures in
    record {
      onward = s.onward;
      spaced = (indent_run (text_of c.args.source.now) _ _ _ s.spaces, s.furthest);
      colon = sign.colon;
      sign = sign.sign;
      fits = c.in-Fits.ensures;
    }
