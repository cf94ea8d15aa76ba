use Rattle.std.proofs.Common.{inr, arith}
use Rattle.yaml_text.specs.Source.{text_of}
use Rattle.yaml_text.proofs.LineRuns.{indent_run}
use Rattle.yaml_block.proofs.LineDecisions.{no_colon_key, no_sized_key}
use Rattle.yaml_block.proofs.block.signs.first_colon.Goals as goal

pub returns-in-Fits-clause-found : goal.returns-in-Fits-clause-found
returns-in-Fits-clause-found c =
    let s = c.in-Some-accept.ensures.some in record {
      some = c.in-Some.is;
      border = s.border;
      further = omega (arith, c.skip_spaces-colon.ensures.onward, s.forward);
      colon = (_, indent_run (text_of c.args.source.now) _ _ _ c.skip_spaces-colon.ensures.spaces, (s.is, s.next), c.in-Fits.ensures);
    }

pub returns-in-None-accept-clause-none : goal.returns-in-None-accept-clause-none
returns-in-None-accept-clause-none c =
    let cs = text_of c.args.source.now in
    inr (no_colon_key cs _ _ _ (indent_run cs _ _ _ c.skip_spaces-colon.ensures.spaces) c.skip_spaces-colon.ensures.furthest c.in-None-accept.ensures.none)

pub returns-in-Broken-clause-none : goal.returns-in-Broken-clause-none
returns-in-Broken-clause-none c =
    let cs = text_of c.args.source.now in
    inr (no_sized_key cs _ _ _ (indent_run cs _ _ _ c.skip_spaces-colon.ensures.spaces) c.in-Some-accept.ensures.some.is (λ z. c.in-Broken.ensures z.0))

pub returns-in-Long-clause-long : goal.returns-in-Long-clause-long
returns-in-Long-clause-long c =
    let cs = text_of c.args.source.now in
    let r = indent_run cs _ _ _ c.skip_spaces-colon.ensures.spaces in
    let h = c.in-Some-accept.ensures.some.is in
    ((_, r, h), no_sized_key cs _ _ _ r h (λ z. omega (arith, z.1, c.in-Long.ensures.1)))
