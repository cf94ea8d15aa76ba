use Rattle.std.proofs.Common.{arith, refl}
use Rattle.yaml_text.specs.Source.{text_of}
use Rattle.yaml_definitions.specs.grammar.Characters.{is_white}
use Rattle.yaml_text.proofs.Runs.{run_more}
use Rattle.yaml_text.proofs.LineRuns.{no_code_white}
use Rattle.yaml_text.proofs.lines.skip_whites.Goals as goal

pub whites-preserved-in-Some : goal.whites-preserved-in-Some
unfolding is_white
whites-preserved-in-Some c =
    let s = c.in-Some.ensures.some in
    record {
      border = s.border;
      onward = omega (arith, s.forward, c.whites.invariant.onward);
      whites = run_more _ _ _ _ _ _ c.whites.invariant.whites s.is refl s.next;
    }

pub whites-preserved : goal.whites-preserved
unfolding is_white
whites-preserved c =
    let s = c.in-Some-accept.ensures.some in
    record {
      border = s.border;
      onward = omega (arith, s.forward, c.whites.invariant.onward);
      whites = run_more _ _ _ _ _ _ c.whites.invariant.whites s.is refl s.next;
    }

pub returns-in-None-accept-clause-furthest : goal.returns-in-None-accept-clause-furthest
returns-in-None-accept-clause-furthest c = no_code_white (text_of c.args.source.now) _ c.in-None.ensures.none c.in-None-accept.ensures.none
