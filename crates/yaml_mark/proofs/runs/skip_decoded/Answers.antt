use Rattle.std.proofs.Common.{arith, sym, ◌∙◌}
use Rattle.yaml_text.specs.Source.{text_of}
use Rattle.yaml_text.proofs.Runs.{run_none, run_more}
use Rattle.yaml_mark.specs.Classes.{class_of}
use Rattle.yaml_mark.proofs.runs.skip_decoded.Goals as goal

pub run-init : goal.run-init
run-init c = record { border = c.requires; onward = omega arith; run = run_none (text_of c.args.source.now) (class_of c.args.class) _ }

pub run-preserved : goal.run-preserved
run-preserved c =
    let s = c.in-Some.ensures.some in
    record {
      border = s.border;
      onward = omega (arith, s.forward, c.run.invariant.onward);
      run = run_more _ _ _ _ _ _ c.run.invariant.run s.is (sym c.has.ensures ∙ c.if-not-has.false) s.next;
    }
