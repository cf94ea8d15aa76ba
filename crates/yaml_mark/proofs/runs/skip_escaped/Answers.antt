use Rattle.std.proofs.Common.{arith}
use Rattle.yaml_text.specs.Source.{text_of}
use Rattle.yaml_text.proofs.Repeats.{spans_push}
use Rattle.yaml_mark.specs.Classes.{class_of}
use Rattle.yaml_mark.proofs.RunSpans.{run_spans}
use Rattle.yaml_mark.proofs.UriLemmas.{none_behind}
use Rattle.yaml_mark.proofs.runs.skip_escaped.Goals as goal

pub run-init : goal.run-init
run-init c =
    let s = c.skip_ascii-here.ensures in
    record { border = s.border; onward = s.onward; spans = run_spans _ _ _ _ s.run }

pub run-preserved : goal.run-preserved
run-preserved c =
    let s = c.in-Some-next_escaped.ensures in
    let v = c.run.invariant in
    record { border = s.border; onward = omega (arith, s.onward, v.onward); spans = spans_push v.spans s.some }

pub returns-then-byte-ne37-clause-spans : goal.returns-then-byte-ne37-clause-spans
returns-then-byte-ne37-clause-spans c = run_spans _ _ _ _ c.skip_ascii-here.ensures.run

pub returns-then-byte-ne37-clause-furthest : goal.returns-then-byte-ne37-clause-furthest
returns-then-byte-ne37-clause-furthest c =
    let s = c.skip_ascii-here.ensures in none_behind (text_of c.args.source.now) (class_of c.args.class) _ _ c.in-Some.is s.behind s.other c.if-byte-ne37.true
