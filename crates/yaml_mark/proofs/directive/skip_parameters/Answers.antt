use Rattle.std.proofs.Common.{refl, arith}
use Rattle.yaml_definitions.specs.grammar.Rules.{Spans}
use Rattle.yaml_text.proofs.Repeats.{spans_push}
use Rattle.yaml_mark.proofs.directive.skip_parameters.Goals as goal

pub parameters-init : goal.parameters-init
parameters-init c = record { border = c.requires; onward = omega arith; spans = Spans.done refl }

pub parameters-preserved : goal.parameters-preserved
parameters-preserved c =
    let s = c.in-Some.ensures in
    let v = c.parameters.invariant in
    record { border = s.border; onward = omega (arith, s.onward, v.onward); spans = spans_push v.spans s.some }
