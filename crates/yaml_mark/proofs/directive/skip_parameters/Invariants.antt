use Rattle.std.proofs.Common.{◌-◌, ◌≤◌, length}
use Rattle.yaml_text.specs.Source.{text_of, place_of, IsBorder}
use Rattle.yaml_definitions.specs.grammar.Rules.{any_span}
use Rattle.yaml_mark.specs.DirectiveParts.{parameter}
use Rattle.yaml_mark.proofs.directive.skip_parameters.Given as goal

abbrev pub invariant-parameters : goal.invariant-parameters
invariant-parameters l = record {
  border : IsBorder l.source l.here;
  onward : l.at ≤ l.here;
  spans : any_span (parameter (text_of l.source)) (place_of l.source l.at) (place_of l.source l.here);
}

abbrev pub decreases-parameters : goal.decreases-parameters
decreases-parameters l = length l.source.text.now - l.here
