use Rattle.std.proofs.Common.{◌-◌, ◌≤◌}
use Rattle.yaml_text.specs.Source.{text_of, place_of, IsBorder}
use Rattle.yaml_definitions.specs.grammar.Separation.{s-indent as indent}
use Rattle.yaml_scalar.proofs.line.read_spaces.Given as goal

abbrev pub invariant-spaces : goal.invariant-spaces
invariant-spaces l = record {
  border : IsBorder l.source l.here;
  onward : l.at ≤ l.here;
  within : l.count ≤ l.most;
  spaces : indent (text_of l.source) l.count (place_of l.source l.at) (place_of l.source l.here);
}

abbrev pub decreases-spaces : goal.decreases-spaces
decreases-spaces l = l.most - l.count
