use Rattle.std.proofs.Common.{◌≡◌, ◌+◌, ◌-◌, ◌≤◌, length}
use Rattle.yaml_text.specs.Source.{bytes_of, text_of, place_of, IsBorder}
use Rattle.yaml_definitions.specs.grammar.Separation.{OneLine}
use Rattle.yaml_layout.proofs.key.key_fit.Given as goal

abbrev pub invariant-chars : goal.invariant-chars
invariant-chars l = record {
  border : IsBorder l.source l.here;
  within : l.here ≤ l.to;
  few : l.from + l.count ≤ l.here;
  counted : place_of l.source l.here ≡ place_of l.source l.from + l.count;
  line : OneLine (text_of l.source) (place_of l.source l.from) (place_of l.source l.here);
}

abbrev pub decreases-chars : goal.decreases-chars
decreases-chars l = length (bytes_of l.source) - l.here
