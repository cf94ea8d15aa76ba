use Rattle.std.proofs.Common.{◌-◌, ◌≤◌, length}
use Rattle.yaml_text.specs.Source.{text_of, place_of, IsBorder}
use Rattle.yaml_definitions.specs.grammar.Rules.{run}
use Rattle.yaml_definitions.specs.grammar.Characters.{is_white}
use Rattle.yaml_text.proofs.lines.skip_whites.Given as goal

abbrev pub invariant-whites : goal.invariant-whites
invariant-whites l = record {
  border : IsBorder l.source l.here;
  onward : l.at ≤ l.here;
  whites : run (text_of l.source) is_white (place_of l.source l.at) (place_of l.source l.here);
}

abbrev pub decreases-whites : goal.decreases-whites
decreases-whites l = length l.source.text.now - l.here
