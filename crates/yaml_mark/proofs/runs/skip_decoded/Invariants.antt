use Rattle.std.proofs.Common.{◌-◌, ◌≤◌, length}
use Rattle.yaml_text.specs.Source.{text_of, place_of, IsBorder}
use Rattle.yaml_definitions.specs.grammar.Rules.{run}
use Rattle.yaml_mark.specs.Classes.{class_of}
use Rattle.yaml_mark.proofs.runs.skip_decoded.Given as goal

abbrev pub invariant-run : goal.invariant-run
invariant-run l = record {
  border : IsBorder l.source l.here;
  onward : l.at ≤ l.here;
  run : run (text_of l.source) (class_of l.class) (place_of l.source l.at) (place_of l.source l.here);
}

abbrev pub decreases-run : goal.decreases-run
decreases-run l = length l.source.text.now - l.here
