use Rattle.std.proofs.Common.{◌-◌, ◌≤◌, length, replicate}
use Rattle.yaml_text.specs.Source.{text_of, place_of, IsBorder}
use Rattle.yaml_definitions.specs.grammar.Rules.{any}
use Rattle.yaml_definitions.specs.grammar.Separation.{StartsLine}
use Rattle.yaml_scalar.proofs.GapLemmas.{empty}
use Rattle.yaml_scalar.proofs.line.read_lead.Given as goal

abbrev pub invariant-lines : goal.invariant-lines
invariant-lines l = record {
  border : IsBorder l.source l.line;
  onward : l.at ≤ l.line;
  counted : l.count ≤ l.line;
  start : StartsLine (text_of l.source) (place_of l.source l.line);
  lines : any (empty (text_of l.source) l.least) (place_of l.source l.at) (place_of l.source l.line) (replicate l.count 10);
}

abbrev pub decreases-lines : goal.decreases-lines
decreases-lines l = length l.source.text.now - l.line
