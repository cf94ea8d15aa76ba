use Rattle.std.proofs.Common.{◌-◌, ◌≤◌, length}
use Rattle.yaml_text.specs.Source.{text_of, place_of, IsBorder}
use Rattle.yaml_text.specs.Lines.{AfterLine}
use Rattle.yaml_definitions.specs.grammar.Rules.{any_span}
use Rattle.yaml_definitions.specs.grammar.Separation.{l-comment as l_comment}
use Rattle.yaml_text.proofs.lines.skip_empty_lines.Given as goal

abbrev pub invariant-empty : goal.invariant-empty
invariant-empty l = record {
  border : IsBorder l.source l.line;
  onward : l.at ≤ l.line;
  after : AfterLine (text_of l.source) (place_of l.source l.line);
  lines : any_span (l_comment (text_of l.source)) (place_of l.source l.at) (place_of l.source l.line);
}

abbrev pub decreases-empty : goal.decreases-empty
decreases-empty l = length l.source.text.now - l.line
