use Rattle.std.proofs.Common.{◌-◌, ◌≤◌, length}
use Rattle.yaml_text.specs.Source.{text_of, place_of, IsBorder}
use Rattle.yaml_definitions.specs.grammar.Rules.{any_span}
use Rattle.yaml_definitions.specs.grammar.Separation.{l-comment as l_comment}
use Rattle.yaml_text.specs.Lines.{AfterLine}
use Rattle.yaml_text.proofs.lines.skip_comment_lines.Given as goal

abbrev pub invariant-lines : goal.invariant-lines
invariant-lines l = record {
  border : IsBorder l.source l.line;
  onward : l.at ≤ l.line;
  after : AfterLine (text_of l.source) (place_of l.source l.line);
  lines : any_span (l_comment (text_of l.source)) (place_of l.source l.at) (place_of l.source l.line);
}

abbrev pub decreases-lines : goal.decreases-lines
decreases-lines l = length l.source.text.now - l.line
