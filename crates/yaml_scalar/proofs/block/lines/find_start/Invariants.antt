use Rattle.std.proofs.Common.{◌+◌, ◌-◌, ◌≤◌, length}
use Rattle.yaml_text.specs.Source.{text_of, place_of, IsBorder}
use Rattle.yaml_text.specs.Lines.{AfterLine}
use Rattle.yaml_scalar.proofs.StartLemmas.{Searched}
use Rattle.yaml_scalar.proofs.block.lines.find_start.Given as goal

abbrev pub invariant-lines : goal.invariant-lines
invariant-lines l = record {
  border : IsBorder l.source l.line;
  onward : l.at + l.empty ≤ l.line;
  after : AfterLine (text_of l.source) (place_of l.source l.line);
  searched : Searched (text_of l.source) l.col (place_of l.source l.at) (place_of l.source l.line) l.longest l.empty;
}

abbrev pub decreases-lines : goal.decreases-lines
decreases-lines l = length l.source.text.now - l.line
