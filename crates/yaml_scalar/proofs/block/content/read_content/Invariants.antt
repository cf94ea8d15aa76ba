use Rattle.std.proofs.Common.{◌-◌, ◌≤◌, length}
use Rattle.std.specs.Str.{chars}
use Rattle.std.specs.String.{string_bytes}
use Rattle.yaml_text.specs.Source.{text_of, place_of, IsBorder}
use Rattle.yaml_definitions.specs.grammar.BlockScalars.{is_given}
use Rattle.yaml_text.specs.Lines.{AfterLine}
use Rattle.yaml_scalar.specs.BlockModel.{chomp_of}
use Rattle.yaml_scalar.proofs.ContentLemmas.{Sofar}
use Rattle.yaml_scalar.proofs.block.content.read_content.Given as goal

abbrev pub invariant-lines : goal.invariant-lines
invariant-lines l = record {
  border : IsBorder l.source l.here;
  onward : l.at ≤ l.here;
  counted : l.breaks ≤ l.here;
  after : AfterLine (text_of l.source) (place_of l.source l.here);
  sofar : Sofar (text_of l.source) l.is_folded (chomp_of l.header.chomp) (is_given l.header.digit) l.start.indent
      (place_of l.source l.at) (place_of l.source l.here) (chars (string_bytes l.text)) l.before l.breaks;
}

abbrev pub decreases-lines : goal.decreases-lines
decreases-lines l = length l.source.text.now - l.here
