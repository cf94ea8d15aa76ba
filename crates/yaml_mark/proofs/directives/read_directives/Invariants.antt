use Rattle.std.proofs.Common.{◌-◌, ◌≤◌, ◌⊎◌, length}
use Rattle.yaml_text.specs.Source.{text_of, place_of, IsBorder}
use Rattle.yaml_definitions.specs.grammar.Separation.{StartsLine, AtEnd}
use Rattle.yaml_mark.specs.HandlesModel.{bindings_of}
use Rattle.yaml_mark.proofs.CommentLemmas.{Stuck}
use Rattle.yaml_mark.proofs.DirectivesLemmas.{Read}
use Rattle.yaml_mark.proofs.directives.read_directives.Given as goal

abbrev pub invariant-lines : goal.invariant-lines
invariant-lines l = record {
  border : IsBorder l.source l.line;
  onward : l.at ≤ l.line;
  start : StartsLine (text_of l.source) (place_of l.source l.line) ⊎ AtEnd (text_of l.source) (place_of l.source l.line);
  stuck : Stuck (text_of l.source) (place_of l.source l.line);
  read : Read (text_of l.source) (place_of l.source l.at) (place_of l.source l.line) l.has_version (bindings_of l.handles);
}

abbrev pub decreases-lines : goal.decreases-lines
decreases-lines l = length l.source.text.now - l.line
