use Rattle.std.proofs.Common.{◌≡◌, length}
use Rattle.yaml_show_scalar.specs.Scalars.{broken_line, broken_feed}
use Rattle.yaml_show_scalar.specs.Stops.{limit_of}
use Rattle.yaml_show_scalar.specs.Texts.{written}
use Rattle.yaml_show_scalar.proofs.TextLaws.{IsJoined}
use Rattle.yaml_show_scalar.proofs.lines.put_broken_lines.Given as goal

abbrev pub invariant-lines : goal.invariant-lines
invariant-lines l = (limit_of l.out ≡ limit_of l.initial.out) × IsJoined (broken_line l.level) broken_feed l.body l.rest (written l.initial.out) (written l.out)

abbrev pub decreases-lines : goal.decreases-lines
decreases-lines l = length l.rest
