use Rattle.std.proofs.Common.{◌≡◌, [], ◌∷◌, length}
use Rattle.yaml_show_scalar.specs.Scalars.{paragraph}
use Rattle.yaml_show_scalar.specs.Stops.{limit_of}
use Rattle.yaml_show_scalar.specs.Texts.{written}
use Rattle.yaml_show_scalar.proofs.TextLaws.{IsJoined}
use Rattle.yaml_show_scalar.proofs.paragraphs.put_paragraphs.Given as goal

abbrev pub invariant-lines : goal.invariant-lines
invariant-lines l = (limit_of l.out ≡ limit_of l.initial.out) × IsJoined (paragraph l.level) (10 ∷ []) l.body l.rest (written l.initial.out) (written l.out)

abbrev pub decreases-lines : goal.decreases-lines
decreases-lines l = length l.rest
