use Rattle.std.proofs.Common.{length}
use Rattle.yaml_show_scalar.specs.Folds.{is_foldable}
use Rattle.yaml_show_scalar.proofs.TextLaws.{IsSought}
use Rattle.yaml_show_scalar.proofs.paragraphs.has_foldable.Given as goal

abbrev pub invariant-lines : goal.invariant-lines
invariant-lines l = IsSought is_foldable l.text l.rest

abbrev pub decreases-lines : goal.decreases-lines
decreases-lines l = length l.rest
