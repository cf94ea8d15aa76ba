use Rattle.std.proofs.Common.{length}
use Rattle.yaml_show_scalar.proofs.TextLaws.{IsCounted}
use Rattle.yaml_show_scalar.proofs.paragraphs.has_at_most.Given as goal

abbrev pub invariant-lines : goal.invariant-lines
invariant-lines l = IsCounted l.text l.rest l.most l.left

abbrev pub decreases-lines : goal.decreases-lines
decreases-lines l = length l.rest
