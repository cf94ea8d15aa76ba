use Rattle.std.proofs.Common.{◌-◌, length}
use Rattle.yaml_diff.proofs.anchors.shared.Given as goal

abbrev pub decreases-loop-next : goal.decreases-loop-next
decreases-loop-next l = length l.rights - l.next
