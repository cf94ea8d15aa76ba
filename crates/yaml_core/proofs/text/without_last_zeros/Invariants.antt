use Rattle.std.proofs.Common.{◌≡◌, ◌≤◌, length, take}
use Rattle.yaml_core.specs.Digits.{without_last_zeros}
use Rattle.yaml_core.proofs.text.without_last_zeros.Given as goal

abbrev pub invariant-loop-end : goal.invariant-loop-end
invariant-loop-end l = (l.end ≤ length l.bytes) × (without_last_zeros (take l.end l.bytes) ≡ without_last_zeros l.bytes)

abbrev pub decreases-loop-end : goal.decreases-loop-end
decreases-loop-end l = l.end
