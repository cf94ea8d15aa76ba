use Rattle.std.proofs.Common.{◌≡◌, ◌≤◌, None, length, drop}
use Rattle.yaml_sum.specs.Parts.{cut_last}
use Rattle.yaml_sum.proofs.parts.cut_last.Given as goal

abbrev pub invariant-bytes : goal.invariant-bytes
invariant-bytes l = record { none : cut_last (drop l.at l.text) ≡ None; within : l.at ≤ length l.text }

abbrev pub decreases-bytes : goal.decreases-bytes
decreases-bytes l = l.at
