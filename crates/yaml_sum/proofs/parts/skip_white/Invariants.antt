use Rattle.std.proofs.Common.{◌≡◌, ◌-◌, ◌≤◌, length, drop}
use Rattle.yaml_sum.specs.Parts.{skip_white}
use Rattle.yaml_sum.proofs.parts.skip_white.Given as goal

abbrev pub invariant-bytes : goal.invariant-bytes
invariant-bytes l = record { so_far : skip_white l.text ≡ skip_white (drop l.at l.text); within : l.at ≤ length l.text }

abbrev pub decreases-bytes : goal.decreases-bytes
decreases-bytes l = length l.text - l.at
