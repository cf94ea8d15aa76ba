use Rattle.std.proofs.Common.{◌≡◌, drop}
use Rattle.yaml_core.specs.Digits.{without_zeros}
use Rattle.yaml_core.proofs.text.without_zeros.Given as goal

abbrev pub invariant-loop-at : goal.invariant-loop-at
invariant-loop-at l = without_zeros (drop l.at l.bytes) ≡ without_zeros l.bytes
