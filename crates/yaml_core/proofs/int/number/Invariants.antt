use Rattle.std.proofs.Common.{◌≡◌, ◌≤◌, take}
use Rattle.yaml_definitions.specs.model.Core.{number_in}
use Rattle.yaml_core.proofs.int.number.Given as goal

abbrev pub invariant-loop-byte : goal.invariant-loop-byte
invariant-loop-byte l = (l.number ≡ number_in l.base (take l.byte-index l.digits)) × (l.number ≤ l.most)
