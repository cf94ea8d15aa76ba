use Rattle.std.proofs.Common.{◌-◌, ◌≤◌, length, take}
use Rattle.yaml_sum.specs.Names.{IsOne}
use Rattle.yaml_sum.proofs.names.cut.Given as goal

abbrev pub invariant-bytes : goal.invariant-bytes
invariant-bytes l = record { one : IsOne l.end (take l.at l.list); within : l.at ≤ length l.list }

abbrev pub decreases-bytes : goal.decreases-bytes
decreases-bytes l = length l.list - l.at
