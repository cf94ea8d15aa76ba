use Rattle.std.proofs.Common.{◌≡◌, ◌-◌, ◌≤◌, length, drop}
use Rattle.yaml_sum.specs.Listed.{name_of}
use Rattle.yaml_sum.specs.Reads.{name_behind}
use Rattle.yaml_sum.proofs.listed.unescape.Given as goal

abbrev pub invariant-bytes : goal.invariant-bytes
invariant-bytes l = record { so_far : name_of l.name ≡ name_behind l.plain.items (drop l.at l.name); within : l.at ≤ length l.name }

abbrev pub decreases-bytes : goal.decreases-bytes
decreases-bytes l = length l.name - l.at
