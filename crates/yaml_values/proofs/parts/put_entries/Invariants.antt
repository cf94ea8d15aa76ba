use Rattle.std.proofs.Common.{◌≡◌, ◌++◌, take}
use Rattle.yaml_values.specs.Ranges.{in_turn}
use Rattle.yaml_values.proofs.parts.put_entries.Given as goal

abbrev pub invariant-loop-entry : goal.invariant-loop-entry
invariant-loop-entry l = l.parts.items ≡ l.fn.parts.items ++ in_turn (take l.entry-index l.entries)
