use Rattle.std.proofs.Common.{◌<◌, take}
use Rattle.std.specs.List.{All}
use Rattle.yaml_values.proofs.parts.are_entries_below.Given as goal

abbrev pub invariant-loop-entry : goal.invariant-loop-entry
invariant-loop-entry l = All (λ p. (p.0 < l.number) × (p.1 < l.number)) (take l.entry-index l.entries)
