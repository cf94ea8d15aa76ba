use Rattle.std.proofs.Common.{◌≡◌, ◌++◌, map, take, drop}
use Rattle.yaml_graph.specs.JoinModel.{raised_pair}
use Rattle.yaml_graph.proofs.joining.raise_entries.Given as goal

abbrev pub invariant-loop-entry : goal.invariant-loop-entry
invariant-loop-entry l = l.entries ≡ map (raised_pair l.shift) (take l.entry-index l.fn.entries) ++ drop l.entry-index l.fn.entries
