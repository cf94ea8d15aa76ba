use Rattle.std.proofs.Common.{◌≡◌, ◌++◌, map, take, drop}
use Rattle.yaml_graph.specs.JoinModel.{raised}
use Rattle.yaml_graph.proofs.joining.raise.Given as goal

abbrev pub invariant-loop-item : goal.invariant-loop-item
invariant-loop-item l = l.items ≡ map (raised l.shift) (take l.item-index l.fn.items) ++ drop l.item-index l.fn.items
