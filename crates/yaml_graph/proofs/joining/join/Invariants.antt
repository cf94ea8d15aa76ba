use Rattle.std.proofs.Common.{◌≡◌, ◌++◌, List, length, map, take}
use Rattle.std.specs.Vec.Iter.{into_iter_items, into_iter_len}
use Rattle.yaml_graph.specs.JoinModel.{raised}
use Rattle.yaml_graph.specs.declared.node.Node.{Node}
use Rattle.yaml_graph.proofs.JoinLaws.{AllMoved}
use Rattle.yaml_graph.proofs.joining.join.Given as goal

abbrev pub invariant-loop-node : goal.invariant-loop-node
invariant-loop-node l =
    (l.yielded ++ into_iter_items l.node-iterator ≡ l.fn.right.nodes.items)
    × ((ms : List Node) × (l.nodes.items ≡ l.fn.left.nodes.items ++ ms) × AllMoved l.shift l.yielded ms)
    × (into_iter_len l.node-iterator ≡ length (into_iter_items l.node-iterator))

abbrev pub invariant-loop-root : goal.invariant-loop-root
invariant-loop-root l = l.roots.items ≡ l.fn.left.roots.items ++ map (raised l.shift) (take l.root-index l.root-items)
