use Rattle.std.proofs.Common.{◌+◌, ◌-◌, ◌*◌, length}
use Rattle.rows_graph.specs.Nested.{AreNodes}
use Rattle.rows_graph.proofs.nested.+nested.Given as goal

abbrev pub decreases-after_node : goal.decreases-after_node
decreases-after_node l = (length l.events.now - l.at) * 2

abbrev pub decreases-after_nodes : goal.decreases-after_nodes
decreases-after_nodes l = (length l.events.now - l.at) * 2 + 1

abbrev pub invariant-after_nodes-loop-next : goal.invariant-after_nodes-loop-next
invariant-after_nodes-loop-next l = AreNodes l.events l.fn.at l.end l.even

abbrev pub decreases-after_nodes-loop-next : goal.decreases-after_nodes-loop-next
decreases-after_nodes-loop-next l = length l.events - l.end
