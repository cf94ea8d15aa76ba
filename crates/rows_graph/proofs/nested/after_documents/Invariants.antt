use Rattle.std.proofs.Common.{◌-◌, length}
use Rattle.rows_graph.specs.Nested.{AreDocuments}
use Rattle.rows_graph.proofs.nested.after_documents.Given as goal

abbrev pub invariant-loop-next : goal.invariant-loop-next
invariant-loop-next l = AreDocuments l.events l.fn.at l.end

abbrev pub decreases-loop-next : goal.decreases-loop-next
decreases-loop-next l = length l.events - l.end
