use Rattle.rows_graph.proofs.NestedLaws.{documents-more}
use Rattle.rows_graph.proofs.nested.after_documents.Goals as goal

pub loop-next-preserved : goal.loop-next-preserved
loop-next-preserved c = documents-more c.args.events.now c.args.at c.loop-next.end c.in-Some.next c.loop-next.invariant c.in-Some.ensures
