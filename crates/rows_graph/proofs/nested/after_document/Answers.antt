use Rattle.std.proofs.Common.{ap}
use Rattle.yaml_text.specs.EventModel.{event_of}
use Rattle.rows_graph.proofs.NestedLaws.{document-is}
use Rattle.rows_graph.proofs.nested.after_document.Goals as goal

pub returns-in-DocumentEnd : goal.returns-in-DocumentEnd
returns-in-DocumentEnd c =
    document-is c.args.events.now c.args.at c.index-events-at.result c.index-events-at.is c.if-at-events.false c.in_ok-end.end c.in_ok-end.ensures c.index-events-end.result c.index-events-end.is c.if-end-events.false _ _
    (ap event_of c.in-DocumentStart.is) (ap event_of c.in-DocumentEnd.is)
