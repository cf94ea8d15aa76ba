use Rattle.std.proofs.Common.{ap, ◌<◌, length, arith}
use Rattle.yaml_text.specs.EventModel.{event_of}
use Rattle.rows_graph.proofs.NestedLaws.{stream-is}
use Rattle.rows_graph.proofs.nested.is_stream.Goals as goal

pub returns-in-StreamEnd : goal.returns-in-StreamEnd
returns-in-StreamEnd c = λ _.
    let l : 0 < length c.args.events.now = omega arith in
    stream-is c.args.events.now c.index-events-0.result c.index-events-end.result c.after_documents-end.result c.index-events-0.is l c.after_documents-end.ensures c.index-events-end.is c.if-end-events.false
    (ap event_of c.in-StreamStart.is) (ap event_of c.in-StreamEnd.is)
