use Rattle.std.proofs.Common.{ap}
use Rattle.yaml_text.specs.EventModel.{event_of}
use Rattle.rows_graph.proofs.NestedLaws.{scalar-node, alias-node, sequence-node, mapping-node, nodes-more}
use Rattle.rows_graph.proofs.nested.+nested.Goals as goal

pub after_nodes-loop-next-preserved : goal.after_nodes-loop-next-preserved
after_nodes-loop-next-preserved t c = nodes-more c.args.events.now c.args.at c.loop-next.end c.in-Some.next c.loop-next.even c.loop-next.invariant c.in-Some.ensures

pub after_node-returns-in-Scalar : goal.after_node-returns-in-Scalar
after_node-returns-in-Scalar t c = scalar-node c.args.events.now c.args.at c.index-events-at.result c.index-events-at.is c.if-at-events.false _ _ _ _ (ap event_of c.in-Scalar.is)

pub after_node-returns-in-Alias : goal.after_node-returns-in-Alias
after_node-returns-in-Alias t c = alias-node c.args.events.now c.args.at c.index-events-at.result c.index-events-at.is c.if-at-events.false _ (ap event_of c.in-Alias.is)

pub after_node-returns-in-SequenceEnd : goal.after_node-returns-in-SequenceEnd
after_node-returns-in-SequenceEnd t c =
    sequence-node c.args.events.now c.args.at c.index-events-at.result c.index-events-at.is c.if-at-events.false c.after_nodes-end.result.0 _ c.after_nodes-end.ensures c.index-events-end.result c.index-events-end.is c.if-end-events.false _ _ _
    (ap event_of c.in-SequenceStart.is) (ap event_of c.in-SequenceEnd.is)

pub after_node-returns-in-MappingEnd : goal.after_node-returns-in-MappingEnd
after_node-returns-in-MappingEnd t c =
    let nodes = c.after_nodes-end-in-MappingStart in
    let f = c.index-events-end-in-MappingStart in
    mapping-node c.args.events.now c.args.at c.index-events-at.result c.index-events-at.is c.if-at-events.false nodes.result.0 _ nodes.ensures f.result f.is c.if-end-events-2.false _ _ _
    (ap event_of c.in-MappingStart.is) (ap event_of c.in-MappingEnd.is) c.if-not-even.false
