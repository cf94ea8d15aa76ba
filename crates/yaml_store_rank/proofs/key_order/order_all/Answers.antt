use Rattle.std.proofs.Common.{◌+◌, get_or, slice_index, sym, subst, arith}
use Rattle.yaml_tree.proofs.Numbering.{get-there}
use Rattle.yaml_store.specs.declared.nodes.Node.{Node}
use Rattle.yaml_store.specs.declared.nodes.Kind.TheVariants.{Scalar}
use Rattle.yaml_store.specs.StoreModel.{place_of}
use Rattle.yaml_store_rank.specs.KeyOrder.{number_pairs, SpanIs, OrderedUpto}
use Rattle.yaml_store_rank.proofs.KeyOrderLaws.{pairs-long}
use Rattle.yaml_store_rank.proofs.OrderLaws.{ordered-mapping, ordered-other}
use Rattle.yaml_store_rank.proofs.key_order.order_all.Goals.{in-Some+in_ok-order_mapping, in_default}
use Rattle.yaml_store_rank.proofs.key_order.order_all.Goals as goal

abbrev none : Node
none = record { kind = Scalar; tag = 0; height = 0; span = record { start = 0; end = 0 } }

pub order_mapping-requires-clause-within : goal.order_mapping-requires-clause-within
order_mapping-requires-clause-within c =
    let k = c.loop-node.node-index in
    let n = get_or c.args.nodes.now k none in
    let w = c.requires.can.within k c.in-Some.span (n, get-there c.args.nodes.now k none c.loop-node-test.true, subst (SpanIs (place_of n)) c.in-Some.is c.entries_span.ensures) in
    (w.0, omega (arith, w.1, pairs-long c.args.entries.now))

pub order_mapping-requires-clause-below : goal.order_mapping-requires-clause-below
order_mapping-requires-clause-below c =
    let k = c.loop-node.node-index in
    let n = get_or c.args.nodes.now k none in
    c.requires.can.below k c.in-Some.span (n, get-there c.args.nodes.now k none c.loop-node-test.true, subst (SpanIs (place_of n)) c.in-Some.is c.entries_span.ensures)

pub order_mapping-requires-clause-differ : goal.order_mapping-requires-clause-differ
order_mapping-requires-clause-differ c =
    let k = c.loop-node.node-index in
    let n = get_or c.args.nodes.now k none in
    c.requires.can.differ k c.in-Some.span (n, get-there c.args.nodes.now k none c.loop-node-test.true, subst (SpanIs (place_of n)) c.in-Some.is c.entries_span.ensures)

pub loop-node-preserved : goal.loop-node-preserved
loop-node-preserved c =
    let rs = c.args.ranks.now in
    let es = number_pairs c.args.entries.now in
    let nodes = c.args.nodes.now in
    let k = c.loop-node.node-index in
    let n = get_or nodes k none in
    let there = get-there nodes k none c.loop-node-test.true in
    elim c.match-entries_span.branch [
      | in-Some+in_ok-order_mapping w ↦ subst (OrderedUpto (k + 1) (slice_index rs) es nodes) (sym w.order-is)
          (ordered-mapping nodes es rs c.requires.can k n there c.loop-node.order c.loop-node.invariant w.in-Some.span (subst (SpanIs (place_of n)) w.in-Some.is c.entries_span.ensures) w.order_mapping.new.order w.in_ok-order_mapping.ensures)
      | in_default w ↦ subst (OrderedUpto (k + 1) (slice_index rs) es nodes) (sym w.order-is)
          (ordered-other nodes es rs c.requires.can k n there c.loop-node.order c.loop-node.invariant (subst (SpanIs (place_of n)) w.in_default.is c.entries_span.ensures))
    ]
