use Rattle.std.proofs.Common.{slice_index}
use Rattle.yaml_store_rank.specs.KeyOrder.{number_pairs, OrderedUpto}
use Rattle.yaml_store_rank.proofs.key_order.order_all.Given as goal

abbrev pub invariant-loop-node : goal.invariant-loop-node
invariant-loop-node l = OrderedUpto l.node-index (slice_index l.ranks) (number_pairs l.entries) l.nodes l.order
