use Rattle.std.proofs.Common.{◌≡◌, take, slice_index}
use Rattle.yaml_tree.proofs.PlaceLaws.{placed}
use Rattle.yaml_store_rank.specs.KeyOrder.{number_pairs, ranks_of_keys}
use Rattle.yaml_store_rank.proofs.key_order.order_keys.Given as goal

abbrev pub invariant-loop-place : goal.invariant-loop-place
invariant-loop-place l = l.keys.items ≡ placed 0 (take l.place (ranks_of_keys (slice_index l.ranks) (number_pairs l.entries)))
