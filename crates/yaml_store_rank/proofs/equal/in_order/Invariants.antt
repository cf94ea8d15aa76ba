use Rattle.std.proofs.Common.{◌≡◌, take}
use Rattle.yaml_tree.proofs.PlaceLaws.{placed}
use Rattle.yaml_store_rank.proofs.equal.in_order.Given as goal

abbrev pub invariant-loop-place : goal.invariant-loop-place
invariant-loop-place l = l.order.items ≡ placed 0 (take l.place l.numbers)
