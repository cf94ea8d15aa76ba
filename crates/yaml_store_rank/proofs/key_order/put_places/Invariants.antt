use Rattle.std.proofs.Common.{◌≡◌, ◌++◌, map, take, drop}
use Rattle.yaml_store_rank.proofs.key_order.put_places.Given as goal

abbrev pub invariant-loop-place : goal.invariant-loop-place
invariant-loop-place l = l.order ≡ map (λ p. p.1) (take l.place l.keys) ++ drop l.place l.fn.order
