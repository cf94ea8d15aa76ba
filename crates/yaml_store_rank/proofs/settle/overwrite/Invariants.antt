use Rattle.std.proofs.Common.{◌≡◌, ◌++◌, map, take, drop, slice_index}
use Rattle.yaml_store_rank.proofs.settle.overwrite.Given as goal

abbrev pub invariant-loop-item : goal.invariant-loop-item
invariant-loop-item l = l.items ≡ map (slice_index l.ranks) (take l.item-index l.fn.items) ++ drop l.item-index l.fn.items
