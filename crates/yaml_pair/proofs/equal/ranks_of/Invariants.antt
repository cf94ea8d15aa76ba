use Rattle.std.proofs.Common.{◌≡◌, length, map, take}
use Rattle.yaml_store_rank.specs.Forests.{rank}
use Rattle.yaml_pair.specs.Named.{AllWithin}
use Rattle.yaml_pair.proofs.equal.ranks_of.Given as goal

abbrev pub invariant-loop-item : goal.invariant-loop-item
invariant-loop-item l =
    (length l.ranks.items ≡ l.item-index) × (AllWithin l.fn.forests l.items → l.ranks.items ≡ map (λ i. rank l.fn.forests i.0) (take l.item-index l.items))
