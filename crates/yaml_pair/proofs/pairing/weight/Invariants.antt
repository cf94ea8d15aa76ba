use Rattle.std.proofs.Common.{◌+◌, ◌≤◌, take}
use Rattle.std.specs.Prelude.{sum_by}
use Rattle.yaml_store_rank.specs.Forests.{tree}
use Rattle.yaml_pair.specs.Named.{Within, width}
use Rattle.yaml_pair.proofs.pairing.weight.Given as goal

abbrev pub invariant-loop-item : goal.invariant-loop-item
invariant-loop-item l = Within l.fn.forests l.fn.sides.0.now l.fn.sides.1.now → l.sum ≤ 0 + sum_by (λ i. width (tree l.fn.forests i.0)) (take l.item-index l.item-items)

abbrev pub invariant-loop-item-2 : goal.invariant-loop-item-2
invariant-loop-item-2 l =
    Within l.fn.forests l.fn.sides.0.now l.fn.sides.1.now → l.sum ≤ sum_by (λ i. width (tree l.fn.forests i.0)) l.fn.sides.0.now + sum_by (λ i. width (tree l.fn.forests i.0)) (take l.item-index l.item-items)
