use Rattle.std.proofs.Common.{◌≡◌, take}
use Rattle.yaml_store_rank.specs.KeyOrder.{numbers}
use Rattle.yaml_store_rank.proofs.copies.copied_items.Given as goal

abbrev pub invariant-loop-part : goal.invariant-loop-part
invariant-loop-part l = numbers l.items.items ≡ take l.part-index l.parts
