use Rattle.std.proofs.Common.{◌≡◌, take}
use Rattle.yaml_store_rank.specs.KeyOrder.{number_pairs}
use Rattle.yaml_store_rank.proofs.copies.copied_entries.Given as goal

abbrev pub invariant-loop-key : goal.invariant-loop-key
invariant-loop-key l = number_pairs l.entries.items ≡ take l.key-index l.parts
