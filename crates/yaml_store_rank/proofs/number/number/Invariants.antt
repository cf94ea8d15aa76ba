use Rattle.std.proofs.Common.{length}
use Rattle.yaml_tree.proofs.Numbering.{Numbering}
use Rattle.yaml_store_rank.specs.KeyModel.{key_cmp}
use Rattle.yaml_store_rank.specs.SlotModel.{keys_of}
use Rattle.yaml_store_rank.proofs.Firsts.{Firsts}
use Rattle.yaml_store_rank.proofs.number.number.Given as goal

abbrev pub invariant-loop-place : goal.invariant-loop-place
invariant-loop-place l = Numbering key_cmp l.fn.ranks (length l.fn.first.items) (keys_of l.lists l.slots) l.place l.rank l.ranks × Firsts (keys_of l.lists l.slots) l.place l.rank l.ranks l.fn.first.items l.first.items
