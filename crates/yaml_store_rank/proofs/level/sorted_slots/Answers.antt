use Rattle.yaml_store_rank.proofs.SlotLaws.{slots-sorted}
use Rattle.yaml_store_rank.proofs.level.sorted_slots.Goals as goal

pub returns-clause-ok : goal.returns-clause-ok
returns-clause-ok c = slots-sorted c.args.lists.now c.args.level.now c.in_ok-slots.slots.items c.sort.new.slots.items c.in_ok-slots.ensures.ok c.in_ok-sort.ensures.permutation c.in_ok-sort.ensures.sorted
