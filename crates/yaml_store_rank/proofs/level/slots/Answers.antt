use Rattle.std.proofs.Common.{arith}
use Rattle.yaml_store_rank.proofs.SlotLaws.{slot-fits, slots-more}
use Rattle.yaml_store_rank.proofs.level.slots.Goals as goal

pub slot-requires-clause-fit : goal.slot-requires-clause-fit
slot-requires-clause-fit c = slot-fits c.args.lists.now c.args.level.now c.requires.numbers c.requires.fit c.loop-number.number-index 0 c.loop-number-test.true

pub loop-number-preserved : goal.loop-number-preserved
loop-number-preserved c = (
  (let a = c.add.ensures in let b = c.loop-number.invariant.0 in omega arith),
  slots-more c.args.lists.now c.args.level.now c.requires.range c.requires.numbers c.loop-number.number-index c.loop-number.slots.items c.push.new.self.items c.slot.result c.loop-number-test.true c.loop-number.invariant.1 c.slot.ensures c.in_ok-push.ensures.items,
)
