use Rattle.std.proofs.Common.{◌+◌, ◌-◌, ◌/◌, slice_index, arith}
use Rattle.yaml_store_rank.specs.KeyOrder.{number_pairs}
use Rattle.yaml_store_rank.proofs.KeyOrderLaws.{place-found, low-upto, high-from, none-left}
use Rattle.yaml_store_rank.proofs.key_order.find_key.Goals as goal

pub returns-then-here-rank : goal.returns-then-here-rank
returns-then-here-rank c =
    let R = slice_index c.args.ranks.now in
    let es = number_pairs c.args.entries.now in
    let m = c.loop-low.low + (c.loop-low.high - c.loop-low.low) / 2 in
    place-found R es c.args.order.now c.requires.order m c.args.rank (omega arith) (omega (arith, c.key_rank-here.ensures, c.if-here-rank.true))

pub loop-low-preserved-then-here-rank-2 : goal.loop-low-preserved-then-here-rank-2
loop-low-preserved-then-here-rank-2 c =
    let R = slice_index c.args.ranks.now in
    let es = number_pairs c.args.entries.now in
    let m = c.loop-low.low + (c.loop-low.high - c.loop-low.low) / 2 in
    record {
      order = omega arith;
      within = c.loop-low.invariant.within;
      below = low-upto R es c.args.order.now c.requires.order m c.args.rank (omega arith) (omega (arith, c.key_rank-here.ensures, c.if-here-rank-2.true));
      above = c.loop-low.invariant.above;
    }

pub loop-low-preserved : goal.loop-low-preserved
loop-low-preserved c =
    let R = slice_index c.args.ranks.now in
    let es = number_pairs c.args.entries.now in
    let m = c.loop-low.low + (c.loop-low.high - c.loop-low.low) / 2 in
    record {
      order = omega arith;
      within = omega arith;
      below = c.loop-low.invariant.below;
      above = high-from R es c.args.order.now c.requires.order m c.args.rank (omega (arith, c.key_rank-here.ensures, c.if-here-rank.false, c.if-here-rank-2.false));
    }

pub returns : goal.returns
returns c =
    none-left (slice_index c.args.ranks.now) (number_pairs c.args.entries.now) c.args.order.now c.requires.order c.loop-low.low c.loop-low.high c.args.rank (omega arith) c.loop-low.invariant.below c.loop-low.invariant.above
