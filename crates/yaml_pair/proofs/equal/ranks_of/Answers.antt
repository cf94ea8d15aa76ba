use Rattle.std.proofs.Common.{arith, ap, length}
use Rattle.std.proofs.lemmas.List.{length_push}
use Rattle.yaml_pair.proofs.ListLaws.{ranks-more}
use Rattle.yaml_pair.proofs.equal.ranks_of.Goals as goal

pub loop-item-preserved : goal.loop-item-preserved
loop-item-preserved c = (
  omega (arith, ap length c.in_ok-push.ensures.items, length_push c.loop-item.ranks.items c.rank_at.result, c.loop-item.invariant.0),
  λ w. ranks-more c.args.forests.now c.args.items.now c.loop-item.item-index _ c.loop-item.ranks.items c.push.new.self.items c.rank_at.result w c.loop-item-test.true (c.loop-item.invariant.1 w) c.in_ok-push.ensures.items c.rank_at.ensures,
)
