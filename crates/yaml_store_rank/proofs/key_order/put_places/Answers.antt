use Rattle.std.proofs.Common.{◌∙◌, refl}
use Rattle.yaml_store_rank.proofs.KeyOrderLaws.{put-more, put-all}
use Rattle.yaml_store_rank.proofs.key_order.put_places.Goals as goal

pub loop-place-preserved : goal.loop-place-preserved
loop-place-preserved c = put-more (λ p. p.1) c.args.keys.now c.args.order.now c.loop-place.order c.loop-place.place _ _ c.loop-place-test.true c.requires c.loop-place.invariant refl

pub returns : goal.returns
returns c = c.loop-place.invariant ∙ put-all (λ p. p.1) c.args.keys.now c.args.order.now c.loop-place.place c.loop-place-test.false c.requires
