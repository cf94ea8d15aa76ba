use Rattle.std.proofs.Common.{refl, ◌∙◌}
use Rattle.std.proofs.lemmas.List.{take_all}
use Rattle.yaml_store_rank.proofs.KeyOrderLaws.{copied-more}
use Rattle.yaml_store_rank.proofs.copies.copied_items.Goals as goal

pub loop-part-preserved : goal.loop-part-preserved
loop-part-preserved c = copied-more (λ i. i.0) c.args.parts.now c.loop-part.items.items c.push.new.self.items c.loop-part.part-index _ 0 c.loop-part-test.true c.loop-part.invariant refl c.in_ok-push.ensures.items

pub returns : goal.returns
returns c = c.loop-part.invariant ∙ take_all c.loop-part.part-index c.args.parts.now c.loop-part-test.false
