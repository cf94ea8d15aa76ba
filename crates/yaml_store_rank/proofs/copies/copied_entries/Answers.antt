use Rattle.std.proofs.Common.{refl, ◌∙◌}
use Rattle.std.proofs.lemmas.List.{take_all}
use Rattle.yaml_store_rank.proofs.KeyOrderLaws.{copied-more}
use Rattle.yaml_store_rank.proofs.copies.copied_entries.Goals as goal

pub loop-key-preserved : goal.loop-key-preserved
loop-key-preserved c = copied-more (λ p. (p.0.0, p.1.0)) c.args.parts.now c.loop-key.entries.items c.push.new.self.items c.loop-key.key-index _ (0, 0) c.loop-key-test.true c.loop-key.invariant refl c.in_ok-push.ensures.items

pub returns : goal.returns
returns c = c.loop-key.invariant ∙ take_all c.loop-key.key-index c.args.parts.now c.loop-key-test.false
