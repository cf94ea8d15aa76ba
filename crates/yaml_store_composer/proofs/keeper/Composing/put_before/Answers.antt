use Rattle.std.proofs.Common.{refl, sym, ◌∙◌}
use Rattle.yaml_store_composer.proofs.KeeperLaws.{inserts, inserts-ended}
use Rattle.yaml_store_composer.proofs.keeper.Composing.put_before.Goals as goal

pub returns-then-is_none : goal.returns-then-is_none
returns-then-is_none c = inserts-ended c.args.self.now _ c.args.start c.args.flow refl c.if-is_none.ensures.yes refl c.in_ok-count.ensures c.in_ok-precede.ensures

pub returns : goal.returns
returns c = inserts c.args.self.now _ c.args.start c.args.flow refl (sym c.saturating_sub.ensures ∙ c.if-saturating_sub-ne1.false) c.in_ok-count.ensures refl (c.in_ok-precede-2.ensures c.if-is_none.ensures.no)
