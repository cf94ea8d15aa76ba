use Rattle.std.proofs.Common.{refl}
use Rattle.yaml_store_composer.proofs.KeeperLaws.{composes-start}
use Rattle.yaml_store_composer.proofs.keeper.Composing.new.Goals as goal

pub returns : goal.returns
returns c = composes-start _ refl c.new-2.ensures c.in_ok-pending.ensures
