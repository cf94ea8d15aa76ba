use Rattle.std.proofs.Common.{refl}
use Rattle.yaml_definitions.specs.model.Event.{alias_event}
use Rattle.yaml_store_composer.proofs.KeeperLaws.{puts-waiting}
use Rattle.yaml_store_composer.proofs.keeper.Composing.put_alias.Goals as goal

pub returns : goal.returns
returns c = puts-waiting c.args.self.now c.make_room.new.self _ (alias_event c.args.name.now) c.in_ok-make_room.ensures refl refl refl c.in_ok-put.ensures
