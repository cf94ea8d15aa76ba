use Rattle.std.proofs.Common.{refl}
use Rattle.yaml_store_composer.proofs.KeeperLaws.{passes}
use Rattle.yaml_store_composer.proofs.keeper.Composing.pass.Goals as goal

pub returns-clause-room : goal.returns-clause-room
returns-clause-room c = passes c.args.self.now c.make_room.new.self _ c.in_ok-make_room.ensures c.in_ok-go_on.ensures refl refl c.in_ok-make_room.ensures.none
