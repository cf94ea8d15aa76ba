use Rattle.std.proofs.Common.{refl}
use Rattle.yaml_store_composer.proofs.KeeperLaws.{makes-room}
use Rattle.yaml_store_composer.proofs.keeper.Composing.make_room.Goals as goal

pub returns : goal.returns
returns c = makes-room c.args.self.now _ refl c.in_ok-compose.ensures.composes c.in_ok-compose.ensures.none c.in_ok-count.ensures
