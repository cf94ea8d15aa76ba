use Rattle.std.proofs.Common.{refl}
use Rattle.yaml_sink.specs.SinkModel.{end_of}
use Rattle.yaml_store_composer.proofs.KeeperLaws.{puts-told}
use Rattle.yaml_store_composer.proofs.keeper.Composing.put_end.Goals as goal

pub returns : goal.returns
returns c = puts-told c.args.self.now c.make_room.new.self _ (end_of c.args.collection) c.in_ok-make_room.ensures refl c.in_ok-end.ensures refl c.in_ok-make_room.ensures.none
