use Rattle.std.proofs.Common.{refl}
use Rattle.std.specs.Cow.{cow_str_bytes}
use Rattle.std.specs.Prelude.{None}
use Rattle.yaml_definitions.specs.model.Event.{scalar_event, untagged}
use Rattle.yaml_text.specs.EventModel.{style_of}
use Rattle.yaml_store_composer.proofs.KeeperLaws.{puts-waiting}
use Rattle.yaml_store_composer.proofs.keeper.Composing.put_long.Goals as goal

pub returns : goal.returns
returns c = puts-waiting c.args.self.now c.make_room.new.self _ (scalar_event None untagged (style_of c.args.style) (cow_str_bytes c.args.text.now)) c.in_ok-make_room.ensures refl refl refl c.in_ok-put_long.ensures
