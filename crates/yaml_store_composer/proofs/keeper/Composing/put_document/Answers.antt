use Rattle.std.proofs.Common.{refl}
use Rattle.yaml_definitions.specs.model.Event.{document_start}
use Rattle.yaml_store_composer.proofs.KeeperLaws.{puts-told}
use Rattle.yaml_store_composer.proofs.keeper.Composing.put_document.Goals as goal

pub returns : goal.returns
returns c = λ explicit. puts-told c.args.self.now c.make_room.new.self _ (document_start explicit) c.in_ok-make_room.ensures refl (c.in_ok-document.ensures explicit) refl c.in_ok-make_room.ensures.none
