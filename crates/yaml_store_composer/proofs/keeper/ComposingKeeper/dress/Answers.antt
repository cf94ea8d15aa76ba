use Rattle.yaml_sink.specs.PropertyRules.{props_of}
use Rattle.yaml_store_composer.proofs.KeeperLaws.{dresses}
use Rattle.yaml_store_composer.proofs.keeper.ComposingKeeper.dress.Goals as goal

pub returns : goal.returns
returns c = dresses c.args.self.now c.put_on.new.self c.args.start (props_of c.args.properties.now) c.put_on.ensures.count c.in-Ok.ensures.ok
