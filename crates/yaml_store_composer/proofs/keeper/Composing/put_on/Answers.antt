use Rattle.yaml_sink.specs.PropertyRules.{props_of}
use Rattle.yaml_store_composer.proofs.KeeperLaws.{dresses-none}
use Rattle.yaml_store_composer.proofs.keeper.Composing.put_on.Goals as goal

pub returns-then-start-self-clause-ok : goal.returns-then-start-self-clause-ok
returns-then-start-self-clause-ok c = dresses-none c.args.self.now c.args.start (props_of c.args.properties.now) c.if-start-self.true
