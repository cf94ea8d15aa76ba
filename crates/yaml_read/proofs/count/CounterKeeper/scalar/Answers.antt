use Rattle.std.proofs.Common.{None, length, ap}
use Rattle.std.specs.Cow.{cow_str_bytes}
use Rattle.yaml_definitions.specs.model.Event.{scalar_event, untagged}
use Rattle.yaml_text.specs.EventModel.{style_of}
use Rattle.yaml_read.proofs.CountLaws.{if_ok, counts_put}
use Rattle.yaml_read.proofs.count.CounterKeeper.scalar.Goals as goal

pub returns-clause-ok : goal.returns-clause-ok
returns-clause-ok c = if_ok c.grow.result c.grow.ensures.ok (λ x g. counts_put c.args.self.now c.grow.new.self _ (scalar_event None untagged (style_of c.args._style) (cow_str_bytes c.args.text.now)) (ap length c.as_str.ensures.value) g)
