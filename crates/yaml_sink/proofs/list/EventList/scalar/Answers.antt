use Rattle.std.proofs.Common.{None, refl}
use Rattle.yaml_text.specs.declared.event.Event.TheVariants as events
use Rattle.yaml_text.specs.declared.event.EventTag.TheVariants as tags
use Rattle.yaml_sink.proofs.ListLemmas.{list_puts}
use Rattle.yaml_sink.proofs.list.EventList.scalar.Goals as goal

pub returns-clause-ok : goal.returns-clause-ok
returns-clause-ok c = list_puts c.args.self.now _ (events.Scalar None tags.None c.args.style c.args.text) _ c.in_ok-push.ensures.items refl refl
