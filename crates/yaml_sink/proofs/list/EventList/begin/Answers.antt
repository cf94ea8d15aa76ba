use Rattle.std.proofs.Common.{refl}
use Rattle.yaml_sink.proofs.ListLemmas.{list_puts}
use Rattle.yaml_sink.proofs.list.EventList.begin.Goals as goal

pub returns-clause-ok : goal.returns-clause-ok
returns-clause-ok c = list_puts c.args.self.now _ c.start_event.result _ c.in_ok-push.ensures.items refl c.start_event.ensures
