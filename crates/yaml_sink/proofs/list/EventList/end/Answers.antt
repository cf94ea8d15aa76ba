use Rattle.std.proofs.Common.{refl, sym, ap}
use Rattle.yaml_text.specs.declared.event.Event.TheVariants as events
use Rattle.yaml_sink.specs.SinkModel.{end_of}
use Rattle.yaml_sink.proofs.ListLemmas.{list_puts}
use Rattle.yaml_sink.proofs.list.EventList.end.Goals as goal

pub returns-in_ok-push-in-Sequence-clause-ok : goal.returns-in_ok-push-in-Sequence-clause-ok
returns-in_ok-push-in-Sequence-clause-ok c = list_puts c.args.self.now _ events.SequenceEnd _ c.in_ok-push-in-Sequence.ensures.items refl (ap end_of (sym c.in-Sequence.is))

pub returns-in_ok-push-in-Mapping-clause-ok : goal.returns-in_ok-push-in-Mapping-clause-ok
returns-in_ok-push-in-Mapping-clause-ok c = list_puts c.args.self.now _ events.MappingEnd _ c.in_ok-push-in-Mapping.ensures.items refl (ap end_of (sym c.in-Mapping.is))
