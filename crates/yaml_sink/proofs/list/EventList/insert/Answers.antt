use Rattle.std.proofs.Common.{refl, ap, arith}
use Rattle.yaml_definitions.specs.grammar.Events.{map_start}
use Rattle.yaml_sink.proofs.ListLemmas.{event_inserted, start_inserted}
use Rattle.yaml_sink.proofs.list.EventList.insert.Goals as goal

pub returns-then-len-place-le-FEW-clause-ok : goal.returns-then-len-place-le-FEW-clause-ok
returns-then-len-place-le-FEW-clause-ok c =
    event_inserted c.args.self.now _ c.args.mark c.starts_before-count.result c.starts_before-count.ensures c.min-place.result c.start_event.result _ (omega (arith, c.args.self.now.starts.ok.0)) (omega (arith, c.args.self.now.events.ok.0))
    c.in_ok-insert.ensures.items refl c.start_event.ensures

pub returns-clause-ok : goal.returns-clause-ok
returns-clause-ok c =
    start_inserted c.args.self.now _ c.args.mark c.starts_before-count.result c.starts_before-count.ensures c.min-place.result (record { place = c.min-place.result; flow = c.args.flow; properties = c.none-properties.result }) _
    (omega (arith, c.args.self.now.events.ok.0)) refl c.in_ok-insert-2.ensures.items refl (ap (map_start c.args.flow) c.none-properties.ensures)
