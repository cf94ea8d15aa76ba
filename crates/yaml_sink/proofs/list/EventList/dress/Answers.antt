use Rattle.std.proofs.Common.{refl}
use Rattle.yaml_sink.specs.PropertyRules.{props_of}
use Rattle.yaml_sink.proofs.ListLemmas.{event_dressed, start_dressed}
use Rattle.yaml_sink.proofs.list.EventList.dress.Goals as goal

pub returns-then-is_at : goal.returns-then-is_at
returns-then-is_at c =
    let was = c.index_mut-start.result.now in
    start_dressed c.args.self.now _ c.args.mark c.starts_before-count.result c.starts_before-count.ensures (props_of c.args.properties) was (record { place = was.place; flow = was.flow; properties = c.args.properties })
    c.if-is_at.ensures.yes c.index_mut-start.ensures.value refl refl refl refl

pub returns-else-is_at : goal.returns-else-is_at
returns-else-is_at c = event_dressed c.args.self.now _ c.args.mark c.starts_before-count.result c.starts_before-count.ensures (props_of c.args.properties) c.if-is_at.ensures.no c.dress.ensures refl
