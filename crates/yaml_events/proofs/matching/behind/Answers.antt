use Rattle.std.proofs.Common.{◌∙◌, sym, rules, map}
use Rattle.yaml_text.specs.EventModel.{event_of}
use Rattle.yaml_events.proofs.SameEvents.{same_one}
use Rattle.yaml_events.proofs.Holding.{differs}
use Rattle.yaml_events.proofs.matching.behind.Goals as goal

pub returns-then-eq : goal.returns-then-eq
returns-then-eq c =
    let e = same_one c.in_ok-first.first.now c.args.event.now (sym c.eq.ensures ∙ c.if-eq.true) in
    search (rules, e)

pub returns-else-eq : goal.returns-else-eq
returns-else-eq c =
    let e = differs c.in_ok-first.first.now c.args.event.now (map event_of c.in_ok-first.rest.now) (sym c.eq.ensures ∙ c.if-eq.false) in
    search (rules, e)
