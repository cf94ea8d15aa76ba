use Rattle.std.proofs.Common.{◌≡◌, ◌∙◌, true, sym, subst, map, rules}
use Rattle.std.specs.Prelude.{◌↔◌}
use Rattle.std.specs.Str.{IsValidUpTo}
use Rattle.yaml_text.specs.EventModel.{event_of}
use Rattle.yaml_definitions.specs.model.EventText.{EventText}
use Rattle.yaml_text.specs.Source.{text_of}
use Rattle.yaml_definitions.specs.grammar.Reading.{Reads}
use Rattle.yaml_command.specs.Matched.{IsReadable}
use Rattle.yaml_event_text.proofs.Reading.{unread}
use Rattle.yaml_command.proofs.check.has_events.Goals as goal

pub returns-in_err-events-clause-err : goal.returns-in_err-events-clause-err
returns-in_err-events-clause-err c =
    let f = unread c.args.input.now _ c.in_err-events.field-0.0 c.in_ok-source.ensures.read c.in_err-events.ensures.err c.in_err-events.ensures.decides in
    search (rules, f)

pub returns-in-Err-clause-err : goal.returns-in-Err-clause-err
unfolding Reads
returns-in-Err-clause-err c =
    let r : IsReadable c.args.input.now = (map event_of c.in_ok-events.events.items, (text_of c.in_ok-source.source, c.in_ok-source.ensures.read, c.in_ok-events.ensures.ok)) in
    let n = c.in-Err.ensures.cases in
    (r, (n.0, subst (IsValidUpTo c.args.lines.now) (sym c.valid_up_to.ensures) n.1))

pub returns-in_err-has_events-clause-err : goal.returns-in_err-has_events-clause-err
unfolding Reads
returns-in_err-has_events-clause-err c =
    let r : IsReadable c.args.input.now = (map event_of c.in_ok-events.events.items, (text_of c.in_ok-source.source, c.in_ok-source.ensures.read, c.in_ok-events.ensures.ok)) in
    let n = c.in-Ok.ensures.cases in
    let e = c.in_err-has_events.ensures.refused in
    search (rules, r, n, e)

pub returns-clause-ok : goal.returns-clause-ok
unfolding Reads
returns-clause-ok c =
    let t = c.in_ok-has_events.ensures.told in
    record {
      events = map event_of c.in_ok-events.events.items;
      wanted = t.wanted;
      reads = (text_of c.in_ok-source.source, c.in_ok-source.ensures.read, c.in_ok-events.ensures.ok);
      text = subst (λ z. EventText z t.wanted) c.in-Ok.ensures.cases.0 t.is;
      tells = subst (λ z. (c.in_ok-has_events.has_events ≡ true) ↔ (map event_of z ≡ t.wanted)) c.as_slice.ensures.value t.tells;
    }
