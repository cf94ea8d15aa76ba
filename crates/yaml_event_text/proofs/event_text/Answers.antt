use Rattle.std.proofs.Common.{map, subst, sym, rules}
use Rattle.yaml_text.specs.EventModel.{event_of}
use Rattle.std.proofs.lemmas.Result.{IfOk-weaker}
use Rattle.std.specs.List.{All}
use Rattle.std.specs.String.{string_bytes}
use Rattle.yaml_definitions.specs.model.EventText.{IsSound, EventText}
use Rattle.yaml_text.specs.Source.{text_of}
use Rattle.yaml_definitions.specs.grammar.Reading.{Reads}
use Rattle.yaml_definitions.proofs.MeaningLaws.{readings_have_text}
use Rattle.yaml_event_text.proofs.Reading.{unread, some_is, lines_text}
use Rattle.yaml_event_text.proofs.event_text.Goals as goal

-- the lines that were written as the text was read
pub returns-in-Some-clause-ok : goal.returns-in-Some-clause-ok
returns-in-Some-clause-ok c =
    let n = some_is _ c.in_ok-text.field-0 c.in-Some.text c.in-Some.is c.in_ok-text.ensures.ok in
    lines_text c.args.bytes.now _ _ n.0 c.in_ok-source.ensures.read n.1 n.3

pub returns-in_err-text-clause-err : goal.returns-in_err-text-clause-err
returns-in_err-text-clause-err c =
    let f = unread c.args.bytes.now _ c.in_err-text.field-0.0 c.in_ok-source.ensures.read c.in_err-text.ensures.err c.in_err-text.ensures.decides in
    search (rules, f)

-- what is read has an event text
pub write_events-requires : goal.write_events-requires
unfolding Reads
write_events-requires c =
    let events = c.in_ok-events.events.items in
    let r = (readings_have_text c.args.bytes.now (map event_of events) (text_of c.in_ok-source.source, c.in_ok-source.ensures.read, c.in_ok-events.ensures.ok)).sound in
    subst (λ z. All IsSound (map event_of z)) (sym c.as_slice.ensures.value) r

pub returns-clause-ok : goal.returns-clause-ok
unfolding Reads
returns-clause-ok c =
    let events = map event_of c.in_ok-events.events.items in
    IfOk-weaker c.write_events.result _ _ (λ text h. record {
      events = events;
      reads = (text_of c.in_ok-source.source, c.in_ok-source.ensures.read, c.in_ok-events.ensures.ok);
      is = subst (λ z. EventText (string_bytes text) (map event_of z)) c.as_slice.ensures.value h;
    }) c.write_events.ensures.text

pub returns-in_err-events-clause-err : goal.returns-in_err-events-clause-err
returns-in_err-events-clause-err c =
    let f = unread c.args.bytes.now _ c.in_err-events.field-0.0 c.in_ok-source.ensures.read c.in_err-events.ensures.err c.in_err-events.ensures.decides in
    search (rules, f)
