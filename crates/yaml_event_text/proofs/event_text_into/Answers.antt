use Rattle.std.proofs.Common.{map, refl, subst, rules}
use Rattle.std.proofs.lemmas.Result.{IfOk-weaker}
use Rattle.yaml_text.specs.EventModel.{event_of}
use Rattle.yaml_definitions.specs.model.EventText.{events_text}
use Rattle.yaml_text.specs.Rooms.{Places}
use Rattle.yaml_text.specs.Source.{text_of}
use Rattle.yaml_definitions.specs.grammar.Reading.{Reads}
use Rattle.yaml_definitions.proofs.MeaningLaws.{readings_have_text}
use Rattle.yaml_event_text.proofs.Reading.{unread}
use Rattle.yaml_event_text.proofs.event_text_into.Goals as goal

pub returns-clause-text : goal.returns-clause-text
unfolding Reads
returns-clause-text c =
    let events = map event_of c.in_ok-events.events.items in
    let reads : Reads c.args.bytes.now events = (text_of c.in_ok-chars.chars, c.in_ok-chars.ensures.read, c.in_ok-events.ensures.ok) in
    IfOk-weaker c.place.result _ _ (λ len h. record {
      text = events_text events;
      is = record {
        events = events;
        reads = reads;
        is = record { sound = (readings_have_text c.args.bytes.now events reads).sound; lines = refl };
      };
      placed = subst (λ z. Places (events_text (map event_of z)) c.args.room.now c.place.new.room len) c.as_slice.ensures.value h;
    }) c.place.ensures.ok

pub returns-in_err-events-clause-refused : goal.returns-in_err-events-clause-refused
returns-in_err-events-clause-refused c =
    let f = unread c.args.bytes.now _ c.in_err-events.field-0.0 c.in_ok-chars.ensures.read c.in_err-events.ensures.err c.in_err-events.ensures.decides in
    search (rules, f)

-- ---- what is no text

pub returns-in_err-events-clause-no_text : goal.returns-in_err-events-clause-no_text
returns-in_err-events-clause-no_text c = λ n. absurd (n _ c.in_ok-chars.ensures.read)

pub returns-clause-no_text : goal.returns-clause-no_text
returns-clause-no_text c = λ n. absurd (n _ c.in_ok-chars.ensures.read)
