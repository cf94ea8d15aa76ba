use Rattle.std.proofs.Common.{◌≡◌, rules, map, option_map, subst}
use Rattle.std.specs.Prelude.{Some, None}
use Rattle.yaml_definitions.specs.grammar.Reading.{Reads}
use Rattle.yaml_text.specs.EventModel.{event_of}
use Rattle.yaml_text.specs.Source.{text_of}
use Rattle.review_places.specs.Trace.{TraceHolds, shapes_in}
use Rattle.review_faults.specs.EventPlaces.{IsEventOf}
use Rattle.review_faults.specs.EventSpots.{IsSpotAt}
use Rattle.review_faults.proofs.AgainLaws.{reading_refused}
use Rattle.review_faults.proofs.spots.spot_of_event.Goals as goal

pub returns-in_err-trace-clause-err : goal.returns-in_err-trace-clause-err
returns-in_err-trace-clause-err c =
    let f = reading_refused c.args.bytes.now _ c.in_err-trace.field-0.0 c.in_ok-source.ensures.read c.in_err-trace.ensures.decides in
    search (rules, f)

pub returns-in_default-clause-ok : goal.returns-in_default-clause-ok
unfolding Reads
returns-in_default-clause-ok c =
    let held = c.in_ok-trace.ensures.ok in
    record {
      trace = c.in_ok-trace.trace;
      events = held.0;
      reads = (text_of c.in_ok-source.source, c.in_ok-source.ensures.read, held.1);
      holds = held.2;
      event = None;
      is = subst (λ z. IsEventOf (shapes_in c.in_ok-trace.trace.events.items) c.args.fault (option_map (λ t. t.0) z)) c.in_default.is c.in_ok-number.ensures.event;
      known = (c.at.ensures.at, c.at.ensures.alone);
    }

-- The trace has the events that are read once more, since bytes have one reading.
pub returns-clause-ok : goal.returns-clause-ok
unfolding Reads
returns-clause-ok c =
    let held = c.in_ok-trace.ensures.ok in
    let trace = c.in_ok-trace.trace in
    let events = map event_of c.in_ok-events.events.items in
    let number = c.in-Some.number in
    let text = c.unmarked-text.result.now in
    let same : held.0 ≡ events = c.in_ok-events.ensures.only held.0 held.1 in
    let spot = c.in_ok-spot_at.field-0 in
    let known = c.in_ok-spot_at.ensures.ok in
    record {
      trace = trace;
      events = events;
      reads = (text_of c.in_ok-source.source, c.in_ok-source.ensures.read, c.in_ok-events.ensures.ok);
      holds = subst (TraceHolds trace) same held.2;
      event = Some number;
      is = subst (λ z. IsEventOf (shapes_in trace.events.items) c.args.fault (option_map (λ t. t.0) z)) c.in-Some.is c.in_ok-number.ensures.event;
      known = subst (λ z. IsSpotAt trace events z c.args.fault number spot) c.unmarked-text.ensures (subst (λ z. IsSpotAt trace (map event_of z) text c.args.fault number spot) c.deref.ensures.value known);
    }
