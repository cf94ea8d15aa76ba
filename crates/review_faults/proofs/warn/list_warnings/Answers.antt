use Rattle.std.proofs.Common.{◌∙◌, drop, length, map, subst, rules}
use Rattle.yaml_definitions.specs.grammar.Reading.{Reads}
use Rattle.yaml_definitions.specs.model.Text.{mark_len}
use Rattle.yaml_text.specs.EventModel.{event_of}
use Rattle.yaml_text.specs.Source.{text_of}
use Rattle.review_faults.specs.Warned.{AllWarned, AreWarnings, source_at}
use Rattle.review_faults.proofs.AgainLaws.{reading_refused}
use Rattle.review_faults.proofs.warn.list_warnings.Goals as goal

pub returns-clause-ok : goal.returns-clause-ok
unfolding Reads
returns-clause-ok c =
    let bytes = c.args.bytes.now in
    let events = map event_of c.in_ok-events.events.items in
    let list = c.in_ok-told.field-0.items in
    let f = c.in_ok-found.ensures.ok in
    let read = subst (λ z. AreWarnings (map event_of z) c.unmarked-text.result.now c.deref-3.result.now list) c.deref-2.ensures.value c.in_ok-told.ensures.ok in
    let bare = subst (λ z. AreWarnings events z c.deref-3.result.now list) c.unmarked-text.ensures read in
    let marked = subst (λ z. AllWarned (source_at c.unmarked-text.result.now c.in_ok-trace.trace) c.args.allowed.now (map event_of z) (length (map event_of z)) f.all) c.deref.ensures.value f.warned in
    record {
      all = f.all;
      first = record {
        events = events;
        reads = (text_of c.in_ok-source.source, c.in_ok-source.ensures.read, c.in_ok-events.ensures.ok);
        trace = c.in_ok-trace.trace;
        warned = subst (λ z. AllWarned (source_at z c.in_ok-trace.trace) c.args.allowed.now events (length events) f.all) c.unmarked-text.ensures marked;
        are = subst (λ z. AreWarnings events (drop (mark_len bytes) bytes) z list) (c.deref-3.ensures.value ∙ f.keeps.first) bare;
      };
      whole = f.keeps.are_all;
    }

pub returns-in_err-events-clause-err : goal.returns-in_err-events-clause-err
returns-in_err-events-clause-err c =
    let f = reading_refused c.args.bytes.now _ c.in_err-events.field-0.0 c.in_ok-source.ensures.read c.in_err-events.ensures.decides in
    search (rules, f)
