use Rattle.std.proofs.Common.{map, sym, subst, rules}
use Rattle.std.proofs.lemmas.Result.{on_ok_weaker}
use Rattle.yaml_text.specs.EventModel.{event_of}
use Rattle.yaml_text.specs.Source.{text_of}
use Rattle.yaml_definitions.specs.grammar.Reading.{Reads}
use Rattle.yaml_command.proofs.FileLaws.{if_refused}
use Rattle.std.specs.String.{string_bytes}
use Rattle.yaml_text.specs.Writers.{Printed}
use Rattle.yaml_command.specs.Printing.{PrintFails}
use Rattle.yaml_event_text.proofs.Reading.{unread, some_is, lines_text}
use Rattle.yaml_command.proofs.EventLaws.{unread_untouched, text_printed, text_failed, whole_printed, whole_failed}
use Rattle.yaml_command.proofs.events.print_text.Goals as goal

pub returns-in_err-events-clause-err : goal.returns-in_err-events-clause-err
returns-in_err-events-clause-err g c =
    let f = unread_untouched g.W.Write.contents c.args.bytes.now c.args.out.now c.in_err-events.field-0.0
    (unread c.args.bytes.now _ c.in_err-events.field-0.0 c.in_ok-source.ensures.read c.in_err-events.ensures.err c.in_err-events.ensures.decides) in
    search (rules, f)

pub returns-in_err-text-clause-err : goal.returns-in_err-text-clause-err
returns-in_err-text-clause-err g c =
    let f = unread_untouched g.W.Write.contents c.args.bytes.now c.args.out.now c.in_err-text.field-0.0
    (unread c.args.bytes.now _ c.in_err-text.field-0.0 c.in_ok-source.ensures.read c.in_err-text.ensures.err c.in_err-text.ensures.decides) in
    search (rules, f)

-- ---- the text that is held whole

pub returns-in-Some-clause-ok : goal.returns-in-Some-clause-ok
returns-in-Some-clause-ok g c =
    let n = some_is _ c.in_ok-text.field-0 c.in-Some.text c.in-Some.is c.in_ok-text.ensures.ok in
    let t = lines_text c.args.bytes.now _ (string_bytes c.in-Some.text) n.0 c.in_ok-source.ensures.read n.1 n.3 in
    on_ok_weaker c.write_out.result (λ p. whole_printed g.W.Write.contents c.args.bytes.now (string_bytes c.in-Some.text) c.args.out.now c.write_out.new.out t
    (subst (Printed g.W.Write.contents c.args.out.now c.write_out.new.out) c.as_bytes.ensures.value p)) c.write_out.ensures.ok

pub returns-in-Some-clause-err : goal.returns-in-Some-clause-err
returns-in-Some-clause-err g c =
    let n = some_is _ c.in_ok-text.field-0 c.in-Some.text c.in-Some.is c.in_ok-text.ensures.ok in
    let t = lines_text c.args.bytes.now _ (string_bytes c.in-Some.text) n.0 c.in_ok-source.ensures.read n.1 n.3 in
    if_refused c.write_out.result c.write_out.ensures.err (λ fault h. whole_failed g.W.Write.contents c.args.bytes.now (string_bytes c.in-Some.text) c.args.out.now c.write_out.new.out fault t
    (subst (λ z. PrintFails g.W.Write.contents c.args.out.now c.write_out.new.out z fault) c.as_bytes.ensures.value h))

-- ---- the text that is written by pages

pub returns-clause-ok : goal.returns-clause-ok
unfolding Reads
returns-clause-ok g c =
    let r : Reads c.args.bytes.now (map event_of c.as_slice.result.now) = subst (λ z. Reads c.args.bytes.now (map event_of z)) (sym c.as_slice.ensures.value) (text_of c.in_ok-source.source, c.in_ok-source.ensures.read, c.in_ok-events.ensures.ok) in
    on_ok_weaker c.print_events.result (λ p. text_printed g.W.Write.contents c.args.bytes.now _ c.args.out.now c.print_events.new.out r p) c.print_events.ensures.ok

pub returns-clause-err : goal.returns-clause-err
unfolding Reads
returns-clause-err g c =
    let r : Reads c.args.bytes.now (map event_of c.as_slice.result.now) = subst (λ z. Reads c.args.bytes.now (map event_of z)) (sym c.as_slice.ensures.value) (text_of c.in_ok-source.source, c.in_ok-source.ensures.read, c.in_ok-events.ensures.ok) in
    if_refused c.print_events.result c.print_events.ensures.err (λ fault h. text_failed g.W.Write.contents c.args.bytes.now _ c.args.out.now c.print_events.new.out fault r h)
