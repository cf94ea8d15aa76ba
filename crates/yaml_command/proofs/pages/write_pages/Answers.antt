use Rattle.std.proofs.Common.{◌≡◌, ◌+◌, ℕ, List, [], ◌∷◌, ◌++◌, length, take, drop, map, sym, ap, ◌∙◌, subst, arith, rules}
use Rattle.std.proofs.lemmas.Result.{on_ok_weaker}
use Rattle.yaml_text.specs.EventModel.{event_of}
use Rattle.yaml_definitions.specs.model.EventText.{event_line, events_text}
use Rattle.yaml_command.proofs.FileLaws.{if_refused}
use Rattle.yaml_text.specs.Writers.{Printed}
use Rattle.yaml_events.proofs.LineText.{events_none, events_cut, line_more, all_lines}
use Rattle.yaml_events.proofs.Pages.{room_at}
use Rattle.yaml_command.specs.Pages.{PageHas}
use Rattle.yaml_command.specs.Printing.{PrintFails}
use Rattle.yaml_command.proofs.PageLaws.{has_none, has_more, printed_whole, fails_last, fails_before}
use Rattle.yaml_command.proofs.pages.write_pages.Goals as goal

pub lines-init : goal.lines-init
lines-init g c =
    let page = c.args.page.now in
    record {
      has = subst (PageHas g.W.Write.contents page c.args.out.now c.args.out.now) (c.requires.empty ∙ sym events_none) (has_none g.W.Write.contents page c.args.out.now);
      short = omega (arith, ap length c.requires.empty, page.bytes.ok.0);
      kept = omega arith;
    }

-- each line has room
pub returns-in_err-push_line-clause-err : goal.returns-in_err-push_line-clause-err
returns-in_err-push_line-clause-err g c =
    let room = room_at event_of c.args.events.now c.lines.event-index c.event-item.result _ c.lines-test.true c.event-item.is c.requires.room in
    absurd (omega (arith, room, c.in_err-push_line.ensures.full, c.lines.invariant.short, c.lines.invariant.kept))

pub returns-in_err-make_room-clause-err : goal.returns-in_err-make_room-clause-err
returns-in_err-make_room-clause-err g c =
    let events = c.args.events.now in
    let i : ℕ = c.lines.event-index in
    let line : List ℕ = event_line (event_of c.event-item.result) ++ (10 ∷ []) in
    let more : List ℕ = events_text (map event_of (drop (i + 1) events)) in
    let cut : events_text (map event_of events) ≡ (events_text (map event_of (take i events)) ++ line) ++ more =
    events_cut event_of events (i + 1) ∙ ap (λ z. z ++ more) (line_more event_of events i c.event-item.result c.lines-test.true c.event-item.is) in
    let b = fails_before g.W.Write.contents c.lines.page c.push_line.new.out c.args.out.now c.lines.out c.make_room.new.out _ line more (events_text (map event_of events)) c.in_err-make_room.field-0.0
    c.requires.few c.lines.invariant.has c.in_ok-push_line.ensures.ok c.in_err-make_room.ensures.err cut in
    search (rules, b)

pub lines-preserved : goal.lines-preserved
lines-preserved g c =
    let events = c.args.events.now in
    let i : ℕ = c.lines.event-index in
    record {
      has = subst (PageHas g.W.Write.contents c.make_room.new.page c.args.out.now c.make_room.new.out) (sym (line_more event_of events i c.event-item.result c.lines-test.true c.event-item.is))
          (has_more g.W.Write.contents c.lines.page c.push_line.new.out c.make_room.new.page c.args.out.now c.lines.out c.make_room.new.out _ _ c.lines.invariant.has c.in_ok-push_line.ensures.ok c.in_ok-make_room.ensures.ok);
      short = c.in_ok-make_room.ensures.room;
      kept = omega (arith, c.lines.invariant.kept, c.in_ok-push_line.ensures.keeps, c.in_ok-make_room.ensures.keeps);
    }

pub returns-clause-ok : goal.returns-clause-ok
returns-clause-ok g c =
    let events = c.args.events.now in
    let end : c.lines.event-index ≡ length events = omega (arith, c.lines-test.false, c.lines.auto.event-index-end) in
    on_ok_weaker c.write_out.result (λ p. subst (Printed g.W.Write.contents c.args.out.now c.write_out.new.out) (all_lines event_of events c.lines.event-index end)
    (printed_whole g.W.Write.contents c.lines.page c.args.out.now c.lines.out c.write_out.new.out _ c.lines.invariant.has (subst (Printed g.W.Write.contents c.lines.out c.write_out.new.out) c.as_bytes.ensures.value p))) c.write_out.ensures.ok

pub returns-clause-err : goal.returns-clause-err
returns-clause-err g c =
    let events = c.args.events.now in
    let end : c.lines.event-index ≡ length events = omega (arith, c.lines-test.false, c.lines.auto.event-index-end) in
    if_refused {P = PrintFails g.W.Write.contents c.lines.out c.write_out.new.out c.as_bytes.result.now} c.write_out.result c.write_out.ensures.err (λ fault p. subst (λ z. PrintFails g.W.Write.contents c.args.out.now c.write_out.new.out z fault) (all_lines event_of events c.lines.event-index end)
    (fails_last g.W.Write.contents c.lines.page c.args.out.now c.lines.out c.write_out.new.out _ fault c.lines.invariant.has (subst (λ z. PrintFails g.W.Write.contents c.lines.out c.write_out.new.out z fault) c.as_bytes.ensures.value p)))
