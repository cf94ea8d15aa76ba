use Rattle.std.proofs.Common.{◌≡◌, ◌+◌, ℕ, List, [], ◌∷◌, ◌++◌, length, take, map, string_bytes, sym, ap, ◌∙◌, subst, arith}
use Rattle.std.proofs.lemmas.List.{append-nil}
use Rattle.yaml_text.specs.EventModel.{event_of}
use Rattle.yaml_definitions.specs.model.EventText.{event_line, events_text}
use Rattle.yaml_events.specs.Overwriting.{Overwrites, Fills}
use Rattle.yaml_events.proofs.LineText.{events_none, line_more, line_within, all_lines}
use Rattle.yaml_events.proofs.Pages.{Has, has_none, has_more, page_fits, fills_last, room_at}
use Rattle.yaml_events.proofs.fill.turn_pages.Goals as goal

pub lines-init : goal.lines-init
lines-init c = record {
  has = has_none _ _ _ (events_none ∙ sym c.requires.empty);
  short = omega (arith, ap length c.requires.empty, c.args.page.now.bytes.ok.0);
  kept = omega arith;
}

-- each line has room in the page
pub returns-in_err-push_line-clause-done : goal.returns-in_err-push_line-clause-done
returns-in_err-push_line-clause-done c =
    let room = room_at event_of c.args.events.now c.lines.event-index c.event-item.result _ c.lines-test.true c.event-item.is c.requires.lines in
    absurd (omega (arith, room, c.in_err-push_line.ensures.full, c.lines.invariant.short, c.lines.invariant.kept))

-- and the page in the room
pub turn-at-requires : goal.turn-at-requires
turn-at-requires c =
    let v = c.lines.invariant in
    let within = line_within event_of c.args.events.now c.lines.event-index c.event-item.result c.lines-test.true c.event-item.is in
    let line : List ℕ = event_line (event_of c.event-item.result) ++ (10 ∷ []) in
    let f = page_fits _ line _ (string_bytes c.push_line.new.out) _ _ _ v.has c.in_ok-push_line.ensures.ok (omega (arith, within, c.requires.long)) in
    omega (arith, f, c.push_line.new.out.bytes.ok.0)

pub lines-preserved : goal.lines-preserved
lines-preserved c =
    let v = c.lines.invariant in
    record {
      has = subst (λ z. Has z (string_bytes c.turn-at.new.page) c.args.room.now c.turn-at.new.room c.turn-at.result) (sym (line_more event_of c.args.events.now c.lines.event-index c.event-item.result c.lines-test.true c.event-item.is)) (has_more _ _ _ _ _ _ _ _ _ _ v.has c.in_ok-push_line.ensures.ok c.turn-at.ensures.turns);
      short = c.turn-at.ensures.short;
      kept = omega (arith, v.kept, c.in_ok-push_line.ensures.keeps, c.turn-at.ensures.keeps);
    }

pub put_page-requires : goal.put_page-requires
put_page-requires c =
    let end : c.lines.event-index ≡ length c.args.events.now = omega (arith, c.lines-test.false, c.lines.auto.event-index-end) in
    let all = ap length (all_lines event_of c.args.events.now c.lines.event-index end) in
    page_fits _ [] _ _ _ _ _ c.lines.invariant.has (c.as_str.ensures.value ∙ sym (append-nil _)) (omega (arith, all, c.requires.long))

pub returns-clause-fills : goal.returns-clause-fills
returns-clause-fills c =
    let end : c.lines.event-index ≡ length c.args.events.now = omega (arith, c.lines-test.false, c.lines.auto.event-index-end) in
    let page = string_bytes c.lines.page in
    let put : Overwrites page c.lines.at c.lines.room c.put_page.new.room = subst (λ z. Overwrites z c.lines.at c.lines.room c.put_page.new.room) c.as_str.ensures.value c.put_page.ensures in
    let long : length page ≡ c.len.result = omega (arith, c.len.ensures, c.lines.page.bytes.ok.0) in
    let fills : Fills (events_text (map event_of (take c.lines.event-index c.args.events.now))) c.args.room.now c.put_page.new.room (c.lines.at + length page) =
    fills_last _ page c.args.room.now c.lines.room c.put_page.new.room c.lines.at c.lines.invariant.has put in
    subst (λ z. Fills z c.args.room.now c.put_page.new.room (c.lines.at + c.len.result)) (all_lines event_of c.args.events.now c.lines.event-index end)
    (subst (λ n. Fills (events_text (map event_of (take c.lines.event-index c.args.events.now))) c.args.room.now c.put_page.new.room (c.lines.at + n)) long fills)
