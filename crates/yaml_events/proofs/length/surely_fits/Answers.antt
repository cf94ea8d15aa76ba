use Rattle.std.proofs.Common.{◌≡◌, ◌++◌, ◌∷◌, [], ap, take, map, length, length-append, arith}
use Rattle.yaml_text.specs.EventModel.{event_of}
use Rattle.yaml_definitions.specs.model.EventText.{event_line, events_text}
use Rattle.yaml_events.proofs.LineText.{events_none, line_more, all_lines}
use Rattle.yaml_events.proofs.length.surely_fits.Goals as goal

pub lines-init : goal.lines-init
lines-init c = omega (arith, ap length events_none)

pub lines-preserved : goal.lines-preserved
lines-preserved c =
    let event = c.event-item.result in
    let front = events_text (map event_of (take c.lines.event-index c.args.events.now)) in
    let line = event_line (event_of event) ++ (10 ∷ []) in
    let m = ap length (line_more event_of c.args.events.now c.lines.event-index event c.lines-test.true c.event-item.is) in
    omega (arith, c.lines.invariant, m, length-append front line, c.line_bound-most.ensures)

pub returns : goal.returns
returns c =
    let end : c.lines.event-index ≡ length c.args.events.now = omega (arith, c.lines-test.false, c.lines.auto.event-index-end) in
    λ _. omega (arith, c.lines.invariant, ap length (all_lines event_of c.args.events.now c.lines.event-index end))
