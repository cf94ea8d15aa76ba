use Rattle.std.proofs.Common.{◌++◌, ◌∷◌, [], ap, take, map, length, length-append, arith}
use Rattle.yaml_text.specs.EventModel.{event_of}
use Rattle.yaml_definitions.specs.model.EventText.{event_line, events_text}
use Rattle.yaml_events.proofs.LineText.{events_none, line_more}
use Rattle.yaml_events.proofs.measure.text_len.Goals as goal

pub lines-init : goal.lines-init
lines-init c = omega (arith, ap length events_none)

pub lines-preserved : goal.lines-preserved
lines-preserved c =
    let event = c.event-item.result in
    let front = events_text (map event_of (take c.lines.event-index c.args.events.now)) in
    let line = event_line (event_of event) ++ (10 ∷ []) in
    let m = ap length (line_more event_of c.args.events.now c.lines.event-index event c.lines-test.true c.event-item.is) in
    omega (arith, c.lines.invariant, m, length-append front line, c.line_len-more.ensures)
