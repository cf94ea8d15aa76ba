use Rattle.std.proofs.Common.{◌++◌, ◌∷◌, [], ℕ, sym, ap, ◌∙◌, take, map}
use Rattle.std.proofs.lemmas.List.{map_more}
use Rattle.yaml_text.specs.EventModel.{event_of}
use Rattle.yaml_definitions.specs.model.EventText.{events_text, event_line}
use Rattle.yaml_events.proofs.LineText.{events_none, events_line_more}
use Rattle.yaml_events.proofs.writer.write_events.Goals as goal

pub lines-init : goal.lines-init
lines-init c = c.new-out.ensures.bytes ∙ sym events_none

pub lines-preserved : goal.lines-preserved
lines-preserved c =
    let i : ℕ = c.lines.event-index in
    let event = c.event-item.result in
    let d = map_more event_of c.args.events.now i event c.lines-test.true in
    c.in_ok-push_line.ensures.ok ∙ ap (λ x. x ++ (event_line (event_of event) ++ (10 ∷ []))) c.lines.invariant
    ∙ sym (events_line_more (map event_of (take i c.args.events.now)) (event_of event)) ∙ ap events_text (sym (d ∙ ap (λ z. map event_of (take i c.args.events.now) ++ (event_of z ∷ [])) (sym c.event-item.is)))
