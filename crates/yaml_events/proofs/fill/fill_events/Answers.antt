use Rattle.std.proofs.Common.{[], ◌∷◌, ◌++◌, length, refl, sym, ap, ◌∙◌, arith}
use Rattle.yaml_text.specs.EventModel.{event_of}
use Rattle.yaml_definitions.specs.model.EventText.{event_line}
use Rattle.yaml_events.proofs.LineText.{events_none, line_more, line_within}
use Rattle.yaml_events.proofs.fill.fill_events.Goals as goal

pub lines-init : goal.lines-init
lines-init c = record { text = c.new-text.ensures.text ∙ sym events_none; lent = refl }

pub lines-preserved : goal.lines-preserved
lines-preserved c =
    let v = c.lines.invariant in
    let event = c.event-item.result in
    record {
      text = c.in_ok-put_line.ensures.ok ∙ ap (λ x. x ++ (event_line (event_of event) ++ (10 ∷ []))) v.text ∙ sym (line_more event_of c.args.events.now c.lines.event-index event c.lines-test.true c.event-item.is);
      lent = c.in_ok-put_line.ensures.lent ∙ v.lent;
    }

-- each line has room
pub returns-in_err-put_line-clause-done : goal.returns-in_err-put_line-clause-done
returns-in_err-put_line-clause-done c =
    let within = line_within event_of c.args.events.now c.lines.event-index c.event-item.result c.lines-test.true c.event-item.is in
    let text = ap length c.lines.invariant.text in
    let long = ap (λ p. p.1) c.lines.invariant.lent in
    let given = ap length c.new-text.ensures.bytes in
    absurd (omega (arith, within, text, long, given, c.requires, c.in_err-put_line.ensures.full))

pub returns-in_err-put_line-clause-text : goal.returns-in_err-put_line-clause-text
returns-in_err-put_line-clause-text c =
    let within = line_within event_of c.args.events.now c.lines.event-index c.event-item.result c.lines-test.true c.event-item.is in
    let text = ap length c.lines.invariant.text in
    let long = ap (λ p. p.1) c.lines.invariant.lent in
    let given = ap length c.new-text.ensures.bytes in
    absurd (omega (arith, within, text, long, given, c.requires, c.in_err-put_line.ensures.full))
