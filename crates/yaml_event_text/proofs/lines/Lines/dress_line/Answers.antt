use Rattle.std.proofs.Common.{◌<◌, ◌≤◌, length, arith}
use Rattle.std.proofs.lemmas.Result.{on_ok_weaker}
use Rattle.yaml_sink.specs.PropertyRules.{props_of}
use Rattle.yaml_event_text.proofs.LineLaws.{beyond, dress_closed, dress_bare, dress_given}
use Rattle.yaml_event_text.proofs.lines.Lines.dress_line.Goals as goal

pub returns-then-event-len-clause-ok : goal.returns-then-event-len-clause-ok
returns-then-event-len-clause-ok c =
    let l : length c.args.self.now.starts.items ≤ c.args.event = omega (arith, c.if-event-len.true, c.len.ensures, c.args.self.now.starts.ok.0) in
    beyond c.args.self.now c.args.event (props_of c.args.properties.now) l

pub returns-in-Closed-clause-ok : goal.returns-in-Closed-clause-ok
returns-in-Closed-clause-ok c = dress_closed c.args.self.now c.args.event c.offset-at.result c.as_bytes.result.now (props_of c.args.properties.now) c.offset-at.ensures c.as_bytes.ensures.value c.in-Closed.ensures

pub returns-then-is_none-clause-ok : goal.returns-then-is_none-clause-ok
returns-then-is_none-clause-ok c =
    dress_bare c.args.self.now c.args.event c.offset-at.result c.as_bytes.result.now (props_of c.args.properties.now) c.offset-at.ensures c.as_bytes.ensures.value c.in-Behind.place c.if-is_none.ensures.yes c.in-Behind.ensures

pub returns-in_ok-spell-in-Behind-clause-ok : goal.returns-in_ok-spell-in-Behind-clause-ok
returns-in_ok-spell-in-Behind-clause-ok c =
    let l : c.args.event < length c.args.self.now.starts.items = omega (arith, c.if-event-len.false, c.len.ensures, c.args.self.now.starts.ok.0) in
    on_ok_weaker c.give.result (λ g. dress_given c.args.self.now c.args.event c.offset-at.result c.as_bytes.result.now (props_of c.args.properties.now) c.offset-at.ensures c.as_bytes.ensures.value
    c.spell.new.self c.give.new.self c.in-Behind.place l c.in-Behind.ensures c.spell.ensures.beside c.in_ok-spell-in-Behind.ensures.ok g) c.give.ensures.ok
