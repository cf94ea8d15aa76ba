use Rattle.std.proofs.Common.{◌≢◌, ◌+◌, ◌∷◌, [], List, ℕ, map, sym, ap, subst, ◌∙◌, arith}
use Rattle.std.specs.Prelude.{Some, None}
use Rattle.std.specs.Str.{IsUtf8, IsCharBoundary}
use Rattle.std.proofs.lemmas.List.{map-append}
use Rattle.std.proofs.lemmas.List.Elements.{All-from_get_or}
use Rattle.std.proofs.lemmas.Str.{IsUtf8-drop}
use Rattle.std.proofs.lemmas.Str.Pattern.{split_parts}
use Rattle.yaml_text.specs.EventModel.{event_of}
use Rattle.yaml_events.specs.LineAnswer.{RefusesEventText}
use Rattle.yaml_events.proofs.FirstBad.{read_none, read_more, no_feed_left, bad_line}
use Rattle.yaml_events.proofs.Reading.{refusal}
use Rattle.yaml_events.specs.Parts.{IsLineOf}
use Rattle.yaml_events.proofs.reader.read_event_text.Goals as goal

pub lines-init : goal.lines-init
lines-init c = read_none c.args.text.now (map event_of c.new-events.result.items) _ (ap (map event_of) c.new-events.ensures.items) c.new-events.ensures.len c.utf8.text

pub is_empty-requires-text-self : goal.is_empty-requires-text-self
is_empty-requires-text-self c = λ κs. c.lines.invariant.utf8

pub split_once-requires : goal.split_once-requires
split_once-requires c = tt

pub returns-in_default-clause-refused : goal.returns-in_default-clause-refused
returns-in_default-clause-refused c =
    let rest : List ℕ = c.lines.rest.now in
    let f = split_parts 10 rest None c.in_default.ensures.cases (omega arith) in
    no_feed_left c.args.text.now rest _ _ _ c.lines.invariant (ap (λ z. z + 1) c.len-number.ensures) c.lines-test.ensures (All-from_get_or (λ b. b ≢ 10) rest 0 f)

pub returns-in-Err-clause-refused : goal.returns-in-Err-clause-refused
returns-in-Err-clause-refused c =
    let rest : List ℕ = c.lines.rest.now in
    let line : List ℕ = c.in-Some.line.now in
    let f = split_parts 10 rest (Some (c.in-Some.line, c.in-Some.after)) c.in-Some.ensures.cases (omega arith) in
    subst (RefusesEventText c.args.text.now) (sym c.of_line.ensures)
    (bad_line c.args.text.now rest line c.in-Some.after.now _ _ _ c.in-Err.fault c.lines.invariant (ap (λ z. z + 1) c.len-number.ensures) f.0 (All-from_get_or (λ b. b ≢ 10) line 0 f.1)
    (refusal (IsLineOf line) (IsLineOf line) event_of c.in-Err.fault c.in-Err.ensures))

pub lines-preserved : goal.lines-preserved
lines-preserved c =
    let rest : List ℕ = c.lines.rest.now in
    let line : List ℕ = c.in-Some.line.now in
    let f = split_parts 10 rest (Some (c.in-Some.line, c.in-Some.after)) c.in-Some.ensures.cases (omega arith) in
    let s = c.in-Some.ensures.cases in
    let u : IsUtf8 c.in-Some.after.now = subst IsUtf8 (sym s.4) (IsUtf8-drop rest s.1 c.lines.invariant.utf8 (subst (IsCharBoundary rest) (sym s.2.1.ends) s.2.1.after)) in
    read_more c.args.text.now rest line c.in-Some.after.now (map event_of c.lines.events.items) _ (event_of c.in-Ok.event) _ _ c.lines.invariant f.0 (All-from_get_or (λ b. b ≢ 10) line 0 f.1) c.in-Ok.ensures.0
    (ap (map event_of) c.in_ok-push-in-Ok.ensures.items ∙ map-append event_of c.lines.events.items (c.in-Ok.event ∷ [])) c.in_ok-push-in-Ok.ensures.len u
