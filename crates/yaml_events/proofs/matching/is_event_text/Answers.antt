use Rattle.std.proofs.Common.{◌≢◌, false, List, ℕ, map, refl, sym, subst, arith}
use Rattle.std.specs.Prelude.{Some, None}
use Rattle.std.specs.Option.{option_map}
use Rattle.std.specs.Str.{IsUtf8, IsCharBoundary}
use Rattle.std.proofs.lemmas.List.{nil_from_length}
use Rattle.std.proofs.lemmas.List.Elements.{All-from_get_or}
use Rattle.std.proofs.lemmas.Str.{IsUtf8-drop}
use Rattle.std.proofs.lemmas.Str.Pattern.{split_parts}
use Rattle.yaml_text.specs.EventModel.{event_of}
use Rattle.yaml_events.specs.LineAnswer.{RefusesEventText}
use Rattle.yaml_events.proofs.FirstBad.{no_feed_left, bad_line}
use Rattle.yaml_events.proofs.Holding.{NoneLeft, held_first, held_more, held_last, empty_length}
use Rattle.yaml_events.proofs.matching.is_event_text.Goals as goal

pub lines-init : goal.lines-init
lines-init c = held_first c.args.text.now (map event_of c.args.events.now) _ 0 refl refl c.utf8.text

pub returns-in_default-clause-refused : goal.returns-in_default-clause-refused
returns-in_default-clause-refused c =
    let rest : List ℕ = c.lines.rest.now in
    let f = split_parts 10 rest None c.in_default.ensures.cases (omega arith) in
    no_feed_left c.args.text.now rest _ _ _ c.lines.invariant.is_read refl c.lines-test.ensures (All-from_get_or (λ b. b ≢ 10) rest 0 f)

pub returns-in-Err-clause-refused : goal.returns-in-Err-clause-refused
returns-in-Err-clause-refused c =
    let rest : List ℕ = c.lines.rest.now in
    let line : List ℕ = c.in-Some.line.now in
    let f = split_parts 10 rest (Some (c.in-Some.line, c.in-Some.after)) c.in-Some.ensures.cases (omega arith) in
    subst (RefusesEventText c.args.text.now) (sym c.of_line.ensures)
    (bad_line c.args.text.now rest line c.in-Some.after.now _ _ _ c.in-Err.fault c.lines.invariant.is_read refl f.0 (All-from_get_or (λ b. b ≢ 10) line 0 f.1) c.in-Err.ensures.err)

pub lines-preserved : goal.lines-preserved
lines-preserved c =
    let rest : List ℕ = c.lines.rest.now in
    let line : List ℕ = c.in-Some.line.now in
    let f = split_parts 10 rest (Some (c.in-Some.line, c.in-Some.after)) c.in-Some.ensures.cases (omega arith) in
    let s = c.in-Some.ensures.cases in
    let u : IsUtf8 c.in-Some.after.now = subst IsUtf8 (sym s.4) (IsUtf8-drop rest s.1 c.lines.invariant.is_read.utf8 (subst (IsCharBoundary rest) (sym s.2.1.ends) s.2.1.after)) in
    let n = c.in-Ok.ensures.ok in
    held_more c.args.text.now rest line c.in-Some.after.now (map event_of c.args.events.now) n.0 _ _ _ _ c.lines.invariant f.0 (All-from_get_or (λ b. b ≢ 10) line 0 f.1) n.1 refl u n.2

pub returns-in-None-clause-told : goal.returns-in-None-clause-told
returns-in-None-clause-told c =
    held_last c.args.text.now c.lines.rest.now (map event_of c.args.events.now) (option_map (λ s. map event_of s.now) c.lines.left) _ false c.lines.invariant (nil_from_length c.lines.rest.now (empty_length c.lines.rest.now c.lines-test.ensures))
    (subst (λ o. NoneLeft (option_map (λ s. map event_of s.now) o) false) (sym c.in-None.is) refl)
