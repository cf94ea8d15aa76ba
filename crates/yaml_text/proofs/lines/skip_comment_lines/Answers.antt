use Rattle.std.proofs.Common.{◌<◌, ap, refl, arith}
use Rattle.std.proofs.lemmas.Str.{IsUtf8-had}
use Rattle.yaml_text.specs.Source.{text_of, place_of}
use Rattle.yaml_definitions.specs.grammar.Rules.{Spans}
use Rattle.yaml_text.proofs.PlaceLemmas.{place_less}
use Rattle.yaml_text.proofs.LineRuns.{after_uncut, spaces_uncut}
use Rattle.yaml_text.proofs.Repeats.{spans_push, spans_join}
use Rattle.yaml_text.proofs.RestLemmas.{blank_more, blank_after, comment_line_is, no_blank, no_comment_line, no_comment_here}
use Rattle.yaml_text.proofs.lines.skip_comment_lines.Goals as goal

pub lines-init : goal.lines-init
lines-init c = record {
  border = c.requires.border;
  onward = omega arith;
  after = c.requires.after;
  lines = Spans.done refl;
}

pub skip_comment-requires : goal.skip_comment-requires
skip_comment-requires c =
    let e = c.skip_empty_lines-start.ensures in
    record { border = e.border; uncut = spaces_uncut (text_of c.args.source.now) _ _ e.spaces (after_uncut (text_of c.args.source.now) _ e.after) }

pub lines-preserved : goal.lines-preserved
lines-preserved c =
    let cs = text_of c.args.source.now in
    let e = c.skip_empty_lines-start.ensures in
    let s = c.in-Some.ensures in
    let v = c.lines.invariant in
    let start = c.skip_empty_lines-start.result.0 in
    let further : start < c.in-Some.after = omega (arith, s.onward, e.further, c.if-after-start.false) in
    let on : place_of c.args.source.now start < place_of c.args.source.now c.in-Some.after =
    place_less _ _ _ (IsUtf8-had c.args.source.now.text.now c.args.source.now.utf8) e.start s.border further in
    let line = blank_more cs _ _ _ e.spaces s.some in
    record {
      border = s.border;
      onward = omega (arith, v.onward, e.onward, further);
      after = blank_after cs _ _ line;
      lines = spans_push (spans_join v.lines e.lines) (comment_line_is cs _ _ e.after line on);
    }

pub returns-in-None-clause-lines : goal.returns-in-None-clause-lines
returns-in-None-clause-lines c = spans_join c.lines.invariant.lines c.skip_empty_lines-start.ensures.lines

pub returns-in-None-clause-furthest : goal.returns-in-None-clause-furthest
returns-in-None-clause-furthest c =
    let cs = text_of c.args.source.now in
    let e = c.skip_empty_lines-start.ensures in
    no_comment_line cs _ (no_blank cs _ _ e.spaces e.furthest c.in-None.ensures.hash c.in-None.ensures.none)

pub returns-then-after-start-clause-lines : goal.returns-then-after-start-clause-lines
returns-then-after-start-clause-lines c = spans_join c.lines.invariant.lines c.skip_empty_lines-start.ensures.lines

pub returns-then-after-start-clause-furthest : goal.returns-then-after-start-clause-furthest
returns-then-after-start-clause-furthest c =
    let cs = text_of c.args.source.now in
    let e = c.skip_empty_lines-start.ensures in
    no_comment_here cs _ _ (blank_more cs _ _ _ e.spaces c.in-Some.ensures.some) (ap (place_of c.args.source.now) c.if-after-start.true)
