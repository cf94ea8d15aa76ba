use Rattle.std.proofs.Common.{◌<◌, inl, arith, refl}
use Rattle.std.proofs.lemmas.Str.{IsUtf8-had}
use Rattle.yaml_text.specs.Source.{text_of, place_of}
use Rattle.yaml_definitions.specs.grammar.Rules.{Spans}
use Rattle.yaml_text.proofs.PlaceLemmas.{place_less}
use Rattle.yaml_text.proofs.Repeats.{spans_push}
use Rattle.yaml_text.proofs.LineRuns.{indent_run, after_uncut, spaces_uncut, to_brk, brk_line_end}
use Rattle.yaml_text.proofs.RestLemmas.{blank_end, blank_after, comment_line_is}
use Rattle.yaml_text.proofs.lines.skip_empty_lines.Goals as goal

pub empty-init : goal.empty-init
empty-init c = record {
  border = c.requires.border;
  onward = omega arith;
  after = c.requires.after;
  lines = Spans.done refl;
}

pub empty-preserved : goal.empty-preserved
empty-preserved c =
    let cs = text_of c.args.source.now in
    let e = c.skip_spaces-end.ensures in
    let s = c.in-Some.ensures.some in
    let v = c.empty.invariant in
    let spaces = indent_run cs _ _ _ e.spaces in
    let feed = brk_line_end cs _ _ (to_brk cs _ _ (spaces_uncut cs _ _ spaces (after_uncut cs _ v.after)) (inl (s.is, s.next))) in
    let line = blank_end cs _ _ _ spaces feed in
    let further : c.empty.line < c.in-Some.to = omega (arith, e.onward, s.forward) in
    let on : place_of c.args.source.now c.empty.line < place_of c.args.source.now c.in-Some.to =
    place_less _ _ _ (IsUtf8-had c.args.source.now.text.now c.args.source.now.utf8) v.border s.border further in
    record {
      border = s.border;
      onward = omega (arith, v.onward, further);
      after = blank_after cs _ _ line;
      lines = spans_push v.lines (comment_line_is cs _ _ v.after line on);
    }

pub returns-in-None-clause-spaces : goal.returns-in-None-clause-spaces
returns-in-None-clause-spaces c = indent_run (text_of c.args.source.now) _ _ _ c.skip_spaces-end.ensures.spaces
