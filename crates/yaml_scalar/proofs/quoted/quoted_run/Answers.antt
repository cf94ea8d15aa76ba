use Rattle.std.proofs.Common.{◌<◌, ◌≤◌, ◌++◌, sym, ◌∙◌, ap, subst, arith}
use Rattle.std.specs.Prelude.{slice_range}
use Rattle.yaml_text.specs.Source.{text_of, place_of}
use Rattle.yaml_definitions.specs.grammar.Rules.{any}
use Rattle.yaml_scalar.specs.Chains.{quoted_more, verbatim}
use Rattle.yaml_definitions.specs.grammar.Characters.{is_white}
use Rattle.yaml_text.proofs.PlaceLemmas.{slice_join}
use Rattle.yaml_text.proofs.Runs.{run_none, run_more, no_stand_end}
use Rattle.yaml_scalar.proofs.AnyLemmas.{any_snoc, any_append, any_onward}
use Rattle.yaml_scalar.proofs.QuotedLemmas.{quoted_is, quoted_onward, line_quoted}
use Rattle.yaml_scalar.proofs.quoted.quoted_run.Goals as goal

pub line-init : goal.line-init
line-init c =
    let cs = text_of c.args.source.now in
    let p = c.skip_quoted-end.ensures in
    record {
      border = p.border;
      ends = p.border;
      onward = p.onward;
      further = omega arith;
      whites = run_none cs is_white (place_of c.args.source.now c.skip_quoted-end.result);
      line = line_quoted cs c.args.quote _ _ p.text;
    }

pub returns-in-None-clause-no_white : goal.returns-in-None-clause-no_white
returns-in-None-clause-no_white c = no_stand_end (text_of c.args.source.now) is_white _ c.in-None.ensures.none

pub returns-in-None-clause-no_text : goal.returns-in-None-clause-no_text
returns-in-None-clause-no_text c = no_stand_end (text_of c.args.source.now) (verbatim c.args.quote) _ c.in-None.ensures.none

pub line-preserved-then-is_white : goal.line-preserved-then-is_white
line-preserved-then-is_white c =
    let cs = text_of c.args.source.now in
    let s = c.in-Some.ensures.some in
    let v = c.line.invariant in
    record {
      border = s.border;
      ends = v.ends;
      onward = v.onward;
      further = omega (arith, v.further, s.forward);
      whites = run_more cs is_white _ _ _ _ v.whites s.is (sym c.is_white.ensures ∙ c.if-is_white.true) s.next;
      line = v.line;
    }

pub line-preserved : goal.line-preserved
line-preserved c =
    let cs = text_of c.args.source.now in
    let q = c.args.quote in
    let s = c.in-Some.ensures.some in
    let v = c.line.invariant in
    let p = c.skip_quoted-end-then-is_verbatim.ensures in
    let i = place_of c.args.source.now c.args.from in
    let k = place_of c.args.source.now c.line.end in
    let j = place_of c.args.source.now c.in-Some.to in
    let m = place_of c.args.source.now c.skip_quoted-end-then-is_verbatim.result in
    let more = quoted_is cs q k _ j _ v.whites s.is (sym c.is_verbatim.ensures ∙ c.if-is_verbatim.true) s.next in
    let first : i ≤ k = any_onward (quoted_onward cs q) v.line in
    let second : k < j = quoted_onward cs q k j _ more in
    let third : j ≤ m = p.text.0 in
    record {
      border = p.border;
      ends = p.border;
      onward = omega (arith, v.onward, v.further, s.forward, p.onward);
      further = omega arith;
      whites = run_none cs is_white m;
      line = subst (any (quoted_more cs q) i m)
          (sym (slice_join cs i j m (omega (arith, first, second)) third ∙ ap (λ z. z ++ slice_range cs j m) (slice_join cs i k j first (omega (arith, second)))))
          (any_append (any_snoc v.line more) (line_quoted cs q j m p.text));
    }
