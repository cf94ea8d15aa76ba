use Rattle.std.proofs.Common.{◌<◌, ◌≤◌, ◌++◌, sym, ◌∙◌, ap, subst, arith}
use Rattle.std.specs.Prelude.{slice_range}
use Rattle.yaml_text.specs.Source.{text_of, place_of}
use Rattle.yaml_definitions.specs.grammar.Rules.{any}
use Rattle.yaml_text.specs.EventModel.{context_of}
use Rattle.yaml_scalar.specs.Chains.{line_more}
use Rattle.yaml_definitions.specs.grammar.Characters.{is_white}
use Rattle.yaml_text.proofs.Tests.{on_true_at}
use Rattle.yaml_text.proofs.PlaceLemmas.{slice_join}
use Rattle.yaml_text.proofs.Runs.{run_none, run_more, no_stand_end, nothing_there}
use Rattle.yaml_scalar.proofs.AnyLemmas.{any_snoc, any_append, any_onward}
use Rattle.yaml_scalar.proofs.PlainLemmas.{line_stop, no_later_end, line_onward, line_inner}
use Rattle.yaml_scalar.proofs.plain.line_end.Goals as goal

pub line-init : goal.line-init
line-init c =
    let cs = text_of c.args.source.now in
    let p = c.skip_plain-end.ensures in
    record {
      border = p.border;
      ends = p.border;
      onward = p.onward;
      further = omega arith;
      whites = run_none cs is_white (place_of c.args.source.now c.skip_plain-end.result);
      line = line_inner cs (context_of c.args.context) _ _ p.plain;
    }

pub returns-in-None-clause-furthest : goal.returns-in-None-clause-furthest
returns-in-None-clause-furthest c =
    let cs = text_of c.args.source.now in
    let n = c.in-None.ensures.none in
    line_stop cs _ _ _ c.line.invariant.whites (no_stand_end cs is_white _ n) (no_later_end cs _ _ n) (λ e h. nothing_there cs _ 35 n h)

pub line-preserved-then-is_white : goal.line-preserved-then-is_white
line-preserved-then-is_white c =
    let cs = text_of c.args.source.now in
    let s = c.in-Some.ensures.some in
    let v = c.line.invariant in
    record {
      border = s.border;
      ends = v.ends;
      onward = v.onward;
      further = omega (arith, v.further, s.forward);
      whites = run_more cs is_white _ _ _ _ v.whites s.is (sym c.is_white.ensures ∙ c.if-is_white.true) s.next;
      line = v.line;
    }

pub line-preserved : goal.line-preserved
line-preserved c =
    let cs = text_of c.args.source.now in
    let ctx = context_of c.args.context in
    let s = c.in-Some.ensures.some in
    let v = c.line.invariant in
    let p = c.skip_plain-end-then-goes_on.ensures in
    let i = place_of c.args.source.now c.args.from in
    let k = place_of c.args.source.now c.line.end in
    let j = place_of c.args.source.now c.in-Some.to in
    let m = place_of c.args.source.now c.skip_plain-end-then-goes_on.result in
    let more = on_true_at c.goes_on.result c.if-goes_on.true c.goes_on.ensures.yes in
    let first : i ≤ k = any_onward (line_onward cs ctx) v.line in
    let second : k < j = line_onward cs ctx k j _ more in
    let third : j ≤ m = p.plain.0 in
    record {
      border = p.border;
      ends = p.border;
      onward = omega (arith, v.onward, v.further, s.forward, p.onward);
      further = omega arith;
      whites = run_none cs is_white m;
      line = subst (any (line_more cs ctx) i m)
          (sym (slice_join cs i j m (omega (arith, first, second)) third ∙ ap (λ z. z ++ slice_range cs j m) (slice_join cs i k j first (omega (arith, second)))))
          (any_append (any_snoc v.line more) (line_inner cs ctx j m p.plain));
    }
