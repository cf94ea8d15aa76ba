use Rattle.std.proofs.Common.{◌<◌, arith, sym, subst, inl, inr}
use Rattle.yaml_definitions.specs.grammar.Rules.{◌⊔◌, any}
use Rattle.yaml_text.specs.Source.{text_of, place_of}
use Rattle.yaml_scalar.specs.Chains.{margin}
use Rattle.yaml_text.specs.Lines.{LooksLikeMarker}
use Rattle.yaml_definitions.specs.grammar.Separation.{s-indent-less-than as less, DocumentMark}
use Rattle.yaml_scalar.proofs.AnyLemmas.{any_none, any_snoc}
use Rattle.yaml_scalar.proofs.OutcomeLemmas.{replicate_snoc}
use Rattle.yaml_text.proofs.Tests.{on_true_at, on_false_at, on_either}
use Rattle.yaml_scalar.proofs.GapLemmas.{lead_is, lead_none, short_none, whole_none, empty_is, empty, margin_white}
use Rattle.yaml_text.proofs.Breaks.{ns_here, ns_nowhere, starts_line, after_white, mark_starts, mark_dashes, mark_is}
use Rattle.std.proofs.lemmas.Str.{IsUtf8-had}
use Rattle.yaml_text.proofs.PlaceLemmas.{place_less}
use Rattle.yaml_scalar.proofs.line.read_lead.Goals as goal
use Rattle.yaml_scalar.proofs.line.read_lead.Goals.{else-after-line-via-then-after-line+else-is_mark, else-after-line-via-else-after-line}

pub lines-init : goal.lines-init
lines-init c = record { border = c.requires.border; onward = omega arith; counted = omega arith; start = c.requires.start; lines = any_none }

pub lines-preserved : goal.lines-preserved
lines-preserved c =
    let cs = text_of c.args.source.now in
    let m = c.read_margin-after.ensures in
    let b = c.in-Some.ensures in
    let blank : (margin cs c.args.least ⊔ less cs c.args.least) (place_of c.args.source.now c.lines.line) (place_of c.args.source.now c.read_margin-after.result.0) =
    on_either c.read_margin-after.result.1 m.whole m.short (λ p. inl p.0) (λ p. inr p.0) in
    record {
      border = b.border;
      onward = omega (arith, m.onward, b.onward, c.lines.invariant.onward);
      counted = omega (arith, m.onward, b.onward, c.lines.invariant.counted);
      start = starts_line cs _ _ b.some;
      lines = subst (any (empty cs c.args.least) (place_of c.args.source.now c.args.at) (place_of c.args.source.now c.in-Some.to)) (sym (replicate_snoc c.lines.count 10))
          (any_snoc c.lines.invariant.lines (empty_is cs _ _ _ _ blank b.some));
    }

pub returns-then-not-whole-clause-none : goal.returns-then-not-whole-clause-none
returns-then-not-whole-clause-none c =
    let s = on_false_at c.read_margin-after.result.1 c.if-not-whole.true c.read_margin-after.ensures.short in
    lead_none (text_of c.args.source.now) c.args.least _ _ _ c.lines.invariant.lines (short_none _ _ _ _ s.0 s.1 c.in-None.ensures.none)

pub returns-then-is_mark-clause-none : goal.returns-then-is_mark-clause-none
returns-then-is_mark-clause-none c =
    let cs = text_of c.args.source.now in
    let s = on_true_at c.read_margin-after.result.1 c.if-not-whole.false c.read_margin-after.ensures.whole in
    let d = on_true_at c.is_mark.result c.if-is_mark.true c.is_mark.ensures.yes in
    let m : DocumentMark cs (place_of c.args.source.now c.read_margin-after.result.0) =
    subst (λ x. DocumentMark cs (place_of c.args.source.now x)) (sym c.if-after-line.true) (mark_is cs _ c.lines.invariant.start d) in
    lead_none cs c.args.least _ _ _ c.lines.invariant.lines (whole_none _ _ _ _ s.0 s.1 c.in-None.ensures.none (λ a b. b m))

pub returns-in-None-next-clause-none : goal.returns-in-None-next-clause-none
returns-in-None-next-clause-none c =
    let s = on_true_at c.read_margin-after.result.1 c.if-not-whole.false c.read_margin-after.ensures.whole in
    lead_none (text_of c.args.source.now) c.args.least _ _ _ c.lines.invariant.lines (whole_none _ _ _ _ s.0 s.1 c.in-None.ensures.none (λ a b. ns_nowhere (text_of c.args.source.now) (place_of c.args.source.now c.read_margin-after.result.0) c.in-None-next.ensures.none a))

pub returns-in-Some-next-clause-lead : goal.returns-in-Some-next-clause-lead
returns-in-Some-next-clause-lead c =
    let s = on_true_at c.read_margin-after.result.1 c.if-not-whole.false c.read_margin-after.ensures.whole in
    lead_is (text_of c.args.source.now) c.args.least _ _ _ _ c.lines.invariant.lines s.0

pub returns-in-Some-next-clause-text : goal.returns-in-Some-next-clause-text
returns-in-Some-next-clause-text c =
    let s = on_true_at c.read_margin-after.result.1 c.if-not-whole.false c.read_margin-after.ensures.whole in
    ns_here (text_of c.args.source.now) _ _ c.in-Some-next.ensures.some.is s.1 c.in-None.ensures.none

pub returns-in-Some-next-clause-unmarked : goal.returns-in-Some-next-clause-unmarked
returns-in-Some-next-clause-unmarked c =
    let cs = text_of c.args.source.now in
    let s = on_true_at c.read_margin-after.result.1 c.if-not-whole.false c.read_margin-after.ensures.whole in
    elim c.else-after-line.branch [
      | else-after-line-via-then-after-line+else-is_mark w ↦
          λ m. on_false_at w.is_mark.result w.if-is_mark.false w.is_mark.ensures.no
          (subst (λ x. LooksLikeMarker cs (place_of c.args.source.now x)) w.if-after-line.true (mark_dashes cs _ m))
      | else-after-line-via-else-after-line w ↦
          (let further : c.lines.line < c.read_margin-after.result.0 = omega (arith, w.if-after-line.false, c.read_margin-after.ensures.onward) in
          λ m. after_white cs _ _ (margin_white cs _ _ _ s.0)
          (place_less _ _ _ (IsUtf8-had c.args.source.now.text.now c.args.source.now.utf8) c.lines.invariant.border c.read_margin-after.ensures.border further) (mark_starts cs _ m))
    ]
