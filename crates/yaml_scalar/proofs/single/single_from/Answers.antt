use Rattle.std.proofs.Common.{◌≡◌, ◌≤◌, replicate, [], ◌++◌, sym, ◌∙◌, ap, subst, arith}
use Rattle.std.specs.Prelude.{slice_range}
use Rattle.std.specs.Str.{chars}
use Rattle.std.specs.String.{string_bytes}
use Rattle.std.proofs.lemmas.Str.{chars-nil}
use Rattle.std.proofs.lemmas.Str.{IsUtf8-string_bytes}
use Rattle.yaml_text.specs.LeafAnswer.{Only}
use Rattle.yaml_text.specs.EventModel.{context_of}
use Rattle.yaml_text.specs.Source.{text_of, place_of}
use Rattle.yaml_definitions.specs.grammar.FlowScalars.{c-single-quoted as single}
use Rattle.yaml_scalar.specs.Chains.{folded_breaks}
use Rattle.yaml_scalar.proofs.GapLemmas.{folds_is, no_fold}
use Rattle.yaml_scalar.proofs.OutcomeLemmas.{refuses_unread}
use Rattle.yaml_scalar.proofs.QuotedLemmas.{SingleState, single_start, single_line, single_pair, single_fold, single_end, single_none, no_single, two_slices, close_here}
use Rattle.yaml_scalar.proofs.QuotedReadings.{single_only, single_unread}
use Rattle.yaml_scalar.proofs.single.single_from.Goals as goal

pub returns-in_default-clause-reads : goal.returns-in_default-clause-reads
returns-in_default-clause-reads c =
    single_unread (text_of c.args.source.now) _ _ _ (no_single (text_of c.args.source.now) c.args.least (context_of c.args.context) _ c.in_default.ensures.none)

pub pieces-init : goal.pieces-init
pieces-init c =
    let cs = text_of c.args.source.now in
    let s = c.in-Some.ensures.some in
    let a = place_of c.args.source.now c.args.at in
    let b = place_of c.args.source.now c.in-Some.start in
    let empty : chars (string_bytes c.new-text.result) ≡ [] = ap chars c.new-text.ensures.bytes ∙ chars-nil in
    record {
      border = s.border;
      onward = s.forward;
      later = omega arith;
      nothing = λ _. empty;
      state = subst (SingleState cs c.args.least (context_of c.args.context) a b b) (sym empty) (single_start cs c.args.least (context_of c.args.context) a b s.is s.next);
    }

pub returns-then-from-start-clause-reads : goal.returns-then-from-start-clause-reads
returns-then-from-start-clause-reads c =
    let cs = text_of c.args.source.now in
    let s = c.in-Some.ensures.some in
    let t = c.in-Some-accept.ensures.some in
    let q = c.quoted_run-end.ensures in
    let old = chars (string_bytes c.pieces.text) in
    let i = place_of c.args.source.now c.pieces.from in
    let k = place_of c.args.source.now c.quoted_run-end.result.0 in
    let j = place_of c.args.source.now c.quoted_run-end.result.1 in
    let same : slice_range cs i j ≡ chars c.text_between.result.now = ap (λ x. slice_range cs (place_of c.args.source.now x) j) c.if-from-start.true ∙ sym c.text_between.ensures in
    subst (Only (single cs c.args.least (context_of c.args.context)) (place_of c.args.source.now c.args.at) (place_of c.args.source.now c.in-Some-accept.quote))
    (two_slices cs old 39 i k j q.line q.whites.0 ∙ ap (λ v. v ++ slice_range cs i j) (c.pieces.invariant.nothing c.if-from-start.true) ∙ same)
    (single_only cs _ _ _ _ _ (single_end cs c.args.least (context_of c.args.context) _ _ k j _ (old ++ slice_range cs i k) s.is s.next
    (single_line cs c.args.least (context_of c.args.context) _ _ i k old (slice_range cs i k) c.pieces.invariant.state q.line) q.whites
    (close_here cs _ _ t.is t.next c.in-None-accept.ensures.none)))

pub returns-in-None-accept-clause-reads : goal.returns-in-None-accept-clause-reads
returns-in-None-accept-clause-reads c =
    let cs = text_of c.args.source.now in
    let s = c.in-Some.ensures.some in
    let t = c.in-Some-accept.ensures.some in
    let q = c.quoted_run-end.ensures in
    let old = chars (string_bytes c.pieces.text) in
    let i = place_of c.args.source.now c.pieces.from in
    let k = place_of c.args.source.now c.quoted_run-end.result.0 in
    let j = place_of c.args.source.now c.quoted_run-end.result.1 in
    subst (Only (single cs c.args.least (context_of c.args.context)) (place_of c.args.source.now c.args.at) (place_of c.args.source.now c.in-Some-accept.quote))
    (two_slices cs old 39 i k j q.line q.whites.0 ∙ (sym c.in_ok-push_between-in-None-accept.ensures ∙ ap chars (sym c.shrink_to_fit.ensures.bytes)))
    (single_only cs _ _ _ _ _ (single_end cs c.args.least (context_of c.args.context) _ _ k j _ (old ++ slice_range cs i k) s.is s.next
    (single_line cs c.args.least (context_of c.args.context) _ _ i k old (slice_range cs i k) c.pieces.invariant.state q.line) q.whites
    (close_here cs _ _ t.is t.next c.in-None-accept.ensures.none)))

pub pieces-preserved-in-Some-accept-2 : goal.pieces-preserved-in-Some-accept-2
pieces-preserved-in-Some-accept-2 c =
    let cs = text_of c.args.source.now in
    let t = c.in-Some-accept.ensures.some in
    let u = c.in-Some-accept-2.ensures.some in
    let q = c.quoted_run-end.ensures in
    let v = c.pieces.invariant in
    let old = chars (string_bytes c.pieces.text) in
    let a = place_of c.args.source.now c.args.at in
    let b = place_of c.args.source.now c.in-Some.start in
    let i = place_of c.args.source.now c.pieces.from in
    let k = place_of c.args.source.now c.quoted_run-end.result.0 in
    let j = place_of c.args.source.now c.quoted_run-end.result.1 in
    let l = place_of c.args.source.now c.in-Some-accept.quote in
    let m = place_of c.args.source.now c.in-Some-accept-2.after in
    let le : k ≤ l = (let z : k ≤ j = q.whites.0 in omega (arith, z, t.next)) in
    record {
      border = u.border;
      onward = omega (arith, v.onward, q.onward, q.further, t.forward, u.forward);
      later = omega (arith, v.later, q.onward, q.further, t.forward, u.forward);
      nothing = λ e. absurd (omega (arith, e, v.later, q.onward, q.further, t.forward, u.forward));
      state = subst (SingleState cs c.args.least (context_of c.args.context) a b m)
          (two_slices cs old 39 i k l q.line le ∙ sym c.in_ok-push_between-in-Some-accept-2.ensures)
          (single_pair cs c.args.least (context_of c.args.context) a b k j l m (old ++ slice_range cs i k)
          (single_line cs c.args.least (context_of c.args.context) a b i k old (slice_range cs i k) v.state q.line) q.whites t.is t.next u.is u.next);
    }

pub returns-in-Err-clause-reads : goal.returns-in-Err-clause-reads
returns-in-Err-clause-reads c =
    let cs = text_of c.args.source.now in
    let s = c.in-Some.ensures.some in
    let q = c.quoted_run-end.ensures in
    let i = place_of c.args.source.now c.pieces.from in
    let k = place_of c.args.source.now c.quoted_run-end.result.0 in
    refuses_unread c.unusable.result c.unusable.ensures.unread
    (single_unread cs _ _ _ (single_none cs c.args.least (context_of c.args.context) _ _ k _ _ s.next
    (single_line cs c.args.least (context_of c.args.context) _ _ i k _ (slice_range cs i k) c.pieces.invariant.state q.line) q.whites q.no_white c.in-None.ensures.none q.no_text
    (no_fold cs c.args.least (context_of c.args.context) _ _ q.whites q.no_white c.in-Err.ensures.none)))

pub pieces-preserved : goal.pieces-preserved
pieces-preserved c =
    let cs = text_of c.args.source.now in
    let q = c.quoted_run-end.ensures in
    let f = c.in-Ok.ensures in
    let v = c.pieces.invariant in
    let old = chars (string_bytes c.pieces.text) in
    let a = place_of c.args.source.now c.args.at in
    let b = place_of c.args.source.now c.in-Some.start in
    let i = place_of c.args.source.now c.pieces.from in
    let k = place_of c.args.source.now c.quoted_run-end.result.0 in
    record {
      border = f.border;
      onward = omega (arith, v.onward, q.onward, q.further, f.onward);
      later = omega (arith, v.later, q.onward, q.further, f.onward);
      nothing = λ e. absurd (omega (arith, e, v.later, q.onward, q.further, f.onward));
      state = subst (SingleState cs c.args.least (context_of c.args.context) a b (place_of c.args.source.now c.in-Ok.to))
          (sym (c.in_ok-push_fold-in-Ok.ensures ∙ ap (λ v. v ++ folded_breaks (replicate c.in-Ok.count 10)) c.in_ok-push_between-in-Ok.ensures))
          (single_fold cs c.args.least (context_of c.args.context) a b k _ (old ++ slice_range cs i k) _
          (single_line cs c.args.least (context_of c.args.context) a b i k old (slice_range cs i k) v.state q.line)
          (folds_is cs c.args.least (context_of c.args.context) _ _ _ _ q.whites f.breaks) f.text f.unmarked);
    }

pub returns-in-None-accept-clause-utf8 : goal.returns-in-None-accept-clause-utf8
returns-in-None-accept-clause-utf8 c = IsUtf8-string_bytes c.shrink_to_fit.new.self
