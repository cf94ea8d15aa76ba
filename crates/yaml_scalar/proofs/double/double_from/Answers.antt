use Rattle.std.proofs.Common.{◌≡◌, replicate, [], ◌∷◌, ◌++◌, sym, ◌∙◌, ap, subst, arith, rules}
use Rattle.std.specs.Prelude.{slice_range}
use Rattle.std.specs.Str.{chars}
use Rattle.std.specs.String.{string_bytes}
use Rattle.std.proofs.lemmas.Str.{chars-nil, IsUtf8-string_bytes}
use Rattle.std.proofs.lemmas.Str.{IsUtf8-string_bytes}
use Rattle.yaml_text.proofs.PlaceLemmas.{chars_pushed}
use Rattle.yaml_text.specs.LeafAnswer.{Only}
use Rattle.yaml_text.specs.EventModel.{context_of}
use Rattle.yaml_text.specs.Source.{text_of, place_of}
use Rattle.yaml_definitions.specs.grammar.FlowScalars.{c-double-quoted as double}
use Rattle.yaml_scalar.specs.Chains.{NoSolidBreaks, folded_breaks}
use Rattle.yaml_scalar.proofs.GapLemmas.{folds_is}
use Rattle.yaml_scalar.proofs.OutcomeLemmas.{answers_err, refuses_unread}
use Rattle.yaml_scalar.proofs.QuotedLemmas.{two_slices}
use Rattle.yaml_scalar.proofs.DoubleLemmas.{DoubleState, double_start, double_line, double_escape, double_fold, double_break, double_end, double_none, no_double, no_break_mark, no_break_here}
use Rattle.yaml_scalar.proofs.DoubleReadings.{double_only, double_unread}
use Rattle.yaml_scalar.proofs.double.double_from.Goals as goal

pub returns-in_default-clause-reads : goal.returns-in_default-clause-reads
returns-in_default-clause-reads c =
    double_unread (text_of c.args.source.now) _ _ _ (no_double (text_of c.args.source.now) c.args.least (context_of c.args.context) _ c.in_default.ensures.none)

pub pieces-init : goal.pieces-init
pieces-init c =
    let cs = text_of c.args.source.now in
    let s = c.in-Some.ensures.some in
    let a = place_of c.args.source.now c.args.at in
    let b = place_of c.args.source.now c.in-Some.start in
    let empty : chars (string_bytes c.new-text.result) ≡ [] = ap chars c.new-text.ensures.bytes ∙ chars-nil in
    record {
      border = s.border;
      onward = s.forward;
      later = omega arith;
      nothing = λ _. empty;
      state = subst (DoubleState cs c.args.least (context_of c.args.context) a b b) (sym empty) (double_start cs c.args.least (context_of c.args.context) a b s.is s.next);
    }

pub returns-then-from-start-clause-reads : goal.returns-then-from-start-clause-reads
returns-then-from-start-clause-reads c =
    let cs = text_of c.args.source.now in
    let s = c.in-Some.ensures.some in
    let t = c.in-Some-accept.ensures.some in
    let q = c.quoted_run-end.ensures in
    let old = chars (string_bytes c.pieces.text) in
    let i = place_of c.args.source.now c.pieces.from in
    let k = place_of c.args.source.now c.quoted_run-end.result.0 in
    let j = place_of c.args.source.now c.quoted_run-end.result.1 in
    let same : slice_range cs i j ≡ chars c.text_between.result.now = ap (λ x. slice_range cs (place_of c.args.source.now x) j) c.if-from-start.true ∙ sym c.text_between.ensures in
    subst (Only (double cs c.args.least (context_of c.args.context)) (place_of c.args.source.now c.args.at) (place_of c.args.source.now c.in-Some-accept.after))
    (two_slices cs old 34 i k j q.line q.whites.0 ∙ ap (λ v. v ++ slice_range cs i j) (c.pieces.invariant.nothing c.if-from-start.true) ∙ same)
    (double_only cs _ _ _ _ _ (double_end cs c.args.least (context_of c.args.context) _ _ k j _ (old ++ slice_range cs i k) s.is s.next
    (double_line cs c.args.least (context_of c.args.context) _ _ i k old (slice_range cs i k) c.pieces.invariant.state q.line) q.whites t.is t.next))

pub returns-in-Some-accept-clause-reads : goal.returns-in-Some-accept-clause-reads
returns-in-Some-accept-clause-reads c =
    let cs = text_of c.args.source.now in
    let s = c.in-Some.ensures.some in
    let t = c.in-Some-accept.ensures.some in
    let q = c.quoted_run-end.ensures in
    let old = chars (string_bytes c.pieces.text) in
    let i = place_of c.args.source.now c.pieces.from in
    let k = place_of c.args.source.now c.quoted_run-end.result.0 in
    let j = place_of c.args.source.now c.quoted_run-end.result.1 in
    subst (Only (double cs c.args.least (context_of c.args.context)) (place_of c.args.source.now c.args.at) (place_of c.args.source.now c.in-Some-accept.after))
    (two_slices cs old 34 i k j q.line q.whites.0 ∙ (sym c.in_ok-push_between.ensures ∙ ap chars (sym c.shrink_to_fit.ensures.bytes)))
    (double_only cs _ _ _ _ _ (double_end cs c.args.least (context_of c.args.context) _ _ k j _ (old ++ slice_range cs i k) s.is s.next
    (double_line cs c.args.least (context_of c.args.context) _ _ i k old (slice_range cs i k) c.pieces.invariant.state q.line) q.whites t.is t.next))

pub pieces-preserved-in-Some-read_escape : goal.pieces-preserved-in-Some-read_escape
pieces-preserved-in-Some-read_escape c =
    let cs = text_of c.args.source.now in
    let x = c.in-Some-read_escape.ensures in
    let q = c.quoted_run-end.ensures in
    let v = c.pieces.invariant in
    let old = chars (string_bytes c.pieces.text) in
    let a = place_of c.args.source.now c.args.at in
    let b = place_of c.args.source.now c.in-Some.start in
    let i = place_of c.args.source.now c.pieces.from in
    let k = place_of c.args.source.now c.quoted_run-end.result.0 in
    let j = place_of c.args.source.now c.quoted_run-end.result.1 in
    let m = place_of c.args.source.now c.in-Some-read_escape.after in
    let letter = c.in-Some-read_escape.c in
    let grown = c.push_between-in-Some-read_escape.new.text in
    let pushed : chars (string_bytes c.push.new.self) ≡ chars (string_bytes grown) ++ letter ∷ [] =
    chars_pushed (string_bytes grown) _ letter (IsUtf8-string_bytes grown) (search rules) c.in_ok-push.ensures.bytes in
    record {
      border = x.border;
      onward = omega (arith, v.onward, q.onward, q.further, x.onward);
      later = omega (arith, v.later, q.onward, q.further, x.onward);
      nothing = λ e. absurd (omega (arith, e, v.later, q.onward, q.further, x.onward));
      state = subst (DoubleState cs c.args.least (context_of c.args.context) a b m)
          (ap (λ w. w ++ letter ∷ []) (two_slices cs old 34 i k j q.line q.whites.0 ∙ sym c.in_ok-push_between-2.ensures) ∙ sym pushed)
          (double_escape cs c.args.least (context_of c.args.context) a b k j m letter (old ++ slice_range cs i k)
          (double_line cs c.args.least (context_of c.args.context) a b i k old (slice_range cs i k) v.state q.line) q.whites x.some);
    }

pub returns-in_err-count-clause-reads : goal.returns-in_err-count-clause-reads
returns-in_err-count-clause-reads c =
    let cs = text_of c.args.source.now in
    let s = c.in-Some.ensures.some in
    let x = c.in-Some-escaped_break.ensures in
    let q = c.quoted_run-end.ensures in
    let i = place_of c.args.source.now c.pieces.from in
    let k = place_of c.args.source.now c.quoted_run-end.result.0 in
    let f = c.in_err-count.ensures in
    answers_err Only (double cs c.args.least (context_of c.args.context)) _ _ _ c.from_residual-in_err-count.result c.in_err-count.field-0.0 c.from_residual-in_err-count.ensures.1
    (refuses_unread c.in_err-count.field-0.0 f.fault
    (double_unread cs _ _ _ (double_none cs c.args.least (context_of c.args.context) _ _ k _ _ s.next
    (double_line cs c.args.least (context_of c.args.context) _ _ i k _ (slice_range cs i k) c.pieces.invariant.state q.line) q.whites q.no_white c.in_default-accept.ensures.none q.no_text c.in_default-read_escape.ensures.none
    (no_break_mark cs _ _ _ x.mark) (λ _. subst (NoSolidBreaks cs c.args.least (context_of c.args.context)) x.next f.none))))

pub pieces-preserved-in-Some-escaped_break : goal.pieces-preserved-in-Some-escaped_break
pieces-preserved-in-Some-escaped_break c =
    let cs = text_of c.args.source.now in
    let x = c.in-Some-escaped_break.ensures in
    let f = c.in_ok-count.ensures in
    let q = c.quoted_run-end.ensures in
    let v = c.pieces.invariant in
    let old = chars (string_bytes c.pieces.text) in
    let a = place_of c.args.source.now c.args.at in
    let b = place_of c.args.source.now c.in-Some.start in
    let i = place_of c.args.source.now c.pieces.from in
    let k = place_of c.args.source.now c.quoted_run-end.result.0 in
    let j = place_of c.args.source.now c.quoted_run-end.result.1 in
    let m = place_of c.args.source.now c.in_ok-count.to in
    record {
      border = f.border;
      onward = omega (arith, v.onward, q.onward, q.further, x.onward, f.onward);
      later = omega (arith, v.later, q.onward, q.further, x.onward, f.onward);
      nothing = λ e. absurd (omega (arith, e, v.later, q.onward, q.further, x.onward, f.onward));
      state = subst (DoubleState cs c.args.least (context_of c.args.context) a b m)
          (ap (λ w. w ++ replicate c.in_ok-count.count 10) (two_slices cs old 34 i k j q.line q.whites.0 ∙ sym c.in_ok-push_between-3.ensures) ∙ sym c.in_ok-push_lines.ensures)
          (double_break cs c.args.least (context_of c.args.context) a b k j _ m (old ++ slice_range cs i k) _
          (double_line cs c.args.least (context_of c.args.context) a b i k old (slice_range cs i k) v.state q.line) q.whites x.mark x.next f.breaks f.solid f.unmarked);
    }

pub returns-in-Some-accept-2-clause-reads : goal.returns-in-Some-accept-2-clause-reads
returns-in-Some-accept-2-clause-reads c =
    let cs = text_of c.args.source.now in
    let s = c.in-Some.ensures.some in
    let t = c.in-Some-accept-2.ensures.some in
    let q = c.quoted_run-end.ensures in
    let i = place_of c.args.source.now c.pieces.from in
    let k = place_of c.args.source.now c.quoted_run-end.result.0 in
    double_unread cs _ _ _ (double_none cs c.args.least (context_of c.args.context) _ _ k _ _ s.next
    (double_line cs c.args.least (context_of c.args.context) _ _ i k _ (slice_range cs i k) c.pieces.invariant.state q.line) q.whites q.no_white c.in_default-accept.ensures.none q.no_text c.in_default-read_escape.ensures.none
    (no_break_mark cs _ _ _ t.is) (λ h. no_break_here cs _ _ _ (c.in_default-escaped_break.ensures.none h)))

pub returns-in_err-count-2-clause-reads : goal.returns-in_err-count-2-clause-reads
returns-in_err-count-2-clause-reads c =
    let cs = text_of c.args.source.now in
    let s = c.in-Some.ensures.some in
    let q = c.quoted_run-end.ensures in
    let i = place_of c.args.source.now c.pieces.from in
    let k = place_of c.args.source.now c.quoted_run-end.result.0 in
    let f = c.in_err-count-2.ensures in
    answers_err Only (double cs c.args.least (context_of c.args.context)) _ _ _ c.from_residual-in_err-count-2.result c.in_err-count-2.field-0.0 c.from_residual-in_err-count-2.ensures.1
    (refuses_unread c.in_err-count-2.field-0.0 f.fault
    (double_unread cs _ _ _ (double_none cs c.args.least (context_of c.args.context) _ _ k _ _ s.next
    (double_line cs c.args.least (context_of c.args.context) _ _ i k _ (slice_range cs i k) c.pieces.invariant.state q.line) q.whites q.no_white c.in_default-accept.ensures.none q.no_text c.in_default-read_escape.ensures.none
    f.none (λ h. absurd (c.in_default-accept-2.ensures.none h)))))

pub pieces-preserved : goal.pieces-preserved
pieces-preserved c =
    let cs = text_of c.args.source.now in
    let q = c.quoted_run-end.ensures in
    let f = c.in_ok-count-2.ensures in
    let v = c.pieces.invariant in
    let old = chars (string_bytes c.pieces.text) in
    let a = place_of c.args.source.now c.args.at in
    let b = place_of c.args.source.now c.in-Some.start in
    let i = place_of c.args.source.now c.pieces.from in
    let k = place_of c.args.source.now c.quoted_run-end.result.0 in
    record {
      border = f.border;
      onward = omega (arith, v.onward, q.onward, q.further, f.onward);
      later = omega (arith, v.later, q.onward, q.further, f.onward);
      nothing = λ e. absurd (omega (arith, e, v.later, q.onward, q.further, f.onward));
      state = subst (DoubleState cs c.args.least (context_of c.args.context) a b (place_of c.args.source.now c.in_ok-count-2.to))
          (sym (c.in_ok-push_fold.ensures ∙ ap (λ v. v ++ folded_breaks (replicate c.in_ok-count-2.count 10)) c.in_ok-push_between-4.ensures))
          (double_fold cs c.args.least (context_of c.args.context) a b k _ (old ++ slice_range cs i k) _
          (double_line cs c.args.least (context_of c.args.context) a b i k old (slice_range cs i k) v.state q.line)
          (folds_is cs c.args.least (context_of c.args.context) _ _ _ _ q.whites f.breaks) f.solid f.unmarked);
    }

pub returns-in-Some-accept-clause-utf8 : goal.returns-in-Some-accept-clause-utf8
returns-in-Some-accept-clause-utf8 c = IsUtf8-string_bytes c.shrink_to_fit.new.self
