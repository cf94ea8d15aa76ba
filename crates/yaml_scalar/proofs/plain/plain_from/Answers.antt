use Rattle.std.proofs.Common.{◌++◌, sym, ◌∙◌, ap, subst, arith, rules}
use Rattle.std.specs.Prelude.{slice_range}
use Rattle.std.specs.Str.{chars}
use Rattle.std.proofs.lemmas.Str.{chars-nil}
use Rattle.std.proofs.lemmas.Str.{IsUtf8-string_bytes}
use Rattle.yaml_text.specs.LeafAnswer.{Furthest}
use Rattle.yaml_text.specs.EventModel.{context_of}
use Rattle.yaml_text.specs.Source.{text_of, place_of}
use Rattle.yaml_definitions.specs.grammar.FlowScalars.{ns-plain as plain}
use Rattle.yaml_scalar.proofs.GapLemmas.{folds_is}
use Rattle.yaml_text.proofs.Tests.{on_true_at, on_false_at}
use Rattle.yaml_scalar.proofs.PlainLemmas.{Sofar, sofar_start, sofar_line, sofar_end, no_plain_first, no_plain_end, no_plain_mark, no_more_line, goes_below}
use Rattle.yaml_scalar.proofs.PlainReadings.{plain_furthest, plain_unread}
use Rattle.yaml_scalar.proofs.plain.plain_from.Goals as goal
use Rattle.yaml_scalar.proofs.plain.plain_from.Goals.{then-not-is_first-via-then-not-is_first, then-not-is_first-via-else-not-is_first+then-stands_mark}

pub returns-in_default-clause-reads : goal.returns-in_default-clause-reads
returns-in_default-clause-reads c = plain_unread (text_of c.args.source.now) _ _ _ (no_plain_end (text_of c.args.source.now) _ _ _ c.in_default.ensures.none)

pub returns-then-not-is_first-clause-reads : goal.returns-then-not-is_first-clause-reads
returns-then-not-is_first-clause-reads c = elim c.then-not-is_first.branch [
  | then-not-is_first-via-then-not-is_first w ↦
      plain_unread (text_of c.args.source.now) _ _ _ (no_plain_first (text_of c.args.source.now) _ _ _ (on_false_at c.is_first.result w.if-not-is_first.true c.is_first.ensures.no))
  | then-not-is_first-via-else-not-is_first+then-stands_mark w ↦
      plain_unread (text_of c.args.source.now) _ _ _ (no_plain_mark (text_of c.args.source.now) _ _ _ (on_true_at w.stands_mark.result w.if-stands_mark.true w.stands_mark.ensures.yes))
]

pub lines-init : goal.lines-init
lines-init c =
    let cs = text_of c.args.source.now in
    let s = c.in-Some.ensures.some in
    let l = c.line_end-line.ensures in
    let n = c.in-Some-next_line.ensures in
    record {
      border = l.border;
      onward = omega (arith, s.forward, l.onward);
      begins = n.border;
      further = omega (arith, l.further, n.onward);
      sofar = subst (Sofar cs c.args.least (context_of c.args.context) (place_of c.args.source.now c.args.at) (place_of c.args.source.now c.line_end-line.result.0))
          (sym (c.in_ok-push_between-in-Some-next_line.ensures ∙ ap (λ v. v ++ slice_range cs (place_of c.args.source.now c.args.at) (place_of c.args.source.now c.line_end-line.result.0)) (ap chars c.new-text.ensures.bytes ∙ chars-nil)))
          (sofar_start cs c.args.least (context_of c.args.context) _ _ _ _ (on_true_at c.is_first.result c.if-not-is_first.false c.is_first.ensures.yes) s.is
          (on_false_at c.stands_mark.result c.if-stands_mark.false c.stands_mark.ensures.no) s.next l.line);
      fold = folds_is cs c.args.least (context_of c.args.context) _ _ _ _ l.whites n.breaks;
      later = n.later;
      unmarked = n.unmarked;
      steps = n.steps;
    }

pub returns-in-None-next_line-clause-reads : goal.returns-in-None-next_line-clause-reads
returns-in-None-next_line-clause-reads c =
    let cs = text_of c.args.source.now in
    let v = c.lines.invariant in
    let l = c.line_end-last.ensures in
    subst (Furthest (plain cs c.args.least (context_of c.args.context)) (place_of c.args.source.now c.args.at) (place_of c.args.source.now c.line_end-last.result.0))
    (sym (ap chars c.shrink_to_fit.ensures.bytes ∙ (c.in_ok-push_between-in-Some-next_line-2.ensures ∙ ap (λ v. v ++ slice_range cs (place_of c.args.source.now c.lines.start) (place_of c.args.source.now c.line_end-last.result.0)) c.in_ok-push_fold-in-Some-next_line.ensures)))
    (plain_furthest cs _ _ _ _ _ (sofar_end cs c.args.least (context_of c.args.context) _ _ _
    (sofar_line cs c.args.least (context_of c.args.context) _ _ _ _ _ _ _ _ v.sofar v.fold v.later v.steps.1.is v.unmarked v.steps.1.next l.line)
    l.furthest (no_more_line cs _ _ _ _ l.whites l.no_white c.in-None-next_line.ensures.none)))

pub lines-preserved : goal.lines-preserved
lines-preserved c =
    let cs = text_of c.args.source.now in
    let v = c.lines.invariant in
    let l = c.line_end-last.ensures in
    let n = c.in-Some-next_line-2.ensures in
    let t = v.steps.1 in
    record {
      border = l.border;
      onward = omega (arith, v.onward, v.further, t.forward, l.onward);
      begins = n.border;
      further = omega (arith, l.further, n.onward);
      sofar = subst (Sofar cs c.args.least (context_of c.args.context) (place_of c.args.source.now c.args.at) (place_of c.args.source.now c.line_end-last.result.0))
          (sym (c.in_ok-push_between-in-Some-next_line-2.ensures ∙ ap (λ v. v ++ slice_range cs (place_of c.args.source.now c.lines.start) (place_of c.args.source.now c.line_end-last.result.0)) c.in_ok-push_fold-in-Some-next_line.ensures))
          (sofar_line cs c.args.least (context_of c.args.context) _ _ _ _ _ _ _ _ v.sofar v.fold v.later t.is v.unmarked t.next l.line);
      fold = folds_is cs c.args.least (context_of c.args.context) _ _ _ _ l.whites n.breaks;
      later = n.later;
      unmarked = n.unmarked;
      steps = n.steps;
    }

pub returns-clause-reads : goal.returns-clause-reads
returns-clause-reads c =
    let cs = text_of c.args.source.now in
    let s = c.in-Some.ensures.some in
    let l = c.line_end-line.ensures in
    subst (Furthest (plain cs c.args.least (context_of c.args.context)) (place_of c.args.source.now c.args.at) (place_of c.args.source.now c.line_end-line.result.0)) (sym c.text_between.ensures)
    (plain_furthest cs _ _ _ _ _ (sofar_end cs c.args.least (context_of c.args.context) _ _ _
    (sofar_start cs c.args.least (context_of c.args.context) _ _ _ _ (on_true_at c.is_first.result c.if-not-is_first.false c.is_first.ensures.yes) s.is
    (on_false_at c.stands_mark.result c.if-stands_mark.false c.stands_mark.ensures.no) s.next l.line)
    l.furthest (no_more_line cs _ _ _ _ l.whites l.no_white c.in-None.ensures.none)))

pub returns-in-None-next_line-clause-utf8 : goal.returns-in-None-next_line-clause-utf8
returns-in-None-next_line-clause-utf8 c = IsUtf8-string_bytes c.shrink_to_fit.new.self

pub returns-in_err-push_between-in-Some-next_line-clause-memory : goal.returns-in_err-push_between-in-Some-next_line-clause-memory
returns-in_err-push_between-in-Some-next_line-clause-memory c =
    let n = c.in-Some-next_line.ensures in
    let below = goes_below (text_of c.args.source.now) c.args.least (context_of c.args.context) _ _ _ _ _ _ _ c.in-Some.ensures.some.next c.line_end-line.ensures.line c.line_end-line.ensures.whites n.breaks n.later in
    search (rules, below)

pub returns-in_err-push_fold-in-Some-next_line-clause-memory : goal.returns-in_err-push_fold-in-Some-next_line-clause-memory
returns-in_err-push_fold-in-Some-next_line-clause-memory c =
    let n = c.in-Some-next_line.ensures in
    let below = goes_below (text_of c.args.source.now) c.args.least (context_of c.args.context) _ _ _ _ _ _ _ c.in-Some.ensures.some.next c.line_end-line.ensures.line c.line_end-line.ensures.whites n.breaks n.later in
    search (rules, below)

pub returns-in_err-push_between-in-Some-next_line-2-clause-memory : goal.returns-in_err-push_between-in-Some-next_line-2-clause-memory
returns-in_err-push_between-in-Some-next_line-2-clause-memory c =
    let n = c.in-Some-next_line.ensures in
    let below = goes_below (text_of c.args.source.now) c.args.least (context_of c.args.context) _ _ _ _ _ _ _ c.in-Some.ensures.some.next c.line_end-line.ensures.line c.line_end-line.ensures.whites n.breaks n.later in
    search (rules, below)
