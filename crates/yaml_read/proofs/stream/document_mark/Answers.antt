use Rattle.std.proofs.Common.{arith}
use Rattle.yaml_text.specs.Source.{text_of}
use Rattle.yaml_text.proofs.Tests.{on_true_at, on_false_at}
use Rattle.yaml_text.proofs.Breaks.{mark_is_of, mark_dashes_of}
use Rattle.yaml_read.proofs.StreamLemmas.{mark_here, mark_line}
use Rattle.yaml_read.proofs.stream.document_mark.Goals as goal

pub returns-in-Some-accept-2-clause-some : goal.returns-in-Some-accept-2-clause-some
returns-in-Some-accept-2-clause-some c =
    let cs = text_of c.args.source.now in
    let a = c.in-Some.ensures.some in
    let b = c.in-Some-accept.ensures.some in
    let d = c.in-Some-accept-2.ensures.some in
    let s = on_true_at c.starts_line.result c.if-not-starts_line.false c.starts_line.ensures.yes in
    let m = mark_is_of cs c.args.c _ s (on_true_at c.is_mark_of.result c.if-not-is_mark_of.false c.is_mark_of.ensures.yes) in
    record {
      border = d.border;
      onward = omega (arith, a.forward, b.forward, d.forward);
      mark = mark_here cs c.args.c _ _ _ _ m a.is a.next b.is b.next d.is d.next;
    }

pub returns-then-not-starts_line-clause-none : goal.returns-then-not-starts_line-clause-none
returns-then-not-starts_line-clause-none c =
    λ m. on_false_at c.starts_line.result c.if-not-starts_line.true c.starts_line.ensures.no (mark_line (text_of c.args.source.now) c.args.c _ m)

pub returns-then-not-is_mark_of-clause-none : goal.returns-then-not-is_mark_of-clause-none
returns-then-not-is_mark_of-clause-none c =
    λ m. on_false_at c.is_mark_of.result c.if-not-is_mark_of.true c.is_mark_of.ensures.no (mark_dashes_of (text_of c.args.source.now) c.args.c _ m)
