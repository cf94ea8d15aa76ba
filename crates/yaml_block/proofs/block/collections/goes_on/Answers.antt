use Rattle.std.proofs.Common.{arith}
use Rattle.yaml_text.proofs.Tests.{on_true_at, on_false_at}
use Rattle.yaml_block.proofs.LineDecisions.{none_here, none_left, no_content, no_end, no_mark}
use Rattle.yaml_block.proofs.block.collections.goes_on.Goals as goal

pub returns-then-not-has_content-clause-over : goal.returns-then-not-has_content-clause-over
returns-then-not-has_content-clause-over c =
    let s = c.args.source.now in
    none_here s c.args.line c.requires.line c.args.column (no_content s c.args.line c.requires.line c.requires.after (on_false_at c.has_content.result c.if-not-has_content.true c.has_content.ensures.no))

pub returns-then-line-column-clause-over : goal.returns-then-line-column-clause-over
returns-then-line-column-clause-over c = none_left c.args.source.now c.args.line c.requires.line c.args.column c.if-line-column.true

pub returns-then-line-column-2-clause-next : goal.returns-then-line-column-2-clause-next
returns-then-line-column-2-clause-next c =
    let s = c.args.source.now in
    let yes = on_true_at c.has_content.result c.if-not-has_content.false c.has_content.ensures.yes in
    record { column = c.if-line-column-2.true; some = no_end s c.args.line c.requires.line yes.0; no_mark = no_mark s c.args.line c.requires.line yes.1 }

pub returns-else-line-column-2-clause-further : goal.returns-else-line-column-2-clause-further
returns-else-line-column-2-clause-further c =
    let s = c.args.source.now in
    let yes = on_true_at c.has_content.result c.if-not-has_content.false c.has_content.ensures.yes in
    (omega (arith, c.if-line-column.false, c.if-line-column-2.false), no_end s c.args.line c.requires.line yes.0, no_mark s c.args.line c.requires.line yes.1)
