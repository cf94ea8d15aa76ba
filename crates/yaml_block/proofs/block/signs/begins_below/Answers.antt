use Rattle.std.proofs.Common.{◌<◌, ◌≤◌, inl, inr, subst}
use Rattle.yaml_text.proofs.Tests.{on_true_at, on_false_at}
use Rattle.yaml_block.proofs.LineDecisions.{no_content, no_end, no_mark, dash_here}
use Rattle.yaml_block.proofs.block.signs.begins_below.Goals as goal

pub returns-then-not-has_content : goal.returns-then-not-has_content
returns-then-not-has_content c = inl (no_content c.args.source.now c.args.line c.requires.line c.requires.after (on_false_at c.has_content.result c.if-not-has_content.true c.has_content.ensures.no))

pub returns-then-line-sequence_column : goal.returns-then-line-sequence_column
returns-then-line-sequence_column c = inr (inl (dash_here c.args.source.now _ _ c.in-Some.ensures.some, subst (λ n. c.args.line.column < n) c.sequence_column.ensures c.if-line-sequence_column.true))

pub returns-then-line-level : goal.returns-then-line-level
returns-then-line-level c = inr (inr (c.in-None.ensures.none, c.if-line-level.true))

pub returns-else-line-sequence_column : goal.returns-else-line-sequence_column
returns-else-line-sequence_column c = (c.in-Some.ensures.some, subst (λ n. n ≤ c.args.line.column) c.sequence_column.ensures c.if-line-sequence_column.false)

pub returns-else-line-level : goal.returns-else-line-level
returns-else-line-level c =
    let yes = on_true_at c.has_content.result c.if-not-has_content.false c.has_content.ensures.yes in
    record {
      no_dash = c.in-None.ensures.none;
      far = c.if-line-level.false;
      some = no_end c.args.source.now c.args.line c.requires.line yes.0;
      no_mark = no_mark c.args.source.now c.args.line c.requires.line yes.1;
    }
