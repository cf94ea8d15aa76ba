use Rattle.yaml_text.proofs.Tests.{on_true_at}
use Rattle.rows_leaves.proofs.mark_rows.handles_of.Goals as goal

pub starts_line-requires : goal.starts_line-requires
starts_line-requires c = on_true_at c.is_border.result c.if-not-is_border.false c.is_border.ensures.yes

pub accept-requires : goal.accept-requires
accept-requires c = on_true_at c.is_border.result c.if-not-is_border.false c.is_border.ensures.yes

pub read_directives-requires-clause-border : goal.read_directives-requires-clause-border
read_directives-requires-clause-border c = on_true_at c.is_border.result c.if-not-is_border.false c.is_border.ensures.yes

pub read_directives-requires-clause-start : goal.read_directives-requires-clause-start
read_directives-requires-clause-start c = on_true_at c.starts_line.result c.if-not-starts_line.false c.starts_line.ensures.yes
