use Rattle.yaml_text.proofs.Tests.{on_true_at}
use Rattle.rows_leaves.proofs.scalar_rows.read_flow.Goals as goal

pub read_plain-requires-clause-border : goal.read_plain-requires-clause-border
read_plain-requires-clause-border c = on_true_at c.is_border.result c.if-not-is_border.false c.is_border.ensures.yes

pub read_single-requires-clause-border : goal.read_single-requires-clause-border
read_single-requires-clause-border c = on_true_at c.is_border.result c.if-not-is_border.false c.is_border.ensures.yes

pub read_double-requires-clause-border : goal.read_double-requires-clause-border
read_double-requires-clause-border c = on_true_at c.is_border.result c.if-not-is_border.false c.is_border.ensures.yes
