use Rattle.yaml_text.proofs.Tests.{on_true_at}
use Rattle.rows_leaves.proofs.scalar_rows.read_block.Goals as goal

pub read_folded-requires : goal.read_folded-requires
read_folded-requires c = on_true_at c.is_border.result c.if-not-is_border.false c.is_border.ensures.yes

pub read_literal-requires : goal.read_literal-requires
read_literal-requires c = on_true_at c.is_border.result c.if-not-is_border.false c.is_border.ensures.yes
