use Rattle.yaml_text.proofs.Tests.{on_true_at}
use Rattle.rows_leaves.proofs.mark_names.is_borrowed.Goals as goal

pub read_name-requires : goal.read_name-requires
read_name-requires c = on_true_at c.is_border.result c.if-not-is_border.false c.is_border.ensures.yes
