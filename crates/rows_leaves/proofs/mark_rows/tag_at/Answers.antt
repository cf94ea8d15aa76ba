use Rattle.yaml_text.proofs.Tests.{on_true_at}
use Rattle.rows_leaves.proofs.mark_rows.tag_at.Goals as goal

pub read_tag-requires : goal.read_tag-requires
read_tag-requires c = on_true_at c.is_border.result c.if-not-is_border.false c.is_border.ensures.yes

pub read_tag-requires-in-Some : goal.read_tag-requires-in-Some
read_tag-requires-in-Some c = on_true_at c.is_border.result c.if-not-is_border.false c.is_border.ensures.yes
