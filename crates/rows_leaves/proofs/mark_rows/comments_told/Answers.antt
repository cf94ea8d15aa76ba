use Rattle.yaml_text.proofs.Tests.{on_true_at}
use Rattle.rows_leaves.proofs.mark_rows.comments_told.Goals as goal

pub skip_comments-requires : goal.skip_comments-requires
skip_comments-requires c = on_true_at c.is_border.result c.if-not-is_border.false c.is_border.ensures.yes
