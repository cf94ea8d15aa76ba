use Rattle.yaml_text.proofs.Tests.{on_true_at}
use Rattle.yaml_layout.proofs.line.skip_line_rest.Goals as goal

pub returns-then-has_text-clause-none : goal.returns-then-has_text-clause-none
returns-then-has_text-clause-none c = on_true_at c.has_text.result c.if-has_text.true c.has_text.ensures
