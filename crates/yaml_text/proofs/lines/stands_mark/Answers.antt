use Rattle.yaml_text.specs.Source.{text_of}
use Rattle.yaml_text.proofs.Tests.{on_true_at, on_false_at, on_true_weaker, on_false_weaker}
use Rattle.yaml_text.proofs.Breaks.{mark_is, mark_starts, mark_dashes}
use Rattle.yaml_text.proofs.lines.stands_mark.Goals as goal

pub returns-then-is_mark-clause-yes : goal.returns-then-is_mark-clause-yes
returns-then-is_mark-clause-yes c =
    on_true_weaker c.starts_line.result (λ s. mark_is (text_of c.args.source.now) _ s (on_true_at c.is_mark.result c.if-is_mark.true c.is_mark.ensures.yes)) c.starts_line.ensures.yes

pub returns-then-is_mark-clause-no : goal.returns-then-is_mark-clause-no
returns-then-is_mark-clause-no c = on_false_weaker c.starts_line.result (λ n m. n (mark_starts (text_of c.args.source.now) _ m)) c.starts_line.ensures.no

pub returns-else-is_mark-clause-no : goal.returns-else-is_mark-clause-no
returns-else-is_mark-clause-no c = λ m. on_false_at c.is_mark.result c.if-is_mark.false c.is_mark.ensures.no (mark_dashes (text_of c.args.source.now) _ m)
