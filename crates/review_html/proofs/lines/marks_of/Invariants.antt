use Rattle.review_html.proofs.MarkLaws.{GoOn}
use Rattle.review_html.proofs.lines.marks_of.Given as goal

abbrev pub invariant-findings : goal.invariant-findings
invariant-findings l = GoOn l.side l.before l.list l.fn.lines l.at l.marks.items
