use Rattle.review_lines.proofs.CompareLaws.{TellsBefore}
use Rattle.review_lines.proofs.diff.lines_with.Given as goal

abbrev pub invariant-loop-number : goal.invariant-loop-number
invariant-loop-number l = TellsBefore l.forests l.asked l.list l.counts l.number l.lines.items
