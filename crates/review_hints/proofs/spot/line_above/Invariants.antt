use Rattle.std.proofs.Common.{◌≤◌, length}
use Rattle.review_hints.proofs.spot.line_above.Given as goal

abbrev pub invariant-loop-line : goal.invariant-loop-line
invariant-loop-line l = l.end ≤ length l.text
