use Rattle.std.proofs.Common.{◌≡◌, ◌-◌, length, take}
use Rattle.std.specs.List.{sum_by}
use Rattle.review_lines.proofs.diff.untold.Given as goal

abbrev pub invariant-loop-line : goal.invariant-loop-line
invariant-loop-line l = l.count ≡ length l.list - sum_by (λ line. line.count) (take l.line-index l.lines)
