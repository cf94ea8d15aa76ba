use Rattle.std.proofs.Common.{◌≡◌, ◌-◌, length, take}
use Rattle.std.specs.List.{sum_by}
use Rattle.review_lines.proofs.moved.untold.Given as goal

abbrev pub invariant-loop-group : goal.invariant-loop-group
invariant-loop-group l = l.count ≡ length l.moves - sum_by (λ group. group.end - group.first) (take l.group-index l.groups)
