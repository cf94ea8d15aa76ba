use Rattle.std.proofs.Common.{◌<◌, ◌≤◌, max, length}
use Rattle.yaml_tree.proofs.PlaceLaws.{SoFar}
use Rattle.yaml_rank.proofs.order.first_equal.Given as goal

abbrev pub invariant-loop-at : goal.invariant-loop-at
invariant-loop-at l = (0 < l.at) × (l.at ≤ max 1 (length l.order)) × SoFar l.order l.at l.best
