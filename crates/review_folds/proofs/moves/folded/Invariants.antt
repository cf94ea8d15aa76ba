use Rattle.std.proofs.Common.{◌≤◌, ◌-◌, true, length}
use Rattle.review_folds.specs.Moves.{Groups}
use Rattle.review_folds.proofs.moves.folded.Given as goal

abbrev pub invariant-loop-at : goal.invariant-loop-at
invariant-loop-at l = record { within : l.at ≤ length l.found.moves.items; groups : Groups true l.ranges l.found 0 l.at l.groups.items }

abbrev pub decreases-loop-at : goal.decreases-loop-at
decreases-loop-at l = length l.found.moves.items - l.at
