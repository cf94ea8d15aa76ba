use Rattle.std.proofs.Common.{false}
use Rattle.review_folds.specs.Moves.{Groups}
use Rattle.review_folds.proofs.moves.single.Given as goal

abbrev pub invariant-loop-first : goal.invariant-loop-first
invariant-loop-first l = Groups false l.ranges l.found 0 l.first l.groups.items
