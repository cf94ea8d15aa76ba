use Rattle.std.proofs.Common.{◌≡◌, ◌++◌}
use Rattle.std.specs.Vec.Iter.{into_iter_items}
use Rattle.review_folds.specs.Ignored.{moves_outside}
use Rattle.review_folds.proofs.keep.moves_outside.Given as goal

abbrev pub invariant-loop-one : goal.invariant-loop-one
invariant-loop-one l = record {
  all : l.yielded ++ into_iter_items l.one-iterator ≡ l.fn.moves.items;
  kept : l.kept.items ≡ moves_outside l.forests l.patterns l.yielded;
}
