use Rattle.std.proofs.Common.{◌≡◌, ◌++◌}
use Rattle.std.specs.Vec.Iter.{into_iter_items}
use Rattle.review_folds.specs.Ignored.{outside}
use Rattle.review_folds.proofs.keep.differences_outside.Given as goal

abbrev pub invariant-loop-difference : goal.invariant-loop-difference
invariant-loop-difference l = record {
  all : l.yielded ++ into_iter_items l.difference-iterator ≡ l.fn.list.items;
  kept : l.kept.items ≡ outside l.forests l.patterns l.yielded;
}
