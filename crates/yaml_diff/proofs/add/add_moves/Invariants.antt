use Rattle.std.proofs.Common.{◌≡◌, ◌++◌, map}
use Rattle.std.specs.Vec.Iter.{into_iter_items}
use Rattle.yaml_diff.specs.Moves.{moved_under, move_line_of}
use Rattle.yaml_diff.proofs.add.add_moves.Given as goal

abbrev pub invariant-loop-one : goal.invariant-loop-one
invariant-loop-one l =
    record {
      all : l.yielded ++ into_iter_items l.one-iterator ≡ l.fn.more.items;
      moves : map move_line_of l.moves.items ≡ map move_line_of l.fn.moves.items ++ map (moved_under l.step) (map move_line_of l.yielded);
    }
