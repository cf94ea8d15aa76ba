use Rattle.std.proofs.Common.{◌≡◌, ◌++◌, map}
use Rattle.std.specs.Vec.Iter.{into_iter_items}
use Rattle.yaml_diff.specs.Lines.{under, line_of}
use Rattle.yaml_diff.proofs.add.add_list.Given as goal

abbrev pub invariant-loop-difference : goal.invariant-loop-difference
invariant-loop-difference l =
    record {
      all : l.yielded ++ into_iter_items l.difference-iterator ≡ l.fn.more.items;
      lines : map line_of l.list.items ≡ map line_of l.fn.list.items ++ map (under l.step) (map line_of l.yielded);
    }
