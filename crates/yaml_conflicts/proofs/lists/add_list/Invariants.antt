use Rattle.std.proofs.Common.{◌≡◌, ◌++◌, map}
use Rattle.std.specs.Vec.Iter.{into_iter_items}
use Rattle.yaml_conflicts.specs.Found.{under, line_of}
use Rattle.yaml_conflicts.proofs.lists.add_list.Given as goal

abbrev pub invariant-loop-conflict : goal.invariant-loop-conflict
invariant-loop-conflict l =
    record {
      all : l.yielded ++ into_iter_items l.conflict-iterator ≡ l.fn.more.items;
      lines : map line_of l.list.items ≡ map line_of l.fn.list.items ++ map (under l.step) (map line_of l.yielded);
    }
