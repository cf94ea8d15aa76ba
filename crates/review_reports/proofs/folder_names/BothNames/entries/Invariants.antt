use Rattle.std.proofs.Common.{◌≡◌, ◌≤◌, ◌+◌, ◌++◌, length}
use Rattle.std.specs.Prelude.{flat_map}
use Rattle.review_reports.specs.Names.{left_of, right_of, names_in}
use Rattle.review_reports.proofs.folder_names.BothNames.entries.Given as goal

abbrev pub invariant-loop : goal.invariant-loop
invariant-loop l = record {
  lefts : flat_map left_of l.entries.items ++ names_in l.left ≡ names_in l.fn.self.left.items;
  rights : flat_map right_of l.entries.items ++ names_in l.right ≡ names_in l.fn.self.right.items;
  few : l.counter + (length l.left + length l.right) ≤ length l.fn.self.left.items + length l.fn.self.right.items;
}
