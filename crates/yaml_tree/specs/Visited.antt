-- How many nodes were visited.
use Rattle.std.specs.Prelude.{ℕ}
use Rattle.yaml_tree.specs.declared.visits.Visits.{Visits}

abbrev pub count_of : Visits → ℕ
count_of v = v.count
