use Rattle.std.proofs.Common.{◌≡◌, length}
use Rattle.yaml_sum.specs.Listed.{has_one_space, lines_of}
use Rattle.yaml_sum.proofs.listed.has_one_space.Given as goal

abbrev pub invariant-lines : goal.invariant-lines
invariant-lines l = has_one_space (lines_of l.list) ≡ has_one_space (lines_of l.rest)

abbrev pub decreases-lines : goal.decreases-lines
decreases-lines l = length l.rest
