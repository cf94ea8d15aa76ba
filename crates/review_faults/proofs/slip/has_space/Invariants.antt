use Rattle.std.proofs.Common.{◌≡◌, length}
use Rattle.review_faults.specs.Slips.{has_space}
use Rattle.review_faults.proofs.slip.has_space.Given as goal

abbrev pub invariant-bytes : goal.invariant-bytes
invariant-bytes l = has_space l.rest ≡ has_space l.fn.text

abbrev pub decreases-bytes : goal.decreases-bytes
decreases-bytes l = length l.rest
