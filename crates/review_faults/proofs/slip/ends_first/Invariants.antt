use Rattle.std.proofs.Common.{◌≡◌, length}
use Rattle.review_faults.specs.Slips.{ends_first}
use Rattle.review_faults.proofs.slip.ends_first.Given as goal

abbrev pub invariant-bytes : goal.invariant-bytes
invariant-bytes l = ends_first l.fn.mark l.rest ≡ ends_first l.fn.mark l.fn.text

abbrev pub decreases-bytes : goal.decreases-bytes
decreases-bytes l = length l.rest
