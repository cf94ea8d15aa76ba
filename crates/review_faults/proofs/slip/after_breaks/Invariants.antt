use Rattle.std.proofs.Common.{◌≡◌, length}
use Rattle.review_faults.specs.Slips.{after_breaks}
use Rattle.review_faults.proofs.slip.after_breaks.Given as goal

abbrev pub invariant-bytes : goal.invariant-bytes
invariant-bytes l = after_breaks l.rest ≡ after_breaks l.fn.text

abbrev pub decreases-bytes : goal.decreases-bytes
decreases-bytes l = length l.rest
