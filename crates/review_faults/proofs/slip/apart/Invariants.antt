use Rattle.std.proofs.Common.{◌≡◌, length}
use Rattle.review_faults.specs.Slips.{apart}
use Rattle.review_faults.proofs.slip.apart.Given as goal

abbrev pub invariant-bytes : goal.invariant-bytes
invariant-bytes l = apart l.from l.rest ≡ apart l.fn.source l.fn.text

abbrev pub decreases-bytes : goal.decreases-bytes
decreases-bytes l = length l.rest
