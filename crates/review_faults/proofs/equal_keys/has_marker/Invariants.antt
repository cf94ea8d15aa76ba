use Rattle.std.proofs.Common.{◌≡◌, length}
use Rattle.review_faults.specs.EventSpots.{has_marker}
use Rattle.review_faults.proofs.equal_keys.has_marker.Given as goal

abbrev pub invariant-bytes : goal.invariant-bytes
invariant-bytes l = has_marker l.rest ≡ has_marker l.fn.text

abbrev pub decreases-bytes : goal.decreases-bytes
decreases-bytes l = length l.rest
