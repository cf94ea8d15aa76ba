use Rattle.std.proofs.Common.{◌≡◌, length}
use Rattle.review_faults.specs.Slips.{after_word}
use Rattle.review_faults.proofs.slip.after_word.Given as goal

abbrev pub invariant-bytes : goal.invariant-bytes
invariant-bytes l = after_word l.rest ≡ after_word l.fn.text

abbrev pub decreases-bytes : goal.decreases-bytes
decreases-bytes l = length l.rest
