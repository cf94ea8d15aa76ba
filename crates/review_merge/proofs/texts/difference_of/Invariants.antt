use Rattle.std.proofs.Common.{◌≡◌, ◌+◌, drop}
use Rattle.review_merge.specs.Parts.{common}
use Rattle.review_merge.proofs.texts.difference_of.Given as goal

abbrev pub invariant-bytes : goal.invariant-bytes
invariant-bytes l = common l.one l.other ≡ l.at + common (drop l.at l.one) (drop l.at l.other)
