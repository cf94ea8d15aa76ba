use Rattle.std.proofs.Common.{◌≡◌, ◌-◌, take}
use Rattle.review_merge.specs.Parts.{values_in, bytes_in}
use Rattle.review_merge.proofs.texts.left_of.Given as goal

abbrev pub invariant-texts : goal.invariant-texts
invariant-texts l = l.left ≡ l.fn.bytes - bytes_in (values_in (take l.text-index l.texts))
