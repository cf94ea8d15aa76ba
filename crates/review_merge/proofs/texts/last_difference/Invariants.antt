use Rattle.std.proofs.Common.{◌≡◌, take}
use Rattle.review_merge.specs.Parts.{values_in, last_difference}
use Rattle.review_merge.proofs.texts.last_difference.Given as goal

abbrev pub invariant-wholes : goal.invariant-wholes
invariant-wholes l = l.last ≡ last_difference l.text (values_in (take l.whole-index l.wholes))
