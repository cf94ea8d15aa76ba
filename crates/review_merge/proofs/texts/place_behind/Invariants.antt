use Rattle.std.proofs.Common.{◌≡◌, drop}
use Rattle.review_merge.specs.Parts.{values_in, place_behind}
use Rattle.review_merge.proofs.texts.place_behind.Given as goal

abbrev pub invariant-others : goal.invariant-others
invariant-others l = place_behind (values_in l.wholes) (values_in (drop l.other-index l.before)) l.text ≡ place_behind (values_in l.wholes) (values_in l.before) l.text
