use Rattle.std.proofs.Common.{◌≡◌, ◌++◌, [], take, drop}
use Rattle.review_merge.specs.Parts.{values_in, parts_behind}
use Rattle.review_merge.proofs.texts.parts_of.Given as goal

abbrev pub invariant-wholes : goal.invariant-wholes
invariant-wholes l = values_in l.parts.items ++ parts_behind (values_in l.wholes) (values_in (take l.at l.wholes)) (values_in (drop l.at l.wholes)) ≡ parts_behind (values_in l.wholes) [] (values_in l.wholes)
