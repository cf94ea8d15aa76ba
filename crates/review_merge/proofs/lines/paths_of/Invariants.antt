use Rattle.std.proofs.Common.{◌≡◌, map, take}
use Rattle.review_merge.specs.Lines.{steps_of}
use Rattle.review_merge.proofs.lines.paths_of.Given as goal

abbrev pub invariant-list : goal.invariant-list
invariant-list l = map (λ path. path.items) l.paths.items ≡ map steps_of (take l.one-index l.list)
