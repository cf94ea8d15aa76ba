use Rattle.std.proofs.Common.{◌≡◌, false, take}
use Rattle.std.specs.List.{list_any}
use Rattle.review_lines.specs.Searched.{is_high}
use Rattle.review_lines.proofs.search.has_high.Given as goal

abbrev pub invariant-loop-root : goal.invariant-loop-root
invariant-loop-root l = list_any (λ i. is_high l.forests i.0) (take l.root-index l.roots) ≡ false
