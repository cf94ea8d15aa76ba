use Rattle.std.proofs.Common.{◌≡◌, ℕ, ◌==◌, take}
use Rattle.std.specs.Prelude.{count_by, unwrap_or}
use Rattle.std.specs.BTreeMap.{get}
use Rattle.std.specs.Ordering.{nat_cmp}
use Rattle.yaml_pair.proofs.equal.counts.Given as goal

abbrev pub invariant-loop-rank : goal.invariant-loop-rank
invariant-loop-rank l = (q : ℕ) → unwrap_or (get nat_cmp l.counts q) 0 ≡ count_by (λ x. x == q) (take l.rank-index l.ranks)
