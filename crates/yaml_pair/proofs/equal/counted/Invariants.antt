use Rattle.std.proofs.Common.{◌≡◌, ℕ, ◌==◌, take}
use Rattle.std.specs.Prelude.{count_by, unwrap_or}
use Rattle.std.specs.BTreeMap.{get}
use Rattle.std.specs.Ordering.{nat_cmp}
use Rattle.yaml_pair.specs.Named.{AreCounts}
use Rattle.yaml_pair.proofs.equal.counted.Given as goal

abbrev pub invariant-loop-rank : goal.invariant-loop-rank
invariant-loop-rank l = AreCounts l.ranks l.names.items l.rank-index × ((q : ℕ) → unwrap_or (get nat_cmp l.before q) 0 ≡ count_by (λ x. x == q) (take l.rank-index l.ranks))
