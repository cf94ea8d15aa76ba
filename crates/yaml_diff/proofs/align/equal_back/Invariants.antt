use Rattle.std.proofs.Common.{◌≡◌, ◌+◌, ◌-◌, ◌<◌, ◌≤◌, suc, length, ℕ}
use Rattle.yaml_diff.specs.Found.{SameRanks}
use Rattle.yaml_diff.proofs.align.equal_back.Given as goal

abbrev pub invariant-loop-left : goal.invariant-loop-left
invariant-loop-left l =
    record {
      left : l.left ≤ length l.lefts;
      right : l.right ≤ length l.rights;
      onward : l.front ≤ l.left;
      onward_too : l.front ≤ l.right;
      level : l.left + length l.rights ≡ l.right + length l.lefts;
      same : (i j k : ℕ) → i < length l.lefts - l.left → i + suc j ≡ length l.lefts → i + suc k ≡ length l.rights → SameRanks l.forests l.lefts l.rights j k;
    }

abbrev pub decreases-loop-left : goal.decreases-loop-left
decreases-loop-left l = l.left
