use Rattle.std.proofs.Common.{◌-◌, ◌<◌, ◌≤◌, length, ℕ}
use Rattle.yaml_diff.specs.Found.{SameRanks}
use Rattle.yaml_diff.proofs.align.equal_front.Given as goal

abbrev pub invariant-loop-front : goal.invariant-loop-front
invariant-loop-front l =
    record {
      left : l.front ≤ length l.lefts;
      right : l.front ≤ length l.rights;
      same : (i : ℕ) → i < l.front → SameRanks l.forests l.lefts l.rights i i;
    }

abbrev pub decreases-loop-front : goal.decreases-loop-front
decreases-loop-front l = length l.lefts - l.front
