use Rattle.std.proofs.Common.{◌≢◌, ◌<◌, ◌≤◌, ◌-◌, ℕ, length, get_or}
use Rattle.yaml_path.proofs.place.source_line.Given as goal

abbrev pub invariant-loop-end : goal.invariant-loop-end
invariant-loop-end l = record {
  onward : l.at ≤ l.end;
  within : l.end ≤ length l.text;
  bare : (k : ℕ) → l.at ≤ k → k < l.end → (get_or l.text k 0 ≢ 10) × (get_or l.text k 0 ≢ 13);
}

abbrev pub decreases-loop-end : goal.decreases-loop-end
decreases-loop-end l = length l.text - l.end
