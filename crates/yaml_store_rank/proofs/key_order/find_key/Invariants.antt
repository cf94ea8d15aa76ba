use Rattle.std.proofs.Common.{ℕ, ◌-◌, ◌<◌, ◌≤◌, length, slice_index}
use Rattle.yaml_store_rank.specs.KeyOrder.{number_pairs, entry_at}
use Rattle.yaml_store_rank.proofs.key_order.find_key.Given as goal

abbrev pub invariant-loop-low : goal.invariant-loop-low
invariant-loop-low l =
    record {
      order : l.low ≤ l.high;
      within : l.high ≤ length l.order;
      below : (k : ℕ) → k < l.low → slice_index l.ranks (entry_at (number_pairs l.entries) (slice_index l.order k)).0 < l.rank;
      above : (k : ℕ) → l.high ≤ k → k < length l.order → l.rank < slice_index l.ranks (entry_at (number_pairs l.entries) (slice_index l.order k)).0;
    }

abbrev pub decreases-loop-low : goal.decreases-loop-low
decreases-loop-low l = l.high - l.low
