use Rattle.std.proofs.Common.{◌≡◌, ◌≤◌, ◌<◌, ◌+◌, ◌-◌, ℕ, length}
use Rattle.yaml_sink.specs.ListModel.{IsBefore, IsBehind}
use Rattle.yaml_sink.proofs.list.EventList.search.Given as goal

abbrev pub invariant-halves : goal.invariant-halves
invariant-halves l =
    record {
      order : l.low ≤ l.high;
      within : l.high ≤ length l.self.starts.items;
      counted : l.low ≤ l.mark;
      before : (k : ℕ) → k + 1 ≡ l.low → IsBefore l.self.starts.items k l.mark;
      behind : l.high < length l.self.starts.items → IsBehind l.self.starts.items l.high l.mark;
    }

abbrev pub decreases-halves : goal.decreases-halves
decreases-halves l = l.high - l.low
