use Rattle.std.proofs.Common.{◌≡◌, ◌+◌, length, take}
use Rattle.yaml_sink.proofs.list.widen.Given as goal

abbrev pub invariant-ends : goal.invariant-ends
invariant-ends l =
    record {
      front : take (length l.fn.events.items) l.events.items ≡ l.fn.events.items;
      more : length l.events.items ≡ length l.fn.events.items + l.counter;
    }
