use Rattle.std.proofs.Common.{◌≤◌, ◌+◌, List, length, vec_len}
use Rattle.yaml_definitions.specs.model.Event.{Event}
use Rattle.yaml_sink.specs.ListModel.{HeldList}
use Rattle.yaml_sink.proofs.SettleLemmas.{Settled}
use Rattle.yaml_sink.proofs.list.EventList.settle.Given as goal

abbrev pub invariant-placing : goal.invariant-placing
invariant-placing l =
    record {
      room : l.to + length l.starts.items ≤ length l.events.items;
      settled : (log : List Event) → HeldList l.fn.self log → Settled log l.events.items l.starts.items l.to;
    }

abbrev pub decreases-placing : goal.decreases-placing
decreases-placing l = vec_len l.starts
