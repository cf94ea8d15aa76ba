use Rattle.std.proofs.Common.{◌≤◌}
use Rattle.yaml_sink.specs.ListModel.{Lifted}
use Rattle.yaml_sink.proofs.list.lift.Given as goal

abbrev pub invariant-places : goal.invariant-places
invariant-places l =
    record {
      low : l.from ≤ l.at;
      high : l.at ≤ l.to;
      lifted : Lifted l.initial.events.items l.at l.to l.by l.events.items;
    }

abbrev pub decreases-places : goal.decreases-places
decreases-places l = l.at
