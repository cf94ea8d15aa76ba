use Rattle.std.proofs.Common.{◌≤◌}
use Rattle.std.specs.Str.{IsCharBoundary}
use Rattle.std.specs.String.{string_bytes}
use Rattle.yaml_events.proofs.ValueReading.{IsReading}
use Rattle.yaml_events.proofs.value.read_value.Given as goal

abbrev pub invariant-read : goal.invariant-read
invariant-read l = record {
  run : l.run ≤ l.at;
  border : IsCharBoundary l.value l.run;
  reads : IsReading l.escaped l.value l.at l.run (string_bytes l.out);
}
