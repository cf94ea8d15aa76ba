use Rattle.std.proofs.Common.{◌≡◌, ◌++◌}
use Rattle.yaml_show_scalar.specs.Stops.{limit_of}
use Rattle.yaml_show_scalar.specs.Texts.{times, written}
use Rattle.yaml_show_scalar.proofs.output.Out.put_times.Given as goal

abbrev pub invariant-loop : goal.invariant-loop
invariant-loop l = (limit_of l.self ≡ limit_of l.initial.self) × (written l.self ≡ written l.initial.self ++ times l.counter l.piece)
