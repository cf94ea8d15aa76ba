use Rattle.std.proofs.Common.{◌≡◌, take}
use Rattle.yaml_diff.specs.Looks.{places_in}
use Rattle.yaml_diff.proofs.look.places_of.Given as goal

abbrev pub invariant-loop-step : goal.invariant-loop-step
invariant-loop-step l = l.list.items ≡ places_in (take l.step-index l.steps)
