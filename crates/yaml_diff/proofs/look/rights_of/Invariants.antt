use Rattle.std.proofs.Common.{◌≡◌, map, take}
use Rattle.yaml_diff.specs.Looks.{right_of}
use Rattle.yaml_diff.proofs.look.rights_of.Given as goal

abbrev pub invariant-loop-step : goal.invariant-loop-step
invariant-loop-step l = l.list.items ≡ map right_of (take l.step-index l.steps)
