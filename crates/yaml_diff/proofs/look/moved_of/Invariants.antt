use Rattle.std.proofs.Common.{◌≡◌, take}
use Rattle.yaml_diff.specs.Looks.{moved_in}
use Rattle.yaml_diff.proofs.look.moved_of.Given as goal

abbrev pub invariant-loop-step : goal.invariant-loop-step
invariant-loop-step l = l.list.items ≡ moved_in (take l.step-index l.steps)
