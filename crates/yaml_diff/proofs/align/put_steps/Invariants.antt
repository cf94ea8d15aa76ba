use Rattle.std.proofs.Common.{◌≡◌, ◌++◌, take}
use Rattle.yaml_diff.proofs.align.put_steps.Given as goal

abbrev pub invariant-loop-step : goal.invariant-loop-step
invariant-loop-step l = l.steps.items ≡ l.fn.steps.items ++ take l.step-index l.more
