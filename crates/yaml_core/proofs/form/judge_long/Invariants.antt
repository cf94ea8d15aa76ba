use Rattle.std.proofs.Common.{◌≡◌, ◌≤◌, ◌-◌, drop, length}
use Rattle.yaml_core.specs.Form.{form_of}
use Rattle.yaml_core.specs.State.{meaning}
use Rattle.yaml_core.proofs.form.judge_long.Given as goal

abbrev pub invariant-loop-at : goal.invariant-loop-at
invariant-loop-at l = (l.at ≤ length l.bytes) × (meaning l.state (drop l.at l.bytes) ≡ form_of l.bytes)

abbrev pub decreases-loop-at : goal.decreases-loop-at
decreases-loop-at l = length l.bytes - l.at
