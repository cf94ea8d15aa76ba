use Rattle.std.proofs.Common.{◌≡◌, drop}
use Rattle.yaml_core.specs.Form.{form_of}
use Rattle.yaml_core.specs.State.{meaning}
use Rattle.yaml_core.proofs.form.judge.Given as goal

abbrev pub invariant-loop-byte : goal.invariant-loop-byte
invariant-loop-byte l = meaning l.state (drop l.byte-index l.bytes) ≡ form_of l.bytes
