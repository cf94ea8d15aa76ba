use Rattle.std.proofs.Common.{◌≡◌, false, take}
use Rattle.yaml_sum.specs.Lines.{is_special}
use Rattle.yaml_sum.proofs.line.is_escaped.Given as goal

abbrev pub invariant-bytes : goal.invariant-bytes
invariant-bytes l = is_special (take l.byte-index l.name) ≡ false
