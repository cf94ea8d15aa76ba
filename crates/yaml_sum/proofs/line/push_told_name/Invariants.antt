use Rattle.std.proofs.Common.{◌≡◌, ◌++◌, take}
use Rattle.yaml_sum.specs.Lines.{told_name}
use Rattle.yaml_sum.proofs.line.push_told_name.Given as goal

abbrev pub invariant-bytes : goal.invariant-bytes
invariant-bytes l = l.line.items ≡ l.initial.line.items ++ told_name l.is_text (take l.byte-index l.name)
