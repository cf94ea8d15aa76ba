use Rattle.std.proofs.Common.{◌≡◌, ◌++◌, take}
use Rattle.yaml_sum.specs.Lines.{name_text}
use Rattle.yaml_sum.proofs.line.push_name.Given as goal

abbrev pub invariant-bytes : goal.invariant-bytes
invariant-bytes l = l.line.items ≡ l.initial.line.items ++ name_text (take l.byte-index l.name)
