use Rattle.std.proofs.Common.{◌≡◌, ◌++◌, replicate}
use Rattle.std.specs.Str.{chars}
use Rattle.std.specs.String.{string_bytes}
use Rattle.yaml_scalar.proofs.text.push_lines.Given as goal

abbrev pub invariant-loop-done : goal.invariant-loop-done
invariant-loop-done l = chars (string_bytes l.text) ≡ chars (string_bytes l.fn.text) ++ replicate l.done 10
