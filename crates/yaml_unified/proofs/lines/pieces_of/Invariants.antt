use Rattle.std.proofs.Common.{◌≡◌, ◌++◌}
use Rattle.std.specs.List.{flat_map}
use Rattle.yaml_unified.specs.Script.{content}
use Rattle.yaml_unified.proofs.lines.pieces_of.Given as goal

abbrev pub invariant-lines : goal.invariant-lines
invariant-lines l = flat_map content l.pieces.items ++ l.line-iterator.rest.now ≡ l.fn.text
