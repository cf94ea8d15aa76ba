use Rattle.std.proofs.Common.{◌≡◌, ◌++◌, drop}
use Rattle.std.specs.List.{flat_map}
use Rattle.std.specs.String.{string_bytes}
use Rattle.yaml_unified.specs.Unified.{line_text, hunk_text}
use Rattle.yaml_unified.proofs.hunk.put_hunk.Given as goal

abbrev pub invariant-loop-edit : goal.invariant-loop-edit
invariant-loop-edit l = string_bytes l.out ++ flat_map line_text (drop l.edit-index l.shown) ≡ string_bytes l.fn.out ++ hunk_text l.left l.right l.shown
