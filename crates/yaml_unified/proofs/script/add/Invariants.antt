use Rattle.std.proofs.Common.{◌≡◌, ◌++◌, drop}
use Rattle.std.specs.List.{flat_map}
use Rattle.yaml_unified.specs.Script.{content, left_part, right_part}
use Rattle.yaml_unified.proofs.script.add.Given as goal

abbrev pub invariant-loop-line : goal.invariant-loop-line
invariant-loop-line l =
    record {
      put : flat_map right_part l.edits.items ++ flat_map content (drop l.line-index l.lines) ≡ flat_map right_part l.fn.edits.items ++ flat_map content l.lines;
      kept : flat_map left_part l.edits.items ≡ flat_map left_part l.fn.edits.items;
    }
