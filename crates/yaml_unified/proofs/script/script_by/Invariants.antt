use Rattle.std.proofs.Common.{◌≡◌, ◌++◌}
use Rattle.std.specs.List.{flat_map}
use Rattle.yaml_unified.specs.Script.{content, left_part, right_part}
use Rattle.yaml_unified.proofs.script.script_by.Given as goal

abbrev pub invariant-loop-pair : goal.invariant-loop-pair
invariant-loop-pair l =
    record {
      left : flat_map left_part l.edits.items ++ flat_map content l.rest.left.now ≡ flat_map content l.fn.left;
      right : flat_map right_part l.edits.items ++ flat_map content l.rest.right.now ≡ flat_map content l.fn.right;
    }
