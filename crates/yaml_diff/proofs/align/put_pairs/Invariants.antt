use Rattle.std.proofs.Common.{◌≡◌, ◌++◌, ◌-◌, ◌≤◌}
use Rattle.yaml_path.specs.Ways.{turns}
use Rattle.yaml_diff.specs.Looks.{places_in}
use Rattle.yaml_diff.proofs.align.put_pairs.Given as goal

abbrev pub invariant-loop-left : goal.invariant-loop-left
invariant-loop-left l =
    record {
      within : l.left ≤ l.to.0;
      within_too : l.right ≤ l.to.1;
      level : l.to.0 - l.left ≡ l.to.1 - l.right;
      more : places_in l.steps.items ++ turns l.left l.right (l.to.0 - l.left) (l.to.1 - l.right) ≡ places_in l.fn.steps.items ++ turns l.fn.from.0 l.fn.from.1 (l.to.0 - l.fn.from.0) (l.to.1 - l.fn.from.1);
    }

abbrev pub decreases-loop-left : goal.decreases-loop-left
decreases-loop-left l = l.to.0 - l.left
