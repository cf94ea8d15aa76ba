use Rattle.std.proofs.Common.{◌≡◌, ◌++◌, ◌-◌, ◌<◌, ◌≤◌}
use Rattle.yaml_path.specs.Ways.{turns}
use Rattle.yaml_diff.proofs.align.take_turns.Given as goal

abbrev pub invariant-loop-left : goal.invariant-loop-left
invariant-loop-left l =
    record {
      within : l.left ≤ l.to.0;
      within_too : l.right ≤ l.to.1;
      more : l.list.items ++ turns l.left l.right (l.to.0 - l.left) (l.to.1 - l.right) ≡ l.fn.list.items ++ turns l.fn.from.0 l.fn.from.1 (l.to.0 - l.fn.from.0) (l.to.1 - l.fn.from.1);
    }

abbrev pub decreases-loop-left : goal.decreases-loop-left
decreases-loop-left l = l.to.0 - l.left

abbrev pub invariant-loop-left-2 : goal.invariant-loop-left-2
invariant-loop-left-2 l =
    record {
      within : l.left ≤ l.to.0;
      within_too : l.right ≤ l.to.1;
      rest : l.left < l.to.0 → l.right ≡ l.to.1;
      more : l.list.items ++ turns l.left l.right (l.to.0 - l.left) (l.to.1 - l.right) ≡ l.fn.list.items ++ turns l.fn.from.0 l.fn.from.1 (l.to.0 - l.fn.from.0) (l.to.1 - l.fn.from.1);
    }

abbrev pub decreases-loop-left-2 : goal.decreases-loop-left-2
decreases-loop-left-2 l = l.to.0 - l.left

abbrev pub invariant-loop-right : goal.invariant-loop-right
invariant-loop-right l =
    record {
      whole : l.left ≡ l.to.0;
      within_too : l.right ≤ l.to.1;
      more : l.list.items ++ turns l.left l.right (l.to.0 - l.left) (l.to.1 - l.right) ≡ l.fn.list.items ++ turns l.fn.from.0 l.fn.from.1 (l.to.0 - l.fn.from.0) (l.to.1 - l.fn.from.1);
    }

abbrev pub decreases-loop-right : goal.decreases-loop-right
decreases-loop-right l = l.to.1 - l.right
