use Rattle.std.proofs.Common.{◌≤◌}
use Rattle.yaml_diff.specs.Aligning.{AlignsFrom}
use Rattle.yaml_diff.proofs.align.take_anchors.Given as goal

abbrev pub invariant-loop-anchor : goal.invariant-loop-anchor
invariant-loop-anchor l =
    record {
      left : l.fn.from.0 ≤ l.at.0;
      right : l.fn.from.1 ≤ l.at.1;
      within : l.at.0 ≤ l.to.0;
      within_too : l.at.1 ≤ l.to.1;
      so_far : AlignsFrom l.fn.list.items l.fn.from.0 l.fn.from.1 l.at.0 l.at.1 l.list.items;
    }
