use Rattle.std.proofs.Common.{◌≤◌, ◌+◌, ◌++◌, ℕ, List, length}
use Rattle.std.specs.String.{string_bytes}
use Rattle.yaml_unified.specs.Unified.{AreHunks, PutsHunks}
use Rattle.yaml_unified.proofs.unified.put_unified.Given as goal

abbrev pub invariant-hunks : goal.invariant-hunks
invariant-hunks l =
    record {
      text : (t : List ℕ) → AreHunks l.context l.rest.left l.rest.right l.rest.edits.now t → PutsHunks l.context l.edits (string_bytes l.fn.out) (string_bytes l.out ++ t);
      lefts : l.rest.left + length l.rest.edits.now ≤ 1 + length l.edits;
      rights : l.rest.right + length l.rest.edits.now ≤ 1 + length l.edits;
    }

abbrev pub decreases-hunks : goal.decreases-hunks
decreases-hunks l = length l.rest.edits.now
