use Rattle.std.proofs.Common.{◌≡◌, ◌<◌, ◌≤◌, ℕ, false}
use Rattle.yaml_path.specs.LineModel.{ends_break}
use Rattle.yaml_path.proofs.place.line_start.Given as goal

abbrev pub invariant-loop-start : goal.invariant-loop-start
invariant-loop-start l = record { before : l.start ≤ l.at; unbroken : (k : ℕ) → l.start ≤ k → k < l.at → ends_break l.text k ≡ false }

abbrev pub decreases-loop-start : goal.decreases-loop-start
decreases-loop-start l = l.start
