use Rattle.std.proofs.Common.{◌≡◌, ℕ, ◌<◌, true, slice_index}
use Rattle.yaml_mark.specs.Classes.{class_of}
use Rattle.yaml_mark.proofs.runs.ascii_len.Given as goal

abbrev pub invariant-loop-at : goal.invariant-loop-at
invariant-loop-at l = (k : ℕ) → k < l.at → (slice_index l.bytes k < 128) × (class_of l.class (slice_index l.bytes k) ≡ true)
