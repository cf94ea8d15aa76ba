use Rattle.std.proofs.Common.{ℕ, ◌<◌, true, slice_index}
use Rattle.yaml_text.proofs.front.len_by_one.Given as goal

abbrev pub invariant-loop-at : goal.invariant-loop-at
invariant-loop-at g l = (k : ℕ) → k < l.at → goal.F-post g l.is_one (slice_index l.bytes k) true
