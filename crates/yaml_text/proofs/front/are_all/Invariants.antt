use Rattle.std.proofs.Common.{◌≡◌, ℕ, ◌<◌, true, false, slice_index}
use Rattle.yaml_text.proofs.front.are_all.Given as goal

abbrev pub invariant-loop-byte : goal.invariant-loop-byte
invariant-loop-byte g l =
    (l.all ≡ true → (k : ℕ) → k < l.byte-index → goal.F-post g l.is_one (slice_index l.bytes k) true)
    × (l.all ≡ false → (k : ℕ) × (k < l.byte-index) × goal.F-post g l.is_one (slice_index l.bytes k) false)
