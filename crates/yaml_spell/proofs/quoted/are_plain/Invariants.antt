use Rattle.std.proofs.Common.{◌≡◌, ℕ, ◌<◌, true, false, slice_index}
use Rattle.yaml_spell.specs.Quoted.{Plain, Other}
use Rattle.yaml_spell.proofs.quoted.are_plain.Given as goal

abbrev pub invariant-loop-byte : goal.invariant-loop-byte
invariant-loop-byte l =
    (l.all ≡ true → (k : ℕ) → k < l.byte-index → Plain (slice_index l.bytes k))
    × (l.all ≡ false → (k : ℕ) × (k < l.byte-index) × Other (slice_index l.bytes k))
