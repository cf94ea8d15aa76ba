use Rattle.std.proofs.Common.{ℕ, ◌<◌, ◌≤◌, ◌-◌, length, slice_index}
use Rattle.yaml_spell.specs.Quoted.{Plain}
use Rattle.yaml_spell.proofs.quoted.many_plain.Given as goal

abbrev pub invariant-test : goal.invariant-test
invariant-test l = (l.at ≤ length l.bytes) × ((k : ℕ) → k < l.at → Plain (slice_index l.bytes k))

abbrev pub decreases-test : goal.decreases-test
decreases-test l = length l.bytes - l.at
