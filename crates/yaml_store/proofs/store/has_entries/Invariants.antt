use Rattle.std.proofs.Common.{◌≡◌, ◌*◌, ◌+◌, ◌<◌, ℕ, get_or}
use Rattle.yaml_store.proofs.store.has_entries.Given as goal

abbrev pub invariant-loop-place : goal.invariant-loop-place
invariant-loop-place l = (k : ℕ) → k < l.place → (c : ℕ × ℕ) (d : ℕ) → ((get_or l.entries k c).0 ≡ get_or l.parts (2 * k) d) × ((get_or l.entries k c).1 ≡ get_or l.parts (2 * k + 1) d)
