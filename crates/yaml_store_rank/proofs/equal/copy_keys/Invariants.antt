use Rattle.std.proofs.Common.{◌≡◌, map, take}
use Rattle.yaml_store_rank.proofs.equal.copy_keys.Given as goal

abbrev pub invariant-loop-entry : goal.invariant-loop-entry
invariant-loop-entry l = l.keys.items ≡ map (λ p. p.0) (take l.entry-index l.entries)
