use Rattle.std.proofs.Common.{◌≡◌, ℕ, length}
use Rattle.yaml_tree.specs.Levels.{level_of, total}
use Rattle.yaml_store_rank.proofs.levels.reach.Given as goal

abbrev pub invariant-loop : goal.invariant-loop
invariant-loop l = (length l.levels.items ≡ l.counter) × ((k : ℕ) → level_of l.levels.items k ≡ level_of l.fn.levels.items k) × (total l.levels.items ≡ total l.fn.levels.items)
