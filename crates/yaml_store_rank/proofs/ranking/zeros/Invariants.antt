use Rattle.std.proofs.Common.{◌≡◌, length}
use Rattle.yaml_store_rank.proofs.ranking.zeros.Given as goal

abbrev pub invariant-loop : goal.invariant-loop
invariant-loop l = length l.ranks.items ≡ l.counter
