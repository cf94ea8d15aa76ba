use Rattle.std.proofs.Common.{◌≡◌, ◌++◌, map, take, drop, slice_index}
use Rattle.yaml_store_rank.specs.PartsModel.{two_ranks}
use Rattle.yaml_store_rank.proofs.settle.overwrite_entries.Given as goal

abbrev pub invariant-loop-entry : goal.invariant-loop-entry
invariant-loop-entry l = l.entries ≡ map (two_ranks (slice_index l.ranks)) (take l.entry-index l.fn.entries) ++ drop l.entry-index l.fn.entries
