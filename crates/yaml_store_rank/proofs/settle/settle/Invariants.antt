use Rattle.std.proofs.Common.{take, slice_index}
use Rattle.yaml_store_rank.specs.PartsModel.{LevelSettled}
use Rattle.yaml_store_rank.proofs.settle.settle.Given as goal

abbrev pub invariant-loop-number : goal.invariant-loop-number
invariant-loop-number l = LevelSettled (slice_index l.ranks) l.nodes (take l.number-index l.level) l.fn.items l.fn.entries l.items l.entries
