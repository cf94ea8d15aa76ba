use Rattle.std.proofs.Common.{◌≡◌, ◌+◌, take}
use Rattle.yaml_rank.specs.LevelModel.{KeysMade}
use Rattle.yaml_rank.proofs.level_keys.keys.Given as goal

abbrev pub invariant-loop-number : goal.invariant-loop-number
invariant-loop-number l = (l.visits.count ≡ l.fn.visits.count + l.number-index) × KeysMade l.graph l.tags l.ranks (take l.number-index l.level) l.keys.items l.fn.sorted l.sorted
