use Rattle.yaml_tree.specs.Levels.{LevelsBy}
use Rattle.yaml_store.specs.StoreModel.{height_at}
use Rattle.yaml_store_rank.proofs.levels.levels.Given as goal

abbrev pub invariant-loop-number : goal.invariant-loop-number
invariant-loop-number l = LevelsBy (height_at l.nodes) l.number l.levels.items
