use Rattle.std.proofs.Common.{◌≡◌, suc, min, max, List, drop}
use Rattle.yaml_definitions.specs.model.Limits.{height_limit}
use Rattle.yaml_definitions.specs.model.Tree.{Tree, heights}
use Rattle.yaml_tree.specs.TreeLists.{trees}
use Rattle.yaml_store.specs.StoreModel.{parts_at, AllMeasured}
use Rattle.yaml_store.proofs.store.height_over.Given as goal

abbrev pub invariant-loop-part : goal.invariant-loop-part
invariant-loop-part l = (ts : List Tree) → AllMeasured l.nodes ts → min (max l.height (heights (trees (parts_at ts (drop l.part-index l.parts))))) (suc height_limit) ≡ min (heights (trees (parts_at ts l.parts))) (suc height_limit)
