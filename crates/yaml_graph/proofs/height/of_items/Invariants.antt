use Rattle.std.proofs.Common.{◌≡◌, ℕ, List, map, take}
use Rattle.yaml_definitions.specs.model.Tree.{Tree, sequence}
use Rattle.yaml_tree.specs.TreeLists.{trees, cut}
use Rattle.yaml_graph.specs.GraphModel.{trees_at}
use Rattle.yaml_graph.proofs.height.of_items.Given as goal

abbrev pub invariant-loop-item : goal.invariant-loop-item
invariant-loop-item l = (ts : List Tree) → l.heights ≡ map cut ts → (g : List ℕ) → l.height ≡ cut (sequence g (trees (trees_at ts (take l.item-index l.items))))
