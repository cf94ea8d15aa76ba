use Rattle.std.proofs.Common.{◌≡◌, ℕ, List, map, take}
use Rattle.yaml_definitions.specs.model.Tree.{Tree, mapping}
use Rattle.yaml_tree.specs.TreeLists.{pairs, cut}
use Rattle.yaml_graph.specs.GraphModel.{entries_at}
use Rattle.yaml_graph.proofs.height.of_entries.Given as goal

abbrev pub invariant-loop-key : goal.invariant-loop-key
invariant-loop-key l = (ts : List Tree) → l.heights ≡ map cut ts → (g : List ℕ) → l.height ≡ cut (mapping g (pairs (entries_at ts (take l.key-index l.entries))))
