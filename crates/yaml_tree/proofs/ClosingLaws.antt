-- No node stands for a tree that is higher than the tree of its document.
use Rattle.std.proofs.Common.{◌≤◌, ℕ, List, [], ◌∷◌, ◌++◌, arith}
use Rattle.yaml_definitions.specs.model.Tree.{Tree, Trees, Pairs, scalar, sequence, mapping, end, item, done, entry, height, heights, heights_of_pairs}
use Rattle.yaml_definitions.specs.model.Serial.{SerialNode, SerialNodes, SerialPairs, alias_at, scalar_at, sequence_at, mapping_at, end_serial, item_serial, done_serial, entry_serial, Document}
use Rattle.yaml_tree.specs.Closing.{trees_inside, trees_inside_all, trees_inside_pairs, stream_trees}
use Rattle.yaml_tree.proofs.LowLaws.{Low}

low-append : (h : ℕ) (ts us : List Tree) → Low h ts → Low h us → Low h (ts ++ us)
low-append h [] us k l = l
low-append h (t ∷ ts) us k l = (k.0, low-append h ts us k.1 l)

mutual
  unfolding trees_inside

  low-node : (m : SerialNode) (t : Tree) (h : ℕ) → height t ≤ h → Low h (trees_inside m t)
  low-node (alias_at name) t h k = tt
  low-node (scalar_at a g y x) t h k = (k, tt)
  low-node (sequence_at a g b ms) (sequence w ts) h k = low-append h (trees_inside_all ms ts) (sequence w ts ∷ []) (low-all ms ts h k) (k, tt)
  low-node (sequence_at a g b ms) (scalar w x) h k = tt
  low-node (sequence_at a g b ms) (mapping w ps) h k = tt
  low-node (mapping_at a g b ps) (mapping w qs) h k = low-append h (trees_inside_pairs ps qs) (mapping w qs ∷ []) (low-pairs ps qs h k) (k, tt)
  low-node (mapping_at a g b ps) (scalar w x) h k = tt
  low-node (mapping_at a g b ps) (sequence w ts) h k = tt

  low-all : (ms : SerialNodes) (ts : Trees) (h : ℕ) → heights ts ≤ h → Low h (trees_inside_all ms ts)
  low-all end_serial ts h k = tt
  low-all (item_serial m ms) end h k = tt
  low-all (item_serial m ms) (item t ts) h k = low-append h (trees_inside m t) (trees_inside_all ms ts) (low-node m t h (omega arith)) (low-all ms ts h (omega arith))

  low-pairs : (ps : SerialPairs) (qs : Pairs) (h : ℕ) → heights_of_pairs qs ≤ h → Low h (trees_inside_pairs ps qs)
  low-pairs done_serial qs h k = tt
  low-pairs (entry_serial i j ps) done h k = tt
  low-pairs (entry_serial i j ps) (entry t u qs) h k =
      low-append h (trees_inside i t) (trees_inside j u ++ trees_inside_pairs ps qs) (low-node i t h (omega arith))
      (low-append h (trees_inside j u) (trees_inside_pairs ps qs) (low-node j u h (omega arith)) (low-pairs ps qs h (omega arith)))

pub low-stream : (ds : List Document) (ts : List Tree) (h : ℕ) → Low h ts → Low h (stream_trees ds ts)
unfolding stream_trees
low-stream [] ts h k = tt
low-stream (d ∷ ds) [] h k = tt
low-stream (d ∷ ds) (t ∷ ts) h k = low-append h (trees_inside d.root t) (stream_trees ds ts) (low-node d.root t h k.0) (low-stream ds ts h k.1)
