-- Equal keys of the nodes of a graph, by their trees.
use Rattle.std.proofs.Common.{◌≡◌, ◌<◌, ℕ, List, length, map, refl, ◌∙◌, ap}
use Rattle.std.specs.Prelude.{Some}
use Rattle.std.specs.List.{slice_get}
use Rattle.std.specs.Cow.{cow_str_bytes}
use Rattle.yaml_definitions.specs.model.Tree.{Tree}
use Rattle.yaml_tree.specs.TreeLists.{tree_at}
use Rattle.yaml_tree.specs.declared.node.NodeId.{NodeId}
use Rattle.yaml_tree.specs.Keys.{pairs_of, TreeRepeats}
use Rattle.yaml_tree.proofs.Repeats.{listed-pairs, to-tree, from-tree}
use Rattle.yaml_tree.proofs.Lists.{get-some}
use Rattle.yaml_graph.specs.GraphModel.{kind_tree, entries_of}
use Rattle.yaml_graph.specs.GraphView.{nodes_of, graph_trees, tree}
use Rattle.yaml_graph.specs.declared.node.Node.{Node}
use Rattle.yaml_graph.specs.declared.node.NodeKind.{NodeKind}
use Rattle.yaml_graph.specs.declared.node.NodeKind.TheVariants as kinds
use Rattle.yaml_graph.specs.declared.graph.Graph.{Graph}
use Rattle.yaml_graph.proofs.GraphLaws.{node-tree}
use Rattle.yaml_rank.specs.RankModel.{EqualAt}

-- ---- nodes of a graph

abbrev id_trees : List Tree → NodeId × NodeId → Tree × Tree
id_trees ts p = (tree_at ts p.0.0, tree_at ts p.1.0)

kind-pairs : (ts : List Tree) (g : List ℕ) (kind : NodeKind) → pairs_of (kind_tree ts g kind) ≡ map (id_trees ts) (entries_of kind)
kind-pairs ts g (kinds.Scalar x) = refl
kind-pairs ts g (kinds.Sequence is) = refl
kind-pairs ts g (kinds.Mapping es) = listed-pairs (map (id_trees ts) es.items)

node-pairs : (g : Graph) (k : ℕ) (n : Node) → slice_get (nodes_of g) k ≡ Some n → pairs_of (tree g k) ≡ map (id_trees (graph_trees g)) (entries_of n.kind)
node-pairs g k n e = ap pairs_of (node-tree (nodes_of g) k n g.grounded e) ∙ kind-pairs (graph_trees g) (cow_str_bytes n.tag) n.kind

pub graph-to : (g : Graph) (k first second : ℕ) → EqualAt g k first second → TreeRepeats (tree g k) first second
graph-to g k first second e =
    to-tree (id_trees (graph_trees g)) (entries_of e.node.kind) (tree g k) (node-pairs g k e.node e.is) first second
    (record { in_order = e.in_order; earlier = e.earlier; later = e.later; earlier_is = e.earlier_is; later_is = e.later_is; equal = e.equal })

pub graph-from : (g : Graph) (k first second : ℕ) → k < length (nodes_of g) → TreeRepeats (tree g k) first second → EqualAt g k first second
graph-from g k first second l r =
    let n = get-some (nodes_of g) k l in
    let e = from-tree (id_trees (graph_trees g)) (entries_of n.0.kind) (tree g k) (node-pairs g k n.0 n.1) first second r in
    record { node = n.0; is = n.1; in_order = e.in_order; earlier = e.earlier; later = e.later; earlier_is = e.earlier_is; later_is = e.later_is; equal = e.equal }
