-- A graph as a view of nodes.
use Rattle.std.proofs.Common.{◌≡◌, ℕ, zero, suc, ◌<◌, List, [], ◌∷◌, ◌++◌, length, map, refl, sym, ◌∙◌, ap, subst, arith}
use Rattle.std.specs.Prelude.{Option, Some, None}
use Rattle.std.specs.List.{slice_get, All}
use Rattle.std.specs.Cow.{cow_str_bytes}
use Rattle.yaml_definitions.specs.model.Tree.{Tree, sequence, mapping}
use Rattle.yaml_tree.specs.TreeLists.{trees, pairs, tree_at}
use Rattle.yaml_tree.specs.Insides.{Held, held_tree, more_held}
use Rattle.yaml_tree.specs.declared.node.NodeId.{NodeId}
use Rattle.yaml_tree.specs.View.{View, Inside, content, items, entries, entries_in, inside_tree, InsideBelow}
use Rattle.yaml_tree.proofs.Lists.{get-some, get-map, get-unmap}
use Rattle.yaml_tree.proofs.InsideLaws.{held-tree}
use Rattle.yaml_graph.specs.GraphModel.{kind_tree, node_tree, more_trees, trees_in, entries_of, PartsBelow}
use Rattle.yaml_graph.specs.GraphView.{nodes_of, tree}
use Rattle.yaml_graph.specs.declared.node.Node.{Node}
use Rattle.yaml_graph.specs.declared.node.NodeKind.{NodeKind}
use Rattle.yaml_graph.specs.declared.node.NodeKind.TheVariants as kinds
use Rattle.yaml_graph.specs.declared.graph.Graph.{Graph}

abbrev pub number : NodeId → ℕ
number i = i.0

abbrev pub numbers : NodeId × NodeId → ℕ × ℕ
numbers p = (p.0.0, p.1.0)

abbrev pub kind_inside : NodeKind → Inside
kind_inside (kinds.Scalar x) = content (cow_str_bytes x)
kind_inside (kinds.Sequence is) = items (map number is.items)
kind_inside (kinds.Mapping es) = entries (map numbers es.items)

abbrev pub inside_at : Option Node → Inside
inside_at (Some n) = kind_inside n.kind
inside_at None = content []

abbrev pub tag_at : Option Node → List ℕ
tag_at (Some n) = cow_str_bytes n.tag
tag_at None = []

map-twice : {X Y Z : Type 0} (f : X → Y) (h : Y → Z) (xs : List X) → map h (map f xs) ≡ map (λ x. h (f x)) xs
map-twice f h [] = refl
map-twice f h (x ∷ xs) = ap (λ zs. h (f x) ∷ zs) (map-twice f h xs)

all-map : {X Y : Type 0} (f : X → Y) (P : Y → Type 0) (xs : List X) → All (λ x. P (f x)) xs → All P (map f xs)
all-map f P [] a k d l = absurd (omega arith)
all-map f P (x ∷ xs) a zero d l = a 0 x (omega arith)
all-map f P (x ∷ xs) a (suc k) d l = all-map f P xs (λ j e m. a (suc j) e (omega arith)) k d (omega arith)

pub entries-inside : (kind : NodeKind) → entries_in (kind_inside kind) ≡ map numbers (entries_of kind)
entries-inside (kinds.Scalar x) = refl
entries-inside (kinds.Sequence is) = refl
entries-inside (kinds.Mapping es) = refl

kind-made : (ts : List Tree) (g : List ℕ) (kind : NodeKind) → kind_tree ts g kind ≡ inside_tree (λ i. tree_at ts i) g (kind_inside kind)
kind-made ts g (kinds.Scalar x) = refl
kind-made ts g (kinds.Sequence is) = ap (λ us. sequence g (trees us)) (sym (map-twice number (λ i. tree_at ts i) is.items))
kind-made ts g (kinds.Mapping es) = ap (λ ps. mapping g (pairs ps)) (sym (map-twice numbers (λ p. (tree_at ts p.0, tree_at ts p.1)) es.items))

kind-below : (k : ℕ) (kind : NodeKind) → PartsBelow k kind → InsideBelow k (kind_inside kind)
kind-below k (kinds.Scalar x) b = (λ j d l. absurd (omega arith), λ j d l. absurd (omega arith))
kind-below k (kinds.Sequence is) b = (all-map number (λ i. i < k) is.items b.0, λ j d l. absurd (omega arith))
kind-below k (kinds.Mapping es) b = (λ j d l. absurd (omega arith), all-map numbers (λ p. (p.0 < k) × (p.1 < k)) es.items b.1)

-- the nodes as they are held
abbrev pub node_held : Node → Held
node_held n = (cow_str_bytes n.tag, kind_inside n.kind)

pub more-trees : (ts : List Tree) (ns : List Node) → more_trees ts ns ≡ more_held ts (map node_held ns)
more-trees ts [] = refl
more-trees ts (n ∷ ns) =
    let e : node_tree ts n ≡ held_tree ts (node_held n) = kind-made ts (cow_str_bytes n.tag) n.kind in
    ap (λ t. more_trees (ts ++ (t ∷ [])) ns) e ∙ more-trees (ts ++ (held_tree ts (node_held n) ∷ [])) ns

pub graph-made : (g : Graph) (i : ℕ) → i < length (nodes_of g) → tree g i ≡ inside_tree (tree g) (tag_at (slice_get (nodes_of g) i)) (inside_at (slice_get (nodes_of g) i))
graph-made g i l =
    let ns = g.nodes.items in
    let n = get-some ns i l in
    let t = held-tree (map node_held ns) i (node_held n.0) (λ k h e. let m = get-unmap node_held ns k h e in subst (λ z. InsideBelow k z.1) m.2 (kind-below k m.0.kind (g.grounded k m.0 m.1))) (get-map node_held ns i n.0 n.1) in
    let u : tree_at (trees_in ns) i ≡ held_tree (trees_in ns) (node_held n.0) = subst (λ z. tree_at z i ≡ held_tree z (node_held n.0)) (sym (more-trees [] ns)) t in
    subst (λ o. tree g i ≡ inside_tree (tree g) (tag_at o) (inside_at o)) (sym n.1) u

pub graph-below : (g : Graph) (i : ℕ) → i < length (nodes_of g) → InsideBelow i (inside_at (slice_get (nodes_of g) i))
graph-below g i l = let n = get-some (nodes_of g) i l in subst (λ o. InsideBelow i (inside_at o)) (sym n.1) (kind-below i n.0.kind (g.grounded i n.0 n.1))

abbrev pub view_of : Graph → View
view_of g = record {
  count = length (nodes_of g);
  tag = λ i. tag_at (slice_get (nodes_of g) i);
  inside = λ i. inside_at (slice_get (nodes_of g) i);
  tree = tree g;
  made = graph-made g;
  below = graph-below g;
}
