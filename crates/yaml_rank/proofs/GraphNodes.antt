-- The nodes of a graph with its ranks, as ranked nodes.
use Rattle.std.proofs.Common.{◌≡◌, ℕ, zero, suc, ◌<◌, true, List, [], ◌∷◌, Vec, Global, length, map, get_or, refl, sym, ◌∙◌, ap, subst, arith}
use Rattle.std.specs.Prelude.{Some}
use Rattle.std.specs.List.{slice_get, All}
use Rattle.std.specs.Cow.{cow_str_bytes}
use Rattle.yaml_definitions.specs.model.Tree.{Tree, sequence, mapping}
use Rattle.yaml_definitions.specs.model.Order.{arranged}
use Rattle.yaml_definitions.specs.model.Same.{same}
use Rattle.yaml_definitions.proofs.Equivalence.{same_refl}
use Rattle.yaml_tree.specs.TreeLists.{trees, pairs}
use Rattle.yaml_graph.specs.GraphModel.{Entries, items_of}
use Rattle.yaml_graph.specs.GraphView.{nodes_of, tree}
use Rattle.yaml_tree.specs.declared.node.NodeId.{NodeId}
use Rattle.yaml_graph.specs.declared.node.Node.{Node}
use Rattle.yaml_graph.specs.declared.node.NodeKind.{NodeKind}
use Rattle.yaml_graph.specs.declared.node.NodeKind.TheVariants as kinds
use Rattle.yaml_graph.specs.declared.graph.Graph.{Graph}
use Rattle.yaml_tree.specs.View.{Inside, content, items, entries, InsideBelow, inside_tree}
use Rattle.yaml_tree.specs.Insides.{Held}
use Rattle.yaml_rank.specs.RanksView.{RanksAre, sorted_of}
use Rattle.yaml_rank.specs.Laws.{arranged_kind}
use Rattle.yaml_rank.specs.declared.ranks.Ranks.{Ranks}
use Rattle.yaml_rank.proofs.Shapes.{sorted-is-arranged}
use Rattle.yaml_rank.specs.TreeRanks.{rank_in}
use Rattle.yaml_spell.specs.RankedNodes.{RanksTell}
use Rattle.yaml_rank.proofs.RankLaws.{rank-there, same-rank, rank-same}
use Rattle.yaml_spell.proofs.ShownLaws.{map-twice, all-map}

abbrev number : NodeId → ℕ
number i = i.0

abbrev numbers : NodeId × NodeId → ℕ × ℕ
numbers p = (p.0.0, p.1.0)

-- what is inside a node, with the entries of a mapping in order
abbrev pub kind_inside : Entries → NodeKind → Inside
kind_inside sorted (kinds.Scalar x) = content (cow_str_bytes x)
kind_inside sorted (kinds.Sequence is) = items (map number is.items)
kind_inside sorted (kinds.Mapping es) = entries (map numbers sorted)

there : {X : Type 0} (xs : List X) (k : ℕ) → k < length xs → (x : X) × (slice_get xs k ≡ Some x)
there [] k h = absurd (omega arith)
there (x ∷ xs) zero h = (x, refl)
there (x ∷ xs) (suc k) h = there xs k (omega arith)

module _ (g : Graph) (r : Ranks) (are : RanksAre g r) where
  abbrev T : ℕ → Tree
  T i = arranged (tree g i)

  kind-tree : (tag : List ℕ) (sorted : Entries) (kind : NodeKind) → arranged_kind g tag sorted kind ≡ inside_tree T tag (kind_inside sorted kind)
  kind-tree tag sorted (kinds.Scalar x) = refl
  kind-tree tag sorted (kinds.Sequence is) = ap (λ z. sequence tag (trees z)) (sym (map-twice number T is.items))
  kind-tree tag sorted (kinds.Mapping es) = ap (λ z. mapping tag (pairs z)) (sym (map-twice numbers (λ p. (T p.0, T p.1)) sorted))

  -- the entries in order stand below their mapping as the entries do
  sorted-below : (i : ℕ) (n : Node) (e : Vec (NodeId × NodeId) Global) → i < length (nodes_of g) → slice_get (nodes_of g) i ≡ Some n → slice_get (sorted_of r) i ≡ Some e → All (λ p. (p.0.0 < i) × (p.1.0 < i)) e.items
  sorted-below i n e l h q k d m =
      let o = are.sorts i l n e h q in
      let c = o.same.1 (get_or e.items k d) (k, m, itself e.items k d m) in
      subst (λ z. (z.0.0 < i) × (z.1.0 < i)) c.2 ((g.grounded i n h).1 c.0 (get_or e.items k d) c.1)
    where
      itself : {X : Type 0} (xs : List X) (k : ℕ) (d : X) → k < length xs → get_or xs k (get_or xs k d) ≡ get_or xs k d
      itself [] k d h = absurd (omega arith)
      itself (x ∷ xs) zero d h = refl
      itself (x ∷ xs) (suc k) d h = itself xs k d (omega arith)

  kind-within : (i : ℕ) (n : Node) (e : Vec (NodeId × NodeId) Global) → i < length (nodes_of g) → slice_get (nodes_of g) i ≡ Some n → slice_get (sorted_of r) i ≡ Some e → InsideBelow (length (nodes_of g)) (kind_inside e.items n.kind)
  kind-within i n e l h q = by n.kind (g.grounded i n h).0
    where
      low : All (λ p. (p.0.0 < i) × (p.1.0 < i)) e.items
      low = sorted-below i n e l h q

      by : (kind : NodeKind) → All (λ j. j.0 < i) (items_of kind) → InsideBelow (length (nodes_of g)) (kind_inside e.items kind)
      by (kinds.Scalar x) b = (λ k d m. absurd (omega arith), λ k d m. absurd (omega arith))
      by (kinds.Sequence is) b = (all-map number (λ j. j < length (nodes_of g)) is.items (λ k d m. let z = b k d m in omega (arith, z, l)), λ k d m. absurd (omega arith))
      by (kinds.Mapping es) b = (λ k d m. absurd (omega arith), all-map numbers (λ p. (p.0 < length (nodes_of g)) × (p.1 < length (nodes_of g))) e.items (λ k d m. let z = low k d m in let x = z.0 in let y = z.1 in (omega arith, omega arith)))

  -- what the ranks make of a node
  module _ (i : ℕ) (n : Node) (l : i < length (nodes_of g)) (h : slice_get (nodes_of g) i ≡ Some n) where
    place : (e : Vec (NodeId × NodeId) Global) × (slice_get (sorted_of r) i ≡ Some e)
    place = there (sorted_of r) i (omega (arith, l, are.sized))

    pub graph_shown : (x : Inside) → ((e : Vec (NodeId × NodeId) Global) → slice_get (sorted_of r) i ≡ Some e → x ≡ kind_inside e.items n.kind) → T i ≡ inside_tree T (cow_str_bytes n.tag) x
    graph_shown x f =
        let p = place in
        sorted-is-arranged g r are i n p.0 l h p.1 ∙ kind-tree (cow_str_bytes n.tag) p.0.items n.kind ∙ ap (inside_tree T (cow_str_bytes n.tag)) (sym (f p.0 p.1))

    pub graph_within : (x : Inside) → ((e : Vec (NodeId × NodeId) Global) → slice_get (sorted_of r) i ≡ Some e → x ≡ kind_inside e.items n.kind) → InsideBelow (length (nodes_of g)) x
    graph_within x f = let p = place in subst (InsideBelow (length (nodes_of g))) (sym (f p.0 p.1)) (kind-within i n p.0 l h p.1)

    held : (x : Held) × InsideBelow (length (nodes_of g)) x.1 × (T i ≡ inside_tree T x.0 x.1)
    held =
        let p = place in
        ((cow_str_bytes n.tag, kind_inside p.0.items n.kind), kind-within i n p.0 l h p.1, sorted-is-arranged g r are i n p.0 l h p.1 ∙ kind-tree (cow_str_bytes n.tag) p.0.items n.kind)

  pub graph_tells : RanksTell (length (nodes_of g)) T (rank_in g r)
  graph_tells = record {
    made = λ i l. let n = there (nodes_of g) i l in held i n.0 l n.1;
    tell = λ i j a b. (
      λ e. subst (λ z. same (T i) z ≡ true) (rank-same g r are i j a b (sym (rank-there g r are i a) ∙ e ∙ rank-there g r are j b)) (same_refl (T i)),
      λ e. rank-there g r are i a ∙ same-rank g r are i j a b e ∙ sym (rank-there g r are j b),
    );
  }
