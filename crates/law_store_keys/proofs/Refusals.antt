-- The equal keys for which the ranks of a graph are refused are the first ones of its nodes' trees.
use Rattle.std.proofs.Common.{◌≡◌, ◌⊎◌, ◌<◌, ◌≤◌, ℕ, List, [], ◌++◌, length, sym, ◌∙◌, ap, subst, arith}
use Rattle.std.specs.Prelude.{◌↔◌, Some, Ok}
use Rattle.std.specs.List.{slice_get}
use Rattle.std.proofs.lemmas.Option.{get_or_from_slice_get}
use Rattle.yaml_definitions.specs.model.Tree.{Tree, scalar, height}
use Rattle.yaml_definitions.specs.model.Serial.{Document}
use Rattle.yaml_definitions.specs.model.Unfold.{trees_of}
use Rattle.yaml_text.specs.declared.fault.Fault.TheVariants.{EqualKeys}
use Rattle.yaml_tree.specs.Closing.{stream_trees}
use Rattle.yaml_tree.specs.Keys.{TreeRepeats}
use Rattle.yaml_tree.specs.FirstRepeat.{IsFirstRepeat}
use Rattle.yaml_tree.proofs.Lists.{get-some}
use Rattle.yaml_tree.proofs.Numbering.{get-within}
use Rattle.yaml_graph.specs.GraphView.{nodes_of, graph_trees, tree}
use Rattle.yaml_graph.specs.JoinModel.{Joined}
use Rattle.yaml_graph.specs.Composed.{Composed}
use Rattle.yaml_graph.specs.declared.graph.Graph.{Graph}
use Rattle.yaml_graph.proofs.GraphLaws.{trees-length}
use Rattle.yaml_rank.specs.RankModel.{EqualAt}
use Rattle.yaml_rank.specs.RanksView.{RefusesGraph}
use Rattle.law_store_keys.proofs.Repeats.{graph-to, graph-from}

-- ---- a graph

module _ (g : Graph) where
  -- a tree of this number is the node's
  graph-tree : (k : ℕ) (t : Tree) → slice_get (graph_trees g) k ≡ Some t → (k < length (nodes_of g)) × (tree g k ≡ t)
  graph-tree k t e = (omega (arith, get-within (graph_trees g) k t e, trees-length (nodes_of g)), get_or_from_slice_get (graph_trees g) k t (scalar [] []) e)

  -- a node has a tree
  tree-there : (k : ℕ) → k < length (nodes_of g) → slice_get (graph_trees g) k ≡ Some (tree g k)
  tree-there k l =
      let t = get-some (graph_trees g) k (omega (arith, l, trees-length (nodes_of g))) in
      t.1 ∙ ap Some (sym (graph-tree k t.0 t.1).1)

  equal-within : (k i j : ℕ) → EqualAt g k i j → k < length (nodes_of g)
  equal-within k i j e = get-within (nodes_of g) k e.node e.is

  -- what refuses the ranks is the first of the trees
  pub refused-is-first : (n i j : ℕ) → RefusesGraph g (EqualKeys n i j) → IsFirstRepeat (graph_trees g) n i j
  refused-is-first n i j h =
      let within = equal-within n i j h.0.is in
      record {
        tree = tree g n;
        is = tree-there n within;
        repeats = graph-to g n i j h.0.is;
        earlier = λ f s r. h.0.before f s (graph-from g n f s within r);
        least = λ m f s t e r.
            let u = graph-tree m t e in
            let low = h.1 m f s (graph-from g m f s u.0 (subst (λ z. TreeRepeats z f s) (sym u.1) r)) in
            subst (λ z. (height (tree g n) < height z) ⊎ ((height (tree g n) ≡ height z) × (n ≤ m))) u.1 low;
      }

  -- the first of the trees refuses the ranks
  pub first-is-refused : (n i j : ℕ) → IsFirstRepeat (graph_trees g) n i j → RefusesGraph g (EqualKeys n i j)
  first-is-refused n i j h =
      let u = graph-tree n h.tree h.is in (
        record {
          is = graph-from g n i j u.0 (subst (λ z. TreeRepeats z i j) (sym u.1) h.repeats);
          before = λ f s e. h.earlier f s (subst (λ z. TreeRepeats z f s) u.1 (graph-to g n f s e));
        },
        λ m f s e.
            let low = h.least m f s (tree g m) (tree-there m (equal-within m f s e)) (graph-to g m f s e) in
            subst (λ z. (height z < height (tree g m)) ⊎ ((height z ≡ height (tree g m)) × (n ≤ m))) (sym u.1) low,
      )

  -- where its trees are these, these tell
  pub refuses-first : (closed : List Tree) → graph_trees g ≡ closed → (n i j : ℕ) → RefusesGraph g (EqualKeys n i j) ↔ IsFirstRepeat closed n i j
  refuses-first closed e n i j = (
    λ h. subst (λ z. IsFirstRepeat z n i j) e (refused-is-first n i j h),
    λ h. first-is-refused n i j (subst (λ z. IsFirstRepeat z n i j) (sym e) h),
  )

-- ---- graphs of streams

same-trees : (f g : List Tree) (ds : List Document) → trees_of ds ≡ Ok f → trees_of ds ≡ Ok g → f ≡ g
same-trees f g ds h k = let q : Ok f ≡ Ok g = sym h ∙ k in cc

-- the graph's trees are those of the stream's nodes
pub composed-nodes : (ds : List Document) (ts : List Tree) (g : Graph) → trees_of ds ≡ Ok ts → Composed ds g → graph_trees g ≡ stream_trees ds ts
composed-nodes ds ts g u c = c.nodes ∙ ap (stream_trees ds) (same-trees c.trees ts ds c.unfolded u)

pub composed-count : (ds : List Document) (ts : List Tree) (g : Graph) → trees_of ds ≡ Ok ts → Composed ds g → length (nodes_of g) ≡ length (stream_trees ds ts)
composed-count ds ts g u c = sym (trees-length (nodes_of g)) ∙ ap length (composed-nodes ds ts g u c)

pub joined-nodes : (ds es : List Document) (ts us : List Tree) (a b both : Graph) → trees_of ds ≡ Ok ts → trees_of es ≡ Ok us → Composed ds a → Composed es b → Joined a b both → graph_trees both ≡ stream_trees ds ts ++ stream_trees es us
joined-nodes ds es ts us a b both u w c d j = j.trees ∙ (λ z. composed-nodes ds ts a u c z ++ composed-nodes es us b w d z)
