-- A store as a view of nodes.
use Rattle.std.specs.Prelude.{◌≡◌, ℕ, ◌<◌, List, [], length, map, Option, Some, None}
use Rattle.std.proofs.Common.{sym, subst}
use Rattle.std.specs.List.{slice_get}
use Rattle.yaml_definitions.specs.model.Tree.{Tree}
use Rattle.yaml_tree.specs.TreeLists.{tree_at}
use Rattle.yaml_tree.specs.View.{View, Inside, content, InsideBelow, inside_tree}
use Rattle.yaml_tree.specs.Insides.{Held, HeldBelow}
use Rattle.yaml_tree.proofs.InsideLaws.{held-tree}
use Rattle.yaml_tree.proofs.Lists.{get-map, get-unmap, get-some}
use Rattle.yaml_store.specs.declared.nodes.Node.{Node}
use Rattle.yaml_store.specs.declared.nodes.Place.{Place}
use Rattle.yaml_store.specs.declared.nodes.Place.TheVariants.{Scalar, Sequence, Mapping}
use Rattle.yaml_store.specs.declared.store.Store.{Store}
use Rattle.yaml_store.specs.TextModel.{text_of}
use Rattle.yaml_store.specs.StoreModel.{place_of, inside_of, tag_at, node_held, trees_stored, AllBelow}
use Rattle.yaml_store.specs.StoreGrows.{Good, tags_of, trees_of}

abbrev pub tag_in : List (List ℕ) → Option Node → List ℕ
tag_in tags (Some n) = tag_at tags n.tag
tag_in tags None = []

abbrev pub inside_at : List ℕ → List ℕ → List (ℕ × ℕ) → Option Node → Inside
inside_at text is es (Some n) = inside_of text is es (place_of n)
inside_at text is es None = content []

texted : (n : ℕ) (text is : List ℕ) (es : List (ℕ × ℕ)) (p : Place) → InsideBelow n (inside_of [] is es p) → InsideBelow n (inside_of text is es p)
texted n text is es (Scalar s) b = b
texted n text is es (Sequence s) b = b
texted n text is es (Mapping s) b = b

module _ (nodes : List Node) (text is : List ℕ) (es : List (ℕ × ℕ)) (tags : List (List ℕ)) (below : AllBelow nodes is es) where
  pub stored-below : (i : ℕ) → i < length nodes → InsideBelow i (inside_at text is es (slice_get nodes i))
  stored-below i l =
      let n = get-some nodes i l in
      subst (λ o. InsideBelow i (inside_at text is es o)) (sym n.1) (texted i text is es (place_of n.0) (below i n.0 n.1))

  pub stored-made : (i : ℕ) → i < length nodes → tree_at (trees_stored nodes text is es tags) i ≡ inside_tree (tree_at (trees_stored nodes text is es tags)) (tag_in tags (slice_get nodes i)) (inside_at text is es (slice_get nodes i))
  stored-made i l =
      let held : Node → Held = node_held text is es tags in
      let n = get-some nodes i l in
      let low : HeldBelow (map held nodes) = λ k h e. let m = get-unmap held nodes k h e in subst (λ (z : Held). InsideBelow k z.1) m.2 (texted k text is es (place_of m.0) (below k m.0 m.1)) in
      let t = held-tree (map held nodes) i (held n.0) low (get-map held nodes i n.0 n.1) in
      subst (λ o. tree_at (trees_stored nodes text is es tags) i ≡ inside_tree (tree_at (trees_stored nodes text is es tags)) (tag_in tags o) (inside_at text is es o)) (sym n.1) t

-- the tree that the node of this number stands for
abbrev pub tree_of : Store → ℕ → Tree
tree_of s i = tree_at (trees_of s) i

-- the nodes of a store
abbrev pub view_of : (s : Store) → Good s → View
view_of s good = record {
  count = length s.nodes.items;
  tag = λ i. tag_in (tags_of s) (slice_get s.nodes.items i);
  inside = λ i. inside_at (text_of s.text) s.items.items s.entries.items (slice_get s.nodes.items i);
  tree = tree_of s;
  made = stored-made s.nodes.items (text_of s.text) s.items.items s.entries.items (tags_of s) good.below;
  below = stored-below s.nodes.items (text_of s.text) s.items.items s.entries.items (tags_of s) good.below;
}
