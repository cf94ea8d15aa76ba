-- The trees of the nodes of ranked forests.
use Rattle.std.proofs.Common.{◌≡◌, ℕ, zero, suc, ◌<◌, ◌≤◌, List, [], ◌∷◌, map, refl, ◌∙◌, ap, subst, arith}
use Rattle.std.specs.Prelude.{Some}
use Rattle.std.specs.Borrow.{Bor}
use Rattle.std.specs.List.{slice_get, slice_index_or, All}
use Rattle.std.proofs.lemmas.List.Elements.{All-weaker}
use Rattle.yaml_definitions.specs.model.Tree.{scalar, sequence, mapping}
use Rattle.yaml_tree.specs.TreeLists.{trees, pairs}
use Rattle.yaml_tree.specs.View.{Inside, items_in, entries_in, inside_tree, InsideBelow}
use Rattle.yaml_tree.specs.Insides.{Held}
use Rattle.yaml_tree.specs.Shown.{inside_shown}
use Rattle.yaml_tree.specs.declared.node.NodeId.{NodeId}
use Rattle.yaml_tree.specs.declared.shown.Inside as declared
use Rattle.yaml_tree.specs.declared.shown.Inside.TheVariants.{Scalar, Sequence, Mapping}
use Rattle.yaml_tree.specs.declared.shown.Shown.{Shown}
use Rattle.yaml_tree.proofs.InsideLaws.{held-tree}
use Rattle.yaml_store_rank.specs.Forests.{Forests, count, tree, item_trees, entry_trees, documents_of, held_shown, IsRanked}
use Rattle.yaml_store_rank.proofs.KeyOrderLaws.{unmap}

below-more : (i k : ℕ) (x : Inside) → i ≤ k → InsideBelow i x → InsideBelow k x
below-more i k x l b = (
  All-weaker (λ j. j < i) (λ j. j < k) (λ j h. omega (arith, l, h)) (items_in x) b.0,
  All-weaker (λ p. (p.0 < i) × (p.1 < i)) (λ p. (p.0 < k) × (p.1 < k)) (λ p h. let a = h.0 in let c = h.1 in (omega (arith, l, a), omega (arith, l, c))) (entries_in x) b.1,
)

map-twice : {X Y Z : Type 0} (f : X → Y) (h : Y → Z) (xs : List X) → map h (map f xs) ≡ map (λ x. h (f x)) xs
map-twice f h [] = refl
map-twice f h (x ∷ xs) = ap (λ zs. h (f x) ∷ zs) (map-twice f h xs)

module _ (f : Forests) (are : IsRanked f) where
  -- a node's tree, of what is held there
  pub tree-held : (i : ℕ) (n : Held) → slice_get f.nodes i ≡ Some n → tree f i ≡ inside_tree (tree f) n.0 n.1
  tree-held i n e = held-tree f.nodes i n are.below e

  -- its parts are nodes
  pub parts-within : (i : ℕ) (n : Held) → i < count f → slice_get f.nodes i ≡ Some n → InsideBelow (count f) n.1
  parts-within i n l e = below-more i (count f) n.1 (omega arith) (are.below i n e)

  -- the roots of a stream are nodes
  pub documents-within : (k : ℕ) → All (λ i. i < count f) (documents_of f k)
  documents-within k = by f.streams k are.rooted
    where
      by : (streams : List (List ℕ)) (k : ℕ) → All (All (λ i. i < count f)) streams → All (λ i. i < count f) (slice_index_or streams k [])
      by [] k a = λ j d l. absurd (omega (arith, l))
      by (roots ∷ streams) zero a = a 0 [] (omega arith)
      by (roots ∷ streams) (suc k) a = by streams k (λ j d l. a (suc j) d (omega (arith, l)))

  -- ---- of what is shown

  module _ (i : ℕ) (s : Shown NodeId) (e : slice_get f.nodes i ≡ Some (held_shown s)) where
    pub tree-shown : (x : declared.Inside NodeId) → s.inside ≡ x → tree f i ≡ inside_tree (tree f) s.tag.now (inside_shown (λ j. j.0) x)
    tree-shown x h = tree-held i (held_shown s) e ∙ ap (λ z. inside_tree (tree f) s.tag.now (inside_shown (λ j. j.0) z)) h

    pub scalar-shown : (x : Bor (List ℕ)) → s.inside ≡ Scalar x → tree f i ≡ scalar s.tag.now x.now
    scalar-shown x h = tree-shown (Scalar x) h

    pub sequence-shown : (is : Bor (List NodeId)) → s.inside ≡ Sequence is → tree f i ≡ sequence s.tag.now (trees (item_trees f is.now))
    sequence-shown is h = tree-shown (Sequence is) h ∙ ap (λ z. sequence s.tag.now (trees z)) (map-twice (λ (j : NodeId). j.0) (tree f) is.now)

    pub mapping-shown : (es : Bor (List (NodeId × NodeId))) → s.inside ≡ Mapping es → tree f i ≡ mapping s.tag.now (pairs (entry_trees f es.now))
    mapping-shown es h = tree-shown (Mapping es) h ∙ ap (λ z. mapping s.tag.now (pairs z)) (map-twice (λ (p : NodeId × NodeId). (p.0.0, p.1.0)) (λ p. (tree f p.0, tree f p.1)) es.now)

    pub items-within : i < count f → (is : Bor (List NodeId)) → s.inside ≡ Sequence is → All (λ j. j.0 < count f) is.now
    items-within l is h = unmap (λ (j : NodeId). j.0) (λ j. j < count f) is.now (subst (λ z. All (λ j. j < count f) (items_in (inside_shown (λ (j : NodeId). j.0) z))) h (parts-within i (held_shown s) l e).0)

    pub entries-within : i < count f → (es : Bor (List (NodeId × NodeId))) → s.inside ≡ Mapping es → All (λ p. (p.0.0 < count f) × (p.1.0 < count f)) es.now
    entries-within l es h =
        unmap (λ (p : NodeId × NodeId). (p.0.0, p.1.0)) (λ p. (p.0 < count f) × (p.1 < count f)) es.now
        (subst (λ z. All (λ p. (p.0 < count f) × (p.1 < count f)) (entries_in (inside_shown (λ (j : NodeId). j.0) z))) h (parts-within i (held_shown s) l e).1)
