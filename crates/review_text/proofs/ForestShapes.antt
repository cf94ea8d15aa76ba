-- Nodes of ranked forests: their trees, and their entries in the order of keys.
use Rattle.std.proofs.Common.{◌≡◌, ℕ, ◌<◌, ◌≤◌, List, [], Bor, length, map, sym, ◌∙◌, ap, subst, arith}
use Rattle.std.specs.Prelude.{Some}
use Rattle.std.specs.List.{slice_get, All}
use Rattle.std.proofs.lemmas.List.{get_or_past, length-map}
use Rattle.std.proofs.lemmas.Option.{get_or_from_slice_get}
use Rattle.yaml_definitions.specs.model.Tree.{scalar, sequence, mapping}
use Rattle.yaml_definitions.specs.model.Order.{arranged}
use Rattle.yaml_tree.specs.TreeLists.{trees, pairs}
use Rattle.yaml_tree.specs.View.{items}
use Rattle.yaml_tree.specs.Insides.{trees_held}
use Rattle.yaml_tree.specs.Shown.{inside_shown}
use Rattle.yaml_tree.specs.declared.node.NodeId.{NodeId}
use Rattle.yaml_tree.specs.declared.shown.Shown.{Shown}
use Rattle.yaml_tree.specs.declared.shown.Inside.{Inside as Part}
use Rattle.yaml_tree.specs.declared.shown.Inside.TheVariants as shown
use Rattle.yaml_tree.proofs.InsideLaws.{held-length}
use Rattle.yaml_tree.proofs.Lists.{get-some}
use Rattle.yaml_tree.proofs.Numbering.{get-within}
use Rattle.yaml_tree.proofs.RankOrder.{arranged-items}
use Rattle.yaml_store_rank.specs.Forests.{Forests, count, tree, rank, held_shown, entries_held, entries_at, InKeyOrder, IsRanked}
use Rattle.yaml_store_rank.specs.ArrangedForests.{two_arranged}
use Rattle.yaml_store_rank.proofs.ArrangedForests.{mapping-arranged}
use Rattle.yaml_store_rank.proofs.ForestTrees.{scalar-shown, sequence-shown}
use Rattle.yaml_store_rank.proofs.KeyOrderLaws.{unmap}

-- a number that no node has stands for an empty scalar
pub none-there : (f : Forests) (i : ℕ) → count f ≤ i → tree f i ≡ scalar [] []
none-there f i l = get_or_past (trees_held f.nodes) i (scalar [] []) (omega (arith, held-length f.nodes, l))

module _ (f : Forests) (are : IsRanked f) where
  -- what is shown of a node
  module _ (i : ℕ) (s : Shown NodeId) (there : slice_get f.nodes i ≡ Some (held_shown s)) where
    pub shown-within : i < count f
    shown-within = get-within f.nodes i (held_shown s) there

    held : (x : Part NodeId) → s.inside ≡ x → slice_get f.nodes i ≡ Some (s.tag.now, inside_shown (λ j. j.0) x)
    held x e = there ∙ ap (λ z. Some (s.tag.now, inside_shown (λ j. j.0) z)) e

    pub scalar-there : (x : Bor (List ℕ)) → s.inside ≡ shown.Scalar x → arranged (tree f i) ≡ scalar s.tag.now x.now
    unfolding arranged
    scalar-there x e = ap arranged (scalar-shown f are i s there x e)

    pub sequence-there : (xs : Bor (List NodeId)) → s.inside ≡ shown.Sequence xs → arranged (tree f i) ≡ sequence s.tag.now (trees (map (λ j. arranged (tree f j.0)) xs.now))
    unfolding arranged
    sequence-there xs e = ap arranged (sequence-shown f are i s there xs e) ∙ ap (sequence s.tag.now) (arranged-items (λ j. tree f j.0) xs.now)

    -- its items stand before it
    pub items-below : (xs : Bor (List NodeId)) → s.inside ≡ shown.Sequence xs → All (λ j. j.0 < i) xs.now
    items-below xs e = unmap (λ j. j.0) (λ j. j < i) xs.now (are.below i (s.tag.now, items (map (λ j. j.0) xs.now)) (held (shown.Sequence xs) e)).0

    entries-there : (xs : Bor (List (NodeId × NodeId))) → s.inside ≡ shown.Mapping xs → entries_at f i ≡ map (λ p. (p.0.0, p.1.0)) xs.now
    entries-there xs e = ap entries_held (held (shown.Mapping xs) e)

    pub entries-counted : (xs : Bor (List (NodeId × NodeId))) → s.inside ≡ shown.Mapping xs → length xs.now ≡ length (entries_at f i)
    entries-counted xs e = sym (ap length (entries-there xs e) ∙ length-map xs.now (λ p. (p.0.0, p.1.0)))

    pub mapping-there : (xs : Bor (List (NodeId × NodeId))) (sorted : List (ℕ × ℕ)) → s.inside ≡ shown.Mapping xs → InKeyOrder (rank f) (entries_at f i) sorted → arranged (tree f i) ≡ mapping s.tag.now (pairs (map (two_arranged f) sorted))
    mapping-there xs sorted e o =
        mapping-arranged f are i s.tag.now (map (λ p. (p.0.0, p.1.0)) xs.now) sorted (held (shown.Mapping xs) e) (subst (λ z. InKeyOrder (rank f) z sorted) (entries-there xs e) o)

  -- an entry in order stands before its mapping
  module _ (i k : ℕ) (p : ℕ × ℕ) (l : i < count f) (is : (sorted : List (ℕ × ℕ)) → InKeyOrder (rank f) (entries_at f i) sorted → slice_get sorted k ≡ Some p) where
    pub entry-below : (p.0 < i) × (p.1 < i)
    entry-below =
        let n = get-some f.nodes i l in
        let s = are.ordered i l in
        let e = is s.0 s.1 in
        let c = s.1.sound p (k, get-within s.0 k p e, get_or_from_slice_get s.0 k p p e) in
        let a : All (λ q. (q.0 < i) × (q.1 < i)) (entries_at f i) = subst (λ z. All (λ q. (q.0 < i) × (q.1 < i)) (entries_held z)) (sym n.1) (are.below i n.0 n.1).1 in
        subst (λ (z : ℕ × ℕ). (z.0 < i) × (z.1 < i)) c.2 (a c.0 p c.1)
