-- Ranks as a view of nodes.
use Rattle.std.proofs.Common.{◌≡◌, ℕ, zero, suc, ◌<◌, ◌≤◌, true, List, [], ◌∷◌, length, map, get_or, slice_index, refl, sym, ◌∙◌, ap, subst, arith}
use Rattle.std.specs.Prelude.{Some}
use Rattle.std.specs.List.{slice_get, All}
use Rattle.std.specs.declared.cmp.Ordering.{Ordering}
use Rattle.std.specs.declared.cmp.Ordering.TheVariants.{Less, Equal, Greater}
use Rattle.std.specs.Ordering.{nat_cmp, ordering_reverse}
use Rattle.std.proofs.lemmas.Cmp.{nat_cmp_total, tied_itself}
use Rattle.yaml_definitions.specs.model.Tree.{Tree, sequence, mapping, height}
use Rattle.yaml_definitions.specs.model.Order.{tree_cmp, arranged}
use Rattle.yaml_definitions.specs.model.Same.{keyed}
use Rattle.yaml_definitions.proofs.OrderLaws.{tree_cmp-total, tree_same}
use Rattle.yaml_definitions.proofs.SameLaws.{same_from}
use Rattle.yaml_definitions.proofs.MeansLaws.{height_arranged}
use Rattle.yaml_definitions.proofs.Arranged.{neat_fixed, arranged_neat}
use Rattle.yaml_tree.specs.TreeLists.{trees, pairs}
use Rattle.yaml_tree.specs.View.{View, Inside, content, items, entries, inside_tree, InsideBelow, Lower, Ranks, Ranked}
use Rattle.yaml_tree.proofs.Numbers.{cmp-less}
use Rattle.yaml_tree.proofs.Numbering.{get-there}
use Rattle.yaml_tree.proofs.Lists.{get-some}
use Rattle.yaml_tree.proofs.ViewLaws.{lower-less}
use Rattle.yaml_store.specs.declared.nodes.Node.{Node}
use Rattle.yaml_store.specs.StoreModel.{place_of, inside_of}
use Rattle.yaml_store_rank.specs.PartsModel.{two_ranks}
use Rattle.yaml_store_rank.specs.Ranking.{AllRanked}
use Rattle.yaml_store.specs.StoreView.{inside_at}
use Rattle.yaml_store_rank.proofs.NodeLaws.{LowItems, LowPairs, Fitted, node-fitted}

-- ranks that are equal exactly for equal trees, and rise as they do, compare as they do
pub ranked-ranks : (v : View) (rank : ℕ → ℕ) → Ranked v rank → ((i : ℕ) → i < v.count → keyed (v.tree i) ≡ true) → (h : ℕ) → Ranks v rank h
ranked-ranks v rank is all h = record {
  agrees = λ i j a b. by i j a.0 b.0 (tree_cmp (arranged (v.tree i)) (arranged (v.tree j))) refl;
  keyed = λ i a. all i a.0;
}
  where
    by : (i j : ℕ) → i < v.count → j < v.count → (o : Ordering) → tree_cmp (arranged (v.tree i)) (arranged (v.tree j)) ≡ o → nat_cmp (rank i) (rank j) ≡ tree_cmp (arranged (v.tree i)) (arranged (v.tree j))
    by i j a b Less e = cmp-less (rank i) (rank j) ((is i j a b).1.1 e) ∙ sym e
    by i j a b Equal e =
        let q : rank i ≡ rank j = (is i j a b).0.1 (same_from (v.tree i) (v.tree j) (tree_same (arranged (v.tree i)) (arranged (v.tree j)) e)) in
        subst (λ z. nat_cmp (rank i) z ≡ Equal) q (tied_itself nat_cmp_total (rank i)) ∙ sym e
    by i j a b Greater e =
        let t : tree_cmp (arranged (v.tree j)) (arranged (v.tree i)) ≡ Less = tree_cmp-total.antisymm (arranged (v.tree j)) (arranged (v.tree i)) ∙ ap ordering_reverse e in
        nat_cmp_total.antisymm (rank i) (rank j) ∙ (ap ordering_reverse (cmp-less (rank j) (rank i) ((is j i b a).1.1 t)) ∙ sym e)

module _ (v : View) (nodes : List Node) (text is : List ℕ) (es : List (ℕ × ℕ)) (ranks first : List ℕ) (counted : v.count ≡ length nodes) (all : AllRanked v nodes text is es ranks first) where
  abbrev R : ℕ → ℕ
  R = slice_index ranks

  -- the node that stands for this rank
  abbrev F : ℕ → ℕ
  F = slice_index first

  abbrev pub W : ℕ → Tree
  W r = arranged (v.tree (F r))

  right : (h : ℕ) → Ranks v R h
  right = ranked-ranks v R all.ranked all.keyed

  first-node : (r : ℕ) → r < length first → (F r < v.count) × (R (F r) ≡ r)
  first-node r l = all.firsts r (F r) (get-there first r 0 l)

  -- nodes of one rank have one arranged tree
  one-tree : (i j : ℕ) → i < v.count → j < v.count → R i ≡ R j → arranged (v.tree i) ≡ arranged (v.tree j)
  one-tree i j a b e =
      let h : ℕ = suc (Rattle.std.proofs.Common.max (height (v.tree i)) (height (v.tree j))) in
      tree_same (arranged (v.tree i)) (arranged (v.tree j)) (sym ((right h).agrees i j (a, omega arith) (b, omega arith)) ∙ subst (λ z. nat_cmp (R i) z ≡ Equal) e (tied_itself nat_cmp_total (R i)))

  pub first-tree : (i : ℕ) → i < v.count → W (R i) ≡ arranged (v.tree i)
  first-tree i l = let f = first-node (R i) (all.within i l) in one-tree (F (R i)) i f.0 l f.1

  module _ (r : ℕ) (within : r < length first) where
    abbrev h : ℕ
    h = height (v.tree (F r))

    node : (s : Node) × (slice_get nodes (F r) ≡ Some s)
    node = get-some nodes (F r) (let f = (first-node r within).0 in omega (arith, counted))

    fitted : (s : Node) → slice_get nodes (F r) ≡ Some s → Fitted v R h (right h) (v.tag (F r)) (inside_of text is es (place_of s)) (W r)
    fitted s e = (node-fitted v R h (right h) (F r) (first-node r within).0 (omega arith) (inside_of text is es (place_of s)) (all.parts (F r) s e)).1

    items-first : (ns : List ℕ) → LowItems v R h (right h) ns → map W (map R ns) ≡ map (λ j. arranged (v.tree j)) ns
    items-first [] a = refl
    items-first (n ∷ ns) a = λ z. first-tree n a.0.0 z ∷ items-first ns a.1 z

    entries-first : (ps : List (ℕ × ℕ)) → LowPairs v R h (right h) ps → map {B = Tree × Tree} (λ p. (W p.0, W p.1)) (map (two_ranks R) ps) ≡ map (λ p. (arranged (v.tree p.0), arranged (v.tree p.1))) ps
    entries-first [] a = refl
    entries-first (p ∷ ps) a = λ z. (first-tree p.0 a.0.0.0 z, first-tree p.1 a.0.1.0 z) ∷ entries-first ps a.1 z

    tree-made : (g : List ℕ) (inside : Inside) → Fitted v R h (right h) g inside (W r) → W r ≡ inside_tree W g inside
    tree-made g (content x) f = f
    tree-made g (items rs) f = f.2 ∙ ap (λ us. sequence g (trees us)) (sym (items-first f.0 f.1) ∙ ap (map W) (sym f.3))
    tree-made g (entries rs) f = f.2 ∙ ap (λ ps. mapping g (pairs ps)) (sym (entries-first f.0 f.1) ∙ ap (map (λ p. (W p.0, W p.1))) (sym f.3))

    -- a lower node has a lesser rank
    lesser : (j : ℕ) → Lower v h j → R j < r
    lesser j l =
        let f = first-node r within in
        let a = height_arranged (v.tree j) in
        let b = height_arranged (v.tree (F r)) in
        let w = l.1 in
        let t : tree_cmp (arranged (v.tree j)) (W r) ≡ Less = lower-less (arranged (v.tree j)) (W r) (omega arith) in
        subst (λ z. R j < z) f.1 ((all.ranked j (F r) l.0 f.0).1.1 t)

    parts-below : (g : List ℕ) (inside : Inside) → Fitted v R h (right h) g inside (W r) → InsideBelow r inside
    parts-below g (content x) f = (λ k d l. absurd (omega arith), λ k d l. absurd (omega arith))
    parts-below g (items rs) f = (subst (All (λ n. n < r)) (sym f.3) (low f.0 f.1), λ k d l. absurd (omega arith))
      where
        low : (ns : List ℕ) → LowItems v R h (right h) ns → All (λ n. n < r) (map R ns)
        low [] a k d l = absurd (omega arith)
        low (n ∷ ns) a zero d l = lesser n a.0
        low (n ∷ ns) a (suc k) d l = low ns a.1 k d (omega arith)
    parts-below g (entries rs) f = (λ k d l. absurd (omega arith), subst (All (λ (p : ℕ × ℕ). (p.0 < r) × (p.1 < r))) (sym f.3) (low f.0 f.1))
      where
        low : (ps : List (ℕ × ℕ)) → LowPairs v R h (right h) ps → All (λ (p : ℕ × ℕ). (p.0 < r) × (p.1 < r)) (map (two_ranks R) ps)
        low [] a k d l = absurd (omega arith)
        low (p ∷ ps) a zero d l = (lesser p.0 a.0.0, lesser p.1 a.0.1)
        low (p ∷ ps) a (suc k) d l = low ps a.1 k d (omega arith)

    pub rank-made : W r ≡ inside_tree W (v.tag (F r)) (inside_at text is es (slice_get nodes (F r)))
    rank-made = subst (λ o. W r ≡ inside_tree W (v.tag (F r)) (inside_at text is es o)) (sym node.1) (tree-made (v.tag (F r)) (inside_of text is es (place_of node.0)) (fitted node.0 node.1))

    pub rank-below : InsideBelow r (inside_at text is es (slice_get nodes (F r)))
    rank-below = subst (λ o. InsideBelow r (inside_at text is es o)) (sym node.1) (parts-below (v.tag (F r)) (inside_of text is es (place_of node.0)) (fitted node.0 node.1))

    pub rank-arranged : arranged (W r) ≡ W r
    rank-arranged = neat_fixed (W r) (arranged_neat (v.tree (F r)) (all.keyed (F r) (first-node r within).0))

  pub ranks-rise : (q r : ℕ) → q < r → r < length first → tree_cmp (W q) (W r) ≡ Less
  ranks-rise q r l m =
      let a = first-node q (omega arith) in
      let b = first-node r m in
      let x = a.1 in
      let y = b.1 in
      (all.ranked (F q) (F r) a.0 b.0).1.0 (omega arith)
