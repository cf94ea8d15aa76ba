-- Trees of ranked forests, arranged.
use Rattle.std.proofs.Common.{◌≡◌, inl, inr, ℕ, suc, ◌<◌, true, List, [], ◌∷◌, length, map, get_or, refl, sym, ◌∙◌, ap, subst, arith}
use Rattle.std.specs.Prelude.{Some}
use Rattle.std.specs.List.{slice_get}
use Rattle.std.specs.declared.cmp.Ordering.{Ordering}
use Rattle.std.specs.declared.cmp.Ordering.TheVariants.{Less, Equal, Greater}
use Rattle.std.specs.Ordering.{nat_cmp, ordering_reverse}
use Rattle.std.proofs.lemmas.Cmp.{nat_cmp_total, tied_itself}
use Rattle.yaml_definitions.specs.model.Tree.{Tree, mapping}
use Rattle.yaml_definitions.specs.model.Order.{tree_cmp, arranged, arranged_pairs}
use Rattle.yaml_definitions.specs.model.Same.{keyed, keyed_pairs}
use Rattle.yaml_definitions.proofs.OrderLaws.{tree_cmp-total}
use Rattle.yaml_definitions.proofs.SameLaws.{same_to}
use Rattle.yaml_tree.specs.TreeLists.{pairs}
use Rattle.yaml_tree.specs.View.{entries}
use Rattle.yaml_tree.proofs.InsideLaws.{held-tree}
use Rattle.yaml_tree.proofs.Lists.{Has, contains-has, has-contains}
use Rattle.yaml_tree.proofs.Numbers.{less-cmp, equal-cmp}
use Rattle.yaml_tree.proofs.Numbering.{get-within}
use Rattle.yaml_tree.proofs.RankOrder.{PairsLow, Rising, entries-arranged}
use Rattle.yaml_store_rank.specs.Forests.{Forests, count, tree, rank, InKeyOrder, IsRanked}
use Rattle.yaml_store_rank.specs.ArrangedForests.{two_arranged, MappingsAreArranged}

module _ (f : Forests) (are : IsRanked f) where
  abbrev T : ℕ → Tree
  T = tree f

  abbrev R : ℕ → ℕ
  R = rank f

  abbrev Low : ℕ → Type 0
  Low i = i < count f

  less : (i j : ℕ) → Low i → Low j → nat_cmp (R i) (R j) ≡ Less → nat_cmp (R i) (R j) ≡ tree_cmp (arranged (T i)) (arranged (T j))
  less i j a b e = e ∙ sym ((are.ranked i j a b).1.0 (less-cmp (R i) (R j) e))

  agrees : (i j : ℕ) → Low i → Low j → nat_cmp (R i) (R j) ≡ tree_cmp (arranged (T i)) (arranged (T j))
  agrees i j a b = by (nat_cmp (R i) (R j)) refl
    where
      by : (o : Ordering) → nat_cmp (R i) (R j) ≡ o → nat_cmp (R i) (R j) ≡ tree_cmp (arranged (T i)) (arranged (T j))
      by Less e = less i j a b e
      by Equal e =
          let s = (are.ranked i j a b).0.0 (equal-cmp (R i) (R j) e) in
          let q = same_to (T i) (T j) (are.keyed i a) (are.keyed j b) s in
          e ∙ sym (subst (λ z. tree_cmp (arranged (T i)) z ≡ Equal) q (tied_itself tree_cmp-total (arranged (T i))))
      by Greater e =
          let r : nat_cmp (R j) (R i) ≡ Less = nat_cmp_total.antisymm (R j) (R i) ∙ ap ordering_reverse e in
          e ∙ sym (tree_cmp-total.antisymm (arranged (T i)) (arranged (T j)) ∙ ap ordering_reverse (sym (less j i b a r) ∙ r))

  abbrev two : ℕ × ℕ → Tree × Tree
  two p = (T p.0, T p.1)

  pairs-low : (m : ℕ) (es : List (ℕ × ℕ)) → m < count f → ((p : ℕ × ℕ) → Has p es → (p.0 < m) × (p.1 < m)) → PairsLow T R Low agrees es
  pairs-low m [] l a = tt
  pairs-low m (p ∷ es) l a = let b = a p (inl refl) in let x = b.0 in let y = b.1 in ((omega arith, omega arith), pairs-low m es l (λ q h. a q (inr h)))

  rising-from : (qs : List (ℕ × ℕ)) → ((j k : ℕ) (d : ℕ × ℕ) → j < k → k < length qs → R (get_or qs j d).0 < R (get_or qs k d).0) → Rising T R Low agrees qs
  rising-from [] h = tt
  rising-from (p ∷ qs) h =
      (λ q m. let c = has-contains qs q m in subst (λ (z : ℕ × ℕ). R p.0 < R z.0) c.2 (h 0 (suc c.0) q (omega arith) (omega (arith, c.1))), rising-from qs (λ j k d l o. h (suc j) (suc k) d (omega arith) (omega arith)))

  made-of : (i : ℕ) (tag : List ℕ) (es : List (ℕ × ℕ)) → slice_get f.nodes i ≡ Some (tag, entries es) → T i ≡ mapping tag (pairs (map two es))
  made-of i tag es e = held-tree f.nodes i (tag, entries es) are.below e

  arranged-mapping : (tag : List ℕ) (es sorted : List (ℕ × ℕ)) → arranged_pairs (pairs (map two es)) ≡ pairs (map (two_arranged f) sorted) → arranged (mapping tag (pairs (map two es))) ≡ mapping tag (pairs (map (two_arranged f) sorted))
  unfolding arranged
  arranged-mapping tag es sorted q = ap (mapping tag) q

  pub mapping-arranged : (i : ℕ) (tag : List ℕ) (es sorted : List (ℕ × ℕ)) → slice_get f.nodes i ≡ Some (tag, entries es) → InKeyOrder R es sorted → arranged (T i) ≡ mapping tag (pairs (map (two_arranged f) sorted))
  mapping-arranged i tag es sorted e o =
      let l : i < count f = get-within f.nodes i (tag, entries es) e in
      let t = made-of i tag es e in
      let low : (p : ℕ × ℕ) → Has p sorted → (p.0 < i) × (p.1 < i) = λ p h. let c = o.sound p (has-contains sorted p h) in subst (λ (z : ℕ × ℕ). (z.0 < i) × (z.1 < i)) c.2 ((are.below i (tag, entries es) e).1 c.0 p c.1) in
      let ks : keyed_pairs (pairs (map two es)) ≡ true = sym (ap keyed t) ∙ are.keyed i l in
      ap arranged t
      ∙ arranged-mapping tag es sorted (entries-arranged T R Low agrees es sorted ks (pairs-low i sorted l low) (rising-from sorted o.rises) (λ p h. contains-has sorted p (o.whole p (has-contains es p h))) (λ p h. contains-has es p (o.sound p (has-contains sorted p h))))

pub mappings-are-arranged : MappingsAreArranged
mappings-are-arranged f are i tag es sorted e o = mapping-arranged f are i tag es sorted e o
