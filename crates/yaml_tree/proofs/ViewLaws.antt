-- Ranks by rising height, over any store of nodes.
use Rattle.std.proofs.Common.{◌≡◌, ◌⊎◌, inl, inr, ℕ, zero, suc, ◌+◌, ◌<◌, ◌≤◌, Bool, true, false, not, List, [], ◌∷◌, length, map, refl, sym, ◌∙◌, ap, subst, arith}
use Rattle.std.specs.Prelude.{Some}
use Rattle.std.specs.List.{slice_get}
use Rattle.std.specs.declared.cmp.Ordering.{Ordering}
use Rattle.std.specs.declared.cmp.Ordering.TheVariants.{Less, Equal, Greater}
use Rattle.std.specs.Ordering.{nat_cmp, ordering_then, ordering_reverse}
use Rattle.std.proofs.lemmas.Cmp.{nat_cmp_total, tied_itself}
use Rattle.yaml_definitions.specs.model.Tree.{Tree, height, kind_of, tag_of}
use Rattle.yaml_definitions.specs.model.Order.{bytes_cmp, inside_cmp, tree_cmp, arranged, Before}
use Rattle.yaml_definitions.specs.model.Same.{Same, same, keyed, keyed_pairs}
use Rattle.yaml_definitions.proofs.OrderLaws.{tree_cmp-total, tree_same}
use Rattle.yaml_definitions.proofs.Members.{In, all_in}
use Rattle.yaml_definitions.proofs.SameLaws.{same_to, same_from, keyed_parts}
use Rattle.yaml_definitions.proofs.MeansLaws.{height_arranged}
use Rattle.yaml_tree.specs.TreeLists.{pairs}
use Rattle.yaml_tree.specs.View as view
use Rattle.yaml_tree.specs.View.{View, Inside, Lower, Ranks, Repeats, IsLevel, LevelDone, Stands, LevelRepeats, IsFirst, Ranked, inside_tree, entries_in}
use Rattle.yaml_tree.proofs.Numbers.{cmp-less, less-cmp, equal-cmp, greater-cmp, below_or}
use Rattle.yaml_tree.proofs.Numbering.{one-there}

-- a lower tree comes first
pub lower-less : (t u : Tree) → height t < height u → tree_cmp t u ≡ Less
unfolding tree_cmp
lower-less t u h = ap (λ o. ordering_then o (ordering_then (nat_cmp (kind_of t) (kind_of u)) (ordering_then (bytes_cmp (tag_of t) (tag_of u)) (inside_cmp t u)))) (cmp-less (height t) (height u) h)

-- ---- a tree without equal keys

never : (b : Bool) → b ≡ true → not b ≡ true → ⊥
never true h k = absurd (cc)
never false h k = absurd (cc)

module _ (T : ℕ → Tree) where
  entry-in : (es : List (ℕ × ℕ)) (i : ℕ) (e : ℕ × ℕ) → slice_get es i ≡ Some e → In (T e.0) (T e.1) (pairs (map (λ p. (T p.0, T p.1)) es))
  entry-in [] i e h = absurd (cc)
  entry-in (p ∷ es) zero e h = let q : p ≡ e = cc in inl (ap (λ z. T z.0) (sym q), ap (λ z. T z.1) (sym q))
  entry-in (p ∷ es) (suc i) e h = inr (entry-in es i e h)

  pairs-apart : (es : List (ℕ × ℕ)) → keyed_pairs (pairs (map (λ p. (T p.0, T p.1)) es)) ≡ true → (i j : ℕ) (a b : ℕ × ℕ) → i < j → slice_get es i ≡ Some a → slice_get es j ≡ Some b → same (T a.0) (T b.0) ≡ true → ⊥
  pairs-apart [] k i j a b l p q s = absurd (cc)
  pairs-apart (e ∷ es) k zero zero a b l p q s = absurd (omega arith)
  pairs-apart (e ∷ es) k zero (suc j) a b l p q s =
      let c = keyed_parts (T e.0) (T e.1) (pairs (map (λ z. (T z.0, T z.1)) es)) k in
      let w : e ≡ a = cc in
      never (same (T e.0) (T b.0)) (ap (λ z. same (T z.0) (T b.0)) w ∙ s) (all_in (λ x y. not (same (T e.0) x)) (T b.0) (T b.1) (pairs (map (λ z. (T z.0, T z.1)) es)) c.2 (entry-in es j b q))
  pairs-apart (e ∷ es) k (suc i) zero a b l p q s = absurd (omega arith)
  pairs-apart (e ∷ es) k (suc i) (suc j) a b l p q s = pairs-apart es (keyed_parts (T e.0) (T e.1) (pairs (map (λ z. (T z.0, T z.1)) es)) k).3 i j a b (omega arith) p q s

-- no mapping of a tree without equal keys has two
pub view-none : (v : View) (m f s : ℕ) → keyed (v.tree m) ≡ true → Repeats v m f s → ⊥
view-none v m f s k e = by (v.inside m) e.earlier_is e.later_is (sym (ap keyed (v.made m e.within)) ∙ k)
  where
    by : (inside : Inside) → slice_get (entries_in inside) f ≡ Some e.earlier → slice_get (entries_in inside) s ≡ Some e.later → keyed (inside_tree v.tree (v.tag m) inside) ≡ true → ⊥
    by (view.content x) p q k = absurd (cc)
    by (view.items is) p q k = absurd (cc)
    by (view.entries es) p q k = pairs-apart v.tree es k f s e.earlier e.later e.in_order p q e.equal

-- ---- one more level

module _ (v : View) (high : ℕ) (level : List ℕ) (is : IsLevel v high level) where
  -- a node below the next height is ranked already, or stands in this level
  pub here-or : (i : ℕ) → Lower v (suc high) i → (Lower v high i) ⊎ ((k : ℕ) × (slice_get level k ≡ Some i))
  here-or i l = by (nat_cmp (height (v.tree i)) high) refl
    where
      by : (o : Ordering) → nat_cmp (height (v.tree i)) high ≡ o → (Lower v high i) ⊎ ((k : ℕ) × (slice_get level k ≡ Some i))
      by Less e = inl (l.0, less-cmp (height (v.tree i)) high e)
      by Equal e = inr (is.whole i l.0 (equal-cmp (height (v.tree i)) high e))
      by Greater e = let h = greater-cmp (height (v.tree i)) high e in let m = l.1 in absurd (omega arith)

  not-here : (i : ℕ) → Lower v high i → (k : ℕ) → slice_get level k ≡ Some i → ⊥
  not-here i l k e = let n = (is.sound k i e).1 in let m = l.1 in omega arith

  module _ (old new : ℕ → ℕ) (start : ℕ) (before : Stands v old high start) (done : LevelDone v start level old new) where
    kept-rank : (i : ℕ) → Lower v high i → new i ≡ old i
    kept-rank i l = done.others i (not-here i l)

    abbrev A : ℕ → Tree
    A i = arranged (v.tree i)

    low-level : (i k p : ℕ) → Lower v high i → slice_get level k ≡ Some p → nat_cmp (new i) (new p) ≡ tree_cmp (A i) (A p)
    low-level i k p l e =
        let a = kept-rank i l in
        let b = before.below i l in
        let c = (done.within k p e).0 in
        let x = height_arranged (v.tree i) in
        let y = height_arranged (v.tree p) in
        let z = (is.sound k p e).1 in
        let w = l.1 in
        cmp-less (new i) (new p) (omega arith) ∙ sym (lower-less (A i) (A p) (omega arith))

    agrees : (i j : ℕ) → Lower v (suc high) i → Lower v (suc high) j → nat_cmp (new i) (new j) ≡ tree_cmp (A i) (A j)
    agrees i j a b = by (here-or i a) (here-or j b)
      where
        by : (Lower v high i) ⊎ ((k : ℕ) × (slice_get level k ≡ Some i)) → (Lower v high j) ⊎ ((k : ℕ) × (slice_get level k ≡ Some j)) → nat_cmp (new i) (new j) ≡ tree_cmp (A i) (A j)
        by (inl l) (inl m) = (λ z. nat_cmp (kept-rank i l z) (kept-rank j m z)) ∙ before.settled.agrees i j l m
        by (inl l) (inr m) = low-level i m.0 j l m.1
        by (inr l) (inl m) = nat_cmp_total.antisymm (new i) (new j) ∙ (ap ordering_reverse (low-level j l.0 i m l.1) ∙ sym (tree_cmp-total.antisymm (A i) (A j)))
        by (inr l) (inr m) = done.ordered l.0 m.0 i j l.1 m.1

    pub stands-more : Stands v new (suc high) (start + length level)
    stands-more = record {
      settled = record {
        agrees = agrees;
        keyed = λ i a. elim (here-or i a) [ inl l ↦ before.settled.keyed i l | inr l ↦ done.keyed l.0 i l.1 ];
      };
      below = λ i a. elim (here-or i a) [ inl l ↦ (let x = kept-rank i l in let y = before.below i l in omega arith) | inr l ↦ (done.within l.0 i l.1).1 ];
    }

  pub first-one : (old : ℕ → ℕ) (start : ℕ) → Stands v old high start → (node first second : ℕ) → LevelRepeats v level node first second → IsFirst v node
  first-one old start before node first second t m f s e =
      let hn : height (v.tree node) ≡ high = (is.sound t.place node t.is).1 in
      elim (below_or high (height (v.tree m))) [
        | inl c ↦ inl (omega arith)
        | inr c ↦ elim (here-or m (e.within, omega arith)) [
          | inl l ↦ absurd (view-none v m f s (before.settled.keyed m l) e)
          | inr w ↦ (let hm : height (v.tree m) ≡ high = (is.sound w.0 m w.1).1 in
              elim (below_or w.0 t.place) [
                | inl d ↦ absurd (view-none v m f s (t.before w.0 m d w.1) e)
                | inr d ↦ inr (hn ∙ sym hm, later t.place w.0 d t.is w.1)
              ])
        ]
      ]
    where
      later : (x y : ℕ) → x ≤ y → slice_get level x ≡ Some node → slice_get level y ≡ Some m → node ≤ m
      later x y l a b = by (nat_cmp x y) refl
        where
          by : (o : Ordering) → nat_cmp x y ≡ o → node ≤ m
          by Less q = let w : node < m = is.rises x y node m (less-cmp x y q) a b in omega arith
          by Equal q = let w : node ≡ m = one-there level y node m (subst (λ z. slice_get level z ≡ Some node) (equal-cmp x y q) a) b in omega arith
          by Greater q = let w = greater-cmp x y q in absurd (omega arith)

-- ---- the beginning and the end

pub stands-none : (v : View) (rank : ℕ → ℕ) → Stands v rank 0 0
stands-none v rank = record {
  settled = record { agrees = λ i j a b. absurd (omega (arith, a.1)); keyed = λ i a. absurd (omega (arith, a.1)) };
  below = λ i a. absurd (omega (arith, a.1));
}

pub all-ranked : (v : View) (rank : ℕ → ℕ) (high : ℕ) → Ranks v rank high → ((i : ℕ) → i < v.count → height (v.tree i) < high) → Ranked v rank
all-ranked v rank high s low i j a b = ((equal-same, same-equal), (less-before, before-less))
  where
    cmp : nat_cmp (rank i) (rank j) ≡ tree_cmp (arranged (v.tree i)) (arranged (v.tree j))
    cmp = s.agrees i j (a, low i a) (b, low j b)

    equal-same : rank i ≡ rank j → Same (v.tree i) (v.tree j)
    equal-same e = same_from (v.tree i) (v.tree j) (tree_same (arranged (v.tree i)) (arranged (v.tree j)) (sym cmp ∙ subst (λ z. nat_cmp (rank i) z ≡ Equal) e (tied_itself nat_cmp_total (rank i))))

    same-equal : Same (v.tree i) (v.tree j) → rank i ≡ rank j
    same-equal e =
        let q = same_to (v.tree i) (v.tree j) (s.keyed i (a, low i a)) (s.keyed j (b, low j b)) e in
        equal-cmp (rank i) (rank j) (cmp ∙ subst (λ z. tree_cmp (arranged (v.tree i)) z ≡ Equal) q (tied_itself tree_cmp-total (arranged (v.tree i))))

    less-before : rank i < rank j → Before (v.tree i) (v.tree j)
    less-before e = sym cmp ∙ cmp-less (rank i) (rank j) e

    before-less : Before (v.tree i) (v.tree j) → rank i < rank j
    before-less e = less-cmp (rank i) (rank j) (cmp ∙ e)
