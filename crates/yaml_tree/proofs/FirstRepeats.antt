-- The first equal keys of a store that keeps equal nodes once are those of the nodes of the stream.
use Rattle.std.proofs.Common.{◌≡◌, ◌⊎◌, inl, inr, ◌<◌, ◌≤◌, ℕ, zero, suc, Bool, true, false, not, List, [], length, refl, sym, ◌∙◌, ap, subst, arith}
use Rattle.std.specs.Prelude.{Some}
use Rattle.std.specs.List.{slice_get}
use Rattle.std.specs.declared.cmp.Ordering.{Ordering}
use Rattle.std.specs.declared.cmp.Ordering.TheVariants.{Less, Equal, Greater}
use Rattle.std.specs.Ordering.{nat_cmp}
use Rattle.std.proofs.lemmas.Option.{get_or_from_slice_get}
use Rattle.yaml_definitions.specs.model.Tree.{Tree, Pairs, scalar, sequence, mapping, done, entry, height}
use Rattle.yaml_definitions.specs.model.Same.{same, keyed, keyed_pairs}
use Rattle.yaml_definitions.proofs.Members.{In, all_in}
use Rattle.yaml_definitions.proofs.SameLaws.{keyed_parts}
use Rattle.yaml_tree.specs.TreeLists.{tree_at}
use Rattle.yaml_tree.specs.View.{View, Repeats, IsFirst}
use Rattle.yaml_tree.specs.Keys.{pairs_listed, pairs_of, TreeRepeats}
use Rattle.yaml_tree.specs.Numbers.{Numbers}
use Rattle.yaml_tree.specs.FirstRepeat.{IsFirstRepeat}
use Rattle.yaml_tree.proofs.Repeats.{view-to, view-from}
use Rattle.yaml_tree.proofs.Lists.{get-some}
use Rattle.yaml_tree.proofs.Numbering.{get-within}
use Rattle.yaml_tree.proofs.Numbers.{less-cmp, equal-cmp, greater-cmp}

-- ---- a tree without equal keys

never : (b : Bool) → b ≡ true → not b ≡ true → ⊥
never true h k = absurd (cc)
never false h k = absurd (cc)

listed-in : (ps : Pairs) (i : ℕ) (e : Tree × Tree) → slice_get (pairs_listed ps) i ≡ Some e → In e.0 e.1 ps
listed-in done i e h = absurd (cc)
listed-in (entry k v ps) zero e h =
    let p : Tree × Tree = (k, v) in
    let q : p ≡ e = cc in
    inl (ap (λ z. z.0) (sym q), ap (λ z. z.1) (sym q))
listed-in (entry k v ps) (suc i) e h = inr (listed-in ps i e h)

pairs-apart : (ps : Pairs) → keyed_pairs ps ≡ true → (i j : ℕ) (a b : Tree × Tree) → i < j → slice_get (pairs_listed ps) i ≡ Some a → slice_get (pairs_listed ps) j ≡ Some b → same a.0 b.0 ≡ true → ⊥
pairs-apart done k i j a b l p q s = absurd (cc)
pairs-apart (entry x y ps) k zero zero a b l p q s = absurd (omega arith)
pairs-apart (entry x y ps) k zero (suc j) a b l p q s =
    let c = keyed_parts x y ps k in
    let e : Tree × Tree = (x, y) in
    let w : e ≡ a = cc in
    never (same x b.0) (ap (λ z. same z.0 b.0) w ∙ s) (all_in (λ u z. not (same x u)) b.0 b.1 ps c.2 (listed-in ps j b q))
pairs-apart (entry x y ps) k (suc i) zero a b l p q s = absurd (omega arith)
pairs-apart (entry x y ps) k (suc i) (suc j) a b l p q s = pairs-apart ps (keyed_parts x y ps k).3 i j a b (omega arith) p q s

-- no mapping without equal keys has two
pub tree-none : (t : Tree) (f s : ℕ) → keyed t ≡ true → TreeRepeats t f s → ⊥
tree-none t f s k r = by t r.earlier_is r.later_is k
  where
    by : (t : Tree) → slice_get (pairs_of t) f ≡ Some r.earlier → slice_get (pairs_of t) s ≡ Some r.later → keyed t ≡ true → ⊥
    by (scalar g x) p q k = absurd (cc)
    by (sequence g ts) p q k = absurd (cc)
    by (mapping g ps) p q k = pairs-apart ps k f s r.earlier r.later r.in_order p q r.equal

-- ---- there is one first

pub one-first : (closed : List Tree) (n f s m g t : ℕ) → IsFirstRepeat closed n f s → IsFirstRepeat closed m g t → (n ≡ m) × (f ≡ g) × (s ≡ t)
one-first closed n f s m g t a b = by (a.least m g t b.tree b.is b.repeats) (b.least n f s a.tree a.is a.repeats)
  where
    keys : n ≡ m → (n ≡ m) × (f ≡ g) × (s ≡ t)
    keys e =
        let there : Some a.tree ≡ Some b.tree = sym a.is ∙ ap (slice_get closed) e ∙ b.is in
        let one : a.tree ≡ b.tree = cc in
        let x = a.earlier g t (subst (λ u. TreeRepeats u g t) (sym one) b.repeats) in
        let y = b.earlier f s (subst (λ u. TreeRepeats u f s) one a.repeats) in
        elim x as (λ _. (n ≡ m) × (f ≡ g) × (s ≡ t)) [
          | inl h ↦ elim y as (λ _. (n ≡ m) × (f ≡ g) × (s ≡ t)) [ inl k ↦ absurd (omega arith) | inr k ↦ (let z = k.0 in absurd (omega arith)) ]
          | inr h ↦ elim y as (λ _. (n ≡ m) × (f ≡ g) × (s ≡ t)) [ inl k ↦ (let z = h.0 in absurd (omega arith)) | inr k ↦ (let z = h.1 in let w = k.1 in (e, omega arith, h.0)) ]
        ]

    by : (height a.tree < height b.tree) ⊎ ((height a.tree ≡ height b.tree) × (n ≤ m)) → (height b.tree < height a.tree) ⊎ ((height b.tree ≡ height a.tree) × (m ≤ n)) → (n ≡ m) × (f ≡ g) × (s ≡ t)
    by (inl h) (inl k) = absurd (omega arith)
    by (inl h) (inr k) = let z = k.0 in absurd (omega arith)
    by (inr h) (inl k) = let z = h.0 in absurd (omega arith)
    by (inr h) (inr k) = let z = h.1 in let w = k.1 in keys (omega arith)

-- ---- a view whose nodes have numbers among the nodes that closed

module _ (v : View) (trees : List Tree) (numbers : List ℕ) (closed : List Tree) (long : length trees ≡ v.count) (are : (i : ℕ) → i < v.count → v.tree i ≡ tree_at trees i) (numbered : Numbers trees numbers closed) where
  -- the tree of a node of the view
  view-tree : (i : ℕ) (t : Tree) → slice_get trees i ≡ Some t → (i < v.count) × (v.tree i ≡ t)
  view-tree i t e =
      let l : i < v.count = omega (arith, get-within trees i t e, long) in
      (l, are i l ∙ get_or_from_slice_get trees i t (scalar [] []) e)

  module _ (n k : ℕ) (is : slice_get numbers n ≡ Some k) (within : n < v.count) where
    -- the node of this number
    numbered-tree : slice_get closed k ≡ Some (v.tree n)
    numbered-tree =
        let t = get-some trees n (omega (arith, within, long)) in
        let u = view-tree n t.0 t.1 in
        numbered.stands n k t.0 is t.1 ∙ ap Some (sym u.1)

    not-above : (i l m : ℕ) → n ≤ i → slice_get numbers i ≡ Some l → l ≤ m → k ≤ m
    not-above i l m h e q = by (nat_cmp n i) refl
      where
        by : (o : Ordering) → nat_cmp n i ≡ o → k ≤ m
        by Less a = let r = numbered.rises n i k l (less-cmp n i a) is e in omega arith
        by Equal a = let r : Some k ≡ Some l = sym is ∙ ap (slice_get numbers) (equal-cmp n i a) ∙ e in let s : k ≡ l = cc in omega arith
        by Greater a = let r = greater-cmp n i a in absurd (omega arith)

    pub first-repeat : (first second : ℕ) → Repeats v n first second → ((f s : ℕ) → Repeats v n f s → (second < s) ⊎ ((second ≡ s) × (first ≤ f))) → IsFirst v n → IsFirstRepeat closed k first second
    first-repeat first second r before lowest = record {
      tree = v.tree n;
      is = numbered-tree;
      repeats = view-to v n within first second r;
      earlier = λ f s e. before f s (view-from v n within f s e);
      least = least;
    }
      where
        least : (m f s : ℕ) (t : Tree) → slice_get closed m ≡ Some t → TreeRepeats t f s → (height (v.tree n) < height t) ⊎ ((height (v.tree n) ≡ height t) × (k ≤ m))
        least m f s t e repeats =
            let c = numbered.covers m t e in
            let u = view-tree c.0 t c.2 in
            let low = lowest c.0 f s (view-from v c.0 u.0 f s (subst (λ z. TreeRepeats z f s) (sym u.1) repeats)) in
            let there : height (v.tree c.0) ≡ height t = ap height u.1 in
            elim low as (λ _. (height (v.tree n) < height t) ⊎ ((height (v.tree n) ≡ height t) × (k ≤ m))) [
              | inl h ↦ inl (omega arith)
              | inr h ↦ inr (h.0 ∙ there, not-above c.0 c.1 m h.1 c.3 c.4)
            ]
