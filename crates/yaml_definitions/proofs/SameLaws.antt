-- On trees with no two equal keys in a mapping, to be the same is to be one when arranged.
use Rattle.std.proofs.Common.{◌≡◌, ℕ, Bool, true, false, not, ◌&&◌, List, inl, inr, refl, sym, ◌∙◌, ap, subst}
use lib.Pointwise.{bytes_decides}
use Rattle.yaml_definitions.specs.model.Tree.{Tree, Trees, Pairs, scalar, sequence, mapping, end, item, done, entry}
use Rattle.std.specs.declared.cmp.Ordering.{Ordering}
use Rattle.std.specs.declared.cmp.Ordering.TheVariants.{Less, Equal, Greater}
use Rattle.std.specs.Ordering.{MatchOrdering, ordering_reverse}
use Rattle.yaml_definitions.specs.model.Order.{tree_cmp, arranged, arranged_trees, arranged_pairs, Before}
use Rattle.std.proofs.lemmas.Cmp.{tied_itself}
use Rattle.yaml_definitions.proofs.OrderLaws.{tree_cmp-total, tree_same}
use Rattle.yaml_definitions.specs.model.Same.{Same, Keyed, same, same_trees, each_in, one_is, all_pairs, any_pair, keyed, keyed_trees, keyed_pairs}
use Rattle.std.specs.Prelude.{bytes_eq}
use Rattle.yaml_definitions.proofs.Members.{In, Some_In, and_both, both_and, or_either, or_left, or_right, any_in, in_any, all_in, in_all, in_enter, enter_in, Sorted, enter_sorted, sorted_one}

-- a pair that reads, arranged, as x and y
abbrev pub Arranged_In : Tree → Tree → Pairs → Type 0
Arranged_In x y ps = Some_In (λ k v. (arranged k ≡ x) × (arranged v ≡ y)) ps

pub in_arranged : (x y : Tree) (ps : Pairs) → In x y (arranged_pairs ps) → Arranged_In x y ps
unfolding arranged
in_arranged x y done i = absurd i
in_arranged x y (entry k v ps) i = elim (in_enter (arranged k) (arranged v) x y (arranged_pairs ps) i) [
  | inl e ↦ (k, v, inl (refl, refl), (sym e.0, sym e.1))
  | inr h ↦ let r = in_arranged x y ps h in (r.0, r.1, inr r.2, r.3)
]

arranged_in : (k v : Tree) (ps : Pairs) → In k v ps → In (arranged k) (arranged v) (arranged_pairs ps)
unfolding arranged
arranged_in k v done i = absurd i
arranged_in k v (entry j w ps) (inl e) = enter_in (arranged j) (arranged w) (arranged k) (arranged v) (arranged_pairs ps) (inl (ap arranged e.0, ap arranged e.1))
arranged_in k v (entry j w ps) (inr i) = enter_in (arranged j) (arranged w) (arranged k) (arranged v) (arranged_pairs ps) (inr (arranged_in k v ps i))

bytes_refl : (a b : List ℕ) → a ≡ b → bytes_eq a b ≡ true
bytes_refl a b e = (bytes_decides a b).1 e

-- ---- trees that are one when arranged are the same

mutual
  unfolding same arranged

  pub same_from : (t u : Tree) → arranged t ≡ arranged u → same t u ≡ true
  same_from (scalar a x) (scalar b y) h =
      let e : a ≡ b = cc in
      let f : x ≡ y = cc in
      both_and (bytes_eq a b) (bytes_eq x y) (bytes_refl a b e) (bytes_refl x y f)
  same_from (sequence a ts) (sequence b us) h =
      let e : a ≡ b = cc in
      let f : arranged_trees ts ≡ arranged_trees us = cc in
      both_and (bytes_eq a b) (same_trees ts us) (bytes_refl a b e) (same_trees_from ts us f)
  same_from (mapping a ps) (mapping b qs) h =
      let e : a ≡ b = cc in
      let f : arranged_pairs ps ≡ arranged_pairs qs = cc in
      both_and (bytes_eq a b) _ (bytes_refl a b e) (both_and (each_in ps qs) _
      (each_from ps qs (λ k v i. in_arranged (arranged k) (arranged v) qs (subst (In (arranged k) (arranged v)) f (arranged_in k v ps i))))
      (in_all (λ j w. one_is ps j w) qs (λ j w i. one_from ps j w (in_arranged (arranged j) (arranged w) ps (subst (In (arranged j) (arranged w)) (sym f) (arranged_in j w qs i))))))
  same_from t u h = absurd (cc)

  same_trees_from : (ts us : Trees) → arranged_trees ts ≡ arranged_trees us → same_trees ts us ≡ true
  same_trees_from end end h = refl
  same_trees_from end (item u us) h = absurd (cc)
  same_trees_from (item t ts) end h = absurd (cc)
  same_trees_from (item t ts) (item u us) h =
      let e : arranged t ≡ arranged u = cc in
      let f : arranged_trees ts ≡ arranged_trees us = cc in
      both_and (same t u) (same_trees ts us) (same_from t u e) (same_trees_from ts us f)

  each_from : (ps qs : Pairs) → ((k v : Tree) → In k v ps → Arranged_In (arranged k) (arranged v) qs) → each_in ps qs ≡ true
  each_from done qs h = refl
  each_from (entry k v ps) qs h =
      let r = h k v (inl (refl, refl)) in
      both_and _ (each_in ps qs)
      (in_any (λ j w. same k j && same v w) r.0 r.1 qs r.2 (both_and (same k r.0) (same v r.1) (same_from k r.0 (sym r.3.0)) (same_from v r.1 (sym r.3.1))))
      (each_from ps qs (λ x y i. h x y (inr i)))

  one_from : (ps : Pairs) (j w : Tree) → Arranged_In (arranged j) (arranged w) ps → one_is ps j w ≡ true
  one_from done j w r = absurd r.2
  one_from (entry k v ps) j w r = elim r.2 [
    | inl e ↦ or_left (same k j && same v w) (one_is ps j w) (both_and (same k j) (same v w) (same_from k j (ap arranged (sym e.0) ∙ r.3.0)) (same_from v w (ap arranged (sym e.1) ∙ r.3.1)))
    | inr i ↦ or_right (same k j && same v w) (one_is ps j w) (one_from ps j w (r.0, r.1, i, r.3))
  ]

-- ---- and the other way round, where no mapping has two entries with the same key

moved : {x y s t : Tree} (ps : Pairs) → Arranged_In x y ps → (x ≡ s) × (y ≡ t) → Arranged_In s t ps
moved ps r e = (r.0, r.1, r.2, (r.3.0 ∙ e.0, r.3.1 ∙ e.1))

put : (x y : Tree) (ps : Pairs) → Arranged_In x y ps → In x y (arranged_pairs ps)
put x y ps r = subst (λ z. In z y (arranged_pairs ps)) r.3.0 (subst (λ z. In (arranged r.0) z (arranged_pairs ps)) r.3.1 (arranged_in r.0 r.1 ps r.2))

-- the four parts of what `keyed_pairs` says of a pair and those after it
pub keyed_parts : (k v : Tree) (ps : Pairs) → keyed_pairs (entry k v ps) ≡ true → (keyed k ≡ true) × (keyed v ≡ true) × (all_pairs (λ j w. not (same k j)) ps ≡ true) × (keyed_pairs ps ≡ true)
keyed_parts k v ps h =
    let a = and_both (keyed k) (keyed v && (all_pairs (λ j w. not (same k j)) ps && keyed_pairs ps)) h in
    let b = and_both (keyed v) (all_pairs (λ j w. not (same k j)) ps && keyed_pairs ps) a.1 in
    let c = and_both (all_pairs (λ j w. not (same k j)) ps) (keyed_pairs ps) b.1 in
    (a.0, b.0, c.0, c.1)

pub keyed_in : (k v : Tree) (ps : Pairs) → keyed_pairs ps ≡ true → In k v ps → (keyed k ≡ true) × (keyed v ≡ true)
keyed_in k v done h i = absurd i
keyed_in k v (entry j w ps) h (inl e) = let p = keyed_parts j w ps h in (ap keyed e.0 ∙ p.0, ap keyed e.1 ∙ p.1)
keyed_in k v (entry j w ps) h (inr i) = keyed_in k v ps (keyed_parts j w ps h).3 i

never : (b : Bool) → b ≡ true → not b ≡ true → ⊥
never true h g = absurd (cc)
never false h g = absurd (cc)

pub arranged_sorted : (ps : Pairs) → keyed_pairs ps ≡ true → Sorted (arranged_pairs ps)
unfolding arranged
arranged_sorted done h = tt
arranged_sorted (entry k v ps) h =
    let p = keyed_parts k v ps h in
    enter_sorted (arranged k) (arranged v) (arranged_pairs ps) (arranged_sorted ps p.3)
    (λ x y i e. let r = in_arranged x y ps i in never (same k r.0) (same_from k r.0 (e ∙ sym r.3.0)) (all_in (λ j w. not (same k j)) r.0 r.1 ps p.2 r.2))

mutual
  unfolding same arranged

  pub same_to : (t u : Tree) → keyed t ≡ true → keyed u ≡ true → same t u ≡ true → arranged t ≡ arranged u
  same_to (scalar a x) (scalar b y) m n h =
      let p = and_both (bytes_eq a b) (bytes_eq x y) h in
      let e : a ≡ b = (bytes_decides a b).0 p.0 in
      let f : x ≡ y = (bytes_decides x y).0 p.1 in
      cc
  same_to (sequence a ts) (sequence b us) m n h =
      let p = and_both (bytes_eq a b) (same_trees ts us) h in
      let e : a ≡ b = (bytes_decides a b).0 p.0 in
      let f : arranged_trees ts ≡ arranged_trees us = same_trees_to ts us m n p.1 in
      cc
  same_to (mapping a ps) (mapping b qs) m n h =
      let p = and_both (bytes_eq a b) (each_in ps qs && all_pairs (λ j w. one_is ps j w) qs) h in
      let q = and_both (each_in ps qs) (all_pairs (λ j w. one_is ps j w) qs) p.1 in
      let e : a ≡ b = (bytes_decides a b).0 p.0 in
      let f : arranged_pairs ps ≡ arranged_pairs qs = sorted_one (arranged_pairs ps) (arranged_pairs qs) (arranged_sorted ps m) (arranged_sorted qs n)
      (λ x y i. let r = in_arranged x y ps i in put x y qs (moved qs (each_to ps qs m n q.0 r.0 r.1 r.2) r.3))
      (λ x y i. let r = in_arranged x y qs i in let k = keyed_in r.0 r.1 qs n r.2 in
      put x y ps (moved ps (one_to ps r.0 r.1 m k.0 k.1 (all_in (λ j w. one_is ps j w) r.0 r.1 qs q.1 r.2)) r.3)) in
      cc
  same_to t u m n h = absurd (cc)

  same_trees_to : (ts us : Trees) → keyed_trees ts ≡ true → keyed_trees us ≡ true → same_trees ts us ≡ true → arranged_trees ts ≡ arranged_trees us
  same_trees_to end end m n h = refl
  same_trees_to end (item u us) m n h = absurd (cc)
  same_trees_to (item t ts) end m n h = absurd (cc)
  same_trees_to (item t ts) (item u us) m n h =
      let p = and_both (same t u) (same_trees ts us) h in
      let x = and_both (keyed t) (keyed_trees ts) m in
      let y = and_both (keyed u) (keyed_trees us) n in
      let e : arranged t ≡ arranged u = same_to t u x.0 y.0 p.0 in
      let f : arranged_trees ts ≡ arranged_trees us = same_trees_to ts us x.1 y.1 p.1 in
      cc

  each_to : (ps qs : Pairs) → keyed_pairs ps ≡ true → keyed_pairs qs ≡ true → each_in ps qs ≡ true → (k v : Tree) → In k v ps → Arranged_In (arranged k) (arranged v) qs
  each_to done qs m n h k v i = absurd i
  each_to (entry j w ps) qs m n h k v i =
      let p = keyed_parts j w ps m in
      let q = and_both (any_pair (λ x y. same j x && same w y) qs) (each_in ps qs) h in
      let a = any_in (λ x y. same j x && same w y) qs q.0 in
      let b = keyed_in a.0 a.1 qs n a.2 in
      let c = and_both (same j a.0) (same w a.1) a.3 in
      let e : arranged j ≡ arranged a.0 = same_to j a.0 p.0 b.0 c.0 in
      let f : arranged w ≡ arranged a.1 = same_to w a.1 p.1 b.1 c.1 in
      let rest : In k v ps → Arranged_In (arranged k) (arranged v) qs = λ i. each_to ps qs p.3 n q.1 k v i in
      elim i [ inl d ↦ (a.0, a.1, a.2, (sym (ap arranged d.0 ∙ e), sym (ap arranged d.1 ∙ f))) | inr i ↦ rest i ]

  one_to : (ps : Pairs) (j w : Tree) → keyed_pairs ps ≡ true → keyed j ≡ true → keyed w ≡ true → one_is ps j w ≡ true → Arranged_In (arranged j) (arranged w) ps
  one_to done j w m a b h = absurd (cc)
  one_to (entry k v ps) j w m a b h =
      let p = keyed_parts k v ps m in
      let rest : one_is ps j w ≡ true → Arranged_In (arranged j) (arranged w) ps = λ g. one_to ps j w p.3 a b g in
      elim (or_either (same k j && same v w) (one_is ps j w) h) [
        | inl g ↦ let c = and_both (same k j) (same v w) g in (k, v, inl (refl, refl), (same_to k j p.0 a c.0, same_to v w p.1 b c.1))
        | inr g ↦ let r = rest g in (r.0, r.1, inr r.2, r.3)
      ]

-- ---- the order, on trees with no two equal keys in a mapping, up to being the same

pub same_exact : (t u : Tree) → Keyed t → Keyed u → (Same t u → arranged t ≡ arranged u) × (arranged t ≡ arranged u → Same t u)
same_exact t u m n = (λ h. same_to t u m n h, λ e. same_from t u e)

-- exactly one of the three
pub before_or_same : (t u : Tree) → Keyed t → Keyed u → MatchOrdering (tree_cmp (arranged t) (arranged u))
    (Before t u × (¬ Same t u) × (¬ Before u t)) (Same t u × (¬ Before t u) × (¬ Before u t)) (Before u t × (¬ Same t u) × (¬ Before t u))
before_or_same t u m n = by (tree_cmp (arranged t) (arranged u)) refl
  where
    turn : (r : Ordering) → tree_cmp (arranged t) (arranged u) ≡ r → tree_cmp (arranged u) (arranged t) ≡ ordering_reverse r
    turn r e = tree_cmp-total.antisymm (arranged u) (arranged t) ∙ ap ordering_reverse e

    equal : Same t u → tree_cmp (arranged t) (arranged u) ≡ Equal
    equal s = subst (λ z. tree_cmp (arranged t) z ≡ Equal) (same_to t u m n s) (tied_itself tree_cmp-total (arranged t))

    by : (r : Ordering) → tree_cmp (arranged t) (arranged u) ≡ r → MatchOrdering r
        (Before t u × (¬ Same t u) × (¬ Before u t)) (Same t u × (¬ Before t u) × (¬ Before u t)) (Before u t × (¬ Same t u) × (¬ Before t u))
    by Less e = (e, λ s. let q : Less ≡ Equal = sym e ∙ equal s in absurd (cc), λ b. let q : Greater ≡ Less = sym (turn Less e) ∙ b in absurd (cc))
    by Equal e =
        (same_from t u (tree_same (arranged t) (arranged u) e), λ b. let q : Equal ≡ Less = sym e ∙ b in absurd (cc), λ b. let q : Equal ≡ Less = sym (turn Equal e) ∙ b in absurd (cc))
    by Greater e = (turn Greater e, λ s. let q : Greater ≡ Equal = sym e ∙ equal s in absurd (cc), λ b. let q : Greater ≡ Less = sym e ∙ b in absurd (cc))
