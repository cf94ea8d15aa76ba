-- Trees whose pairs stand in strict order of their keys.
use Rattle.std.proofs.Common.{◌≡◌, Bool, true, false, not, ◌&&◌, inl, inr, refl, sym, ◌∙◌, ap, subst}
use Rattle.std.specs.declared.cmp.Ordering.TheVariants.{Less}
use Rattle.yaml_definitions.specs.model.Tree.{Tree, Trees, Pairs, scalar, sequence, mapping, end, item, done, entry}
use Rattle.yaml_definitions.specs.model.Order.{tree_cmp, enter, arranged, arranged_trees, arranged_pairs}
use Rattle.yaml_definitions.specs.model.Same.{same, keyed, keyed_trees, keyed_pairs, all_pairs}
use Rattle.yaml_definitions.proofs.Members.{In, Above, Sorted, and_both, both_and, in_enter, in_all, not_below_itself}
use Rattle.yaml_definitions.proofs.SameLaws.{same_to, arranged_sorted, keyed_parts, keyed_in}

abbrev mutual
  pub IsArranged : Tree → Type 0
  IsArranged (scalar a x) = Unit {0}
  IsArranged (sequence a ts) = AreArranged ts
  IsArranged (mapping a ps) = ArePairsArranged ps

  pub AreArranged : Trees → Type 0
  AreArranged end = Unit {0}
  AreArranged (item t ts) = IsArranged t × AreArranged ts

  pub ArePairsArranged : Pairs → Type 0
  ArePairsArranged done = Unit {0}
  ArePairsArranged (entry k v ps) = IsArranged k × IsArranged v × Above k ps × ArePairsArranged ps

enter_first : (k v : Tree) (ps : Pairs) → Above k ps → enter k v ps ≡ entry k v ps
enter_first k v done a = refl
enter_first k v (entry j w ps) a = rw (a j w (inl (refl, refl)))

mutual
  unfolding arranged

  pub neat_fixed : (t : Tree) → IsArranged t → arranged t ≡ t
  neat_fixed (scalar a x) n = refl
  neat_fixed (sequence a ts) n = ap (sequence a) (neat_trees_fixed ts n)
  neat_fixed (mapping a ps) n = ap (mapping a) (neat_pairs_fixed ps n)

  neat_trees_fixed : (ts : Trees) → AreArranged ts → arranged_trees ts ≡ ts
  neat_trees_fixed end n = refl
  neat_trees_fixed (item t ts) n = let e = neat_fixed t n.0 in let f = neat_trees_fixed ts n.1 in cc

  neat_pairs_fixed : (ps : Pairs) → ArePairsArranged ps → arranged_pairs ps ≡ ps
  neat_pairs_fixed done n = refl
  neat_pairs_fixed (entry k v ps) n = rw (neat_fixed k n.0, neat_fixed v n.1, neat_pairs_fixed ps n.3) (enter_first k v ps n.2)

-- an entry of neat pairs is neat
neat_in : (k v : Tree) (ps : Pairs) → ArePairsArranged ps → In k v ps → IsArranged k × IsArranged v
neat_in k v done n i = absurd i
neat_in k v (entry j w ps) n (inl e) = (subst IsArranged (sym e.0) n.0, subst IsArranged (sym e.1) n.1)
neat_in k v (entry j w ps) n (inr i) = neat_in k v ps n.3 i

not_so : (b : Bool) → (b ≡ true → ⊥) → not b ≡ true
not_so true h = absurd (h refl)
not_so false h = refl

apart : (k v : Tree) (ps : Pairs) → ArePairsArranged (entry k v ps) → keyed k ≡ true → keyed_pairs ps ≡ true → (j w : Tree) → In j w ps → not (same k j) ≡ true
apart k v ps n a c j w i = not_so (same k j) (λ s.
    let e = sym (neat_fixed k n.0) ∙ (same_to k j a (keyed_in j w ps c i).0 s ∙ neat_fixed j (neat_in j w ps n.3 i).0) in
    not_below_itself k (subst (λ z. tree_cmp k z ≡ Less) (sym e) (n.2 j w i)))

mutual
  unfolding arranged

  pub neat_keyed : (t : Tree) → IsArranged t → keyed t ≡ true
  neat_keyed (scalar a x) n = refl
  neat_keyed (sequence a ts) n = neat_trees_keyed ts n
  neat_keyed (mapping a ps) n = neat_pairs_keyed ps n

  neat_trees_keyed : (ts : Trees) → AreArranged ts → keyed_trees ts ≡ true
  neat_trees_keyed end n = refl
  neat_trees_keyed (item t ts) n = both_and (keyed t) (keyed_trees ts) (neat_keyed t n.0) (neat_trees_keyed ts n.1)

  neat_pairs_keyed : (ps : Pairs) → ArePairsArranged ps → keyed_pairs ps ≡ true
  neat_pairs_keyed done n = refl
  neat_pairs_keyed (entry k v ps) n =
      let a = neat_keyed k n.0 in
      let c = neat_pairs_keyed ps n.3 in
      both_and (keyed k) (keyed v && (all_pairs (λ j w. not (same k j)) ps && keyed_pairs ps)) a
      (both_and (keyed v) (all_pairs (λ j w. not (same k j)) ps && keyed_pairs ps) (neat_keyed v n.1)
      (both_and (all_pairs (λ j w. not (same k j)) ps) (keyed_pairs ps) (in_all (λ j w. not (same k j)) ps (apart k v ps n a c)) c))

pub neat_same : (t u : Tree) → IsArranged t → IsArranged u → same t u ≡ true → t ≡ u
neat_same t u n m s = sym (neat_fixed t n) ∙ (same_to t u (neat_keyed t n) (neat_keyed u m) s ∙ neat_fixed u m)

-- to be sorted and to have neat entries is to be neat
neat_pairs : (ps : Pairs) → Sorted ps → ((k v : Tree) → In k v ps → IsArranged k × IsArranged v) → ArePairsArranged ps
neat_pairs done s h = tt
neat_pairs (entry k v ps) s h = let a = h k v (inl (refl, refl)) in (a.0, a.1, s.0, neat_pairs ps s.1 (λ x y i. h x y (inr i)))

mutual
  unfolding arranged

  pub arranged_neat : (t : Tree) → keyed t ≡ true → IsArranged (arranged t)
  arranged_neat (scalar a x) h = tt
  arranged_neat (sequence a ts) h = arranged_trees_neat ts h
  arranged_neat (mapping a ps) h = neat_pairs (arranged_pairs ps) (arranged_sorted ps h) (arranged_entries ps h)

  arranged_trees_neat : (ts : Trees) → keyed_trees ts ≡ true → AreArranged (arranged_trees ts)
  arranged_trees_neat end h = tt
  arranged_trees_neat (item t ts) h = let p = and_both (keyed t) (keyed_trees ts) h in (arranged_neat t p.0, arranged_trees_neat ts p.1)

  arranged_entries : (ps : Pairs) → keyed_pairs ps ≡ true → (x y : Tree) → In x y (arranged_pairs ps) → IsArranged x × IsArranged y
  arranged_entries done h x y i = absurd i
  arranged_entries (entry k v ps) h x y i =
      let p = keyed_parts k v ps h in
      let a = arranged_neat k p.0 in
      let b = arranged_neat v p.1 in
      let rest : In x y (arranged_pairs ps) → IsArranged x × IsArranged y = λ j. arranged_entries ps p.3 x y j in
      elim (in_enter (arranged k) (arranged v) x y (arranged_pairs ps) i) [ inl e ↦ (subst IsArranged (sym e.0) a, subst IsArranged (sym e.1) b) | inr j ↦ rest j ]
