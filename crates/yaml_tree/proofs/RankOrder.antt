-- Ranks of parts decide the order of trees.
use Rattle.std.proofs.Common.{◌≡◌, inl, inr, ℕ, ◌<◌, Bool, true, false, not, ◌&&◌, List, [], ◌∷◌, map, refl, sym, ◌∙◌, ap, subst}
use Rattle.std.specs.declared.cmp.Ordering.{Ordering}
use Rattle.std.specs.declared.cmp.Ordering.TheVariants.{Less, Equal}
use Rattle.std.specs.Ordering.{nat_cmp, ordering_then}
use Rattle.std.specs.Cmp.Lexicographic.{slice_cmp}
use Rattle.std.proofs.lemmas.Cmp.{tied_itself, nat_cmp_total}
use Rattle.yaml_definitions.specs.model.Tree.{Tree, Pairs, item, done, entry, tag_of, kind_of, height}
use Rattle.yaml_definitions.specs.model.Order.{bytes_cmp, inside_cmp, trees_cmp, pairs_cmp, tree_cmp, arranged, arranged_trees, arranged_pairs}
use Rattle.yaml_definitions.specs.model.Same.{same, keyed, keyed_pairs, all_pairs}
use Rattle.yaml_definitions.proofs.OrderLaws.{then_assoc, tree_cmp-total}
use Rattle.yaml_definitions.proofs.Members.{In, Above, Sorted, both_and, in_all, enter_in, sorted_one}
use Rattle.yaml_definitions.proofs.SameLaws.{in_arranged, arranged_sorted, same_to}
use Rattle.yaml_tree.specs.TreeLists.{trees, pairs}
use Rattle.yaml_tree.specs.Numbered.{pair_cmp}
use Rattle.yaml_tree.proofs.Numbers.{cmp-less, equal-cmp}
use Rattle.yaml_tree.proofs.Lists.{Has}

module _ {X : Type 0} (f : X → Tree × Tree) where
  pub map-in : (x : X) (xs : List X) → Has x xs → In (f x).0 (f x).1 (pairs (map f xs))
  map-in x [] h = absurd h
  map-in x (y ∷ ys) (inl e) = inl (ap (λ z. (f z).0) e, ap (λ z. (f z).1) e)
  map-in x (y ∷ ys) (inr h) = inr (map-in x ys h)

  pub in-map : (k v : Tree) (xs : List X) → In k v (pairs (map f xs)) → (x : X) × Has x xs × (k ≡ (f x).0) × (v ≡ (f x).1)
  in-map k v [] h = absurd h
  in-map k v (y ∷ ys) (inl e) = (y, inl refl, e.0, e.1)
  in-map k v (y ∷ ys) (inr h) = let r = in-map k v ys h in (r.0, inr r.1, r.2, r.3)

pub arranged_in : (k v : Tree) (ps : Pairs) → In k v ps → In (arranged k) (arranged v) (arranged_pairs ps)
unfolding arranged
arranged_in k v done i = absurd i
arranged_in k v (entry j w ps) (inl e) = enter_in (arranged j) (arranged w) (arranged k) (arranged v) (arranged_pairs ps) (inl (ap arranged e.0, ap arranged e.1))
arranged_in k v (entry j w ps) (inr i) = enter_in (arranged j) (arranged w) (arranged k) (arranged v) (arranged_pairs ps) (inr (arranged_in k v ps i))

not_so : (b : Bool) → (b ≡ true → ⊥) → not b ≡ true
not_so true h = absurd (h refl)
not_so false h = refl

-- trees that are arranged part by part
pub arranged-items : {X : Type 0} (T : X → Tree) (xs : List X) → arranged_trees (trees (map T xs)) ≡ trees (map (λ x. arranged (T x)) xs)
unfolding arranged
arranged-items T [] = refl
arranged-items T (x ∷ xs) = ap (item (arranged (T x))) (arranged-items T xs)

-- what decides between two trees of one height
abbrev pub tail : Tree → Tree → Ordering
tail t u = ordering_then (nat_cmp (kind_of t) (kind_of u)) (ordering_then (bytes_cmp (tag_of t) (tag_of u)) (inside_cmp t u))

pub same-high : (t u : Tree) → height t ≡ height u → tree_cmp t u ≡ tail t u
unfolding tree_cmp
same-high t u e = ap (λ o. ordering_then o (tail t u)) (subst (λ n. nat_cmp (height t) n ≡ Equal) e (tied_itself nat_cmp_total (height t)))

-- ---- parts x with trees T x, whose ranks R x are right where Low x

module _ {X : Type 0} (T : X → Tree) (R : X → ℕ) (Low : X → Type 0) (agrees : (x y : X) → Low x → Low y → nat_cmp (R x) (R y) ≡ tree_cmp (arranged (T x)) (arranged (T y))) where
  abbrev pub AllLow : List X → Type 0
  AllLow [] = Unit {0}
  AllLow (x ∷ xs) = Low x × AllLow xs

  abbrev pub PairsLow : List (X × X) → Type 0
  PairsLow [] = Unit {0}
  PairsLow (p ∷ ps) = (Low p.0 × Low p.1) × PairsLow ps

  abbrev pub two : X × X → Tree × Tree
  two p = (T p.0, T p.1)

  abbrev pub two_arranged : X × X → Tree × Tree
  two_arranged p = (arranged (T p.0), arranged (T p.1))

  pub low-in : (p : X × X) (ps : List (X × X)) → PairsLow ps → Has p ps → Low p.0 × Low p.1
  low-in p [] l h = absurd h
  low-in p (q ∷ ps) l (inl e) = subst (λ z. Low z.0 × Low z.1) (sym e) l.0
  low-in p (q ∷ ps) l (inr h) = low-in p ps l.1 h

  -- lists of ranks stand as lists of trees do
  pub items-cmp : (xs ys : List X) → AllLow xs → AllLow ys → slice_cmp nat_cmp (map R xs) (map R ys) ≡ trees_cmp (trees (map (λ x. arranged (T x)) xs)) (trees (map (λ x. arranged (T x)) ys))
  unfolding tree_cmp
  items-cmp [] [] a b = refl
  items-cmp [] (y ∷ ys) a b = refl
  items-cmp (x ∷ xs) [] a b = refl
  items-cmp (x ∷ xs) (y ∷ ys) a b = λ z. ordering_then (agrees x y a.0 b.0 z) (items-cmp xs ys a.1 b.1 z)

  -- lists of pairs of ranks stand as lists of pairs of trees do
  pub entries-cmp : (ps qs : List (X × X)) → PairsLow ps → PairsLow qs
      → slice_cmp pair_cmp (map (λ p. (R p.0, R p.1)) ps) (map (λ p. (R p.0, R p.1)) qs) ≡ pairs_cmp (pairs (map two_arranged ps)) (pairs (map two_arranged qs))
  unfolding tree_cmp
  entries-cmp [] [] a b = refl
  entries-cmp [] (q ∷ qs) a b = refl
  entries-cmp (p ∷ ps) [] a b = refl
  entries-cmp (p ∷ ps) (q ∷ qs) a b =
      then_assoc (nat_cmp (R p.0) (R q.0)) (nat_cmp (R p.1) (R q.1)) (slice_cmp pair_cmp (map (λ r. (R r.0, R r.1)) ps) (map (λ r. (R r.0, R r.1)) qs))
      ∙ (λ z. ordering_then (agrees p.0 q.0 a.0.0 b.0.0 z) (ordering_then (agrees p.1 q.1 a.0.1 b.0.1 z) (entries-cmp ps qs a.1 b.1 z)))

  -- keys in strictly rising order of rank
  abbrev pub Rising : List (X × X) → Type 0
  Rising [] = Unit {0}
  Rising (p ∷ ps) = ((q : X × X) → Has q ps → R p.0 < R q.0) × Rising ps

  -- no two keys of one rank
  abbrev pub Distinct : List (X × X) → Type 0
  Distinct [] = Unit {0}
  Distinct (p ∷ ps) = ((q : X × X) → Has q ps → R p.0 ≡ R q.0 → ⊥) × Distinct ps

  pub rising-sorted : (ps : List (X × X)) → PairsLow ps → Rising ps → Sorted (pairs (map two_arranged ps))
  rising-sorted [] l r = tt
  rising-sorted (p ∷ ps) l r =
      let above : Above (arranged (T p.0)) (pairs (map two_arranged ps)) = λ j w i.
      let q = in-map two_arranged j w ps i in
      subst (λ z. tree_cmp (arranged (T p.0)) z ≡ Less) (sym q.2) (sym (agrees p.0 q.0.0 l.0.0 (low-in q.0 ps l.1 q.1).0) ∙ cmp-less (R p.0) (R q.0.0) (r.0 q.0 q.1)) in
      (above, rising-sorted ps l.1 r.1)

  pub keyed-entries : (ps : List (X × X)) → PairsLow ps → ((p : X × X) → Has p ps → (keyed (T p.0) ≡ true) × (keyed (T p.1) ≡ true)) → Distinct ps → keyed_pairs (pairs (map two ps)) ≡ true
  keyed-entries [] l k d = refl
  keyed-entries (p ∷ ps) l k d =
      let a = k p (inl refl) in
      let apart : (j w : Tree) → In j w (pairs (map two ps)) → not (same (T p.0) j) ≡ true = λ j w i.
      let q = in-map two j w ps i in
      not_so (same (T p.0) j) (λ s.
      let e : arranged (T p.0) ≡ arranged (T q.0.0) = same_to (T p.0) (T q.0.0) a.0 (k q.0 (inr q.1)).0 (subst (λ z. same (T p.0) z ≡ true) q.2 s) in
      d.0 q.0 q.1 (equal-cmp (R p.0) (R q.0.0) (agrees p.0 q.0.0 l.0.0 (low-in q.0 ps l.1 q.1).0 ∙ subst (λ z. tree_cmp (arranged (T p.0)) z ≡ Equal) e (tied_itself tree_cmp-total (arranged (T p.0)))))) in
      both_and (keyed (T p.0)) (keyed (T p.1) && (all_pairs (λ j w. not (same (T p.0) j)) (pairs (map two ps)) && keyed_pairs (pairs (map two ps)))) a.0
      (both_and (keyed (T p.1)) (all_pairs (λ j w. not (same (T p.0) j)) (pairs (map two ps)) && keyed_pairs (pairs (map two ps))) a.1
      (both_and (all_pairs (λ j w. not (same (T p.0) j)) (pairs (map two ps))) (keyed_pairs (pairs (map two ps))) (in_all (λ j w. not (same (T p.0) j)) (pairs (map two ps)) apart)
      (keyed-entries ps l.1 (λ q h. k q (inr h)) d.1)))

  -- entries in rising order of their keys' ranks are the mapping's entries arranged
  pub entries-arranged : (ps qs : List (X × X)) → keyed_pairs (pairs (map two ps)) ≡ true → PairsLow qs → Rising qs → ((p : X × X) → Has p ps → Has p qs) → ((p : X × X) → Has p qs → Has p ps)
      → arranged_pairs (pairs (map two ps)) ≡ pairs (map two_arranged qs)
  entries-arranged ps qs k l r f g =
      sorted_one (arranged_pairs (pairs (map two ps))) (pairs (map two_arranged qs)) (arranged_sorted (pairs (map two ps)) k) (rising-sorted qs l r)
      (λ x y i.
      let a = in_arranged x y (pairs (map two ps)) i in
      let b = in-map two a.0 a.1 ps a.2 in
      let c = map-in two_arranged b.0 qs (f b.0 b.1) in
      subst (λ z. In z y (pairs (map two_arranged qs))) (ap arranged (sym b.2) ∙ a.3.0) (subst (λ z. In (arranged (T b.0.0)) z (pairs (map two_arranged qs))) (ap arranged (sym b.3) ∙ a.3.1) c))
      (λ x y i.
      let b = in-map two_arranged x y qs i in
      let c = arranged_in (T b.0.0) (T b.0.1) (pairs (map two ps)) (map-in two b.0 ps (g b.0 b.1)) in
      subst (λ z. In z y (arranged_pairs (pairs (map two ps)))) (sym b.2) (subst (λ z. In (arranged (T b.0.0)) z (arranged_pairs (pairs (map two ps)))) (sym b.3) c))
