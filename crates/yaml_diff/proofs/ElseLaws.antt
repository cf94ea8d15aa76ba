-- Trees that are not the same differ somewhere under each pairing in turn.
use Rattle.std.proofs.Common.{◌≡◌, ◌≢◌, ℕ, suc, ◌+◌, true, ◌&&◌, ◌⊎◌, List, [], ◌∷◌, inl, inr, refl, sym, ◌∙◌, ap, subst, arith}
use Rattle.std.specs.Prelude.{Option, Some, None, bytes_eq}
use Rattle.std.specs.List.{slice_get}
use lib.Pointwise.{bytes_decides}
use Rattle.yaml_definitions.specs.model.Tree.{Tree, Trees, Pairs, scalar, sequence, mapping, end, item, done, entry}
use Rattle.yaml_definitions.specs.model.Same.{same, same_trees, each_in, one_is, all_pairs, any_pair, keyed, keyed_trees, keyed_pairs}
use Rattle.yaml_definitions.proofs.Members.{In, and_both, both_and, in_any}
use Rattle.yaml_definitions.proofs.SameLaws.{keyed_in}
use Rattle.yaml_definitions.proofs.Equivalence.{same_refl, same_sym, same_trans, Like, is_each, one_of}
use Rattle.yaml_path.specs.Path.{head, head_of, item_in, value_in, part_of}
use Rattle.yaml_path.specs.Path as plain
use Rattle.yaml_path.specs.Ways.{at_places, at_key, Way, Pairing, below, Allows, Differs, left_part, right_part, left_place, right_place, places_by, numbers, count_in}
use Rattle.yaml_path.specs.declared.places.Places.{Places}
use Rattle.yaml_path.specs.declared.places.Places.TheVariants.{Both, Left, Right}
use Rattle.yaml_path.proofs.PathLaws.{heads-either, found_in, in_found}
use Rattle.yaml_diff.proofs.WayLaws.{InTurn}

abbrev Somewhere : Pairing → Option Tree → Option Tree → Type 0
Somewhere P t u = (q : Way) × Differs P q t u

-- the values of some key differ
abbrev AtKey : Pairing → Pairs → Pairs → Type 0
AtKey P ps qs = (x : Tree) × Somewhere (below P (at_key x)) (value_in ps x) (value_in qs x)

-- the items of some step differ
abbrev AtItem : Pairing → Option Tree → Option Tree → Type 0
AtItem P t u = (p : Places) × Allows (P []) (at_places p) × Somewhere (below P (at_places p)) (left_part t (at_places p)) (right_part u (at_places p))

option-cases : (o : Option Tree) → (o ≡ None) ⊎ ((v : Tree) × (o ≡ Some v))
option-cases None = inl refl
option-cases (Some v) = inr (v, refl)

some-same : {x y : Tree} → Some x ≡ Some y → x ≡ y
some-same e = cc

head-is : {X : Type 0} {x y : X} {xs ys : List X} → x ∷ xs ≡ y ∷ ys → x ≡ y
head-is e = cc

tail-is : {X : Type 0} {x y : X} {xs ys : List X} → x ∷ xs ≡ y ∷ ys → xs ≡ ys
tail-is e = cc

pairs-there : (P : Pairing) (t u v w : Option Tree) → t ≡ v → u ≡ w → InTurn P t u → InTurn P v w
pairs-there P t u v w e f a = subst (λ z. InTurn P z w) e (subst (λ z. InTurn P t z) f a)

there-differs : (P : Pairing) (t u v w : Option Tree) → t ≡ v → u ≡ w → Somewhere P v w → Somewhere P t u
there-differs P t u v w e f s = (s.0, subst (λ z. Differs P s.0 z u) (sym e) (subst (λ z. Differs P s.0 v z) (sym f) s.1))

-- the value of a pair of the left is found on the right, and is the same as there, or the two differ there
paired : (P : Pairing) (ps qs : Pairs) (k v : Tree) → keyed_pairs ps ≡ true → In k v ps → ((w : Tree) → keyed w ≡ true → value_in qs k ≡ Some w → (same v w ≡ true) ⊎ Somewhere (below P (at_key k)) (Some v) (Some w)) → keyed_pairs qs ≡ true → Like k v qs ⊎ AtKey P ps qs
paired P ps qs k v m i f n =
    let e : value_in ps k ≡ Some v = in_found ps k k v m i (same_refl k) in
    elim (option-cases (value_in qs k)) [
      | inl d ↦ inr (k, ([], subst (λ z. head_of z ≢ head_of (value_in qs k)) (sym e) (subst (λ z. Some (head v) ≢ head_of z) (sym d) (λ h. absurd (cc)))))
      | inr r ↦
          let g = found_in qs k r.0 r.1 in
          elim (f r.0 (keyed_in g.0 r.0 qs n g.1).1 r.1) [
            | inl s ↦ inl (g.0, r.0, g.1, (g.2, s))
            | inr w ↦ inr (k, there-differs (below P (at_key k)) (value_in ps k) (value_in qs k) (Some v) (Some r.0) e r.1 w)
          ]
    ]

-- where each pair of the left has its like on the right, the pairs of the right have theirs, or the two differ at a key
others : (P : Pairing) (ps qs rs : Pairs) → keyed_pairs ps ≡ true → keyed_pairs qs ≡ true → each_in ps qs ≡ true → ((j w : Tree) → In j w rs → In j w qs) → (all_pairs (λ j w. one_is ps j w) rs ≡ true) ⊎ AtKey P ps qs
others P ps qs done m n h f = inl refl
others P ps qs (entry j w rs) m n h f =
    let e : value_in qs j ≡ Some w = in_found qs j j w n (f j w (inl (refl, refl))) (same_refl j) in
    elim (option-cases (value_in ps j)) [
      | inl d ↦ inr (j, ([], subst (λ z. head_of z ≢ head_of (value_in qs j)) (sym d) (subst (λ z. None ≢ head_of z) (sym e) (λ h. absurd (cc)))))
      | inr r ↦
          let g = found_in ps j r.0 r.1 in
          let l = is_each ps qs g.0 r.0 h g.1 in
          let c : value_in qs j ≡ Some l.1 = in_found qs j l.0 l.1 n l.2 (same_trans j g.0 l.0 g.2 l.3.0) in
          let v : same r.0 w ≡ true = subst (λ z. same r.0 z ≡ true) (some-same (sym c ∙ e)) l.3.1 in
          elim (others P ps qs rs m n h (λ y z i. f y z (inr i))) [
            | inl a ↦ inl (both_and (one_is ps j w) (all_pairs (λ j w. one_is ps j w) rs) (one_of ps g.0 r.0 j w g.1 (same_sym j g.0 g.2) v) a)
            | inr x ↦ inr x
          ]
    ]

none-more : (k : ℕ) → 0 + k ≡ k
none-more k = omega arith

own : (t : Option Tree) (j at : ℕ) → j ≡ at → part_of t (plain.at_item j) ≡ part_of t (plain.at_item (at + 0))
own t j at e = ap (λ z. part_of t (plain.at_item z)) (omega (arith, e))

next : (t : Option Tree) (at i : ℕ) → part_of t (plain.at_item (suc at + i)) ≡ part_of t (plain.at_item (at + suc i))
next t at i = ap (λ z. part_of t (plain.at_item z)) (omega arith)

left-alone : (t : Option Tree) (j at : ℕ) (x : Tree) → j ≡ at → part_of t (plain.at_item (at + 0)) ≡ Some x → head_of (part_of t (plain.at_item j)) ≢ None
left-alone t j at x e f h = let z : Some (head x) ≡ None = sym (ap head_of (own t j at e ∙ f)) ∙ h in absurd (cc)

right-alone : (u : Option Tree) (k at : ℕ) (y : Tree) → k ≡ at → part_of u (plain.at_item (at + 0)) ≡ Some y → None ≢ head_of (part_of u (plain.at_item k))
right-alone u k at y e f h = let z : None ≡ Some (head y) = h ∙ ap head_of (own u k at e ∙ f) in absurd (cc)

mutual
  unfolding same

  same-else : (P : Pairing) (t u : Tree) → keyed t ≡ true → keyed u ≡ true → InTurn P (Some t) (Some u) → (same t u ≡ true) ⊎ Somewhere P (Some t) (Some u)
  same-else P (scalar a x) (scalar b y) m n l = elim (heads-either (Some (scalar a x)) (Some (scalar b y))) [
    | inl e ↦ let p : a ≡ b = cc in let q : x ≡ y = cc in inl (both_and (bytes_eq a b) (bytes_eq x y) ((bytes_decides a b).1 p) ((bytes_decides x y).1 q))
    | inr d ↦ inr ([], d)
  ]
  same-else P (sequence a ts) (sequence b us) m n l = elim (heads-either (Some (sequence a ts)) (Some (sequence b us))) [
    | inr d ↦ inr ([], d)
    | inl e ↦ let p : a ≡ b = cc in elim (trees-else P (Some (sequence a ts)) (Some (sequence b us)) ts us 0 (P []) (l []).lefts (l []).rights (λ k q h. (k, h)) (λ k. ap (item_in ts) (none-more k)) (λ k. ap (item_in us) (none-more k)) m n l) [
      | inl s ↦ inl (both_and (bytes_eq a b) (same_trees ts us) ((bytes_decides a b).1 p) s)
      | inr w ↦ inr (at_places w.0 ∷ w.2.0, (e, w.1, w.2.1))
    ]
  ]
  same-else P (mapping a ps) (mapping b qs) m n l = elim (heads-either (Some (mapping a ps)) (Some (mapping b qs))) [
    | inr d ↦ inr ([], d)
    | inl e ↦ let p : a ≡ b = cc in elim (each-else P a b ps ps qs m n l (λ k v i. i)) [
      | inr w ↦ inr (at_key w.0 ∷ w.1.0, (e, tt, w.1.1))
      | inl s ↦ elim (others P ps qs qs m n s (λ j w i. i)) [
        | inl r ↦ inl (both_and (bytes_eq a b) (each_in ps qs && all_pairs (λ j w. one_is ps j w) qs) ((bytes_decides a b).1 p) (both_and (each_in ps qs) (all_pairs (λ j w. one_is ps j w) qs) s r))
        | inr w ↦ inr (at_key w.0 ∷ w.1.0, (e, tt, w.1.1))
      ]
    ]
  ]
  same-else P (scalar a x) (sequence b us) m n l = inr ([], λ h. absurd (cc))
  same-else P (scalar a x) (mapping b qs) m n l = inr ([], λ h. absurd (cc))
  same-else P (sequence a ts) (scalar b y) m n l = inr ([], λ h. absurd (cc))
  same-else P (sequence a ts) (mapping b qs) m n l = inr ([], λ h. absurd (cc))
  same-else P (mapping a ps) (scalar b y) m n l = inr ([], λ h. absurd (cc))
  same-else P (mapping a ps) (sequence b us) m n l = inr ([], λ h. absurd (cc))

  -- the rest of two sequences, from this place on either side
  trees-else : (P : Pairing) (t u : Option Tree) (ts us : Trees) (at : ℕ) (ps : List Places) → places_by left_place ps ≡ numbers at (count_in ts) → places_by right_place ps ≡ numbers at (count_in us) → ((k : ℕ) (p : Places) → slice_get ps k ≡ Some p → Allows (P []) (at_places p))
      → ((k : ℕ) → part_of t (plain.at_item (at + k)) ≡ item_in ts k) → ((k : ℕ) → part_of u (plain.at_item (at + k)) ≡ item_in us k) → keyed_trees ts ≡ true → keyed_trees us ≡ true → InTurn P t u → (same_trees ts us ≡ true) ⊎ AtItem P t u
  trees-else P t u end end at ps e f here lt lu m n l = inl refl
  trees-else P t u end (item y us) at [] e f here lt lu m n l = absurd (cc)
  trees-else P t u (item x ts) end at [] e f here lt lu m n l = absurd (cc)
  trees-else P t u (item x ts) (item y us) at [] e f here lt lu m n l = absurd (cc)
  trees-else P t u end (item y us) at (Left j ∷ ps) e f here lt lu m n l = absurd (cc)
  trees-else P t u end (item y us) at (Both j k ∷ ps) e f here lt lu m n l = absurd (cc)
  trees-else P t u (item x ts) end at (Right k ∷ ps) e f here lt lu m n l = absurd (cc)
  trees-else P t u (item x ts) end at (Both j k ∷ ps) e f here lt lu m n l = absurd (cc)
  trees-else P t u end (item y us) at (Right k ∷ ps) e f here lt lu m n l = inr (Right k, here 0 (Right k) refl, ([], right-alone u k at y (head-is f) (lu 0)))
  trees-else P t u (item x ts) (item y us) at (Right k ∷ ps) e f here lt lu m n l = inr (Right k, here 0 (Right k) refl, ([], right-alone u k at y (head-is f) (lu 0)))
  trees-else P t u (item x ts) end at (Left j ∷ ps) e f here lt lu m n l = inr (Left j, here 0 (Left j) refl, ([], left-alone t j at x (head-is e) (lt 0)))
  trees-else P t u (item x ts) (item y us) at (Left j ∷ ps) e f here lt lu m n l = inr (Left j, here 0 (Left j) refl, ([], left-alone t j at x (head-is e) (lt 0)))
  trees-else P t u (item x ts) (item y us) at (Both j k ∷ ps) e f here lt lu m n l =
      let a = and_both (keyed x) (keyed_trees ts) m in
      let b = and_both (keyed y) (keyed_trees us) n in
      let v : part_of t (plain.at_item j) ≡ Some x = own t j at (head-is e) ∙ lt 0 in
      let w : part_of u (plain.at_item k) ≡ Some y = own u k at (head-is f) ∙ lu 0 in
      let Q = below P (at_places (Both j k)) in
      elim (same-else Q x y a.0 b.0 (pairs-there Q (part_of t (plain.at_item j)) (part_of u (plain.at_item k)) (Some x) (Some y) v w (λ z. l (at_places (Both j k) ∷ z)))) [
        | inr d ↦ inr (Both j k, here 0 (Both j k) refl, there-differs Q (part_of t (plain.at_item j)) (part_of u (plain.at_item k)) (Some x) (Some y) v w d)
        | inl s ↦ elim (trees-else P t u ts us (suc at) ps (tail-is e) (tail-is f) (λ i p h. here (suc i) p h) (λ i. next t at i ∙ lt (suc i)) (λ i. next u at i ∙ lu (suc i)) a.1 b.1 l) [
          | inl r ↦ inl (both_and (same x y) (same_trees ts us) s r)
          | inr d ↦ inr d
        ]
      ]

  each-else : (P : Pairing) (a b : List ℕ) (rs ps qs : Pairs) → keyed_pairs ps ≡ true → keyed_pairs qs ≡ true → InTurn P (Some (mapping a ps)) (Some (mapping b qs)) → ((k v : Tree) → In k v rs → In k v ps) → (each_in rs qs ≡ true) ⊎ AtKey P ps qs
  each-else P a b done ps qs m n l f = inl refl
  each-else P a b (entry k v rs) ps qs m n l f =
      let i : In k v ps = f k v (inl (refl, refl)) in
      let e : value_in ps k ≡ Some v = in_found ps k k v m i (same_refl k) in
      let Q = below P (at_key k) in
      let step : (w : Tree) → keyed w ≡ true → value_in qs k ≡ Some w → (same v w ≡ true) ⊎ Somewhere Q (Some v) (Some w) =
      λ w h c. same-else Q v w (keyed_in k v ps m i).1 h (pairs-there Q (value_in ps k) (value_in qs k) (Some v) (Some w) e c (λ z. l (at_key k ∷ z))) in
      elim (paired P ps qs k v m i step n) [
        | inr w ↦ inr w
        | inl d ↦ elim (each-else P a b rs ps qs m n l (λ x y j. f x y (inr j))) [
          | inr w ↦ inr w
          | inl r ↦ inl (both_and (any_pair (λ j w. same k j && same v w) qs) (each_in rs qs) (in_any (λ j w. same k j && same v w) d.0 d.1 qs d.2 (both_and (same k d.0) (same v d.1) d.3.0 d.3.1)) r)
        ]
      ]

-- trees that differ nowhere are the same
pub nowhere-same : (P : Pairing) (t u : Tree) → keyed t ≡ true → keyed u ≡ true → InTurn P (Some t) (Some u) → ((q : Way) → Differs P q (Some t) (Some u) → ⊥) → same t u ≡ true
nowhere-same P t u m n l h = elim (same-else P t u m n l) [ inl s ↦ s | inr w ↦ absurd (h w.0 w.1) ]
