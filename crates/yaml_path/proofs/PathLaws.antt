-- The same trees show the same at each path, and others differ somewhere first.
use Rattle.std.proofs.Common.{◌≡◌, ◌≢◌, ℕ, zero, suc, Bool, true, false, cond, not, ◌&&◌, ◌⊎◌, [], ◌∷◌, ◌++◌, inl, inr, refl, sym, ◌∙◌, ap, subst}
use Rattle.std.specs.Prelude.{Option, Some, None, bytes_eq}
use lib.Pointwise.{bytes_decides}
use Rattle.yaml_definitions.specs.model.Tree.{Tree, Trees, Pairs, scalar, sequence, mapping, end, item, done, entry}
use Rattle.yaml_definitions.specs.model.Same.{same, same_trees, each_in, one_is, all_pairs, any_pair, keyed, keyed_trees, keyed_pairs}
use Rattle.yaml_definitions.proofs.Members.{In, and_both, both_and, in_any, all_in}
use Rattle.yaml_definitions.proofs.SameLaws.{keyed_parts, keyed_in}
use Rattle.yaml_definitions.proofs.Equivalence.{same_refl, same_sym, same_trans, Like, is_each, one_like, one_of}
use Rattle.yaml_path.specs.Path.{Step, at_item, at_key, Path, Head, scalar_head, sequence_head, mapping_head, head, item_in, value_in, part, part_of, head_of, see, DiffersFirst, Differs}

-- ---- differing first, step by step and at once

pub first_from : (t u : Option Tree) (q : Path) → Differs q t u → DiffersFirst t u q
first_from t u [] d = record { differs = d; above = λ p s r e. absurd (empty p s r e) }
  where
    empty : (p : Path) (s : Step) (r : Path) → [] ≡ p ++ (s ∷ r) → ⊥
    empty [] s r e = absurd (cc)
    empty (x ∷ p) s r e = absurd (cc)
first_from t u (s ∷ q) d =
    let f = first_from (part_of t s) (part_of u s) q d.1 in
    record { differs = f.differs; above = λ p x r e. by f.above p x r e }
  where
    by : ((p : Path) (x : Step) (r : Path) → q ≡ p ++ (x ∷ r) → see (part_of t s) p ≡ see (part_of u s) p) → (p : Path) (x : Step) (r : Path) → s ∷ q ≡ p ++ (x ∷ r) → see t p ≡ see u p
    by f [] x r e = d.0
    by f (y ∷ p) x r e =
        let same_step : s ≡ y = cc in
        let rest : q ≡ p ++ (x ∷ r) = cc in
        subst (λ z. see (part_of t z) p ≡ see (part_of u z) p) same_step (f p x r rest)

pub from_first : (t u : Option Tree) (q : Path) → DiffersFirst t u q → Differs q t u
from_first t u [] f = f.differs
from_first t u (s ∷ q) f =
    (f.above [] s q refl, from_first (part_of t s) (part_of u s) q (record { differs = f.differs; above = λ p x r e. f.above (s ∷ p) x r (ap (λ z. s ∷ z) e) }))

-- ---- heads are told apart

head-either : (h g : Head) → (h ≡ g) ⊎ (h ≢ g)
head-either (scalar_head a x) (scalar_head b y) = by (bytes_eq a b) (bytes_eq x y) refl refl
  where
    by : (m n : Bool) → bytes_eq a b ≡ m → bytes_eq x y ≡ n → (scalar_head a x ≡ scalar_head b y) ⊎ (scalar_head a x ≢ scalar_head b y)
    by true true e f = inl (let p : a ≡ b = (bytes_decides a b).0 e in let q : x ≡ y = (bytes_decides x y).0 f in cc)
    by true false e f = inr (λ h. let p : x ≡ y = cc in let q : bytes_eq x y ≡ true = (bytes_decides x y).1 p in absurd (cc))
    by false n e f = inr (λ h. let p : a ≡ b = cc in let q : bytes_eq a b ≡ true = (bytes_decides a b).1 p in absurd (cc))
head-either (sequence_head a) (sequence_head b) = by (bytes_eq a b) refl
  where
    by : (m : Bool) → bytes_eq a b ≡ m → (sequence_head a ≡ sequence_head b) ⊎ (sequence_head a ≢ sequence_head b)
    by true e = inl (let p : a ≡ b = (bytes_decides a b).0 e in cc)
    by false e = inr (λ h. let p : a ≡ b = cc in let q : bytes_eq a b ≡ true = (bytes_decides a b).1 p in absurd (cc))
head-either (mapping_head a) (mapping_head b) = by (bytes_eq a b) refl
  where
    by : (m : Bool) → bytes_eq a b ≡ m → (mapping_head a ≡ mapping_head b) ⊎ (mapping_head a ≢ mapping_head b)
    by true e = inl (let p : a ≡ b = (bytes_decides a b).0 e in cc)
    by false e = inr (λ h. let p : a ≡ b = cc in let q : bytes_eq a b ≡ true = (bytes_decides a b).1 p in absurd (cc))
head-either (scalar_head a x) (sequence_head b) = inr (λ h. absurd (cc))
head-either (scalar_head a x) (mapping_head b) = inr (λ h. absurd (cc))
head-either (sequence_head a) (scalar_head b y) = inr (λ h. absurd (cc))
head-either (sequence_head a) (mapping_head b) = inr (λ h. absurd (cc))
head-either (mapping_head a) (scalar_head b y) = inr (λ h. absurd (cc))
head-either (mapping_head a) (sequence_head b) = inr (λ h. absurd (cc))

pub heads-either : (t u : Option Tree) → (head_of t ≡ head_of u) ⊎ (head_of t ≢ head_of u)
heads-either None None = inl refl
heads-either None (Some u) = inr (λ h. absurd (cc))
heads-either (Some t) None = inr (λ h. absurd (cc))
heads-either (Some t) (Some u) = elim (head-either (head t) (head u)) [ inl e ↦ inl (ap Some e) | inr n ↦ inr (λ h. n (cc)) ]

-- two trees show the same at a path, or differ first at it or above it
pub else_alike : (t u : Option Tree) (p : Path) → (see t p ≡ see u p) ⊎ ((q : Path) × (r : Path) × (p ≡ q ++ r) × Differs q t u)
else_alike t u [] = elim (heads-either t u) [ inl e ↦ inl e | inr n ↦ inr ([], [], refl, n) ]
else_alike t u (s ∷ p) = elim (heads-either t u) [
  | inr n ↦ inr ([], s ∷ p, refl, n)
  | inl e ↦ elim (else_alike (part_of t s) (part_of u s) p) [
    | inl h ↦ inl h
    | inr w ↦ inr (s ∷ w.0, w.1, ap (λ z. s ∷ z) w.2, (e, w.3))
  ]
]

-- ---- trees that are the same

-- the same tree on both sides, with no equal keys, or none on either
abbrev pub Match : Option Tree → Option Tree → Type 0
Match None None = Unit {0}
Match (Some t) (Some u) = (same t u ≡ true) × (keyed t ≡ true) × (keyed u ≡ true)
Match _ _ = ⊥

pub match-head : (t u : Option Tree) → Match t u → head_of t ≡ head_of u
unfolding same
match-head None None m = refl
match-head (Some t) (Some u) m = ap Some (by t u m.0)
  where
    by : (t u : Tree) → same t u ≡ true → head t ≡ head u
    by (scalar a x) (scalar b y) h =
        let p = and_both (bytes_eq a b) (bytes_eq x y) h in
        let e : a ≡ b = (bytes_decides a b).0 p.0 in
        let f : x ≡ y = (bytes_decides x y).0 p.1 in
        cc
    by (sequence a ts) (sequence b us) h = ap sequence_head ((bytes_decides a b).0 (and_both (bytes_eq a b) (same_trees ts us) h).0)
    by (mapping a ps) (mapping b qs) h = ap mapping_head ((bytes_decides a b).0 (and_both (bytes_eq a b) (each_in ps qs && all_pairs (λ j w. one_is ps j w) qs) h).0)
    by t u h = absurd (cc)
match-head None (Some u) m = absurd m
match-head (Some t) None m = absurd m

items-match : (ts us : Trees) (k : ℕ) → same_trees ts us ≡ true → keyed_trees ts ≡ true → keyed_trees us ≡ true → Match (item_in ts k) (item_in us k)
unfolding same
items-match end end k h m n = tt
items-match end (item u us) k h m n = absurd (cc)
items-match (item t ts) end k h m n = absurd (cc)
items-match (item t ts) (item u us) zero h m n = ((and_both (same t u) (same_trees ts us) h).0, (and_both (keyed t) (keyed_trees ts) m).0, (and_both (keyed u) (keyed_trees us) n).0)
items-match (item t ts) (item u us) (suc k) h m n = items-match ts us k (and_both (same t u) (same_trees ts us) h).1 (and_both (keyed t) (keyed_trees ts) m).1 (and_both (keyed u) (keyed_trees us) n).1

-- the pair of the key that is found
pub found_in : (ps : Pairs) (x v : Tree) → value_in ps x ≡ Some v → (k : Tree) × In k v ps × (same x k ≡ true)
found_in done x v e = absurd (cc)
found_in (entry k w ps) x v e = by (same x k) refl e (λ h. found_in ps x v h)
  where
    by : (b : Bool) → same x k ≡ b → cond b (Some w) (value_in ps x) ≡ Some v → (value_in ps x ≡ Some v → (j : Tree) × In j v ps × (same x j ≡ true)) → (j : Tree) × In j v (entry k w ps) × (same x j ≡ true)
    by true s e f = let q : v ≡ w = cc in (k, inl (refl, q), s)
    by false s e f = let r = f e in (r.0, inr r.1, r.2)

-- a pair of a mapping with no equal keys is found by each key that is the same as its own
pub in_found : (ps : Pairs) (x k v : Tree) → keyed_pairs ps ≡ true → In k v ps → same x k ≡ true → value_in ps x ≡ Some v
in_found done x k v m i s = absurd i
in_found (entry j w ps) x k v m i s = by (same x j) refl i (λ h. in_found ps x k v (keyed_parts j w ps m).3 h s)
  where
    by : (b : Bool) → same x j ≡ b → ((k ≡ j) × (v ≡ w)) ⊎ In k v ps → (In k v ps → value_in ps x ≡ Some v) → cond b (Some w) (value_in ps x) ≡ Some v
    by true e (inl q) f = ap Some (sym q.1)
    by false e (inl q) f = let z : same x j ≡ true = ap (same x) (sym q.0) ∙ s in absurd (cc)
    by true e (inr h) f =
        let a : same j k ≡ true = same_trans j x k (same_sym x j e) s in
        let n : not (same j k) ≡ true = all_in (λ y z. not (same j y)) k v ps (keyed_parts j w ps m).2 h in
        absurd (let z : not true ≡ true = ap not (sym a) ∙ n in cc)
    by false e (inr h) f = f h

option-cases : (o : Option Tree) → (o ≡ None) ⊎ ((v : Tree) × (o ≡ Some v))
option-cases None = inl refl
option-cases (Some v) = inr (v, refl)

none-some : {X : Type 0} (x : X) → None ≡ Some x → ⊥
none-some x e = absurd (cc)

values-match : (ps qs : Pairs) (x : Tree) → each_in ps qs ≡ true → all_pairs (λ j w. one_is ps j w) qs ≡ true → keyed_pairs ps ≡ true → keyed_pairs qs ≡ true → Match (value_in ps x) (value_in qs x)
values-match ps qs x h g m n = elim (option-cases (value_in ps x)) [
  | inr r ↦
      let f = found_in ps x r.0 r.1 in
      let l = is_each ps qs f.0 r.0 h f.1 in
      let e : value_in qs x ≡ Some l.1 = in_found qs x l.0 l.1 n l.2 (same_trans x f.0 l.0 f.2 l.3.0) in
      subst (λ z. Match z (value_in qs x)) (sym r.1) (subst (λ z. Match (Some r.0) z) (sym e) (l.3.1, (keyed_in f.0 r.0 ps m f.1).1, (keyed_in l.0 l.1 qs n l.2).1))
  | inl e ↦ elim (option-cases (value_in qs x)) [
    | inl d ↦ subst (λ z. Match z (value_in qs x)) (sym e) (subst (λ z. Match None z) (sym d) tt)
    | inr r ↦
        let f = found_in qs x r.0 r.1 in
        let l = one_like ps f.0 r.0 (all_in (λ j w. one_is ps j w) f.0 r.0 qs g f.1) in
        let c : value_in ps x ≡ Some l.1 = in_found ps x l.0 l.1 m l.2 (same_trans x f.0 l.0 f.2 (same_sym l.0 f.0 l.3.0)) in
        absurd (none-some l.1 (sym e ∙ c))
  ]
]

pub match-part : (t u : Option Tree) (s : Step) → Match t u → Match (part_of t s) (part_of u s)
unfolding same
match-part None None s m = tt
match-part None (Some u) s m = absurd m
match-part (Some t) None s m = absurd m
match-part (Some t) (Some u) s m = by t u s m.0 m.1 m.2
  where
    by : (t u : Tree) (s : Step) → same t u ≡ true → keyed t ≡ true → keyed u ≡ true → Match (part t s) (part u s)
    by (scalar a x) (scalar b y) s h m n = tt
    by (sequence a ts) (sequence b us) (at_item k) h m n = items-match ts us k (and_both (bytes_eq a b) (same_trees ts us) h).1 m n
    by (sequence a ts) (sequence b us) (at_key x) h m n = tt
    by (mapping a ps) (mapping b qs) (at_item k) h m n = tt
    by (mapping a ps) (mapping b qs) (at_key x) h m n =
        let p = and_both (each_in ps qs) (all_pairs (λ j w. one_is ps j w) qs) (and_both (bytes_eq a b) (each_in ps qs && all_pairs (λ j w. one_is ps j w) qs) h).1 in
        values-match ps qs x p.0 p.1 m n
    by t u s h m n = absurd (cc)

pub match-nowhere : (q : Path) (t u : Option Tree) → Match t u → Differs q t u → ⊥
match-nowhere [] t u m d = d (match-head t u m)
match-nowhere (s ∷ q) t u m d = match-nowhere q (part_of t s) (part_of u s) (match-part t u s m) d.1

pub match-seen : (p : Path) (t u : Option Tree) → Match t u → see t p ≡ see u p
match-seen [] t u m = match-head t u m
match-seen (s ∷ p) t u m = match-seen p (part_of t s) (part_of u s) (match-part t u s m)

-- ---- trees that are not the same

-- they differ first at some path
abbrev Somewhere : Option Tree → Option Tree → Type 0
Somewhere t u = (q : Path) × Differs q t u

-- some part of the pairs does
abbrev AtKey : Pairs → Pairs → Type 0
AtKey ps qs = (x : Tree) × Somewhere (value_in ps x) (value_in qs x)

-- the value of a pair of the left is found on the right, and is the same as there, or the two differ there
paired : (ps qs : Pairs) (k v : Tree) → keyed_pairs ps ≡ true → In k v ps → ((w : Tree) → keyed w ≡ true → (same v w ≡ true) ⊎ Somewhere (Some v) (Some w)) → keyed_pairs qs ≡ true
    → Like k v qs ⊎ AtKey ps qs
paired ps qs k v m i f n =
    let e : value_in ps k ≡ Some v = in_found ps k k v m i (same_refl k) in
    elim (option-cases (value_in qs k)) [
      | inl d ↦ inr (k, ([], subst (λ z. head_of z ≢ head_of (value_in qs k)) (sym e) (subst (λ z. Some (head v) ≢ head_of z) (sym d) (λ h. absurd (cc)))))
      | inr r ↦
          let g = found_in qs k r.0 r.1 in
          elim (f r.0 (keyed_in g.0 r.0 qs n g.1).1) [
            | inl s ↦ inl (g.0, r.0, g.1, (g.2, s))
            | inr w ↦ inr (k, (w.0, subst (λ z. Differs w.0 z (value_in qs k)) (sym e) (subst (λ z. Differs w.0 (Some v) z) (sym r.1) w.1)))
          ]
    ]

some-same : {x y : Tree} → Some x ≡ Some y → x ≡ y
some-same e = cc

-- where each pair of the left has its like on the right, the pairs of the right have theirs, or the two differ at a key
others : (ps qs rs : Pairs) → keyed_pairs ps ≡ true → keyed_pairs qs ≡ true → each_in ps qs ≡ true → ((j w : Tree) → In j w rs → In j w qs) → (all_pairs (λ j w. one_is ps j w) rs ≡ true) ⊎ AtKey ps qs
others ps qs done m n h f = inl refl
others ps qs (entry j w rs) m n h f =
    let e : value_in qs j ≡ Some w = in_found qs j j w n (f j w (inl (refl, refl))) (same_refl j) in
    elim (option-cases (value_in ps j)) [
      | inl d ↦ inr (j, ([], subst (λ z. head_of z ≢ head_of (value_in qs j)) (sym d) (subst (λ z. None ≢ head_of z) (sym e) (λ h. absurd (cc)))))
      | inr r ↦
          let g = found_in ps j r.0 r.1 in
          let l = is_each ps qs g.0 r.0 h g.1 in
          let c : value_in qs j ≡ Some l.1 = in_found qs j l.0 l.1 n l.2 (same_trans j g.0 l.0 g.2 l.3.0) in
          let v : same r.0 w ≡ true = subst (λ z. same r.0 z ≡ true) (some-same (sym c ∙ e)) l.3.1 in
          elim (others ps qs rs m n h (λ y z i. f y z (inr i))) [
            | inl a ↦ inl (both_and (one_is ps j w) (all_pairs (λ j w. one_is ps j w) rs) (one_of ps g.0 r.0 j w g.1 (same_sym j g.0 g.2) v) a)
            | inr x ↦ inr x
          ]
    ]

mutual
  unfolding same

  pub same_else : (t u : Tree) → keyed t ≡ true → keyed u ≡ true → (same t u ≡ true) ⊎ Somewhere (Some t) (Some u)
  same_else (scalar a x) (scalar b y) m n = elim (head-either (scalar_head a x) (scalar_head b y)) [
    | inl e ↦ let p : a ≡ b = cc in let q : x ≡ y = cc in inl (both_and (bytes_eq a b) (bytes_eq x y) ((bytes_decides a b).1 p) ((bytes_decides x y).1 q))
    | inr d ↦ inr ([], λ h. d (cc))
  ]
  same_else (sequence a ts) (sequence b us) m n = elim (head-either (sequence_head a) (sequence_head b)) [
    | inr d ↦ inr ([], λ h. d (cc))
    | inl e ↦ let p : a ≡ b = cc in elim (trees_else ts us m n) [
      | inl s ↦ inl (both_and (bytes_eq a b) (same_trees ts us) ((bytes_decides a b).1 p) s)
      | inr w ↦ inr (at_item w.0 ∷ w.1.0, (ap Some e, w.1.1))
    ]
  ]
  same_else (mapping a ps) (mapping b qs) m n = elim (head-either (mapping_head a) (mapping_head b)) [
    | inr d ↦ inr ([], λ h. d (cc))
    | inl e ↦ let p : a ≡ b = cc in elim (each_else ps ps qs m n (λ k v i. i)) [
      | inr w ↦ inr (at_key w.0 ∷ w.1.0, (ap Some e, w.1.1))
      | inl s ↦ elim (others ps qs qs m n s (λ j w i. i)) [
        | inl r ↦ inl (both_and (bytes_eq a b) (each_in ps qs && all_pairs (λ j w. one_is ps j w) qs) ((bytes_decides a b).1 p) (both_and (each_in ps qs) (all_pairs (λ j w. one_is ps j w) qs) s r))
        | inr w ↦ inr (at_key w.0 ∷ w.1.0, (ap Some e, w.1.1))
      ]
    ]
  ]
  same_else (scalar a x) (sequence b us) m n = inr ([], λ h. absurd (cc))
  same_else (scalar a x) (mapping b qs) m n = inr ([], λ h. absurd (cc))
  same_else (sequence a ts) (scalar b y) m n = inr ([], λ h. absurd (cc))
  same_else (sequence a ts) (mapping b qs) m n = inr ([], λ h. absurd (cc))
  same_else (mapping a ps) (scalar b y) m n = inr ([], λ h. absurd (cc))
  same_else (mapping a ps) (sequence b us) m n = inr ([], λ h. absurd (cc))

  trees_else : (ts us : Trees) → keyed_trees ts ≡ true → keyed_trees us ≡ true → (same_trees ts us ≡ true) ⊎ ((k : ℕ) × Somewhere (item_in ts k) (item_in us k))
  trees_else end end m n = inl refl
  trees_else end (item u us) m n = inr (0, ([], λ h. absurd (cc)))
  trees_else (item t ts) end m n = inr (0, ([], λ h. absurd (cc)))
  trees_else (item t ts) (item u us) m n =
      let x = and_both (keyed t) (keyed_trees ts) m in
      let y = and_both (keyed u) (keyed_trees us) n in
      elim (same_else t u x.0 y.0) [
        | inr w ↦ inr (0, w)
        | inl s ↦ elim (trees_else ts us x.1 y.1) [
          | inl r ↦ inl (both_and (same t u) (same_trees ts us) s r)
          | inr w ↦ inr (suc w.0, w.1)
        ]
      ]

  each_else : (rs ps qs : Pairs) → keyed_pairs ps ≡ true → keyed_pairs qs ≡ true → ((k v : Tree) → In k v rs → In k v ps) → (each_in rs qs ≡ true) ⊎ AtKey ps qs
  each_else done ps qs m n f = inl refl
  each_else (entry k v rs) ps qs m n f =
      let i : In k v ps = f k v (inl (refl, refl)) in
      let step : (w : Tree) → keyed w ≡ true → (same v w ≡ true) ⊎ Somewhere (Some v) (Some w) = λ w h. same_else v w (keyed_in k v ps m i).1 h in
      elim (paired ps qs k v m i step n) [
        | inr w ↦ inr w
        | inl l ↦ elim (each_else rs ps qs m n (λ x y j. f x y (inr j))) [
          | inr w ↦ inr w
          | inl r ↦ inl (both_and (any_pair (λ j w. same k j && same v w) qs) (each_in rs qs) (in_any (λ j w. same k j && same v w) l.0 l.1 qs l.2 (both_and (same k l.0) (same v l.1) l.3.0 l.3.1)) r)
        ]
      ]

pub nowhere_same : (t u : Tree) → keyed t ≡ true → keyed u ≡ true → ((q : Path) → Differs q (Some t) (Some u) → ⊥) → same t u ≡ true
nowhere_same t u m n h = elim (same_else t u m n) [ inl s ↦ s | inr w ↦ absurd (h w.0 w.1) ]

pub seen_same : (t u : Tree) → keyed t ≡ true → keyed u ≡ true → ((p : Path) → see (Some t) p ≡ see (Some u) p) → same t u ≡ true
seen_same t u m n h = nowhere_same t u m n (λ q d. (first_from (Some t) (Some u) q d).differs (h q))
