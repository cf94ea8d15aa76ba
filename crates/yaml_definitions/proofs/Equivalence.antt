-- To be the same is an equivalence, whatever keys the mappings have; and trees that are the same are short together.
use Rattle.std.proofs.Common.{◌≡◌, Bool, true, false, ◌&&◌, inl, inr, refl, sym, ◌∙◌, ap}
use lib.Pointwise.{bytes_decides}
use Rattle.std.specs.Prelude.{bytes_eq}
use Rattle.yaml_definitions.specs.model.Tree.{Tree, Trees, Pairs, scalar, sequence, mapping, end, item, done, entry}
use Rattle.yaml_definitions.specs.model.Order.{arranged, arranged_trees, arranged_pairs}
use Rattle.yaml_definitions.specs.model.Same.{same, same_trees, each_in, one_is, all_pairs, any_pair}
use Rattle.yaml_definitions.specs.canonical.Spell.{short}
use Rattle.yaml_definitions.proofs.Members.{In, Some_In, and_both, both_and, or_either, or_left, or_right, any_in, in_any, all_in, in_all, in_enter, enter_in}
use Rattle.yaml_definitions.proofs.SameLaws.{same_from}

pub same_refl : (t : Tree) → same t t ≡ true
same_refl t = same_from t t refl

-- ---- pairs as sets

-- a pair that is like this one
abbrev pub Like : Tree → Tree → Pairs → Type 0
Like k v qs = Some_In (λ j w. (same k j ≡ true) × (same v w ≡ true)) qs

-- each pair of the first has its like in the second
pub each_is : (ps qs : Pairs) → ((k v : Tree) → In k v ps → Like k v qs) → each_in ps qs ≡ true
unfolding same
each_is done qs h = refl
each_is (entry k v ps) qs h =
    let r = h k v (inl (refl, refl)) in
    both_and (any_pair (λ j w. same k j && same v w) qs) (each_in ps qs) (in_any (λ j w. same k j && same v w) r.0 r.1 qs r.2 (both_and (same k r.0) (same v r.1) r.3.0 r.3.1))
    (each_is ps qs (λ x y i. h x y (inr i)))

pub is_each : (ps qs : Pairs) (k v : Tree) → each_in ps qs ≡ true → In k v ps → Like k v qs
unfolding same
is_each done qs k v h i = absurd i
is_each (entry j w ps) qs k v h (inl e) =
    let p = and_both (any_pair (λ x y. same j x && same w y) qs) (each_in ps qs) h in
    let r = any_in (λ x y. same j x && same w y) qs p.0 in
    let c = and_both (same j r.0) (same w r.1) r.3 in
    (r.0, r.1, r.2, (ap (λ z. same z r.0) e.0 ∙ c.0, ap (λ z. same z r.1) e.1 ∙ c.1))
is_each (entry j w ps) qs k v h (inr i) = is_each ps qs k v (and_both (any_pair (λ x y. same j x && same w y) qs) (each_in ps qs) h).1 i

pub one_of : (ps : Pairs) (k v j w : Tree) → In k v ps → same k j ≡ true → same v w ≡ true → one_is ps j w ≡ true
unfolding same
one_of done k v j w i a b = absurd i
one_of (entry x y ps) k v j w (inl e) a b = or_left (same x j && same y w) (one_is ps j w) (both_and (same x j) (same y w) (ap (λ z. same z j) (sym e.0) ∙ a) (ap (λ z. same z w) (sym e.1) ∙ b))
one_of (entry x y ps) k v j w (inr i) a b = or_right (same x j && same y w) (one_is ps j w) (one_of ps k v j w i a b)

-- a pair of the list that this one is like
pub one_like : (ps : Pairs) (j w : Tree) → one_is ps j w ≡ true → Some_In (λ k v. (same k j ≡ true) × (same v w ≡ true)) ps
unfolding same
one_like done j w h = absurd (cc)
one_like (entry k v ps) j w h = elim (or_either (same k j && same v w) (one_is ps j w) h) [
  | inl g ↦ (k, v, inl (refl, refl), and_both (same k j) (same v w) g)
  | inr g ↦ let r = one_like ps j w g in (r.0, r.1, inr r.2, r.3)
]

-- ---- either way

mutual
  unfolding same

  pub same_sym : (t u : Tree) → same t u ≡ true → same u t ≡ true
  same_sym (scalar a x) (scalar b y) h =
      let p = and_both (bytes_eq a b) (bytes_eq x y) h in
      both_and (bytes_eq b a) (bytes_eq y x) ((bytes_decides b a).1 (sym ((bytes_decides a b).0 p.0))) ((bytes_decides y x).1 (sym ((bytes_decides x y).0 p.1)))
  same_sym (sequence a ts) (sequence b us) h =
      let p = and_both (bytes_eq a b) (same_trees ts us) h in
      both_and (bytes_eq b a) (same_trees us ts) ((bytes_decides b a).1 (sym ((bytes_decides a b).0 p.0))) (same_trees_sym ts us p.1)
  same_sym (mapping a ps) (mapping b qs) h =
      let p = and_both (bytes_eq a b) (each_in ps qs && all_pairs (λ j w. one_is ps j w) qs) h in
      let q = and_both (each_in ps qs) (all_pairs (λ j w. one_is ps j w) qs) p.1 in
      both_and (bytes_eq b a) (each_in qs ps && all_pairs (λ j w. one_is qs j w) ps) ((bytes_decides b a).1 (sym ((bytes_decides a b).0 p.0)))
      (both_and (each_in qs ps) (all_pairs (λ j w. one_is qs j w) ps)
      (each_is qs ps (λ j w i. one_sym ps j w (all_in (λ x y. one_is ps x y) j w qs q.1 i)))
      (in_all (λ j w. one_is qs j w) ps (λ k v i. each_sym ps qs k v q.0 i)))
  same_sym t u h = absurd (cc)

  same_trees_sym : (ts us : Trees) → same_trees ts us ≡ true → same_trees us ts ≡ true
  same_trees_sym end end h = refl
  same_trees_sym end (item u us) h = absurd (cc)
  same_trees_sym (item t ts) end h = absurd (cc)
  same_trees_sym (item t ts) (item u us) h =
      let p = and_both (same t u) (same_trees ts us) h in
      both_and (same u t) (same_trees us ts) (same_sym t u p.0) (same_trees_sym ts us p.1)

  one_sym : (ps : Pairs) (j w : Tree) → one_is ps j w ≡ true → Like j w ps
  one_sym done j w h = absurd (cc)
  one_sym (entry k v ps) j w h =
      let rest : one_is ps j w ≡ true → Like j w ps = λ g. one_sym ps j w g in
      elim (or_either (same k j && same v w) (one_is ps j w) h) [
        | inl g ↦ let c = and_both (same k j) (same v w) g in (k, v, inl (refl, refl), (same_sym k j c.0, same_sym v w c.1))
        | inr g ↦ let r = rest g in (r.0, r.1, inr r.2, r.3)
      ]

  each_sym : (ps qs : Pairs) (k v : Tree) → each_in ps qs ≡ true → In k v ps → one_is qs k v ≡ true
  each_sym done qs k v h i = absurd i
  each_sym (entry x y ps) qs k v h i =
      let p = and_both (any_pair (λ j w. same x j && same y w) qs) (each_in ps qs) h in
      let r = any_in (λ j w. same x j && same y w) qs p.0 in
      let c = and_both (same x r.0) (same y r.1) r.3 in
      let first : one_is qs x y ≡ true = one_of qs r.0 r.1 x y r.2 (same_sym x r.0 c.0) (same_sym y r.1 c.1) in
      let rest : In k v ps → one_is qs k v ≡ true = λ g. each_sym ps qs k v p.1 g in
      elim i [ inl e ↦ ap (λ z. one_is qs z v) e.0 ∙ ap (λ z. one_is qs x z) e.1 ∙ first | inr g ↦ rest g ]

-- ---- going on

mutual
  unfolding same

  pub same_trans : (t u z : Tree) → same t u ≡ true → same u z ≡ true → same t z ≡ true
  same_trans (scalar a x) (scalar b y) (scalar c z) h g =
      let p = and_both (bytes_eq a b) (bytes_eq x y) h in
      let q = and_both (bytes_eq b c) (bytes_eq y z) g in
      both_and (bytes_eq a c) (bytes_eq x z) ((bytes_decides a c).1 ((bytes_decides a b).0 p.0 ∙ (bytes_decides b c).0 q.0)) ((bytes_decides x z).1 ((bytes_decides x y).0 p.1 ∙ (bytes_decides y z).0 q.1))
  same_trans (sequence a ts) (sequence b us) (sequence c zs) h g =
      let p = and_both (bytes_eq a b) (same_trees ts us) h in
      let q = and_both (bytes_eq b c) (same_trees us zs) g in
      both_and (bytes_eq a c) (same_trees ts zs) ((bytes_decides a c).1 ((bytes_decides a b).0 p.0 ∙ (bytes_decides b c).0 q.0)) (same_trees_trans ts us zs p.1 q.1)
  same_trans (mapping a ps) (mapping b qs) (mapping c rs) h g =
      let p = and_both (bytes_eq a b) (each_in ps qs && all_pairs (λ j w. one_is ps j w) qs) h in
      let q = and_both (each_in ps qs) (all_pairs (λ j w. one_is ps j w) qs) p.1 in
      let m = and_both (bytes_eq b c) (each_in qs rs && all_pairs (λ j w. one_is qs j w) rs) g in
      let n = and_both (each_in qs rs) (all_pairs (λ j w. one_is qs j w) rs) m.1 in
      both_and (bytes_eq a c) (each_in ps rs && all_pairs (λ j w. one_is ps j w) rs) ((bytes_decides a c).1 ((bytes_decides a b).0 p.0 ∙ (bytes_decides b c).0 m.0))
      (both_and (each_in ps rs) (all_pairs (λ j w. one_is ps j w) rs)
      (each_trans ps qs rs q.0 n.0)
      (in_all (λ j w. one_is ps j w) rs (λ l x i.
      let r = one_like qs l x (all_in (λ j w. one_is qs j w) l x rs n.1 i) in
      one_trans ps r.0 r.1 l x (all_in (λ j w. one_is ps j w) r.0 r.1 qs q.1 r.2) r.3.0 r.3.1)))
  same_trans t u z h g = absurd (cc)

  same_trees_trans : (ts us zs : Trees) → same_trees ts us ≡ true → same_trees us zs ≡ true → same_trees ts zs ≡ true
  same_trees_trans end end end h g = refl
  same_trees_trans (item t ts) (item u us) (item z zs) h g =
      let p = and_both (same t u) (same_trees ts us) h in
      let q = and_both (same u z) (same_trees us zs) g in
      both_and (same t z) (same_trees ts zs) (same_trans t u z p.0 q.0) (same_trees_trans ts us zs p.1 q.1)
  same_trees_trans ts us zs h g = absurd (cc)

  each_trans : (ps qs rs : Pairs) → each_in ps qs ≡ true → each_in qs rs ≡ true → each_in ps rs ≡ true
  each_trans done qs rs h g = refl
  each_trans (entry k v ps) qs rs h g =
      let p = and_both (any_pair (λ j w. same k j && same v w) qs) (each_in ps qs) h in
      let r = any_in (λ j w. same k j && same v w) qs p.0 in
      let c = and_both (same k r.0) (same v r.1) r.3 in
      let s = is_each qs rs r.0 r.1 g r.2 in
      both_and (any_pair (λ j w. same k j && same v w) rs) (each_in ps rs)
      (in_any (λ j w. same k j && same v w) s.0 s.1 rs s.2 (both_and (same k s.0) (same v s.1) (same_trans k r.0 s.0 c.0 s.3.0) (same_trans v r.1 s.1 c.1 s.3.1)))
      (each_trans ps qs rs p.1 g)

  one_trans : (ps : Pairs) (j w l x : Tree) → one_is ps j w ≡ true → same j l ≡ true → same w x ≡ true → one_is ps l x ≡ true
  one_trans done j w l x h a b = absurd (cc)
  one_trans (entry k v ps) j w l x h a b =
      let rest : one_is ps j w ≡ true → one_is ps l x ≡ true = λ g. one_trans ps j w l x g a b in
      elim (or_either (same k j && same v w) (one_is ps j w) h) [
        | inl g ↦ let c = and_both (same k j) (same v w) g in or_left (same k l && same v x) (one_is ps l x) (both_and (same k l) (same v x) (same_trans k j l c.0 a) (same_trans v w x c.1 b))
        | inr g ↦ or_right (same k l && same v x) (one_is ps l x) (rest g)
      ]

-- ---- what trees that are the same have in common

bool_same : (a b : Bool) → (a ≡ true → b ≡ true) → (b ≡ true → a ≡ true) → a ≡ b
bool_same true b f g = sym (f refl)
bool_same false true f g = g refl
bool_same false false f g = refl

-- they are the same as the same trees
pub same_like : (t u z : Tree) → same t u ≡ true → same t z ≡ same u z
same_like t u z h = bool_same (same t z) (same u z) (λ e. same_trans u t z (same_sym t u h) e) (λ e. same_trans t u z h e)

pub short_like : (t u : Tree) → same t u ≡ true → short t ≡ short u
unfolding same short
short_like (scalar a x) (scalar b y) h =
    let p = and_both (bytes_eq a b) (bytes_eq x y) h in
    let e : a ≡ b = (bytes_decides a b).0 p.0 in
    let f : x ≡ y = (bytes_decides x y).0 p.1 in
    rw (e, f) refl
short_like (sequence a end) (sequence b end) h =
    let e : a ≡ b = (bytes_decides a b).0 (and_both (bytes_eq a b) true h).0 in
    rw e refl
short_like (sequence a (item t ts)) (sequence b (item u us)) h = refl
short_like (mapping a done) (mapping b done) h =
    let e : a ≡ b = (bytes_decides a b).0 (and_both (bytes_eq a b) true h).0 in
    rw e refl
short_like (mapping a (entry k v ps)) (mapping b (entry j w qs)) h = refl
short_like (sequence a end) (sequence b (item u us)) h = let f : false ≡ true = (and_both (bytes_eq a b) false h).1 in absurd (cc)
short_like (sequence a (item t ts)) (sequence b end) h = let f : false ≡ true = (and_both (bytes_eq a b) false h).1 in absurd (cc)
short_like (mapping a done) (mapping b (entry j w qs)) h = let f : false ≡ true = (and_both (bytes_eq a b) false h).1 in absurd (cc)
short_like (mapping a (entry k v ps)) (mapping b done) h = let f : false ≡ true = (and_both (bytes_eq a b) false h).1 in absurd (cc)
short_like t u h = absurd (cc)

-- ---- a tree is the same as itself with the pairs of each mapping in order

mutual
  unfolding same arranged

  pub same_arranged : (t : Tree) → same t (arranged t) ≡ true
  same_arranged (scalar a x) = same_refl (scalar a x)
  same_arranged (sequence a ts) = both_and (bytes_eq a a) (same_trees ts (arranged_trees ts)) ((bytes_decides a a).1 refl) (same_trees_arranged ts)
  same_arranged (mapping a ps) =
      both_and (bytes_eq a a) (each_in ps (arranged_pairs ps) && all_pairs (λ j w. one_is ps j w) (arranged_pairs ps)) ((bytes_decides a a).1 refl)
      (both_and (each_in ps (arranged_pairs ps)) (all_pairs (λ j w. one_is ps j w) (arranged_pairs ps)) (each_arranged ps (arranged_pairs ps) (λ x y i. i))
      (in_all (λ j w. one_is ps j w) (arranged_pairs ps) (λ x y i. one_arranged ps x y i)))

  same_trees_arranged : (ts : Trees) → same_trees ts (arranged_trees ts) ≡ true
  same_trees_arranged end = refl
  same_trees_arranged (item t ts) = both_and (same t (arranged t)) (same_trees ts (arranged_trees ts)) (same_arranged t) (same_trees_arranged ts)

  each_arranged : (ps qs : Pairs) → ((x y : Tree) → In x y (arranged_pairs ps) → In x y qs) → each_in ps qs ≡ true
  each_arranged done qs h = refl
  each_arranged (entry k v ps) qs h =
      let i = h (arranged k) (arranged v) (enter_in (arranged k) (arranged v) (arranged k) (arranged v) (arranged_pairs ps) (inl (refl, refl))) in
      both_and (any_pair (λ j w. same k j && same v w) qs) (each_in ps qs)
      (in_any (λ j w. same k j && same v w) (arranged k) (arranged v) qs i (both_and (same k (arranged k)) (same v (arranged v)) (same_arranged k) (same_arranged v)))
      (each_arranged ps qs (λ x y m. h x y (enter_in (arranged k) (arranged v) x y (arranged_pairs ps) (inr m))))

  one_arranged : (ps : Pairs) (x y : Tree) → In x y (arranged_pairs ps) → one_is ps x y ≡ true
  one_arranged done x y i = absurd i
  one_arranged (entry k v ps) x y i =
      let first : same k (arranged k) ≡ true = same_arranged k in
      let second : same v (arranged v) ≡ true = same_arranged v in
      let rest : In x y (arranged_pairs ps) → one_is ps x y ≡ true = λ m. one_arranged ps x y m in
      elim (in_enter (arranged k) (arranged v) x y (arranged_pairs ps) i) [
        | inl e ↦ or_left (same k x && same v y) (one_is ps x y) (both_and (same k x) (same v y) (ap (same k) e.0 ∙ first) (ap (same v) e.1 ∙ second))
        | inr m ↦ or_right (same k x && same v y) (one_is ps x y) (rest m)
      ]
