-- Whole lists of differences.
use Rattle.std.proofs.Common.{◌≡◌, ℕ, zero, suc, ◌+◌, ◌<◌, ◌≤◌, true, ◌&&◌, ◌⊎◌, List, [], ◌∷◌, ◌++◌, inl, inr, refl, sym, ◌∙◌, ap, subst, arith}
use Rattle.std.specs.Prelude.{◌↔◌, Option, Some, None, bytes_eq}
use Rattle.std.specs.Cmp.Lexicographic.{pointwise}
use Rattle.std.specs.List.{slice_get}
use lib.Pointwise.{bytes_decides}
use Rattle.yaml_definitions.specs.model.Tree.{Tree, scalar, sequence, mapping, end, item}
use Rattle.yaml_definitions.specs.model.Same.{same, same_trees, Same, Keyed, Alike}
use Rattle.yaml_definitions.proofs.Members.{and_both, both_and}
use Rattle.yaml_tree.specs.TreeLists.{trees}
use Rattle.yaml_store_rank.specs.Forests.{Forests}
use Rattle.yaml_path.specs.Path.{part_of, head, head_of, item_in}
use Rattle.yaml_path.specs.Path as plain
use Rattle.yaml_path.specs.Ways.{Step, at_places, at_key, Way, Pairing, PairsAll, SettlesAll, Each, Rises, Reaches, below, turns, Allows, AllowsWay, Takes, Differs, EndsPaired, EndsAlong, SameItems, AlikeWay, left_part, right_part, left_end, right_end, left_place, right_place, count}
use Rattle.yaml_path.specs.declared.places.Places.{Places}
use Rattle.yaml_path.specs.declared.places.Places.TheVariants.{Both, Left, Right}
use Rattle.yaml_path.proofs.PathLaws.{Match, match-head, match-part, heads-either}
use Rattle.yaml_diff.specs.Lines.{Line, IsTold, trees_of, way_of}
use Rattle.yaml_diff.specs.Moves.{MoveLine, IsMoved}
use Rattle.yaml_diff.specs.Listing.{Lists}
use Rattle.yaml_diff.proofs.WayLaws.{below-or, some-is, none-some, one-there, both-left, both-right, turn, turn-in-turn, left-alike, right-alike}
use Rattle.yaml_diff.proofs.MoveLists.{no-line}
use Rattle.yaml_diff.proofs.ItemLaws.{count-same}
use Rattle.yaml_diff.proofs.ElseLaws.{nowhere-same}

left-append : (q : Way) (t : Option Tree) (r : Way) → left_end t (q ++ r) ≡ left_end (left_end t q) r
left-append [] t r = refl
left-append (s ∷ q) t r = left-append q (left_part t s) r

right-append : (q : Way) (u : Option Tree) (r : Way) → right_end u (q ++ r) ≡ right_end (right_end u q) r
right-append [] u r = refl
right-append (s ∷ q) u r = right-append q (right_part u s) r

left-way : (p q : Way) (t : Option Tree) → AlikeWay p q → left_end t p ≡ left_end t q
left-way [] [] t a = refl
left-way (s ∷ p) (r ∷ q) t a = ap (λ z. left_end z p) (left-alike t s r a.0) ∙ left-way p q (left_part t r) a.1
left-way [] (r ∷ q) t a = absurd a
left-way (s ∷ p) [] t a = absurd a

right-way : (p q : Way) (u : Option Tree) → AlikeWay p q → right_end u p ≡ right_end u q
right-way [] [] u a = refl
right-way (s ∷ p) (r ∷ q) u a = ap (λ z. right_end z p) (right-alike u s r a.0) ∙ right-way p q (right_part u r) a.1
right-way [] (r ∷ q) u a = absurd a
right-way (s ∷ p) [] u a = absurd a

-- ---- a whole list is a patch

else-alike : (P : Pairing) (t u : Option Tree) (w : Way) → AllowsWay P w → (head_of (left_end t w) ≡ head_of (right_end u w)) ⊎ ((q : Way) × (r : Way) × (w ≡ q ++ r) × Differs P q t u)
else-alike P t u [] a = elim (heads-either t u) [ inl e ↦ inl e | inr n ↦ inr ([], [], refl, n) ]
else-alike P t u (s ∷ w) a = elim (heads-either t u) [
  | inr n ↦ inr ([], s ∷ w, refl, n)
  | inl e ↦ elim (else-alike (below P s) (left_part t s) (right_part u s) w a.1) [
    | inl h ↦ inl h
    | inr x ↦ inr (s ∷ x.0, x.1, ap (λ z. s ∷ z) x.2, (e, a.0, x.3))
  ]
]

pub whole-patch : (g : Forests) (P M : Pairing) (t u : Option Tree) (room : ℕ) (lines : List Line) (moves : List MoveLine) → Lists g P M t u room lines moves true → (w : Way) → AllowsWay P w →
    (head_of (left_end t w) ≡ head_of (right_end u w)) ⊎ ((k : ℕ) × (d : Line) × (r : Way) × (slice_get lines k ≡ Some d) × (left_end t w ≡ left_end (trees_of g d.1.0) r) × (right_end u w ≡ right_end (trees_of g d.1.1) r))
whole-patch g P M t u room lines moves l w a = elim (else-alike P t u w a) [
  | inl e ↦ inl e
  | inr x ↦
      let q = l.whole refl x.0 x.3 in
      let told = l.each q.0 q.1 q.2 in
      let left : left_end t w ≡ left_end (trees_of g q.1.1.0) x.1 = ap (left_end t) x.2 ∙ left-append x.0 t x.1 ∙ ap (λ z. left_end z x.1) (sym (left-way (way_of g q.1.0) x.0 t q.3) ∙ told.left) in
      let right : right_end u w ≡ right_end (trees_of g q.1.1.1) x.1 = ap (right_end u) x.2 ∙ right-append x.0 u x.1 ∙ ap (λ z. right_end z x.1) (sym (right-way (way_of g q.1.0) x.0 u q.3) ∙ told.right) in
      inr (q.0, q.1, x.1, q.2, left, right)
]

pub none-below : (P : Pairing) (t u : Option Tree) (p : Way) (s : Step) (r : Way) → Differs P p t u → Differs P (p ++ (s ∷ r)) t u → ⊥
none-below P t u [] s r a b = a b.0
none-below P t u (x ∷ p) s r a b = none-below (below P x) (left_part t x) (right_part u x) p s r a.2 b.2

-- ---- where nothing has moved and nothing stands alone, each item is paired with the one at its own place

module _ (ps : List Places) (n m : ℕ) (a : Each left_place ps n) (b : Each right_place ps m) (r : Rises ps) (nl : (p : Places) → Allows ps (at_places p) → left_place p ≡ None → ⊥) (nr : (p : Places) → Allows ps (at_places p) → right_place p ≡ None → ⊥) where
  own-step : (i : ℕ) → ((h : ℕ) → h < i → Allows ps (at_places (Both h h))) → i < n → Allows ps (at_places (Both i i))
  own-step i ih l = let x = a.there i l in by x.1 x.0 x.2 x.3
    where
      other : (j k : ℕ) → slice_get ps k ≡ Some (Both i j) → i < j → (q : Places) (c : ℕ) → slice_get ps c ≡ Some q → right_place q ≡ Some i → ⊥
      other j k e g (Left x) c f h = none-some h
      other j k e g (Right x) c f h = nl (Right x) (c, f) refl
      other j k e g (Both x y) c f h =
          let v : y ≡ i = some-is h in
          elim (below-or x i) [
            | inl d ↦
                let s = ih x d in
                let z = one-there ps s.0 c (Both x x) (Both x y) s.1 f (a.once s.0 c (Both x x) (Both x y) x s.1 f refl refl) in
                let w : x ≡ y = both-right z in
                omega (arith, w, v, d)
            | inr d ↦ elim d [
              | inl d ↦ let z = r i j x y (k, e) (c, f) d in omega (arith, z, v, g)
              | inr d ↦
                  let s : slice_get ps c ≡ Some (Both i y) = f ∙ ap (λ z. Some (Both z y)) d in
                  let z = one-there ps k c (Both i j) (Both i y) e s (a.once k c (Both i j) (Both i y) i e s refl refl) in
                  let w : j ≡ y = both-right z in
                  omega (arith, w, v, g)
            ]
          ]

      by : (p : Places) (k : ℕ) → slice_get ps k ≡ Some p → left_place p ≡ Some i → Allows ps (at_places (Both i i))
      by (Left x) k e f = absurd (nr (Left x) (k, e) refl)
      by (Right x) k e f = absurd (none-some f)
      by (Both x j) k e f =
          let v : x ≡ i = some-is f in
          let s : slice_get ps k ≡ Some (Both i j) = e ∙ ap (λ z. Some (Both z j)) v in
          elim (below-or j i) [
            | inl d ↦
                let y = ih j d in
                let z = one-there ps y.0 k (Both j j) (Both i j) y.1 s (b.once y.0 k (Both j j) (Both i j) j y.1 s refl refl) in
                let w : j ≡ i = both-left z in
                absurd (omega (arith, w, d))
            | inr d ↦ elim d [
              | inl d ↦
                  let y = b.there i (let z = b.within k (Both i j) j s refl in omega (arith, z, d)) in
                  absurd (other j k s d y.1 y.0 y.2 y.3)
              | inr d ↦ (k, s ∙ ap (λ z. Some (Both i z)) d)
            ]
          ]

  own-upto : (c i : ℕ) → i < c → i < n → Allows ps (at_places (Both i i))
  own-upto zero i l k = absurd (omega (arith, l))
  own-upto (suc c) i l k = own-step i (λ h g. own-upto c h (omega (arith, g, l)) (omega (arith, g, k))) k

  pub own : (i : ℕ) → i < n → Allows ps (at_places (Both i i))
  own i l = own-upto (suc i) i (omega arith) l

-- ---- where no pair has moved and nothing differs, nothing differs under the pairing in turn

turns-are : (j k n m i : ℕ) (p : Places) → slice_get (turns j k n m) i ≡ Some p
    → ((x : ℕ) × (p ≡ Both (j + x) (k + x)) × (x < n) × (x < m)) ⊎ (((x : ℕ) × (p ≡ Left (j + x)) × (x < n) × (m ≤ x)) ⊎ ((x : ℕ) × (p ≡ Right (k + x)) × (x < m) × (n ≤ x)))
turns-are j k zero zero i p e = absurd (no-line i p e)
turns-are j k (suc n) (suc m) zero p e = let a : j ≡ j + 0 = omega arith in let b : k ≡ k + 0 = omega arith in inl (0, sym (some-is e) ∙ ap (λ z. Both z k) a ∙ ap (λ z. Both (j + 0) z) b, omega arith, omega arith)
turns-are j k (suc n) (suc m) (suc i) p e =
    let a : (x : ℕ) → suc j + x ≡ j + suc x = λ x. omega arith in
    let b : (x : ℕ) → suc k + x ≡ k + suc x = λ x. omega arith in
    elim (turns-are (suc j) (suc k) n m i p e) [
      | inl h ↦ inl (suc h.0, h.1 ∙ ap (λ z. Both z (suc k + h.0)) (a h.0) ∙ ap (λ z. Both (j + suc h.0) z) (b h.0), omega (arith, h.2), omega (arith, h.3))
      | inr h ↦ elim h [
        | inl h ↦ inr (inl (suc h.0, h.1 ∙ ap Left (a h.0), omega (arith, h.2), omega (arith, h.3)))
        | inr h ↦ inr (inr (suc h.0, h.1 ∙ ap Right (b h.0), omega (arith, h.2), omega (arith, h.3)))
      ]
    ]
turns-are j k (suc n) zero zero p e = let a : j ≡ j + 0 = omega arith in inr (inl (0, sym (some-is e) ∙ ap Left a, omega arith, omega arith))
turns-are j k (suc n) zero (suc i) p e =
    let a : (x : ℕ) → suc j + x ≡ j + suc x = λ x. omega arith in
    elim (turns-are (suc j) k n zero i p e) [
      | inl h ↦ absurd (omega (arith, h.3))
      | inr h ↦ elim h [
        | inl h ↦ inr (inl (suc h.0, h.1 ∙ ap Left (a h.0), omega (arith, h.2), omega arith))
        | inr h ↦ absurd (omega (arith, h.2))
      ]
    ]
turns-are j k zero (suc m) zero p e = let b : k ≡ k + 0 = omega arith in inr (inr (0, sym (some-is e) ∙ ap Right b, omega arith, omega arith))
turns-are j k zero (suc m) (suc i) p e =
    let b : (x : ℕ) → suc k + x ≡ k + suc x = λ x. omega arith in
    elim (turns-are j (suc k) zero m i p e) [
      | inl h ↦ absurd (omega (arith, h.2))
      | inr h ↦ elim h [
        | inl h ↦ absurd (omega (arith, h.2))
        | inr h ↦ inr (inr (suc h.0, h.1 ∙ ap Right (b h.0), omega (arith, h.2), omega arith))
      ]
    ]

pub some-item : (t : Option Tree) (i : ℕ) → i < count t → (x : Tree) × (part_of t (plain.at_item i) ≡ Some x)
some-item None i l = absurd (omega (arith, l))
some-item (Some (scalar a x)) i l = absurd (omega (arith, l))
some-item (Some (mapping a ps)) i l = absurd (omega (arith, l))
some-item (Some (sequence a end)) i l = absurd (omega (arith, l))
some-item (Some (sequence a (item t ts))) zero l = (t, refl)
some-item (Some (sequence a (item t ts))) (suc i) l = some-item (Some (sequence a ts)) i (omega (arith, l))

module _ (P : Pairing) (t u : Option Tree) (h : head_of t ≡ head_of u) (a : Takes (P []) t u) (f : (q : Way) → Differs P q t u → ⊥) where
  none-left-alone : (p : Places) → Allows (P []) (at_places p) → left_place p ≡ None → ⊥
  none-left-alone (Both i j) x e = none-some (sym e)
  none-left-alone (Left i) x e = none-some (sym e)
  none-left-alone (Right j) x e =
      let y = some-item u j (a.rights.within x.0 (Right j) j x.1 refl) in
      f (at_places (Right j) ∷ []) (h, x, λ z. let w : None ≡ Some (head y.0) = z ∙ ap head_of y.1 in none-some w)

  none-right-alone : (p : Places) → Allows (P []) (at_places p) → right_place p ≡ None → ⊥
  none-right-alone (Both i j) x e = none-some (sym e)
  none-right-alone (Right i) x e = none-some (sym e)
  none-right-alone (Left i) x e =
      let y = some-item t i (a.lefts.within x.0 (Left i) i x.1 refl) in
      f (at_places (Left i) ∷ []) (h, x, λ z. let w : None ≡ Some (head y.0) = sym z ∙ ap head_of y.1 in none-some w)

pub convert : (q : Way) (P : Pairing) (t u : Option Tree) → PairsAll P t u → ((w : Way) → Reaches P w t u → Rises (P w)) → ((q : Way) → Differs P q t u → ⊥) → Differs (turn t u) q t u → ⊥
convert [] P t u a r f d = f [] d
convert (at_key x ∷ q) P t u a r f d =
    convert q (below P (at_key x)) (left_part t (at_key x)) (right_part u (at_key x)) (λ w. a (at_key x ∷ w)) (λ w z. r (at_key x ∷ w) (d.0, tt, z)) (λ w z. f (at_key x ∷ w) (d.0, tt, z)) d.2
convert (at_places p ∷ q) P t u a r f d =
    elim (turns-are 0 0 (count t) (count u) d.1.0 p d.1.1) [
      | inl x ↦
          let e : p ≡ Both x.0 x.0 = x.1 ∙ ap (λ z. Both z (0 + x.0)) (zero-more x.0) ∙ ap (λ z. Both x.0 z) (zero-more x.0) in
          there x.0 x.2 (λ y v w z. convert q (below P (at_places (Both x.0 x.0))) (left_part t (at_places (Both x.0 x.0))) (right_part u (at_places (Both x.0 x.0))) (λ w. a (at_places (Both x.0 x.0) ∷ w)) v w z) (subst (λ z. Differs (turn (left_part t (at_places z)) (right_part u (at_places z))) q (left_part t (at_places z)) (right_part u (at_places z))) e d.2)
      | inr x ↦ elim x [
        | inl x ↦ let y = all x.0 x.2 in let w = (a []).rights.within y.0 (Both x.0 x.0) x.0 y.1 refl in omega (arith, w, x.3)
        | inr x ↦ right-only x.0 x.2 x.3
      ]
    ]
  where
    zero-more : (k : ℕ) → 0 + k ≡ k
    zero-more k = omega arith

    all : (i : ℕ) → i < count t → Allows (P []) (at_places (Both i i))
    all = own (P []) (count t) (count u) (a []).lefts (a []).rights (r [] d.0) (none-left-alone P t u d.0 (a []) f) (none-right-alone P t u d.0 (a []) f)

    there : (i : ℕ) → i < count t
        → (ℕ → ((w : Way) → Reaches (below P (at_places (Both i i))) w (left_part t (at_places (Both i i))) (right_part u (at_places (Both i i))) → Rises (P (at_places (Both i i) ∷ w))) → ((w : Way) → Differs (below P (at_places (Both i i))) w (left_part t (at_places (Both i i))) (right_part u (at_places (Both i i))) → ⊥)
        → Differs (turn (left_part t (at_places (Both i i))) (right_part u (at_places (Both i i)))) q (left_part t (at_places (Both i i))) (right_part u (at_places (Both i i))) → ⊥)
        → Differs (turn (left_part t (at_places (Both i i))) (right_part u (at_places (Both i i)))) q (left_part t (at_places (Both i i))) (right_part u (at_places (Both i i))) → ⊥
    there i l more e = let y = all i l in more 0 (λ w z. r (at_places (Both i i) ∷ w) (d.0, y, z)) (λ w z. f (at_places (Both i i) ∷ w) (d.0, y, z)) e

    right-only : (j : ℕ) → j < count u → count t ≤ j → ⊥
    right-only j l m = let y = (a []).rights.there j l in by y.1 y.0 y.2 y.3
      where
        by : (p : Places) (k : ℕ) → slice_get (P []) k ≡ Some p → right_place p ≡ Some j → ⊥
        by (Left i) k e g = none-some g
        by (Right i) k e g = none-left-alone P t u d.0 (a []) f (Right i) (k, e) refl
        by (Both i c) k e g =
            let w = (a []).lefts.within k (Both i c) i e refl in
            let y = all i w in
            let z = one-there (P []) y.0 k (Both i i) (Both i c) y.1 e ((a []).lefts.once y.0 k (Both i i) (Both i c) i y.1 e refl refl) in
            let v : i ≡ c = both-right z in
            let n : c ≡ j = some-is g in
            omega (arith, w, v, n, m)

-- ---- trees that are the same have no line and no move

same-item : (t u : Option Tree) (i : ℕ) → Match t u → i < count t → SameItems t u i i
same-item t u i m l =
    let x = some-item t i l in
    let y = by x.0 (part_of u (plain.at_item i)) refl (subst (λ z. Match z (part_of u (plain.at_item i))) x.1 (match-part t u (plain.at_item i) m)) in
    (x.0, y.0, x.1, y.1, y.2)
  where
    by : (x : Tree) (o : Option Tree) → part_of u (plain.at_item i) ≡ o → Match (Some x) o → (y : Tree) × (part_of u (plain.at_item i) ≡ Some y) × (same x y ≡ true)
    by x None e m = absurd m
    by x (Some y) e m = (y, e, m.0)

pub own-place : (ps : List Places) (t u : Option Tree) (p : Places) (k : ℕ) → Match t u → Takes ps t u → EndsPaired ps t u → slice_get ps k ≡ Some p → (i : ℕ) × (p ≡ Both i i)
own-place ps t u p k m a n e = by p e
  where
    all : (i : ℕ) → i < count t → Allows ps (at_places (Both i i))
    all i l = elim (either i n.front) [
      | inl b ↦ (n.fronts i b).1
      | inr b ↦ absurd (n.front_end (same-item t u n.front m (omega (arith, b, l))))
    ]
      where
        either : (i j : ℕ) → (i < j) ⊎ (j ≤ i)
        either i j = elim (below-or i j) [ inl l ↦ inl l | inr x ↦ elim x [ inl l ↦ inr (omega (arith, l)) | inr q ↦ inr (omega (arith, q)) ] ]

    by : (p : Places) → slice_get ps k ≡ Some p → (i : ℕ) × (p ≡ Both i i)
    by (Both i j) e = let b = all i (a.lefts.within k (Both i j) i e refl) in (i, one-there ps k b.0 (Both i j) (Both i i) e b.1 (a.lefts.once k b.0 (Both i j) (Both i i) i e b.1 refl refl))
    by (Left i) e = let b = all i (a.lefts.within k (Left i) i e refl) in (i, one-there ps k b.0 (Left i) (Both i i) e b.1 (a.lefts.once k b.0 (Left i) (Both i i) i e b.1 refl refl))
    by (Right i) e =
        let w = a.rights.within k (Right i) i e refl in
        let b = all i (omega (arith, w, count-same t u m)) in
        (i, one-there ps k b.0 (Right i) (Both i i) e b.1 (a.rights.once k b.0 (Right i) (Both i i) i e b.1 refl refl))

pub match-ends : (q : Way) (P : Pairing) (t u : Option Tree) → Match t u → PairsAll P t u → EndsAlong P q t u → Differs P q t u → ⊥
match-ends [] P t u m a n d = d (match-head t u m)
match-ends (at_key x ∷ q) P t u m a n d = match-ends q (below P (at_key x)) (part_of t (plain.at_key x)) (part_of u (plain.at_key x)) (match-part t u (plain.at_key x) m) (λ w. a (at_key x ∷ w)) n.1 d.2
match-ends (at_places p ∷ q) P t u m a n d =
    let i = own-place (P []) t u p d.1.0 m (a []) n.0 d.1.1 in
    let b = subst (λ z. PairsAll (below P (at_places z)) (left_part t (at_places z)) (right_part u (at_places z))) i.1 (λ w. a (at_places p ∷ w)) in
    let c = subst (λ z. EndsAlong (below P (at_places z)) q (left_part t (at_places z)) (right_part u (at_places z))) i.1 n.1 in
    let e = subst (λ z. Differs (below P (at_places z)) q (left_part t (at_places z)) (right_part u (at_places z))) i.1 d.2 in
    match-ends q (below P (at_places (Both i.0 i.0))) (part_of t (plain.at_item i.0)) (part_of u (plain.at_item i.0)) (match-part t u (plain.at_item i.0) m) b c e

match-rise : (ps : List Places) (t u : Option Tree) → Match t u → Takes ps t u → EndsPaired ps t u → Rises ps
match-rise ps t u m a n i j c d x y l =
    let v = own-place ps t u (Both i j) x.0 m a n x.1 in
    let w = own-place ps t u (Both c d) y.0 m a n y.1 in
    let e : i ≡ j = both-left v.1 ∙ sym (both-right v.1) in
    let f : c ≡ d = both-left w.1 ∙ sym (both-right w.1) in
    omega (arith, e, f, l)

pub match-moves : (w : Way) (P M : Pairing) (p : Places) (t u : Option Tree) → Match t u → PairsAll P t u → SettlesAll P M → EndsAlong P (w ++ (at_places p ∷ [])) t u → Reaches P w t u → Allows (M w) (at_places p) → ⊥
match-moves [] P M p t u m a s n r x = (s []).calm (match-rise (P []) t u m (a []) n.0) x.0 p x.1
match-moves (at_key k ∷ w) P M p t u m a s n r x =
    match-moves w (below P (at_key k)) (below M (at_key k)) p (part_of t (plain.at_key k)) (part_of u (plain.at_key k)) (match-part t u (plain.at_key k) m) (λ v. a (at_key k ∷ v)) (λ v. s (at_key k ∷ v)) n.1 r.2 x
match-moves (at_places q ∷ w) P M p t u m a s n r x =
    let i = own-place (P []) t u q r.1.0 m (a []) n.0 r.1.1 in
    let b = subst (λ z. PairsAll (below P (at_places z)) (left_part t (at_places z)) (right_part u (at_places z))) i.1 (λ v. a (at_places q ∷ v)) in
    let c = subst (λ z. EndsAlong (below P (at_places z)) (w ++ (at_places p ∷ [])) (left_part t (at_places z)) (right_part u (at_places z))) i.1 n.1 in
    let d = subst (λ z. Reaches (below P (at_places z)) w (left_part t (at_places z)) (right_part u (at_places z))) i.1 r.2 in
    let e = subst (λ z. Allows (M (at_places z ∷ w)) (at_places p)) i.1 x in
    match-moves w (below P (at_places (Both i.0 i.0))) (below M (at_places (Both i.0 i.0))) p (part_of t (plain.at_item i.0)) (part_of u (plain.at_item i.0)) (match-part t u (plain.at_item i.0) m) b (λ v. s (at_places (Both i.0 i.0) ∷ v)) c d e

pub empty-same : (g : Forests) (P M : Pairing) (t u : Tree) (room : ℕ) (lines : List Line) (moves : List MoveLine) → Keyed t → Keyed u → Lists g P M (Some t) (Some u) room lines moves true → ((lines ≡ []) × (moves ≡ [])) ↔ Same t u
empty-same g P M t u room lines moves m n l = (
  λ e. nowhere-same (turn (Some t) (Some u)) t u m n (turn-in-turn (Some t) (Some u)) (λ q d. convert q P (Some t) (Some u) l.pairs
      (λ w r i j c k x y b. (l.moved.settles w).rise i j c k (record { pair = x; still = λ z. none-moved e.1 w (Both i j) r z }) (record { pair = y; still = λ z. none-moved e.1 w (Both c k) r z }) b)
      (λ q d. let w = l.whole refl q d in no-line w.0 w.1 (subst (λ z. slice_get z w.0 ≡ Some w.1) e.0 w.2)) d),
  λ s. (no-lines lines l.each s, no-moves moves l.moved.each s),
)
  where
    none-moved : moves ≡ [] → (w : Way) (p : Places) → Reaches P w (Some t) (Some u) → Allows (M w) (at_places p) → ⊥
    none-moved e w p r a = let z = l.moved.whole refl w p r a in no-line z.0 z.1 (subst (λ v. slice_get v z.0 ≡ Some z.1) e z.2)

    no-lines : (lines : List Line) → ((k : ℕ) (d : Line) → slice_get lines k ≡ Some d → IsTold g P (Some t) (Some u) d) → Same t u → lines ≡ []
    no-lines [] f s = refl
    no-lines (d ∷ ds) f s = let i = f 0 d refl in absurd (match-ends (way_of g d.0) P (Some t) (Some u) (s, m, n) l.pairs i.ends i.differs)

    no-moves : (moves : List MoveLine) → ((k : ℕ) (d : MoveLine) → slice_get moves k ≡ Some d → IsMoved g P M (Some t) (Some u) d) → Same t u → moves ≡ []
    no-moves [] f s = refl
    no-moves (d ∷ ds) f s = let i = f 0 d refl in absurd (match-moves (way_of g d.0) P M d.1 (Some t) (Some u) (s, m, n) l.pairs l.moved.settles i.ends i.reaches i.moved)

-- ---- sequences of one tag

items-alike : (ts us : List Tree) → same_trees (trees ts) (trees us) ≡ pointwise same ts us
unfolding same
items-alike [] [] = refl
items-alike [] (u ∷ us) = refl
items-alike (t ∷ ts) [] = refl
items-alike (t ∷ ts) (u ∷ us) = ap (λ z. same t u && z) (items-alike ts us)

pub sequences-alike : (tag : List ℕ) (ts us : List Tree) → Same (sequence tag (trees ts)) (sequence tag (trees us)) ↔ Alike ts us
unfolding same
sequences-alike tag ts us = (
  λ h. sym (items-alike ts us) ∙ (and_both (bytes_eq tag tag) (same_trees (trees ts) (trees us)) h).1,
  λ h. both_and (bytes_eq tag tag) (same_trees (trees ts) (trees us)) ((bytes_decides tag tag).1 refl) (items-alike ts us ∙ h),
)
