-- Numbers with their places, and their order.
use Rattle.std.proofs.Common.{◌≡◌, ◌⊎◌, inl, inr, ℕ, zero, suc, ◌+◌, ◌-◌, ◌<◌, ◌≤◌, Bool, true, false, List, [], ◌∷◌, ◌++◌, length, take, get_or, slice_index, refl, sym, ◌∙◌, ap, subst, arith, add-one, length-take}
use Rattle.std.proofs.Math.Seq.{take-suc}
use Rattle.std.specs.List.{IsDistinct}
use Rattle.std.specs.List.Sorted.{IsPermutation, IsSorted}
use Rattle.std.specs.Ordering.{nat_cmp, is_lt, is_eq, ordering_reverse}
use Rattle.std.proofs.lemmas.Cmp.{nat_cmp_total, tied_itself}
use Rattle.std.proofs.lemmas.Map.Keys.{IsDistinct-from_apart, IsDistinct-IsPermutation, apart_from_distinct}
use Rattle.std.specs.declared.cmp.Ordering.{Ordering}
use Rattle.std.specs.declared.cmp.Ordering.TheVariants.{Less, Equal, Greater}
use Rattle.std.proofs.lemmas.List.Sorted.{ranks_by, sorted_far, All-permutation, Contains-permutation, length_permutation}
use Rattle.std.specs.Prelude.{Option, None, Some, MatchOption}
use Rattle.yaml_tree.specs.Numbered.{pair_cmp}
use Rattle.yaml_tree.specs.Places.{at, InOrder, AllRise, IsFirstEqual, Earlier}
use Rattle.yaml_tree.proofs.Numbers.{pair_cmp-total, pair-upto, cmp-less, less-cmp, equal-cmp, greater-cmp, below_or}

-- the values with their places, the first of which is n
abbrev pub placed : ℕ → List ℕ → List (ℕ × ℕ)
placed n [] = []
placed n (v ∷ vs) = (v, n) ∷ placed (suc n) vs

placed-push : (n : ℕ) (vs : List ℕ) (v : ℕ) → placed n (vs ++ (v ∷ [])) ≡ placed n vs ++ ((v, n + length vs) ∷ [])
placed-push n [] v = let e : n ≡ n + 0 = omega arith in ap (λ m. (v, m) ∷ []) e
placed-push n (u ∷ vs) v = let e : suc n + length vs ≡ n + suc (length vs) = omega arith in ap (λ ps. (u, n) ∷ ps) (placed-push (suc n) vs v ∙ ap (λ m. placed (suc n) vs ++ ((v, m) ∷ [])) e)

placed-length : (n : ℕ) (vs : List ℕ) → length (placed n vs) ≡ length vs
placed-length n [] = refl
placed-length n (v ∷ vs) = ap suc (placed-length (suc n) vs)

placed-at : (n : ℕ) (vs : List ℕ) (k : ℕ) (d : ℕ × ℕ) → k < length vs → get_or (placed n vs) k d ≡ (get_or vs k 0, n + k)
placed-at n [] k d h = absurd (omega arith)
placed-at n (v ∷ vs) zero d h = let e : n ≡ n + 0 = omega arith in ap (λ m. (v, m)) e
placed-at n (v ∷ vs) (suc k) d h = let e : suc n + k ≡ n + suc k = omega arith in placed-at (suc n) vs k d (omega arith) ∙ ap (λ m. (get_or vs k 0, m)) e

pub placed-more : (vs : List ℕ) (k v : ℕ) (order : List (ℕ × ℕ)) → k < length vs → v ≡ get_or vs k 0 → order ≡ placed 0 (take k vs) ++ ((v, k) ∷ []) → order ≡ placed 0 (take (k + 1) vs)
placed-more vs k v order h e q =
    let t : take (k + 1) vs ≡ take k vs ++ (get_or vs k 0 ∷ []) = rw add-one (take-suc vs k 0 h) in
    let l : k ≡ 0 + length (take k vs) = omega (arith, length-take k vs) in
    q ∙ ((λ z. placed 0 (take k vs) ++ ((e z, l z) ∷ [])) ∙ (sym (placed-push 0 (take k vs) (get_or vs k 0)) ∙ ap (placed 0) (sym t)))

same_place : ℕ × ℕ → ℕ × ℕ → Bool
same_place p q = is_eq (nat_cmp p.1 q.1)

flips : (p q : ℕ × ℕ) → same_place p q ≡ same_place q p
unfolding same_place
flips p q = ap is_eq (nat_cmp_total.antisymm p.1 q.1) ∙ turn (nat_cmp q.1 p.1)
  where
    turn : (o : Ordering) → is_eq (ordering_reverse o) ≡ is_eq o
    turn Less = refl
    turn Equal = refl
    turn Greater = refl

-- the places differ
placed-distinct : (values : List ℕ) → IsDistinct same_place (placed 0 values)
unfolding same_place
placed-distinct values = IsDistinct-from_apart same_place (placed 0 values) (λ i j d l m.
    let n : j < length values = omega (arith, placed-length 0 values) in
    let o : i < length values = omega arith in
    let p : (get_or (placed 0 values) i d).1 ≡ 0 + i = ap (λ q. q.1) (placed-at 0 values i d o) in
    let q : (get_or (placed 0 values) j d).1 ≡ 0 + j = ap (λ q. q.1) (placed-at 0 values j d n) in
    ap is_eq (cmp-less (get_or (placed 0 values) i d).1 (get_or (placed 0 values) j d).1 (omega arith)))

apart : (order : List (ℕ × ℕ)) → IsDistinct same_place order → (j k : ℕ) → j < k → k < length order → (at order j).1 ≡ (at order k).1 → ⊥
unfolding same_place
apart order d j k l m e =
    let f : is_eq (nat_cmp (at order j).1 (at order k).1) ≡ false = apart_from_distinct same_place order j k (0, 0) d l m in
    let g : is_eq (nat_cmp (at order j).1 (at order k).1) ≡ true = ap is_eq (subst (λ z. nat_cmp (at order j).1 z ≡ Equal) e (tied_itself nat_cmp_total (at order j).1)) in
    let h : true ≡ false = sym g ∙ f in
    absurd (cc)

-- sorted, they are in order
pub in-order : (values : List ℕ) (order : List (ℕ × ℕ)) → IsPermutation (placed 0 values) order → IsSorted pair_cmp order → InOrder values order
in-order values order p s = record {
  count = length_permutation (placed 0 values) order p ∙ placed-length 0 values;
  sound = All-permutation (λ q. (q.1 < length values) × (q.0 ≡ slice_index values q.1)) (placed 0 values) order p
      (λ k d l. let h : k < length values = omega (arith, placed-length 0 values) in
      let e : get_or (placed 0 values) k d ≡ (get_or values k 0, k) = placed-at 0 values k d h ∙ (let z : 0 + k ≡ k = omega arith in ap (λ m. (get_or values k 0, m)) z) in
      subst (λ (q : ℕ × ℕ). (q.1 < length values) × (q.0 ≡ slice_index values q.1)) (sym e) (h, refl));
  whole = λ i l. Contains-permutation (placed 0 values) order (slice_index values i, i) p
      (i, omega (arith, placed-length 0 values), placed-at 0 values i (slice_index values i, i) l ∙ (let z : 0 + i ≡ i = omega arith in ap (λ m. (get_or values i 0, m)) z));
  rises = λ j k l m.
      let n = apart order (IsDistinct-IsPermutation same_place flips (placed 0 values) order p (placed-distinct values)) j k l m in
      elim (pair-upto (at order j) (at order k) (sorted_far (λ x y. is_lt (pair_cmp x y)) (ranks_by pair_cmp-total (λ q. q)) order s j k (0, 0) (omega arith) m)) [
        | inl h ↦ inl h
        | inr h ↦ inr (h.0, strict (at order j).1 (at order k).1 h.1 n)
      ];
}
  where
    strict : (x y : ℕ) → x ≤ y → (x ≡ y → ⊥) → x < y
    strict x y h n = by (nat_cmp x y) refl
      where
        by : (o : Ordering) → nat_cmp x y ≡ o → x < y
        by Less e = less-cmp x y e
        by Equal e = absurd (n (equal-cmp x y e))
        by Greater e = let g = greater-cmp x y e in absurd (omega arith)

-- ---- the first two equal values

-- What is known of the places before `end`: no two neighbours are equal, or the best ones so far.
abbrev pub Adjacent : List (ℕ × ℕ) → ℕ → Type 0
Adjacent order k = (0 < k) × ((at order (k - 1)).0 ≡ (at order k).0)

abbrev pub SoFar : List (ℕ × ℕ) → ℕ → Option (ℕ × ℕ) → Type 0
SoFar order end None = (k : ℕ) → k < end → Adjacent order k → ⊥
SoFar order end (Some p) = ((k : ℕ) × (k < end) × Adjacent order k × (p.0 ≡ (at order (k - 1)).1) × (p.1 ≡ (at order k).1)) × ((k : ℕ) → k < end → Adjacent order k → p.1 ≤ (at order k).1)

module _ (order : List (ℕ × ℕ)) (k : ℕ) (some : 0 < k) where
  last_or : (j : ℕ) → j < k + 1 → (j < k) ⊎ (j ≡ k)
  last_or j l = by (nat_cmp j k) refl
    where
      by : (o : Ordering) → nat_cmp j k ≡ o → (j < k) ⊎ (j ≡ k)
      by Less e = inl (less-cmp j k e)
      by Equal e = inr (equal-cmp j k e)
      by Greater e = let g = greater-cmp j k e in absurd (omega arith)

  pub so-far-none : (best : Option (ℕ × ℕ)) → SoFar order k best → ((at order (k - 1)).0 ≡ (at order k).0 → ⊥) → SoFar order (k + 1) best
  so-far-none None h n = λ j l a. elim (last_or j l) [ inl m ↦ h j m a | inr e ↦ n (subst (λ m. (at order (m - 1)).0 ≡ (at order m).0) e a.1) ]
  so-far-none (Some p) h n =
      ((h.0.0, omega (arith, h.0.1), h.0.2, h.0.3, h.0.4), λ j l a. elim (last_or j l) [ inl m ↦ h.1 j m a | inr e ↦ absurd (n (subst (λ m. (at order (m - 1)).0 ≡ (at order m).0) e a.1)) ])

  pub so-far-one : (best : Option (ℕ × ℕ)) (new : ℕ × ℕ) → SoFar order k best → (at order (k - 1)).0 ≡ (at order k).0 → Earlier best ((at order (k - 1)).1, (at order k).1) new → SoFar order (k + 1) (Some new)
  so-far-one None new h a e =
      ((k, omega arith, (some, a), ap (λ q. q.0) e, ap (λ q. q.1) e), λ j l b. elim (last_or j l) [ inl m ↦ absurd (h j m b) | inr q ↦ subst (λ m. new.1 ≤ (at order m).1) (sym q) (let r : new.1 ≡ (at order k).1 = ap (λ q. q.1) e in omega arith) ])
  so-far-one (Some p) new h a (inl e) =
      let x : new.0 ≡ p.0 = ap (λ q. q.0) e.0 in
      let y : new.1 ≡ p.1 = ap (λ q. q.1) e.0 in
      ((h.0.0, omega (arith, h.0.1), h.0.2, x ∙ h.0.3, y ∙ h.0.4), λ j l b. elim (last_or j l) [ inl m ↦ (let r = h.1 j m b in omega arith) | inr q ↦ subst (λ m. new.1 ≤ (at order m).1) (sym q) (let s = e.1 in omega arith) ])
  so-far-one (Some p) new h a (inr e) =
      let y : new.1 ≡ (at order k).1 = ap (λ q. q.1) e.0 in
      ((k, omega arith, (some, a), ap (λ q. q.0) e.0, y), λ j l b. elim (last_or j l) [ inl m ↦ (let r = h.1 j m b in let s = e.1 in omega arith) | inr q ↦ subst (λ m. new.1 ≤ (at order m).1) (sym q) (omega arith) ])

module _ (values : List ℕ) (order : List (ℕ × ℕ)) (is : InOrder values order) where
  -- values do not fall
  upto : (j k : ℕ) → j ≤ k → k < length order → (at order j).0 ≤ (at order k).0
  upto j k l m = by (nat_cmp j k) refl
    where
      by : (o : Ordering) → nat_cmp j k ≡ o → (at order j).0 ≤ (at order k).0
      by Less e = elim (is.rises j k (less-cmp j k e) m) [ inl h ↦ omega arith | inr h ↦ (let q = h.0 in omega arith) ]
      by Equal e = subst (λ z. (at order j).0 ≤ (at order z).0) (equal-cmp j k e) (omega arith)
      by Greater e = let g = greater-cmp j k e in absurd (omega arith)

  -- of two equal values the second stands just behind an equal one
  behind : (f s : ℕ) → f < s → s < length values → slice_index values f ≡ slice_index values s → (k : ℕ) × (k < length order) × Adjacent order k × ((at order k).1 ≡ s)
  behind f s l m e =
      let x = is.whole f (omega arith) in
      let y = is.whole s m in
      let u : at order x.0 ≡ (slice_index values f, f) = get_or_any order x.0 (0, 0) (slice_index values f, f) x.1 ∙ x.2 in
      let v : at order y.0 ≡ (slice_index values s, s) = get_or_any order y.0 (0, 0) (slice_index values s, s) y.1 ∙ y.2 in
      let u0 : (at order x.0).0 ≡ slice_index values f = ap (λ q. q.0) u in
      let u1 : (at order x.0).1 ≡ f = ap (λ q. q.1) u in
      let v0 : (at order y.0).0 ≡ slice_index values s = ap (λ q. q.0) v in
      let v1 : (at order y.0).1 ≡ s = ap (λ q. q.1) v in
      let before : x.0 < y.0 = order-of x.0 y.0 x.1 u0 u1 v0 v1 in
      let a = upto x.0 (y.0 - 1) (omega arith) (omega arith) in
      let b = upto (y.0 - 1) y.0 (omega arith) y.1 in
      (y.0, y.1, (omega arith, omega arith), v1)
    where
      get_or_any : {X : Type 0} (xs : List X) (i : ℕ) (c d : X) → i < length xs → get_or xs i c ≡ get_or xs i d
      get_or_any [] i c d h = absurd (omega arith)
      get_or_any (z ∷ xs) zero c d h = refl
      get_or_any (z ∷ xs) (suc i) c d h = get_or_any xs i c d (omega arith)

      order-of : (j k : ℕ) → j < length order → (at order j).0 ≡ slice_index values f → (at order j).1 ≡ f → (at order k).0 ≡ slice_index values s → (at order k).1 ≡ s → j < k
      order-of j k n p q r t = by (nat_cmp j k) refl
        where
          by : (o : Ordering) → nat_cmp j k ≡ o → j < k
          by Less g = less-cmp j k g
          by Equal g = let h : (at order j).1 ≡ (at order k).1 = ap (λ z. (at order z).1) (equal-cmp j k g) in absurd (omega arith)
          by Greater g = elim (is.rises k j (greater-cmp j k g) n) [ inl h ↦ absurd (omega arith) | inr h ↦ (let w = h.1 in absurd (omega arith)) ]

  pub first-equal : (end : ℕ) (best : Option (ℕ × ℕ)) → length order ≤ end → SoFar order end best → ((k : ℕ) → k < end → 0 < k → k < length order) → MatchOption best (AllRise order) (λ p. IsFirstEqual values p.0 p.1)
  first-equal end None l h w = λ j k a b.
      let n : (at order (k - 1)).0 ≡ (at order k).0 → ⊥ = λ e. h k (omega arith) (omega arith, e) in
      let p = upto j (k - 1) (omega arith) (omega arith) in
      let q = upto (k - 1) k (omega arith) b in
      rising (at order j).0 (at order (k - 1)).0 (at order k).0 p q n
    where
      rising : (x y z : ℕ) → x ≤ y → y ≤ z → (y ≡ z → ⊥) → x < z
      rising x y z p q n = by (nat_cmp y z) refl
        where
          by : (o : Ordering) → nat_cmp y z ≡ o → x < z
          by Less e = let g = less-cmp y z e in omega arith
          by Equal e = absurd (n (equal-cmp y z e))
          by Greater e = let g = greater-cmp y z e in absurd (omega arith)
  first-equal end (Some p) l h w =
      let k = h.0.0 in
      let a = h.0.2 in
      let m : k < length order = w k h.0.1 a.0 in
      let i = is.sound (k - 1) (0, 0) (omega arith) in
      let j = is.sound k (0, 0) m in
      let rise : p.0 < p.1 = elim (is.rises (k - 1) k (omega arith) m) [ inl r ↦ absurd (omega (arith, a.1)) | inr r ↦ (let r1 = r.1 in let x = h.0.3 in let y = h.0.4 in omega arith) ] in
      let same : slice_index values p.0 ≡ slice_index values p.1 = ap (slice_index values) h.0.3 ∙ (sym i.1 ∙ (a.1 ∙ (j.1 ∙ ap (slice_index values) (sym h.0.4)))) in
      record {
        in_order = rise;
        within = (let y = h.0.4 in let z = j.0 in omega arith);
        equal = same;
        before = λ f s b c e.
            let q = least f s b c e in
            elim (split p.1 s q) [
              | inl r ↦ inl r
              | inr r ↦ inr (
                r,
                elim (below_or f p.0) [
                  | inl t ↦ (let w : slice_index values f ≡ slice_index values p.0 = e ∙ (ap (slice_index values) (sym r) ∙ sym same) in
                      let v = least f p.0 t (omega arith) w in absurd (omega arith))
                  | inr t ↦ t
                ],
              )
            ];
      }
    where
      least : (f s : ℕ) → f < s → s < length values → slice_index values f ≡ slice_index values s → p.1 ≤ s
      least f s b c e = let q = behind f s b c e in let r = h.1 q.0 (omega (arith, q.1)) q.2 in let t = q.3 in omega arith

      split : (x y : ℕ) → x ≤ y → (x < y) ⊎ (x ≡ y)
      split x y g = by (nat_cmp x y) refl
        where
          by : (o : Ordering) → nat_cmp x y ≡ o → (x < y) ⊎ (x ≡ y)
          by Less e = inl (less-cmp x y e)
          by Equal e = inr (equal-cmp x y e)
          by Greater e = let w = greater-cmp x y e in absurd (omega arith)
