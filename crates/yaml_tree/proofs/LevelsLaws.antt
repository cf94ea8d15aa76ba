-- One more node among the levels.
use Rattle.std.proofs.Common.{Global, ◌≡◌, ◌⊎◌, inl, inr, ℕ, zero, suc, ◌+◌, ◌<◌, [], ◌∷◌, ◌++◌, Vec, length, set, get_or, refl, sym, ◌∙◌, ap, subst, arith, length-append}
use Rattle.std.specs.Prelude.{Some}
use Rattle.std.specs.List.{slice_get}
use Rattle.std.specs.declared.cmp.Ordering.{Ordering}
use Rattle.std.specs.declared.cmp.Ordering.TheVariants.{Less, Equal, Greater}
use Rattle.std.specs.Ordering.{nat_cmp}
use Rattle.yaml_tree.specs.Levels.{Levels, level_of, total, Reaches, LevelsBy}
use Rattle.yaml_tree.proofs.Numbers.{less-cmp, equal-cmp, greater-cmp}
use Rattle.yaml_tree.proofs.Numbering.{get-within}
use Rattle.yaml_tree.proofs.Lists.{get-more, get-end, push-get}

pub level-empty : (vs : Levels) (v : Vec ℕ Global) → v.items ≡ [] → (k : ℕ) → level_of (vs ++ (v ∷ [])) k ≡ level_of vs k
level-empty [] v e zero = e
level-empty [] v e (suc k) = refl
level-empty (w ∷ vs) v e zero = refl
level-empty (w ∷ vs) v e (suc k) = level-empty vs v e k

pub total-empty : (vs : Levels) (v : Vec ℕ Global) → v.items ≡ [] → total (vs ++ (v ∷ [])) ≡ total vs
total-empty [] v e = let l : length v.items ≡ 0 = ap length e in omega arith
total-empty (w ∷ vs) v e = ap (λ n. length w.items + n) (total-empty vs v e)

pub level-there : (vs : Levels) (h : ℕ) (d : Vec ℕ Global) → h < length vs → (get_or vs h d).items ≡ level_of vs h
level-there [] h d l = absurd (omega arith)
level-there (v ∷ vs) zero d l = refl
level-there (v ∷ vs) (suc h) d l = level-there vs h d (omega arith)

level-set : (vs : Levels) (h : ℕ) (v : Vec ℕ Global) → h < length vs → level_of (set vs h v) h ≡ v.items
level-set [] h v l = absurd (omega arith)
level-set (w ∷ vs) zero v l = refl
level-set (w ∷ vs) (suc h) v l = level-set vs h v (omega arith)

level-other : (vs : Levels) (h : ℕ) (v : Vec ℕ Global) (k : ℕ) → (k ≡ h → ⊥) → level_of (set vs h v) k ≡ level_of vs k
level-other [] h v k n = refl
level-other (w ∷ vs) zero v zero n = absurd (n refl)
level-other (w ∷ vs) zero v (suc k) n = refl
level-other (w ∷ vs) (suc h) v zero n = refl
level-other (w ∷ vs) (suc h) v (suc k) n = level-other vs h v k (λ e. n (ap suc e))

total-set : (vs : Levels) (h : ℕ) (v : Vec ℕ Global) → h < length vs → length v.items ≡ length (level_of vs h) + 1 → total (set vs h v) ≡ total vs + 1
total-set [] h v l e = absurd (omega arith)
total-set (w ∷ vs) zero v l e = omega arith
total-set (w ∷ vs) (suc h) v l e = let r = total-set vs h v (omega arith) e in omega arith

module _ (H : ℕ → ℕ) (i : ℕ) (old wide : Levels) (before : LevelsBy H i old) (h : ℕ) (high : h ≡ H i) (reached : Reaches h old wide) (v d : Vec ℕ Global) (pushed : v.items ≡ (get_or wide h d).items ++ (i ∷ [])) where
  abbrev new : Levels
  new = set wide h v

  here : level_of new h ≡ level_of old h ++ (i ∷ [])
  here = level-set wide h v reached.within ∙ (pushed ∙ ap (λ z. z ++ (i ∷ [])) (level-there wide h d reached.within ∙ reached.same h))

  there : (k : ℕ) → (k ≡ h → ⊥) → level_of new k ≡ level_of old k
  there k n = level-other wide h v k n ∙ reached.same k

  -- a number of a level stood there, or is the new one
  old-or-new : (k j x : ℕ) → slice_get (level_of new k) j ≡ Some x → (slice_get (level_of old k) j ≡ Some x) ⊎ ((k ≡ h) × (j ≡ length (level_of old h)) × (x ≡ i))
  old-or-new k j x at = by (nat_cmp k h) refl
    where
      other : (k ≡ h → ⊥) → (slice_get (level_of old k) j ≡ Some x) ⊎ ((k ≡ h) × (j ≡ length (level_of old h)) × (x ≡ i))
      other n = inl (subst (λ z. slice_get z j ≡ Some x) (there k n) at)

      by : (o : Ordering) → nat_cmp k h ≡ o → (slice_get (level_of old k) j ≡ Some x) ⊎ ((k ≡ h) × (j ≡ length (level_of old h)) × (x ≡ i))
      by Less e = other (λ q. let l = less-cmp k h e in omega arith)
      by Equal e =
          let q = equal-cmp k h e in
          let p : slice_get (level_of old h ++ (i ∷ [])) j ≡ Some x = subst (λ z. slice_get z j ≡ Some x) here (subst (λ z. slice_get (level_of new z) j ≡ Some x) q at) in
          elim (push-get (level_of old h) i x j p) [
            | inl a ↦ inl (subst (λ z. slice_get (level_of old z) j ≡ Some x) (sym q) a)
            | inr a ↦ inr (q, a.0, a.1)
          ]
      by Greater e = other (λ q. let l = greater-cmp k h e in omega arith)

  kept : (k j x : ℕ) → slice_get (level_of old k) j ≡ Some x → slice_get (level_of new k) j ≡ Some x
  kept k j x at = by (nat_cmp k h) refl
    where
      other : (k ≡ h → ⊥) → slice_get (level_of new k) j ≡ Some x
      other n = subst (λ z. slice_get z j ≡ Some x) (sym (there k n)) at

      by : (o : Ordering) → nat_cmp k h ≡ o → slice_get (level_of new k) j ≡ Some x
      by Less e = other (λ q. let l = less-cmp k h e in omega arith)
      by Equal e =
          let q = equal-cmp k h e in
          subst (λ z. slice_get (level_of new z) j ≡ Some x) (sym q) (subst (λ z. slice_get z j ≡ Some x) (sym here) (get-more (level_of old h) (i ∷ []) j x (subst (λ z. slice_get (level_of old z) j ≡ Some x) q at)))
      by Greater e = other (λ q. let l = greater-cmp k h e in omega arith)

  pub levels-more : LevelsBy H (i + 1) new
  levels-more = record {
    sound = λ k j x at. elim (old-or-new k j x at) [
      | inl a ↦ (let s = before.sound k j x a in let l = s.0 in (omega arith, s.1))
      | inr a ↦ (let e = a.2 in (omega arith, ap H e ∙ (sym high ∙ sym a.0)))
    ];
    whole = λ x l. last x l (nat_cmp x i) refl;
    rises = λ k j m x y l a b. later k j m x y l (old-or-new k j x a) (old-or-new k m y b);
    count = total-set wide h v reached.within (ap length (sym (level-set wide h v reached.within) ∙ here) ∙ (length-append (level_of old h) (i ∷ []) ∙ ap (λ z. length z + 1) (sym (reached.same h)))) ∙ ap (λ z. z + 1) (reached.count ∙ before.count);
  }
    where
      last : (x : ℕ) → x < i + 1 → (o : Ordering) → nat_cmp x i ≡ o → (k : ℕ) × (slice_get (level_of new (H x)) k ≡ Some x)
      last x l Less e = let w = before.whole x (less-cmp x i e) in (w.0, kept (H x) w.0 x w.1)
      last x l Equal e =
          let q = equal-cmp x i e in
          let hx : H x ≡ h = ap H q ∙ sym high in
          (length (level_of old h), subst (λ z. slice_get (level_of new z) (length (level_of old h)) ≡ Some x) (sym hx) (subst (λ z. slice_get z (length (level_of old h)) ≡ Some x) (sym here) (subst (λ z. slice_get (level_of old h ++ (i ∷ [])) (length (level_of old h)) ≡ Some z) (sym q) (get-end (level_of old h) i))))
      last x l Greater e = let m = greater-cmp x i e in absurd (omega arith)

      later : (k j m x y : ℕ) → j < m → (slice_get (level_of old k) j ≡ Some x) ⊎ ((k ≡ h) × (j ≡ length (level_of old h)) × (x ≡ i)) → (slice_get (level_of old k) m ≡ Some y) ⊎ ((k ≡ h) × (m ≡ length (level_of old h)) × (y ≡ i)) → x < y
      later k j m x y l (inl a) (inl b) = before.rises k j m x y l a b
      later k j m x y l (inl a) (inr b) = let s = (before.sound k j x a).0 in let e = b.2 in omega arith
      later k j m x y l (inr a) (inl b) =
          let c = get-within (level_of old h) m y (subst (λ z. slice_get (level_of old z) m ≡ Some y) a.0 b) in
          let e = a.1 in
          absurd (omega arith)
      later k j m x y l (inr a) (inr b) = let e = a.1 in let f = b.1 in absurd (omega arith)

pub levels-none : (H : ℕ → ℕ) (vs : Levels) → vs ≡ [] → LevelsBy H 0 vs
levels-none H vs e = subst (LevelsBy H 0) (sym e) (record {
  sound = λ k j x at. absurd (cc);
  whole = λ x l. absurd (omega arith);
  rises = λ k j m x y l a b. absurd (cc);
  count = refl;
})
