-- Parts overwritten one after the other, and keys that rise.
use Rattle.std.proofs.Common.{◌≡◌, ◌⊎◌, inl, inr, ℕ, zero, suc, ◌+◌, ◌-◌, ◌<◌, ◌≤◌, List, [], ◌∷◌, ◌++◌, length, map, take, drop, get_or, refl, ◌∙◌, ap, subst, arith}
use Rattle.yaml_tree.proofs.Numbers.{below_or}
use Rattle.yaml_tree.proofs.Lists.{get_or-any}
use Rattle.yaml_store_rank.specs.PartsModel.{KeysRise}

at-front : {X : Type 0} (f : X → X) (old : List X) (i : ℕ) (d : X) → i < length old → get_or (map f (take i old) ++ drop i old) i d ≡ get_or old i d
at-front f [] i d l = absurd (omega arith)
at-front f (x ∷ old) zero d l = refl
at-front f (x ∷ old) (suc i) d l = at-front f old i d (omega arith)

-- what was not overwritten yet
pub not-yet : {X : Type 0} (f : X → X) (old now : List X) (i : ℕ) (d : X) → i < length old → now ≡ map f (take i old) ++ drop i old → get_or now i d ≡ get_or old i d
not-yet f old now i d l e = ap (λ z. get_or z i d) e ∙ at-front f old i d l

-- neighbours that rise
abbrev pub Steps : List (ℕ × ℕ) → ℕ → Type 0
Steps es end = (k : ℕ) (d : ℕ × ℕ) → k + 1 < end → (get_or es k d).0 < (get_or es (k + 1) d).0

pub steps-rise : (es : List (ℕ × ℕ)) (end : ℕ) → length es ≤ end → Steps es end → KeysRise es
steps-rise es end h steps j k d l m =
    let e : j + suc (k - suc j) ≡ k = omega arith in
    subst (λ z. (get_or es j d).0 < (get_or es z d).0) e (far (k - suc j) j (omega arith))
  where
    far : (m j : ℕ) → j + suc m < end → (get_or es j d).0 < (get_or es (j + suc m) d).0
    far zero j l = let e : j + 1 ≡ j + suc zero = omega arith in subst (λ z. (get_or es j d).0 < (get_or es z d).0) e (steps j d (omega arith))
    far (suc m) j l =
        let a = far m j (omega arith) in
        let b = steps (j + suc m) d (omega arith) in
        let e : (j + suc m) + 1 ≡ j + suc (suc m) = omega arith in
        let c : (get_or es (j + suc m) d).0 < (get_or es (j + suc (suc m)) d).0 = subst (λ z. (get_or es (j + suc m) d).0 < (get_or es z d).0) e b in
        omega arith

-- one more step
pub steps-more : (es : List (ℕ × ℕ)) (at : ℕ) (c d : ℕ × ℕ) → 0 < at → at < length es → Steps es at → (get_or es (at - 1) c).0 < (get_or es at d).0 → Steps es (at + 1)
steps-more es at c d some l steps h k e m = by (below_or (k + 1) at)
  where
    by : (k + 1 < at) ⊎ (at ≤ k + 1) → (get_or es k e).0 < (get_or es (k + 1) e).0
    by (inl a) = steps k e a
    by (inr a) =
        let p : at - 1 ≡ k = omega arith in
        let q : at ≡ k + 1 = omega arith in
        let x : get_or es (at - 1) c ≡ get_or es k e = ap (λ z. get_or es z c) p ∙ get_or-any es k c e (omega arith) in
        let y : get_or es at d ≡ get_or es (k + 1) e = ap (λ z. get_or es z d) q ∙ get_or-any es (k + 1) d e (omega arith) in
        subst (λ z. z.0 < (get_or es (k + 1) e).0) x (subst (λ z. (get_or es (at - 1) c).0 < z.0) y h)
