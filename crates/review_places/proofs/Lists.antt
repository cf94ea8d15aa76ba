-- Elements of lists by their places.
use Rattle.std.proofs.Common.{◌≡◌, ◌⊎◌, inl, inr, ◌<◌, ◌≢◌, ℕ, zero, suc, ◌+◌, List, [], ◌∷◌, ◌++◌, length, set, refl, ◌∙◌, ap, arith}
use Rattle.std.specs.Prelude.{Some}
use Rattle.std.specs.List.{slice_get}

pub set-here : {X : Type 0} (xs : List X) (j : ℕ) (v : X) → j < length xs → slice_get (set xs j v) j ≡ Some v
set-here [] j v l = absurd (omega arith)
set-here (x ∷ xs) zero v l = refl
set-here (x ∷ xs) (suc j) v l = set-here xs j v (omega arith)

pub set-there : {X : Type 0} (xs : List X) (j i : ℕ) (v : X) → i ≢ j → slice_get (set xs j v) i ≡ slice_get xs i
set-there [] j i v d = refl
set-there (x ∷ xs) zero zero v d = absurd (d refl)
set-there (x ∷ xs) zero (suc i) v d = refl
set-there (x ∷ xs) (suc j) zero v d = refl
set-there (x ∷ xs) (suc j) (suc i) v d = set-there xs j i v (λ e. d (ap suc e))

pub get-behind : {X : Type 0} (xs ys : List X) (k : ℕ) → slice_get (xs ++ ys) (length xs + k) ≡ slice_get ys k
get-behind [] ys k = let e : 0 + k ≡ k = omega arith in ap (slice_get ys) e
get-behind (x ∷ xs) ys k = let e : suc (length xs) + k ≡ suc (length xs + k) = omega arith in ap (slice_get (x ∷ (xs ++ ys))) e ∙ get-behind xs ys k

-- an element of two lists is one of either
pub get-of : {X : Type 0} (xs ys : List X) (k : ℕ) (x : X) → slice_get (xs ++ ys) k ≡ Some x → (slice_get xs k ≡ Some x) ⊎ ((j : ℕ) × (slice_get ys j ≡ Some x))
get-of [] ys k x h = inr (k, h)
get-of (y ∷ xs) ys zero x h = inl h
get-of (y ∷ xs) ys (suc k) x h = get-of xs ys k x h

-- the ends of equal lists are equal
pub ends-same : {X : Type 0} (xs ys : List X) (x y : X) → xs ++ (x ∷ []) ≡ ys ++ (y ∷ []) → (xs ≡ ys) × (x ≡ y)
ends-same [] [] x y e = (refl, cc)
ends-same [] (b ∷ []) x y e = absurd (cc)
ends-same [] (b ∷ c ∷ ys) x y e = absurd (cc)
ends-same (a ∷ []) [] x y e = absurd (cc)
ends-same (a ∷ c ∷ xs) [] x y e = absurd (cc)
ends-same (a ∷ xs) (b ∷ ys) x y e =
    let f : xs ++ (x ∷ []) ≡ ys ++ (y ∷ []) = cc in
    let r = ends-same xs ys x y f in
    let g : a ≡ b = cc in
    (ap (λ z. z ∷ xs) g ∙ ap (λ z. b ∷ z) r.0, r.1)

pub not-empty : {X : Type 0} (xs : List X) (x : X) → [] ≡ xs ++ (x ∷ []) → ⊥
not-empty [] x e = cc
not-empty (y ∷ xs) x e = cc
