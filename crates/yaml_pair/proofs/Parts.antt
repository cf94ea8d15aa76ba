-- Options and places, as they are read.
use Rattle.std.proofs.Common.{◌≡◌, ◌≢◌, ℕ, zero, suc, ◌+◌, ◌<◌, ◌⊎◌, Bool, true, false, List, [], ◌∷◌, length, replicate, get_or, set, inl, inr, refl, sym, ◌∙◌, ap, arith}
use Rattle.std.specs.Prelude.{Option, Some, None}
use Rattle.std.specs.List.{slice_get}
use Rattle.std.proofs.lemmas.List.{length-replicate, get_or-replicate}
use Rattle.std.proofs.lemmas.Option.{slice_get-get_or}
use Rattle.yaml_pair.proofs.ColumnLaws.{below-or}

pub some-is : {X : Type 0} {x y : X} → Some x ≡ Some y → x ≡ y
some-is e = cc

pub none-some : {X : Type 0} {x : X} → None ≡ Some x → ⊥
none-some e = absurd (cc)

pub false-true : false ≡ true → ⊥
false-true e = absurd (cc)

pub same-test : (a b : Bool) → (a ≡ true → b ≡ true) → (b ≡ true → a ≡ true) → a ≡ b
same-test true b f g = sym (f refl)
same-test false true f g = g refl
same-test false false f g = refl

pub less-or : (k n : ℕ) → k < n + 1 → (k < n) ⊎ (k ≡ n)
less-or k n l = elim (below-or k n) [ inl a ↦ inl a | inr x ↦ elim x [ inl a ↦ absurd (omega (arith, a, l)) | inr e ↦ inr e ] ]

pub set-here : {X : Type 0} (xs : List X) (j : ℕ) (v : X) → j < length xs → slice_get (set xs j v) j ≡ Some v
set-here [] j v l = absurd (omega (arith, l))
set-here (x ∷ xs) zero v l = refl
set-here (x ∷ xs) (suc j) v l = set-here xs j v (omega (arith, l))

pub set-there : {X : Type 0} (xs : List X) (j i : ℕ) (v : X) → i ≢ j → slice_get (set xs j v) i ≡ slice_get xs i
set-there [] j i v n = refl
set-there (x ∷ xs) zero zero v n = absurd (n refl)
set-there (x ∷ xs) zero (suc i) v n = refl
set-there (x ∷ xs) (suc j) zero v n = refl
set-there (x ∷ xs) (suc j) (suc i) v n = set-there xs j i v (λ e. n (ap suc e))

pub there : {X : Type 0} (xs : List X) (k : ℕ) → k < length xs → (x : X) × (slice_get xs k ≡ Some x)
there [] k l = absurd (omega (arith, l))
there (x ∷ xs) zero l = (x, refl)
there (x ∷ xs) (suc k) l = there xs k (omega (arith, l))

-- a place that is there and has no partner, has none
pub free-from : (xs : List (Option ℕ)) (k : ℕ) → k < length xs → ((j : ℕ) → slice_get xs k ≡ Some (Some j) → ⊥) → slice_get xs k ≡ Some None
free-from xs k l f = let x = there xs k l in by x.0 x.1
  where
    by : (o : Option ℕ) → slice_get xs k ≡ Some o → slice_get xs k ≡ Some None
    by None e = e
    by (Some j) e = absurd (f j e)

pub free-not : {X : Type 0} (xs : List (Option X)) (k j : ℕ) (x : X) → k ≡ j → slice_get xs j ≡ Some None → slice_get xs k ≡ Some (Some x) → ⊥
free-not xs k j x a e f = let g : Some None ≡ Some (Some x) = sym e ∙ ap (slice_get xs) (sym a) ∙ f in absurd (cc)

-- only no number is like none
pub none-only : (Like : Option ℕ → Type 0) → ((x : ℕ) → Like (Some x) → ⊥) → (y : Option ℕ) → Like y → y ≡ None
none-only Like f None h = refl
none-only Like f (Some x) h = absurd (f x h)

pub blank-at : (xs : List (Option ℕ)) (n k : ℕ) → xs ≡ replicate n None → k < n → slice_get xs k ≡ Some None
blank-at xs n k e l =
    let w : k < length xs = omega (arith, l, ap length e, length-replicate {A = Option ℕ} n None) in
    slice_get-get_or xs k None w ∙ ap (λ z. Some (get_or z k None)) e ∙ ap Some (get_or-replicate n k None None l)
