-- What stands from a place of a text on.
use Rattle.std.proofs.Common.{Bool, true, false, ◌≡◌, ℕ, zero, suc, ◌+◌, ◌-◌, ◌<◌, ◌⊎◌, inl, inr, Some, List, [], ◌∷◌, ◌++◌, length, take, drop, slice_get, refl, sym, ◌∙◌, ap, subst, arith}
use Rattle.std.proofs.Math.Nat.{eq-or-lt_of_le}
use Rattle.std.specs.Prelude.{slice_range}
use Rattle.yaml_definitions.specs.grammar.Rules.{run, Stands}
use Rattle.yaml_definitions.proofs.CharLaws.{heads, tails}

-- these characters, up to the end
abbrev pub At : List ℕ → ℕ → List ℕ → Type 0
At cs i xs = (drop i cs ≡ xs) × (i + length xs ≡ length cs)

pub at_get : (cs : List ℕ) (i c : ℕ) (xs : List ℕ) → At cs i (c ∷ xs) → slice_get cs i ≡ Some c
at_get cs i c xs a = go cs i a.0
  where
    go : (cs : List ℕ) (i : ℕ) → drop i cs ≡ c ∷ xs → slice_get cs i ≡ Some c
    go [] zero e = absurd (let h : ◌≡◌ {A = List ℕ} [] (c ∷ xs) = e in cc)
    go [] (suc i) e = absurd (let h : ◌≡◌ {A = List ℕ} [] (c ∷ xs) = e in cc)
    go (x ∷ cs) zero e = ap Some (heads e)
    go (x ∷ cs) (suc i) e = go cs i e

pub at_next : (cs : List ℕ) (i c : ℕ) (xs : List ℕ) → At cs i (c ∷ xs) → At cs (i + 1) xs
at_next cs i c xs a = (go cs i a.0, omega (arith, a.1))
  where
    go : (cs : List ℕ) (i : ℕ) → drop i cs ≡ c ∷ xs → drop (i + 1) cs ≡ xs
    go [] zero e = absurd (let h : ◌≡◌ {A = List ℕ} [] (c ∷ xs) = e in cc)
    go [] (suc i) e = absurd (let h : ◌≡◌ {A = List ℕ} [] (c ∷ xs) = e in cc)
    go (x ∷ cs) zero e = tails e
    go (x ∷ cs) (suc i) e = ap (λ k. drop k (x ∷ cs)) (let f : suc i + 1 ≡ suc (i + 1) = omega arith in f) ∙ go cs i e

pub at_end : (cs : List ℕ) (i : ℕ) → At cs i [] → i ≡ length cs
at_end cs i a = omega (arith, a.1)

pub at_same : (cs : List ℕ) (i : ℕ) (xs ys : List ℕ) → xs ≡ ys → At cs i xs → At cs i ys
at_same cs i xs ys e a = subst (At cs i) e a

-- all of them pass the test
abbrev pub Pass : (ℕ → Bool) → List ℕ → Type 0
Pass p [] = Unit {0}
Pass p (c ∷ cs) = (p c ≡ true) × Pass p cs

pub pass_join : (p : ℕ → Bool) (xs ys : List ℕ) → Pass p xs → Pass p ys → Pass p (xs ++ ys)
pass_join p [] ys g h = h
pass_join p (x ∷ xs) ys g h = (g.0, pass_join p xs ys g.1 h)

-- a run of them, and what follows
pub run_over : (cs : List ℕ) (p : ℕ → Bool) (xs : List ℕ) (i j : ℕ) (r : List ℕ) → Pass p xs → At cs i (xs ++ r) → j ≡ i + length xs → run cs p i j × At cs j r
run_over cs p [] i j r n a e =
    let q : i ≡ j = omega (arith, e) in
    ((omega (arith, q), λ m x y. absurd (let z : ⊥ = omega (arith, x, y, q) in z)), subst (λ z. At cs z r) q a)
run_over cs p (c ∷ xs) i j r n a e =
    let h = run_over cs p xs (i + 1) j r n.1 (at_next cs i c (xs ++ r) a) (omega (arith, e)) in
    ((omega (arith, e), λ m x y. pick m y h.0 (eq-or-lt_of_le x)), h.1)
  where
    pick : (m : ℕ) → m < j → run cs p (i + 1) j → (i ≡ m) ⊎ (i < m) → Stands cs p m
    pick m y g (inl q) = (c, subst (λ z. slice_get cs z ≡ Some c) q (at_get cs i c (xs ++ r) a), n.0)
    pick m y g (inr l) = g.1 m (omega (arith, l)) y

take_over : (xs r : List ℕ) → take (length xs) (xs ++ r) ≡ xs
take_over [] r = refl
take_over (x ∷ xs) r = ap (λ v. x ∷ v) (take_over xs r)

pub at_slice : (cs : List ℕ) (i j : ℕ) (xs r : List ℕ) → At cs i (xs ++ r) → j ≡ i + length xs → slice_range cs i j ≡ xs
at_slice cs i j xs r a e =
    let n : j - i ≡ length xs = omega (arith, e) in
    ap (λ m. take m (drop i cs)) n ∙ (ap (take (length xs)) a.0 ∙ take_over xs r)

pub same_at : (cs : List ℕ) (i c d : ℕ) → slice_get cs i ≡ Some c → slice_get cs i ≡ Some d → c ≡ d
same_at cs i c d e f = let k : ◌≡◌ (Some c) (Some d) = sym e ∙ f in cc

pub false_true : (b : Bool) → b ≡ false → b ≡ true → ⊥
false_true b e f = let q : false ≡ true = sym e ∙ f in absurd (cc)
