-- What is the same behind each of some characters is the same behind all of them.
use Rattle.std.proofs.Common.{◌≡◌, ◌<◌, ◌≤◌, ℕ, zero, suc, Bool, true, List, [], ◌∷◌, length, drop, get_or, refl, ◌∙◌, arith}

pub run_same : {A : Type 0} (m : List ℕ → A) (p : ℕ → Bool) → ((c : ℕ) (r : List ℕ) → p c ≡ true → m (c ∷ r) ≡ m r)
    → (xs : List ℕ) (n : ℕ) → n ≤ length xs → ((k : ℕ) → k < n → p (get_or xs k 0) ≡ true) → m xs ≡ m (drop n xs)
run_same {A} m p f xs zero l h = refl
run_same {A} m p f [] (suc n) l h = absurd (omega (arith, l))
run_same {A} m p f (x ∷ xs) (suc n) l h = f x xs (h 0 (omega arith)) ∙ run_same m p f xs n (omega (arith, l)) (λ k e. h (suc k) (omega (arith, e)))
