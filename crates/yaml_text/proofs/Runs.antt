-- Runs of characters.
use Rattle.std.proofs.Common.{◌≡◌, ℕ, ◌+◌, ◌<◌, ◌≤◌, List, Option, Some, None, Bool, true, false, sym, ◌∙◌, ap, arith}
use Rattle.std.specs.Prelude.{slice_get}
use Rattle.yaml_definitions.specs.grammar.Rules.{Stands, run}

module _ (cs : List ℕ) where
  -- a character stands once
  pub same_char : (i c d : ℕ) → slice_get cs i ≡ Some c → slice_get cs i ≡ Some d → c ≡ d
  same_char i c d p q = let h : Some c ≡ Some d = sym p ∙ q in cc

  pub nothing_there : (i c : ℕ) → slice_get cs i ≡ None → slice_get cs i ≡ Some c → ⊥
  nothing_there i c p q = let h : ◌≡◌ {A = Option ℕ} None (Some c) = sym p ∙ q in cc

  -- what does not stand here
  pub no_stand : (p : ℕ → Bool) (i c : ℕ) → slice_get cs i ≡ Some c → p c ≡ false → Stands cs p i → ⊥
  no_stand p i c h f (d, g, t) = let e : false ≡ true = sym f ∙ ap p (same_char i c d h g) ∙ t in cc

  pub no_stand_end : (p : ℕ → Bool) (i : ℕ) → slice_get cs i ≡ None → Stands cs p i → ⊥
  no_stand_end p i h (d, g, t) = nothing_there i d h g

  -- a run of places where P holds
  pub all_more : (P : ℕ → Type 0) (i j k : ℕ) → ((m : ℕ) → i ≤ m → m < j → P m) → P j → k ≡ j + 1 → (m : ℕ) → i ≤ m → m < k → P m
  all_more P i j k s h e m from below = go (s m from)
    where
      go : (m < j → P m) → P m
      go was = grind (arith, was, h, e, below)

  pub run_none : (p : ℕ → Bool) (i : ℕ) → run cs p i i
  run_none p i = (omega arith, λ k a b. absurd (omega (arith, a, b)))

  pub run_more : (p : ℕ → Bool) (i j k c : ℕ) → run cs p i j → slice_get cs j ≡ Some c → p c ≡ true → k ≡ j + 1 → run cs p i k
  run_more p i j k c r h t e = (let a : i ≤ j = r.0 in omega (arith, a, e), all_more (Stands cs p) i j k r.1 (c, h, t) e)

  -- two runs to where the next is none of them
  pub all_same : (P : ℕ → Type 0) (i j k : ℕ) → i ≤ j → i ≤ k → ((m : ℕ) → i ≤ m → m < j → P m) → ((m : ℕ) → i ≤ m → m < k → P m) → (P j → ⊥) → (P k → ⊥) → j ≡ k
  all_same P i j k a b f g n m =
      let x : ¬ (j < k) = λ h. n (g j a h) in
      let y : ¬ (k < j) = λ h. m (f k b h) in
      omega (arith, x, y)

  pub run_same : (p : ℕ → Bool) (i j k : ℕ) → run cs p i j → run cs p i k → (Stands cs p j → ⊥) → (Stands cs p k → ⊥) → j ≡ k
  run_same p i j k r s n m = all_same (Stands cs p) i j k r.0 s.0 r.1 s.1 n m
