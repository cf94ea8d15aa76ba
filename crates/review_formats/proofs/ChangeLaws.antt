-- Texts without what stands at an end.
use Rattle.std.proofs.Common.{◌≡◌, ◌≢◌, ℕ, ◌==◌, true, false, List, [], ◌∷◌, ◌++◌, refl, ap, arith}
use Rattle.std.specs.Prelude.{cond}
use Rattle.std.proofs.lemmas.Bool.Decides.{nat_tests}
use Rattle.review_formats.specs.Changes.{without_last, without_tab}

module _ (last : ℕ) where
  pub end_off : (text : List ℕ) → without_last last (text ++ (last ∷ [])) ≡ text
  end_off [] = let same : (last == last) ≡ true = grind (arith, nat_tests) in ap (λ z. cond z [] (last ∷ [])) same
  end_off (b ∷ []) = let same : (last == last) ≡ true = grind (arith, nat_tests) in ap (λ z. b ∷ cond z [] (last ∷ [])) same
  end_off (b ∷ c ∷ text) = ap (λ z. b ∷ z) (end_off (c ∷ text))

  pub end_kept : (text : List ℕ) → ((front : List ℕ) → text ≢ front ++ (last ∷ [])) → without_last last text ≡ text
  end_kept [] h = refl
  end_kept (b ∷ []) h =
      elim (b == last) as (λ v. (b == last) ≡ v → cond v [] (b ∷ []) ≡ b ∷ []) [
        | true ↦ λ e. let is : b ≡ last = grind (arith, nat_tests) in absurd (h [] (ap (λ z. z ∷ []) is))
        | false ↦ λ e. refl
      ] refl
  end_kept (b ∷ c ∷ text) h = ap (λ z. b ∷ z) (end_kept (c ∷ text) (λ front e. h (b ∷ front) (ap (λ z. b ∷ z) e)))

pub tab_off : (line rest : List ℕ) → line ≡ 9 ∷ rest → without_tab line ≡ rest
tab_off line rest e = ap without_tab e

pub tab_kept : (line : List ℕ) → ((rest : List ℕ) → line ≢ 9 ∷ rest) → without_tab line ≡ line
tab_kept [] h = refl
tab_kept (b ∷ line) h =
    elim (b == 9) as (λ v. (b == 9) ≡ v → cond v line (b ∷ line) ≡ b ∷ line) [
      | true ↦ λ e. let is : b ≡ 9 = grind (arith, nat_tests) in absurd (h line (ap (λ z. z ∷ line) is))
      | false ↦ λ e. refl
    ] refl
