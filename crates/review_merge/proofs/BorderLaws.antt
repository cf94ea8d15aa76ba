-- The last place up to some byte at which a character ends.
use Rattle.std.proofs.Common.{inl, inr, ◌≡◌, ℕ, zero, suc, ◌<◌, ◌≤◌, ◌==◌, true, false, cond, nat_lt, List, length, subst, arith}
use Rattle.std.specs.Prelude.{slice_index}
use Rattle.std.specs.Str.{IsCharBoundary}
use Rattle.std.proofs.lemmas.Bool.{cond_both, cases_lt}
use Rattle.std.proofs.lemmas.Bool.Decides.{nat_tests}
use Rattle.yaml_path.specs.LineModel.{starts_char}
use Rattle.review_text.specs.Shown.{is_border, last_border}

border_true : (k n b : ℕ) → cond (nat_lt k n) (starts_char b) (k == n) ≡ true → (k ≤ n) × (k < n → 128 ≤ b → 192 ≤ b)
border_true k n b h = grind (arith, nat_tests)

border_false : (k n b : ℕ) → cond (nat_lt k n) (starts_char b) (k == n) ≡ false → k ≤ n → (k < n → 128 ≤ b → 192 ≤ b) → ⊥
border_false k n b h l f = grind (arith, nat_tests)

pub last_is : (text : List ℕ) (room k : ℕ) → k ≤ room → IsCharBoundary text k → ((i : ℕ) → k < i → i ≤ room → ¬ (IsCharBoundary text i)) → last_border text room ≡ k
last_is text zero k l b f = omega arith
last_is text (suc m) k l b f =
    cond_both (is_border text (suc m)) (suc m) (last_border text m) (λ z. z ≡ k)
    (λ e. elim (cases_lt k (suc m)) [ inl q ↦ absurd (f (suc m) q (omega arith) (border_true (suc m) (length text) (slice_index text (suc m)) e)) | inr q ↦ omega arith ])
    (λ e. elim (cases_lt k (suc m)) [
      | inl q ↦ last_is text m k (omega arith) b (λ i p r. f i p (omega arith))
      | inr q ↦ let n : k ≡ suc m = omega arith in let c = subst (IsCharBoundary text) n b in absurd (border_false (suc m) (length text) (slice_index text (suc m)) e c.0 c.1)
    ])
