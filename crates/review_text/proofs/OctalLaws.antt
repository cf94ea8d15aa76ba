-- Digits of base 8 are another number in base 10 exactly where two are left behind their zeros.
use Rattle.std.proofs.Common.{◌≡◌, ◌<◌, ◌==◌, ◌&&◌, ◌+◌, ◌*◌, ◌-◌, ℕ, suc, Bool, true, false, not, cond, nat_lt, List, [], ◌∷◌, length, codes, Some, refl, sym, ◌∙◌, ap, subst, arith}
use Rattle.std.proofs.lemmas.Option.{none-some, cond_some}
use Rattle.review_text.specs.Yaml11.{has, after_one, all_of, behind_all, number_behind, octal}

zero_is : (c : ℕ) → has (codes "0") c ≡ true → c ≡ 48
zero_is c h = grind (arith, h)

above_zero : (c : ℕ) → has (codes "01234567") c ≡ true → has (codes "0") c ≡ false → 48 < c
above_zero c h k = grind (arith, h, k)

-- a smaller beginning is the smaller number
stays_below : (m n : ℕ) (x : List ℕ) → m < n → number_behind 8 m x < number_behind 10 n x
stays_below m n [] h = h
stays_below m n (c ∷ x) h = stays_below (m * 8 + (c - 48)) (n * 10 + (c - 48)) x (omega (arith, h))

apart : (m n : ℕ) → m < n → not (m == n) ≡ true
apart m n h = grind (arith, h)

alike : (m n : ℕ) → m ≡ n → not (m == n) ≡ false
alike m n h = grind (arith, h)

both : (a b : Bool) → (a && b) ≡ true → (a ≡ true) × (b ≡ true)
both true true h = (refl, refl)
both true false h = (refl, h)
both false true h = (h, refl)
both false false h = (h, h)

two : (n : ℕ) → nat_lt 1 (suc (suc n)) ≡ true
two n = grind arith

-- with a first digit that is not 0
led : (c : ℕ) (x : List ℕ) → 48 < c → not (number_behind 8 (0 * 8 + (c - 48)) x == number_behind 10 (0 * 10 + (c - 48)) x) ≡ nat_lt 1 (suc (length x))
led c [] h = alike _ _ (omega arith)
led c (d ∷ x) h = apart _ _ (stays_below ((0 * 8 + (c - 48)) * 8 + (d - 48)) ((0 * 10 + (c - 48)) * 10 + (d - 48)) x (omega (arith, h))) ∙ sym (two (length x))

differs_by : (b : Bool) (c : ℕ) (x : List ℕ) → has (codes "0") c ≡ b → has (codes "01234567") c ≡ true → not (number_behind 8 0 x == number_behind 10 0 x) ≡ nat_lt 1 (length (behind_all (codes "0") x))
    → not (number_behind 8 (0 * 8 + (c - 48)) x == number_behind 10 (0 * 10 + (c - 48)) x) ≡ nat_lt 1 (length (cond b (behind_all (codes "0") x) (c ∷ x)))
differs_by true c x e h k = subst (λ c. not (number_behind 8 (0 * 8 + (c - 48)) x == number_behind 10 (0 * 10 + (c - 48)) x) ≡ nat_lt 1 (length (behind_all (codes "0") x))) (sym (zero_is c e)) k
differs_by false c x e h k = led c x (above_zero c h e)

differs : (x : List ℕ) → all_of (codes "01234567") x ≡ true → not (number_behind 8 0 x == number_behind 10 0 x) ≡ nat_lt 1 (length (behind_all (codes "0") x))
differs [] h = refl
differs (c ∷ x) h =
    let parts = both (has (codes "01234567") c) (all_of (codes "01234567") x) h in
    differs_by (has (codes "0") c) c x refl parts.0 (differs x parts.1)

octal_behind : (x : List ℕ) → all_of (codes "01234567") x ≡ true → octal (48 ∷ x) ≡ nat_lt 1 (length (behind_all (codes "0") x))
octal_behind [] h = refl
octal_behind (c ∷ x) h = ap (λ b. b && not (number_behind 8 0 (c ∷ x) == number_behind 10 0 (c ∷ x))) h ∙ differs (c ∷ x) h

pub octal_is : (u x : List ℕ) → after_one (codes "0") u ≡ Some x → all_of (codes "01234567") x ≡ true → nat_lt 1 (length (behind_all (codes "0") x)) ≡ octal u
octal_is [] x f h = absurd (none-some x f)
octal_is (c ∷ y) x f h =
    let cut = cond_some (has (codes "0") c) y x f in
    sym (subst (λ c. octal (c ∷ y) ≡ nat_lt 1 (length (behind_all (codes "0") x))) (sym (zero_is c cut.0))
    (subst (λ y. octal (48 ∷ y) ≡ nat_lt 1 (length (behind_all (codes "0") x))) (sym cut.1) (octal_behind x h)))
