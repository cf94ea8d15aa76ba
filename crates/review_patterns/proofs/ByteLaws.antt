-- Tests of bytes.
use Rattle.std.proofs.Common.{◌≡◌, ℕ, ◌==◌, ◌⊎◌, inl, inr, Bool, true, false, not, ◌&&◌, ◌||◌, refl, sym, ◌∙◌, ap, subst, arith}
use Rattle.std.proofs.lemmas.Bool.Decides.{nat_tests}

pub is : (a b : ℕ) → (a == b) ≡ true → a ≡ b
is a b t = grind (arith, nat_tests, t)

pub never : {X : Type 0} (b : Bool) → b ≡ true → b ≡ false → X
never b h k = absurd (cc)

pub or-cases : (a b : Bool) → (a || b) ≡ true → (a ≡ true) ⊎ (b ≡ true)
or-cases true b h = inl refl
or-cases false b h = inr h

pub and-left : (a b : Bool) → (a && b) ≡ true → a ≡ true
and-left true b h = refl
and-left false b h = h

pub and-right : (a b : Bool) → (a && b) ≡ true → b ≡ true
and-right true b h = h
and-right false b h = never false h refl

pub and-both : (a b : Bool) → a ≡ true → b ≡ true → (a && b) ≡ true
and-both a b h k = ap (λ z. z && b) h ∙ k

pub not-true : (b : Bool) → not b ≡ true → b ≡ false
not-true true h = sym h
not-true false h = refl

-- what holds of two bytes holds of one that is either
pub among : (P : ℕ → Type 0) (c n m : ℕ) → ((c == n) || (c == m)) ≡ true → P n → P m → P c
among P c n m h p q = by (or-cases (c == n) (c == m) h)
  where
    by : ((c == n) ≡ true) ⊎ ((c == m) ≡ true) → P c
    by (inl e) = subst P (sym (is c n e)) p
    by (inr e) = subst P (sym (is c m e)) q
