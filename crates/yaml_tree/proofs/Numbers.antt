-- Comparisons of numbers and of pairs of them.
use Rattle.std.proofs.Common.{◌≡◌, ◌⊎◌, inl, inr, ℕ, ◌<◌, ◌≤◌, false, refl, sym, ◌∙◌, ap, subst, arith}
use Rattle.std.specs.declared.cmp.Ordering.{Ordering}
use Rattle.std.specs.declared.cmp.Ordering.TheVariants.{Less, Equal, Greater}
use Rattle.std.specs.Ordering.{nat_cmp, MatchOrdering, is_lt, ordering_reverse}
use Rattle.std.specs.Cmp.{IsTotalOrder}
use Rattle.std.proofs.lemmas.Cmp.{ranked, nat_cmp_total, on_total, then_total}
use Rattle.yaml_tree.specs.Numbered.{pair_cmp}

pub cmp-less : (x y : ℕ) → x < y → nat_cmp x y ≡ Less
cmp-less x y h = by (nat_cmp x y) refl
  where
    by : (o : Ordering) → nat_cmp x y ≡ o → nat_cmp x y ≡ Less
    by Less e = e
    by Equal e = let q : x ≡ y = subst (λ (o : Ordering). MatchOrdering o (x < y) (x ≡ y) (y < x)) e (ranked x y (nat_cmp x y) refl) in absurd (omega arith)
    by Greater e = let q : y < x = subst (λ (o : Ordering). MatchOrdering o (x < y) (x ≡ y) (y < x)) e (ranked x y (nat_cmp x y) refl) in absurd (omega arith)

pub less-cmp : (x y : ℕ) → nat_cmp x y ≡ Less → x < y
less-cmp x y e = subst (λ (o : Ordering). MatchOrdering o (x < y) (x ≡ y) (y < x)) e (ranked x y (nat_cmp x y) refl)

pub equal-cmp : (x y : ℕ) → nat_cmp x y ≡ Equal → x ≡ y
equal-cmp x y e = subst (λ (o : Ordering). MatchOrdering o (x < y) (x ≡ y) (y < x)) e (ranked x y (nat_cmp x y) refl)

pub greater-cmp : (x y : ℕ) → nat_cmp x y ≡ Greater → y < x
greater-cmp x y e = subst (λ (o : Ordering). MatchOrdering o (x < y) (x ≡ y) (y < x)) e (ranked x y (nat_cmp x y) refl)

pub cmp-greater : (x y : ℕ) → y < x → nat_cmp x y ≡ Greater
cmp-greater x y h = nat_cmp_total.antisymm x y ∙ ap ordering_reverse (cmp-less y x h)

-- below, or not
pub below_or : (x y : ℕ) → (x < y) ⊎ (y ≤ x)
below_or x y = by (nat_cmp x y) refl
  where
    by : (o : Ordering) → nat_cmp x y ≡ o → (x < y) ⊎ (y ≤ x)
    by Less e = inl (less-cmp x y e)
    by Equal e = let w = equal-cmp x y e in inr (omega arith)
    by Greater e = let w = greater-cmp x y e in inr (omega arith)

pub pair_cmp-total : IsTotalOrder pair_cmp
pair_cmp-total = then_total (on_total (λ p. p.0) nat_cmp_total) (on_total (λ p. p.1) nat_cmp_total)

-- a pair that is not above another
pub pair-upto : (p q : ℕ × ℕ) → is_lt (pair_cmp q p) ≡ false → (p.0 < q.0) ⊎ ((p.0 ≡ q.0) × (p.1 ≤ q.1))
pair-upto p q h = by (nat_cmp q.0 p.0) (nat_cmp q.1 p.1) refl refl h
  where
    by : (a b : Ordering) → nat_cmp q.0 p.0 ≡ a → nat_cmp q.1 p.1 ≡ b → is_lt (Rattle.std.specs.Ordering.ordering_then a b) ≡ false → (p.0 < q.0) ⊎ ((p.0 ≡ q.0) × (p.1 ≤ q.1))
    by Less b e f g = absurd (cc)
    by Greater b e f g = inl (greater-cmp q.0 p.0 e)
    by Equal Less e f g = absurd (cc)
    by Equal Equal e f g = let y = equal-cmp q.0 p.0 e in let z = equal-cmp q.1 p.1 f in inr (sym y, omega arith)
    by Equal Greater e f g = let y = equal-cmp q.0 p.0 e in let z = greater-cmp q.1 p.1 f in inr (sym y, omega arith)
