-- Lists of ranks stand as the numbers made of them do.
use Rattle.std.proofs.Common.{◌≡◌, ℕ, zero, suc, ◌+◌, ◌*◌, ◌<◌, List, [], ◌∷◌, refl, sym, ◌∙◌, ap, subst, arith}
use Rattle.std.specs.declared.cmp.Ordering.{Ordering}
use Rattle.std.specs.declared.cmp.Ordering.TheVariants.{Less, Equal, Greater}
use Rattle.std.specs.Ordering.{nat_cmp, ordering_then}
use Rattle.std.specs.Cmp.Lexicographic.{slice_cmp}
use Rattle.std.proofs.lemmas.Cmp.{tied_itself, nat_cmp_total}
use Rattle.yaml_definitions.proofs.OrderLaws.{then_assoc}
use Rattle.yaml_tree.specs.Numbered.{pair_cmp}
use Rattle.yaml_store_rank.specs.NumberKeys.{one_of, behind, two_of, joined, four_of, flat}
use Rattle.yaml_tree.proofs.Numbers.{cmp-less, cmp-greater, less-cmp, equal-cmp, greater-cmp}

-- a number of two digits stands as its digits do
pub digits-cmp : (b x y z w : ℕ) → y < b → w < b → nat_cmp (x * b + y) (z * b + w) ≡ ordering_then (nat_cmp x z) (nat_cmp y w)
digits-cmp b x y z w l m = by (nat_cmp x z) refl (nat_cmp y w) refl
  where
    above : (p q r : ℕ) → p < q → r < b → p * b + r < q * b
    above p zero r h k = absurd (omega arith)
    above zero (suc q) r h k = omega arith
    above (suc p) (suc q) r h k = let i = above p q r (omega arith) k in omega arith

    by : (o : Ordering) → nat_cmp x z ≡ o → (p : Ordering) → nat_cmp y w ≡ p → nat_cmp (x * b + y) (z * b + w) ≡ ordering_then o p
    by Less e p q = let h = above x z y (less-cmp x z e) l in cmp-less (x * b + y) (z * b + w) (omega arith)
    by Greater e p q = let h = above z x w (greater-cmp x z e) m in cmp-greater (x * b + y) (z * b + w) (omega arith)
    by Equal e p q = subst (λ i. nat_cmp (x * b + y) (i * b + w) ≡ p) (equal-cmp x z e) (same p q)
      where
        same : (o : Ordering) → nat_cmp y w ≡ o → nat_cmp (x * b + y) (x * b + w) ≡ o
        same Less f = let h = less-cmp y w f in cmp-less (x * b + y) (x * b + w) (omega arith)
        same Equal f = subst (λ i. nat_cmp (x * b + y) (x * b + i) ≡ Equal) (equal-cmp y w f) (tied_itself nat_cmp_total (x * b + y))
        same Greater f = let h = greater-cmp y w f in cmp-greater (x * b + y) (x * b + w) (omega arith)

suc-cmp : (x y : ℕ) → nat_cmp (suc x) (suc y) ≡ nat_cmp x y
suc-cmp x y = by (nat_cmp x y) refl
  where
    by : (o : Ordering) → nat_cmp x y ≡ o → nat_cmp (suc x) (suc y) ≡ o
    by Less e = let h = less-cmp x y e in cmp-less (suc x) (suc y) (omega arith)
    by Equal e = subst (λ z. nat_cmp (suc x) (suc z) ≡ Equal) (equal-cmp x y e) (tied_itself nat_cmp_total (suc x))
    by Greater e = let h = greater-cmp x y e in cmp-greater (suc x) (suc y) (omega arith)

-- the first numbers, and then what stands behind them
one-cmp : (xs ys : List ℕ) → slice_cmp nat_cmp xs ys ≡ ordering_then (nat_cmp (one_of xs) (one_of ys)) (slice_cmp nat_cmp (behind xs) (behind ys))
one-cmp [] [] = refl
one-cmp [] (y ∷ ys) = ap (λ o. ordering_then o (slice_cmp nat_cmp [] ys)) (sym (cmp-less 0 (suc y) (omega arith)))
one-cmp (x ∷ xs) [] = ap (λ o. ordering_then o (slice_cmp nat_cmp xs [])) (sym (cmp-greater (suc x) 0 (omega arith)))
one-cmp (x ∷ xs) (y ∷ ys) = ap (λ o. ordering_then o (slice_cmp nat_cmp xs ys)) (sym (suc-cmp x y))

-- no number is so high that one more does not fit in 32 bits
abbrev pub Fit : List ℕ → Type 0
Fit [] = Unit {0}
Fit (x ∷ xs) = (x < 4294967295) × Fit xs

second-fits : (xs : List ℕ) → Fit xs → one_of (behind xs) < 4294967296
second-fits [] f = omega arith
second-fits (x ∷ []) f = omega arith
second-fits (x ∷ (y ∷ xs)) f = let h = f.1.0 in omega arith

-- two numbers at a time
two-cmp : (xs ys : List ℕ) → Fit xs → Fit ys → ordering_then (nat_cmp (two_of xs) (two_of ys)) (slice_cmp nat_cmp (behind (behind xs)) (behind (behind ys))) ≡ slice_cmp nat_cmp xs ys
two-cmp xs ys f h =
    let rest : Ordering = slice_cmp nat_cmp (behind (behind xs)) (behind (behind ys)) in
    ap (λ o. ordering_then o rest) (digits-cmp 4294967296 (one_of xs) (one_of (behind xs)) (one_of ys) (one_of (behind ys)) (second-fits xs f) (second-fits ys h))
    ∙ (then_assoc (nat_cmp (one_of xs) (one_of ys)) (nat_cmp (one_of (behind xs)) (one_of (behind ys))) rest
    ∙ (ap (ordering_then (nat_cmp (one_of xs) (one_of ys))) (sym (one-cmp (behind xs) (behind ys))) ∙ sym (one-cmp xs ys)))

behind-fits : (xs : List ℕ) → Fit xs → Fit (behind xs)
behind-fits [] f = f
behind-fits (x ∷ xs) f = f.1

two-fits : (xs : List ℕ) → Fit xs → two_of xs < 18446744073709551616
two-fits [] f = omega arith
two-fits (x ∷ xs) f = let h = f.0 in let k = second-fits (x ∷ xs) f in omega arith

-- a number of 128 bits stands as its halves do
pub joined-cmp : (x y z w : ℕ) → y < 18446744073709551616 → w < 18446744073709551616 → nat_cmp (joined x y) (joined z w) ≡ ordering_then (nat_cmp x z) (nat_cmp y w)
joined-cmp x y z w l m = digits-cmp 18446744073709551616 x y z w l m

-- four numbers at a time
pub four-cmp : (xs ys : List ℕ) → Fit xs → Fit ys
    → ordering_then (nat_cmp (four_of xs) (four_of ys)) (slice_cmp nat_cmp (behind (behind (behind (behind xs)))) (behind (behind (behind (behind ys))))) ≡ slice_cmp nat_cmp xs ys
four-cmp xs ys f h =
    let a : List ℕ = behind (behind xs) in
    let b : List ℕ = behind (behind ys) in
    let fits : Fit a = behind-fits (behind xs) (behind-fits xs f) in
    let fit : Fit b = behind-fits (behind ys) (behind-fits ys h) in
    let rest : Ordering = slice_cmp nat_cmp (behind (behind a)) (behind (behind b)) in
    ap (λ o. ordering_then o rest) (joined-cmp (two_of xs) (two_of a) (two_of ys) (two_of b) (two-fits a fits) (two-fits b fit))
    ∙ (then_assoc (nat_cmp (two_of xs) (two_of ys)) (nat_cmp (two_of a) (two_of b)) rest
    ∙ (ap (ordering_then (nat_cmp (two_of xs) (two_of ys))) (two-cmp a b fits fit) ∙ two-cmp xs ys f h))

-- keys and values in turn stand as the pairs do
pub flat-cmp : (ps qs : List (ℕ × ℕ)) → slice_cmp nat_cmp (flat ps) (flat qs) ≡ slice_cmp pair_cmp ps qs
flat-cmp [] [] = refl
flat-cmp [] (q ∷ qs) = refl
flat-cmp (p ∷ ps) [] = refl
flat-cmp (p ∷ ps) (q ∷ qs) =
    ap (λ o. ordering_then (nat_cmp p.0 q.0) (ordering_then (nat_cmp p.1 q.1) o)) (flat-cmp ps qs)
    ∙ sym (then_assoc (nat_cmp p.0 q.0) (nat_cmp p.1 q.1) (slice_cmp pair_cmp ps qs))
