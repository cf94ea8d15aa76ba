-- The places that are told under numbers.
use Rattle.std.proofs.Common.{inl, inr, ◌≡◌, ℕ, ◌<◌, List, length, get_or, sym, ◌∙◌, ap, subst, arith}
use Rattle.std.specs.List.{Contains, HoldsAt}
use Rattle.std.specs.List.Sorted.{IsNonDecreasingBy, IsPartitionPoint}
use Rattle.std.specs.Ordering.{nat_cmp, ordering_index}
use Rattle.std.specs.declared.cmp.Ordering.TheVariants.{Less, Equal, Greater}
use Rattle.std.proofs.lemmas.Cmp.{ranked}
use Rattle.std.proofs.lemmas.Bool.{cases_lt}
use Rattle.std.proofs.lemmas.Bool.Decides.{nat_tests}
use Rattle.std.proofs.lemmas.List.Elements.{Contains-get_or}
use Rattle.yaml_path.specs.declared.place.Place.{Place}

-- ---- a search by a number

pub told_there : (l : List (ℕ × Place)) (k at : ℕ) (x : ℕ × Place) → at < length l → HoldsAt (λ t. nat_cmp t.0 k ≡ Equal) l at → x ≡ get_or l at x → Contains l (k, x.1)
told_there l k at x lt h e =
    let n : (get_or l at x).0 ≡ k = ranked _ k _ (sym (h x)) in
    let q : get_or l at x ≡ (k, x.1) = sym e ∙ (λ i. ((ap (λ (z : ℕ × Place). z.0) e ∙ n) i, x.1)) in
    subst (Contains l) q (Contains-get_or l at x lt)

rises : (l : List (ℕ × Place)) (k : ℕ) → IsNonDecreasingBy (λ t. t.0) l → IsNonDecreasingBy (λ t. ordering_index (nat_cmp t.0 k)) l
rises l k sorted i j d le lt = let h = sorted i j d le lt in grind (arith, nat_tests)

pub told_nowhere : (l : List (ℕ × Place)) (k at : ℕ) → IsNonDecreasingBy (λ t. t.0) l → (IsNonDecreasingBy (λ t. ordering_index (nat_cmp t.0 k)) l → IsPartitionPoint (λ t. nat_cmp t.0 k ≡ Less) (λ t. nat_cmp t.0 k ≡ Greater) l at)
    → (p : Place) → Contains l (k, p) → ⊥
told_nowhere l k at sorted parted p c =
    let h = parted (rises l k sorted) in
    let n : (get_or l c.0 (k, p)).0 ≡ k = ap (λ z. z.0) c.2 in
    elim (cases_lt c.0 at) [
      | inl q ↦ let r : (get_or l c.0 (k, p)).0 < k = ranked _ k _ (sym (h.0 c.0 (k, p) (omega arith) q)) in omega (arith, n, r)
      | inr q ↦ let r : k < (get_or l c.0 (k, p)).0 = ranked _ k _ (sym (h.1 c.0 (k, p) q c.1)) in omega (arith, n, r)
    ]
