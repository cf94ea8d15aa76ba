-- Numbers that differ, and entries in the order of their keys.
use Rattle.std.proofs.Common.{◌≡◌, inl, inr, ℕ, ◌<◌, Bool, true, false, List, length, map, get_or, slice_index, refl, sym, ◌∙◌, ap, subst, arith}
use Rattle.std.specs.Prelude.{Option, None, Some, MatchOption, Result, Ok, Err, IfOk}
use Rattle.std.specs.List.Sorted.{IsPermutation, IsSorted}
use Rattle.std.specs.Ordering.{nat_cmp, is_lt, is_eq, ordering_reverse}
use Rattle.std.specs.declared.cmp.Ordering.{Ordering}
use Rattle.std.specs.declared.cmp.Ordering.TheVariants.{Less, Equal, Greater}
use Rattle.std.proofs.lemmas.Cmp.{nat_cmp_total, tied_itself}
use Rattle.std.proofs.lemmas.List.{length-map}
use Rattle.std.proofs.lemmas.List.Sorted.{ranks_by, sorted_far}
use Rattle.std.proofs.lemmas.Map.Keys.{IsDistinct-from_apart, IsDistinct-IsPermutation, apart_from_distinct}
use Rattle.yaml_tree.specs.Numbered.{pair_cmp}
use Rattle.yaml_tree.specs.Places.{at, InOrder, AllRise, IsFirstEqual}
use Rattle.yaml_tree.proofs.Numbers.{pair_cmp-total, pair-upto, less-cmp, equal-cmp, greater-cmp}
use Rattle.yaml_tree.proofs.Lists.{get_or-any, get_or-map}
use Rattle.yaml_store_rank.specs.PartsModel.{KeysRise, Differ}

-- numbers that rise strictly in order differ
pub all-differ : (numbers : List ℕ) (order : List (ℕ × ℕ)) → InOrder numbers order → AllRise order → Differ numbers
all-differ numbers order is rise j k l m e =
    let a = is.whole j (omega arith) in
    let b = is.whole k m in
    let x : at order a.0 ≡ (slice_index numbers j, j) = get_or-any order a.0 (0, 0) (slice_index numbers j, j) a.1 ∙ a.2 in
    let y : at order b.0 ≡ (slice_index numbers k, k) = get_or-any order b.0 (0, 0) (slice_index numbers k, k) b.1 ∙ b.2 in
    by a.0 b.0 a.1 b.1 (ap (λ z. z.0) x) (ap (λ z. z.1) x) (ap (λ z. z.0) y) (ap (λ z. z.1) y) (nat_cmp a.0 b.0) refl
  where
    by : (f s : ℕ) → f < length order → s < length order → (at order f).0 ≡ slice_index numbers j → (at order f).1 ≡ j → (at order s).0 ≡ slice_index numbers k → (at order s).1 ≡ k → (o : Ordering) → nat_cmp f s ≡ o → ⊥
    by f s c d f0 f1 s0 s1 Less q = let r = rise f s (less-cmp f s q) d in omega arith
    by f s c d f0 f1 s0 s1 Equal q = let h : (at order f).1 ≡ (at order s).1 = ap (λ z. (at order z).1) (equal-cmp f s q) in omega arith
    by f s c d f0 f1 s0 s1 Greater q = let r = rise s f (greater-cmp f s q) c in omega arith

-- no two neighbours are equal, or the first two equal ones are told
pub equal-or-differ : (numbers : List ℕ) (order : List (ℕ × ℕ)) → InOrder numbers order → (equal : Option (ℕ × ℕ)) → MatchOption equal (AllRise order) (λ p. IsFirstEqual numbers p.0 p.1) → MatchOption equal (Differ numbers) (λ p. IsFirstEqual numbers p.0 p.1)
equal-or-differ numbers order is None h = all-differ numbers order is h
equal-or-differ numbers order is (Some p) h = h

-- ---- entries of which no two keys are equal

same_key : ℕ × ℕ → ℕ × ℕ → Bool
same_key p q = is_eq (nat_cmp p.0 q.0)

flips : (p q : ℕ × ℕ) → same_key p q ≡ same_key q p
unfolding same_key
flips p q = ap is_eq (nat_cmp_total.antisymm p.0 q.0) ∙ turn (nat_cmp q.0 p.0)
  where
    turn : (o : Ordering) → is_eq (ordering_reverse o) ≡ is_eq o
    turn Less = refl
    turn Equal = refl
    turn Greater = refl

unequal : (x y : ℕ) → (x ≡ y → ⊥) → is_eq (nat_cmp x y) ≡ false
unequal x y n = by (nat_cmp x y) refl
  where
    by : (o : Ordering) → nat_cmp x y ≡ o → is_eq o ≡ false
    by Less e = refl
    by Equal e = absurd (n (equal-cmp x y e))
    by Greater e = refl

-- sorted, they rise by their keys
pub sorted-rise : (old new : List (ℕ × ℕ)) → IsPermutation old new → IsSorted pair_cmp new → Differ (map (λ p. p.0) old) → KeysRise new
unfolding same_key
sorted-rise old new p s differ j k d l m =
    elim (pair-upto (get_or new j d) (get_or new k d) (sorted_far (λ x y. is_lt (pair_cmp x y)) (ranks_by pair_cmp-total (λ q. q)) new s j k d (omega arith) m)) [
      | inl h ↦ h
      | inr h ↦
          (let apart : is_eq (nat_cmp (get_or new j d).0 (get_or new k d).0) ≡ false = apart_from_distinct same_key new j k d (IsDistinct-IsPermutation same_key flips old new p (IsDistinct-from_apart same_key old olds)) l m in
          let same : is_eq (nat_cmp (get_or new j d).0 (get_or new k d).0) ≡ true = ap is_eq (subst (λ z. nat_cmp (get_or new j d).0 z ≡ Equal) h.0 (tied_itself nat_cmp_total (get_or new j d).0)) in
          let w : true ≡ false = sym same ∙ apart in
          absurd (cc))
    ]
  where
    key-at : (i : ℕ) (e : ℕ × ℕ) → i < length old → slice_index (map (λ q. q.0) old) i ≡ (get_or old i e).0
    key-at i e o = get_or-map (λ q. q.0) old i e 0 o

    olds : (i n : ℕ) (e : ℕ × ℕ) → i < n → n < length old → same_key (get_or old i e) (get_or old n e) ≡ false
    olds i n e o q = unequal (get_or old i e).0 (get_or old n e).0 (λ r. differ i n o (omega (arith, length-map old (λ (z : ℕ × ℕ). z.0))) (key-at i e (omega arith) ∙ (r ∙ sym (key-at n e q))))

pub arranged-or-equal : {E : Type 0} (old new : List (ℕ × ℕ)) (keys : List ℕ) → keys ≡ map (λ p. p.0) old → IsPermutation old new → IsSorted pair_cmp new → (r : Result (Option (ℕ × ℕ)) E) → IfOk r (λ equal. MatchOption equal (Differ keys) (λ p. IsFirstEqual keys p.0 p.1))
    → IfOk r (λ equal. MatchOption equal (IsPermutation old new × KeysRise new) (λ p. IsFirstEqual (map (λ q. q.0) old) p.0 p.1))
arranged-or-equal old new keys e p s (Ok None) h = (p, sorted-rise old new p s (subst Differ e h))
arranged-or-equal old new keys e p s (Ok (Some places)) h = subst (λ z. IsFirstEqual z places.0 places.1) e h
arranged-or-equal old new keys e p s (Err e2) h = h
