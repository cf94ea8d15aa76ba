-- Texts stand as the numbers of their first bytes do.
use Rattle.std.proofs.Common.{◌≡◌, ◌⊎◌, inl, inr, ℕ, zero, suc, ◌+◌, ◌*◌, ◌<◌, ◌≤◌, min, List, [], ◌∷◌, length, slice_index, refl, sym, ◌∙◌, ap, subst, arith}
use Rattle.std.specs.declared.cmp.Ordering.{Ordering}
use Rattle.std.specs.declared.cmp.Ordering.TheVariants.{Less, Equal, Greater}
use Rattle.std.specs.Ordering.{nat_cmp, ordering_then, ordering_reverse}
use Rattle.std.proofs.lemmas.Cmp.{nat_list_cmp_total, tied_itself, nat_cmp_total}
use Rattle.yaml_definitions.specs.model.Order.{bytes_cmp}
use Rattle.yaml_tree.specs.PrefixModel.{front, IsPrefix, IsRest}
use Rattle.yaml_tree.proofs.Numbers.{cmp-less, cmp-greater, less-cmp, equal-cmp, greater-cmp, below_or}

-- the first bytes that differ decide
front-less : (k : ℕ) (a b : List ℕ) → ((j : ℕ) → j < k → slice_index a j ≡ slice_index b j) → slice_index a k < slice_index b k → bytes_cmp a b ≡ Less
front-less k [] [] e l = absurd (omega arith)
front-less k [] (y ∷ b) e l = refl
front-less k (x ∷ a) [] e l = absurd (omega arith)
front-less zero (x ∷ a) (y ∷ b) e l = ap (λ o. ordering_then o (bytes_cmp a b)) (cmp-less x y l)
front-less (suc k) (x ∷ a) (y ∷ b) e l =
    let q : x ≡ y = e 0 (omega arith) in
    ap (λ o. ordering_then o (bytes_cmp a b)) (subst (λ z. nat_cmp x z ≡ Equal) q (tied_itself nat_cmp_total x)) ∙ front-less k a b (λ j m. e (suc j) (omega arith)) l

front-greater : (k : ℕ) (a b : List ℕ) → ((j : ℕ) → j < k → slice_index a j ≡ slice_index b j) → slice_index b k < slice_index a k → bytes_cmp a b ≡ Greater
front-greater k a b e l = nat_list_cmp_total.antisymm a b ∙ ap ordering_reverse (front-less k b a (λ j m. sym (e j m)) l)

-- a text that goes on where the other ends stands behind it
shorter-less : (k : ℕ) (a b : List ℕ) → ((j : ℕ) → j < k → slice_index a j ≡ slice_index b j) → length a ≤ k → length a < length b → bytes_cmp a b ≡ Less
shorter-less k [] [] e l m = absurd (omega arith)
shorter-less k [] (y ∷ b) e l m = refl
shorter-less k (x ∷ a) [] e l m = absurd (omega arith)
shorter-less zero (x ∷ a) (y ∷ b) e l m = absurd (omega arith)
shorter-less (suc k) (x ∷ a) (y ∷ b) e l m =
    let q : x ≡ y = e 0 (omega arith) in
    ap (λ o. ordering_then o (bytes_cmp a b)) (subst (λ z. nat_cmp x z ≡ Equal) q (tied_itself nat_cmp_total x)) ∙ shorter-less k a b (λ j n. e (suc j) (omega arith)) (omega arith) (omega arith)

longer-greater : (k : ℕ) (a b : List ℕ) → ((j : ℕ) → j < k → slice_index a j ≡ slice_index b j) → length b ≤ k → length b < length a → bytes_cmp a b ≡ Greater
longer-greater k a b e l m = nat_list_cmp_total.antisymm a b ∙ ap ordering_reverse (shorter-less k b a (λ j n. sym (e j n)) l m)

-- texts of one length, all of whose bytes agree
same-texts : (k : ℕ) (a b : List ℕ) → ((j : ℕ) → j < k → slice_index a j ≡ slice_index b j) → length a ≤ k → length a ≡ length b → a ≡ b
same-texts k [] [] e l m = refl
same-texts k [] (y ∷ b) e l m = absurd (omega arith)
same-texts k (x ∷ a) [] e l m = absurd (omega arith)
same-texts zero (x ∷ a) (y ∷ b) e l m = absurd (omega arith)
same-texts (suc k) (x ∷ a) (y ∷ b) e l m =
    let q : x ≡ y = e 0 (omega arith) in
    let r : a ≡ b = same-texts k a b (λ j n. e (suc j) (omega arith)) (omega arith) (omega arith) in
    λ z. q z ∷ r z

module _ (a b : List ℕ) (small : (k : ℕ) → slice_index a k < 256) (few : (k : ℕ) → slice_index b k < 256) where
  alike : (k : ℕ) → front k a ≡ front k b → (j : ℕ) → j < k → slice_index a j ≡ slice_index b j
  alike zero e j l = absurd (omega arith)
  alike (suc k) e j l =
      let s = small k in
      let t = few k in
      let f : front k a ≡ front k b = omega arith in
      let g : slice_index a k ≡ slice_index b k = omega arith in
      by f g (alike k f) (nat_cmp j k) refl
    where
      by : front k a ≡ front k b → slice_index a k ≡ slice_index b k → ((i : ℕ) → i < k → slice_index a i ≡ slice_index b i) → (o : Ordering) → nat_cmp j k ≡ o → slice_index a j ≡ slice_index b j
      by f g r Less q = r j (less-cmp j k q)
      by f g r Equal q = subst (λ z. slice_index a z ≡ slice_index b z) (sym (equal-cmp j k q)) g
      by f g r Greater q = let h = greater-cmp j k q in absurd (omega arith)

  -- the number decides, or nothing
  front-decides : (k : ℕ) → (nat_cmp (front k a) (front k b) ≡ bytes_cmp a b) ⊎ (front k a ≡ front k b)
  front-decides zero = inr refl
  front-decides (suc k) = by (front-decides k) (nat_cmp (front k a) (front k b)) refl (nat_cmp (slice_index a k) (slice_index b k)) refl
    where
      x : ℕ
      x = slice_index a k

      y : ℕ
      y = slice_index b k

      same : front k a ≡ front k b → (o : Ordering) → nat_cmp x y ≡ o → (nat_cmp (front k a * 256 + x) (front k b * 256 + y) ≡ bytes_cmp a b) ⊎ (front k a * 256 + x ≡ front k b * 256 + y)
      same f Less e = let l = less-cmp x y e in inl (cmp-less (front k a * 256 + x) (front k b * 256 + y) (omega arith) ∙ sym (front-less k a b (alike k f) l))
      same f Equal e = let q = equal-cmp x y e in inr (omega arith)
      same f Greater e = let l = greater-cmp x y e in inl (cmp-greater (front k a * 256 + x) (front k b * 256 + y) (omega arith) ∙ sym (front-greater k a b (alike k f) l))

      by : (nat_cmp (front k a) (front k b) ≡ bytes_cmp a b) ⊎ (front k a ≡ front k b) → (o : Ordering) → nat_cmp (front k a) (front k b) ≡ o → (p : Ordering) → nat_cmp x y ≡ p
          → (nat_cmp (front k a * 256 + x) (front k b * 256 + y) ≡ bytes_cmp a b) ⊎ (front k a * 256 + x ≡ front k b * 256 + y)
      by (inr f) o e p q = same f p q
      by (inl f) Less e p q =
          let l = less-cmp (front k a) (front k b) e in
          let s = small k in
          inl (cmp-less (front k a * 256 + x) (front k b * 256 + y) (omega arith) ∙ (sym e ∙ f))
      by (inl f) Equal e p q = same (equal-cmp (front k a) (front k b) e) p q
      by (inl f) Greater e p q =
          let l = greater-cmp (front k a) (front k b) e in
          let s = few k in
          inl (cmp-greater (front k a * 256 + x) (front k b * 256 + y) (omega arith) ∙ (sym e ∙ f))

  -- so many first bytes and the length, and then what they leave to compare, stand as the texts do
  module _ (k : ℕ) (room : k < 255) (r s : List ℕ) (left : (length a ≤ k → r ≡ []) × (k < length a → r ≡ a)) (right : (length b ≤ k → s ≡ []) × (k < length b → s ≡ b)) where
    abbrev pub m : ℕ
    m = min (length a) (suc k)

    abbrev pub n : ℕ
    n = min (length b) (suc k)

    abbrev pub Told : Type 0
    Told = ordering_then (nat_cmp (front k a * 256 + m) (front k b * 256 + n)) (bytes_cmp r s) ≡ bytes_cmp a b

    less : front k a * 256 + m < front k b * 256 + n → bytes_cmp a b ≡ Less → Told
    less l e = ap (λ o. ordering_then o (bytes_cmp r s)) (cmp-less (front k a * 256 + m) (front k b * 256 + n) l) ∙ sym e

    greater : front k b * 256 + n < front k a * 256 + m → bytes_cmp a b ≡ Greater → Told
    greater l e = ap (λ o. ordering_then o (bytes_cmp r s)) (cmp-greater (front k a * 256 + m) (front k b * 256 + n) l) ∙ sym e

    rests : front k a ≡ front k b → m ≡ n → bytes_cmp r s ≡ bytes_cmp a b
    rests f e = elim (below_or k (length a)) [
      | inl h ↦ (λ z. bytes_cmp (left.1 h z) (right.1 (omega arith) z))
      | inr h ↦ (let t : a ≡ b = same-texts k a b (alike k f) h (omega arith) in
          (λ z. bytes_cmp (left.0 h z) (right.0 (omega arith) z)) ∙ sym (subst (λ z. bytes_cmp a z ≡ Equal) t (tied_itself nat_list_cmp_total a)))
    ]

    ends : front k a ≡ front k b → (o : Ordering) → nat_cmp m n ≡ o → Told
    ends f Less e = let l = less-cmp m n e in less (omega arith) (shorter-less k a b (alike k f) (omega arith) (omega arith))
    ends f Equal e =
        let q = equal-cmp m n e in
        let same : front k a * 256 + m ≡ front k b * 256 + n = omega arith in
        ap (λ o. ordering_then o (bytes_cmp r s)) (subst (λ z. nat_cmp (front k a * 256 + m) z ≡ Equal) same (tied_itself nat_cmp_total (front k a * 256 + m))) ∙ rests f q
    ends f Greater e = let l = greater-cmp m n e in greater (omega arith) (longer-greater k a b (alike k f) (omega arith) (omega arith))

    decided : (o : Ordering) → nat_cmp (front k a) (front k b) ≡ o → (nat_cmp (front k a) (front k b) ≡ bytes_cmp a b) ⊎ (front k a ≡ front k b) → Told
    decided o e (inr f) = ends f (nat_cmp m n) refl
    decided Less e (inl d) = let l = less-cmp (front k a) (front k b) e in less (omega arith) (sym d ∙ e)
    decided Equal e (inl d) = ends (equal-cmp (front k a) (front k b) e) (nat_cmp m n) refl
    decided Greater e (inl d) = let l = greater-cmp (front k a) (front k b) e in greater (omega arith) (sym d ∙ e)

    pub told-cmp : Told
    told-cmp = decided (nat_cmp (front k a) (front k b)) refl (front-decides k)

-- the prefixes, and then the rests, stand as the texts do
pub prefixed-cmp : (a b r s : List ℕ) (p q : ℕ) → IsPrefix a p → IsPrefix b q → IsRest a r → IsRest b s → ordering_then (nat_cmp p q) (bytes_cmp r s) ≡ bytes_cmp a b
prefixed-cmp a b r s p q x y left right =
    (λ z. ordering_then (nat_cmp (x.is z) (y.is z)) (bytes_cmp r s)) ∙ told-cmp a b x.bytes y.bytes 15 (omega arith) r s (left.short, left.long) (right.short, right.long)
