-- Places of tags.
use Rattle.std.proofs.Common.{Bor, ◌≡◌, inl, inr, ℕ, suc, ◌<◌, ◌≤◌, true, ◌||◌, List, [], ◌∷◌, length, get_or, refl, sym, ◌∙◌, ap, subst, arith}
use Rattle.std.specs.Prelude.{Some, Err}
use Rattle.std.specs.List.{slice_get, list_any}
use Rattle.std.specs.List.Sorted.{IsStrictlySortedBy, IsBinarySearchResult}
use Rattle.std.specs.BTreeMap.{is_at}
use Rattle.std.specs.declared.cmp.Ordering.{Ordering}
use Rattle.std.specs.declared.cmp.Ordering.TheVariants.{Less, Equal, Greater}
use Rattle.std.specs.Ordering.{nat_cmp, is_eq, ordering_index, ordering_reverse}
use Rattle.std.specs.Cmp.{IsTotalOrder}
use Rattle.std.proofs.lemmas.Cmp.{nat_list_cmp_total, on_total, tied_itself}
use Rattle.std.proofs.lemmas.Map.Keys.{Less-from_sorted}
use Rattle.std.proofs.lemmas.Map.Lookups.{exact_bytes}
use Rattle.std.proofs.lemmas.Option.{get_or_from_slice_get}
use Rattle.yaml_definitions.specs.model.Order.{bytes_cmp}
use Rattle.yaml_tree.specs.Tags.{Texts, text_cmp, IsTagAt, IsListed, TagsRise}
use Rattle.yaml_tree.proofs.Numbers.{less-cmp, equal-cmp, greater-cmp, below_or}
use Rattle.yaml_tree.proofs.Numbering.{get-there, get-within, one-there}

abbrev Text : Type 0
Text = Bor (List ℕ)

text-total : IsTotalOrder text_cmp
text-total = on_total (λ t. t.now) nat_list_cmp_total

-- a tag that was found stands somewhere
pub found-place : (xs : Texts) (t : Text) → list_any (is_at (text_cmp t)) xs ≡ true → IsListed xs t.now
found-place [] t h = absurd (cc)
found-place (x ∷ xs) t h = by (text_cmp t x) refl h (found-place xs t)
  where
    by : (o : Ordering) → text_cmp t x ≡ o → (is_eq (text_cmp t x) || list_any (is_at (text_cmp t)) xs) ≡ true → (list_any (is_at (text_cmp t)) xs ≡ true → IsListed xs t.now) → IsListed (x ∷ xs) t.now
    by Less e h later = let r = later (sym (ap (λ z. is_eq z || list_any (is_at (text_cmp t)) xs) e) ∙ h) in (suc r.0, r.1)
    by Equal e h later = (0, (x, refl, sym (exact_bytes t.now x.now e)))
    by Greater e h later = let r = later (sym (ap (λ z. is_eq z || list_any (is_at (text_cmp t)) xs) e) ∙ h) in (suc r.0, r.1)

pub tags-rise : (xs : Texts) → IsStrictlySortedBy text_cmp xs → TagsRise xs
tags-rise xs s j k x y l a b =
    subst (λ z. text_cmp z y ≡ Less) (get_or_from_slice_get xs j x x a)
    (subst (λ z. text_cmp (get_or xs j x) z ≡ Less) (get_or_from_slice_get xs k y x b) (Less-from_sorted text_cmp xs j k x s l (get-within xs k y b)))

-- places stand as their tags do
pub tags-agree : (xs : Texts) → TagsRise xs → (p q : ℕ) (g h : List ℕ) → IsTagAt xs p g → IsTagAt xs q h → nat_cmp p q ≡ bytes_cmp g h
tags-agree xs rise p q g h a b = by (nat_cmp p q) refl
  where
    texts : bytes_cmp a.0.now b.0.now ≡ bytes_cmp g h
    texts = λ z. bytes_cmp (a.2 z) (b.2 z)

    by : (o : Ordering) → nat_cmp p q ≡ o → nat_cmp p q ≡ bytes_cmp g h
    by Less e = e ∙ (sym (rise p q a.0 b.0 (less-cmp p q e) a.1 b.1) ∙ texts)
    by Equal e =
        let same : a.0 ≡ b.0 = one-there xs q a.0 b.0 (subst (λ m. slice_get xs m ≡ Some a.0) (equal-cmp p q e) a.1) b.1 in
        e ∙ (sym (subst (λ z. text_cmp a.0 z ≡ Equal) same (tied_itself text-total a.0)) ∙ texts)
    by Greater e = e ∙ (sym (text-total.antisymm a.0 b.0 ∙ ap ordering_reverse (rise q p b.0 a.0 (greater-cmp p q e) b.1 a.1)) ∙ texts)

-- ---- a search for a tag that is there

module _ (xs : Texts) (rise : TagsRise xs) (tag : Text) where
  answers-rise : (i j : ℕ) (d : Text) → i ≤ j → j < length xs → ordering_index (text_cmp (get_or xs i d) tag) ≤ ordering_index (text_cmp (get_or xs j d) tag)
  answers-rise i j d l m = by (nat_cmp i j) refl
    where
      x : Text
      x = get_or xs i d

      y : Text
      y = get_or xs j d

      up : text_cmp x y ≡ Less → (o : Ordering) → text_cmp x tag ≡ o → ordering_index (text_cmp x tag) ≤ ordering_index (text_cmp y tag)
      up s Less e = subst (λ z. ordering_index z ≤ ordering_index (text_cmp y tag)) (sym e) (omega arith)
      up s Equal e =
          let f : text_cmp y tag ≡ Greater = text-total.antisymm y tag ∙ ap ordering_reverse (sym (text-total.congr x tag y e) ∙ s) in
          subst (λ z. ordering_index z ≤ ordering_index (text_cmp y tag)) (sym e) (subst (λ z. 1 ≤ ordering_index z) (sym f) (omega arith))
      up s Greater e =
          let b : text_cmp tag x ≡ Less = text-total.antisymm tag x ∙ ap ordering_reverse e in
          let f : text_cmp y tag ≡ Greater = text-total.antisymm y tag ∙ ap ordering_reverse (text-total.trans tag x y b s) in
          subst (λ z. ordering_index z ≤ ordering_index (text_cmp y tag)) (sym e) (subst (λ z. 2 ≤ ordering_index z) (sym f) (omega arith))

      by : (o : Ordering) → nat_cmp i j ≡ o → ordering_index (text_cmp x tag) ≤ ordering_index (text_cmp y tag)
      by Less e = up (rise i j x y (less-cmp i j e) (get-there xs i d (omega arith)) (get-there xs j d m)) (text_cmp x tag) refl
      by Equal e = subst (λ z. ordering_index (text_cmp x tag) ≤ ordering_index (text_cmp (get_or xs z d) tag)) (equal-cmp i j e) (omega arith)
      by Greater e = let g = greater-cmp i j e in absurd (omega arith)

  pub never-missed : IsListed xs tag.now → (i : ℕ) → IsBinarySearchResult (λ y. text_cmp y tag) xs (Err i) → ⊥
  never-missed has i r =
      let k = has.0 in
      let x = has.1.0 in
      let there : get_or xs k x ≡ x = get_or_from_slice_get xs k x x has.1.1 in
      let found : text_cmp (get_or xs k x) tag ≡ Equal = ap (λ z. text_cmp z tag) there ∙ (ap (λ z. bytes_cmp z tag.now) has.1.2 ∙ tied_itself nat_list_cmp_total tag.now) in
      let parts = r answers-rise in
      elim (below_or k i) [
        | inl l ↦ (let e : text_cmp (get_or xs k x) tag ≡ Less = parts.0 k x (omega arith) l in let n : Equal ≡ Less = sym found ∙ e in absurd (cc))
        | inr l ↦ (let e : text_cmp (get_or xs k x) tag ≡ Greater = parts.1 k x l (get-within xs k x has.1.1) in let n : Equal ≡ Greater = sym found ∙ e in absurd (cc))
      ]
