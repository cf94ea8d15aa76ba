-- Mappings: the order of their keys.
use Rattle.std.proofs.Common.{◌≡◌, ℕ, zero, suc, ◌+◌, ◌<◌, ◌≤◌, Bool, true, false, cond, List, [], ◌∷◌, ◌++◌, length, inl, inr, refl, sym, ◌∙◌, ap, subst, arith, length-append}
use Rattle.std.specs.Prelude.{Some, None}
use Rattle.std.specs.List.{slice_get}
use Rattle.std.proofs.lemmas.Option.{slice_get_within}
use Rattle.yaml_definitions.specs.model.Tree.{Tree, scalar, sequence, mapping, entry}
use Rattle.yaml_definitions.specs.model.Same.{same}
use Rattle.yaml_definitions.proofs.Equivalence.{same_sym}
use Rattle.yaml_tree.specs.TreeLists.{pairs}
use Rattle.yaml_tree.proofs.Lists.{get-more}
use Rattle.yaml_store_rank.specs.Forests.{Forests, count, tree, entries_at, IsRanked}
use Rattle.yaml_path.specs.Path.{part}
use Rattle.yaml_path.specs.Path as plain
use Rattle.yaml_path.specs.Ways.{Step, at_places, at_key, EndsPaired, StepBefore, join, key_place, pairs_in}
use Rattle.yaml_path.specs.Ways as ways
use Rattle.yaml_path.specs.declared.places.Places.{Places}
use Rattle.yaml_diff.specs.Listing.{EntriesBelow, RightCovers}
use Rattle.yaml_diff.proofs.ListParts.{get-side, get-behind}
use Rattle.yaml_diff.proofs.Shapes.{IsMapping, pairs-at, all-pairs, value-there, value-some, keys-apart}

none-some : {X : Type 0} {x : X} → None ≡ Some x → ⊥
none-some e = absurd (cc)

-- ---- mappings have no items

pub no-item : (t : Tree) → IsMapping t → (k : ℕ) → part t (plain.at_item k) ≡ None
no-item (scalar a x) m k = refl
no-item (sequence a ts) m k = let e = m.1 in absurd (cc)
no-item (mapping a ps) m k = refl

pub no-items : (t : Tree) → IsMapping t → ways.count (Some t) ≡ 0
no-items (scalar a x) m = refl
no-items (sequence a ts) m = let e = m.1 in absurd (cc)
no-items (mapping a ps) m = refl

-- and so no ends
pub no-ends : (t u : Tree) → IsMapping t → (ps : List Places) → EndsPaired ps (Some t) (Some u)
no-ends t u m ps = record {
  front = 0;
  fronts = λ k l. absurd (omega arith);
  front_end = λ s. none-some (sym (no-item t m 0) ∙ s.2);
  back = 0;
  backs = λ k m n l e f. absurd (omega arith);
  back_end = λ j k e f a b s. let c = no-items t m in absurd (omega (arith, e, c));
}

-- ---- places of keys

joined : (g : Forests) (xs ys : List (ℕ × ℕ)) → join (pairs (pairs-at g xs)) (pairs (pairs-at g ys)) ≡ pairs (pairs-at g (xs ++ ys))
joined g [] ys = refl
joined g (x ∷ xs) ys = ap (λ z. entry (tree g x.0) (tree g x.1) z) (joined g xs ys)

-- a key stands no later than an entry of it
key-most : (g : Forests) (xs : List (ℕ × ℕ)) (k : ℕ) (p : ℕ × ℕ) (x : Tree) → slice_get xs k ≡ Some p → same x (tree g p.0) ≡ true → key_place (pairs (pairs-at g xs)) x ≤ k
key-most g [] k p x e s = absurd (cc)
key-most g (q ∷ xs) k p x e s = by (same x (tree g q.0)) refl k e (λ j f. key-most g xs j p x f s)
  where
    by : (b : Bool) → same x (tree g q.0) ≡ b → (k : ℕ) → slice_get (q ∷ xs) k ≡ Some p → ((j : ℕ) → slice_get xs j ≡ Some p → key_place (pairs (pairs-at g xs)) x ≤ j) → cond b 0 (suc (key_place (pairs (pairs-at g xs)) x)) ≤ k
    by true h k e f = omega arith
    by false h zero e f = let v : q ≡ p = cc in let z : same x (tree g q.0) ≡ true = ap (λ y. same x (tree g y.0)) v ∙ s in absurd (cc)
    by false h (suc k) e f = let m = f k e in omega (arith, m)

-- and no sooner than behind entries of other keys
key-least : (g : Forests) (xs : List (ℕ × ℕ)) (k : ℕ) (x : Tree) → k ≤ length xs → ((j : ℕ) (p : ℕ × ℕ) → j < k → slice_get xs j ≡ Some p → same x (tree g p.0) ≡ true → ⊥) → k ≤ key_place (pairs (pairs-at g xs)) x
key-least g xs zero x l f = omega arith
key-least g [] (suc k) x l f = absurd (omega (arith, l))
key-least g (q ∷ xs) (suc k) x l f = by (same x (tree g q.0)) refl (key-least g xs k x (omega (arith, l)) (λ j p a e s. f (suc j) p (omega (arith, a)) e s))
  where
    by : (b : Bool) → same x (tree g q.0) ≡ b → k ≤ key_place (pairs (pairs-at g xs)) x → suc k ≤ cond b 0 (suc (key_place (pairs (pairs-at g xs)) x))
    by true h m = absurd (f 0 q (omega arith) refl h)
    by false h m = omega (arith, m)

module _ (g : Forests) (are : IsRanked g) (i j at : ℕ) (li : i < count g) (lj : j < count g) (p : ℕ × ℕ) where
  abbrev lefts : List (ℕ × ℕ)
  lefts = entries_at g i

  abbrev rights : List (ℕ × ℕ)
  rights = entries_at g j

  -- a key of an entry before a place of both stands before one that no entry up to there has
  places-before : (x : Tree) (k n : ℕ) (q : ℕ × ℕ) → slice_get (lefts ++ rights) k ≡ Some q → same x (tree g q.0) ≡ true → k < n → n ≤ length (lefts ++ rights) → ((m : ℕ) (q : ℕ × ℕ) → m < n → slice_get (lefts ++ rights) m ≡ Some q → same (tree g p.0) (tree g q.0) ≡ true → ⊥)
      → key_place (join (pairs_in (Some (tree g i))) (pairs_in (Some (tree g j)))) x < key_place (join (pairs_in (Some (tree g i))) (pairs_in (Some (tree g j)))) (tree g p.0)
  places-before x k n q e s l m other =
      let a = key-most g (lefts ++ rights) k q x e s in
      let b = key-least g (lefts ++ rights) n (tree g p.0) m other in
      let d : key_place (pairs (pairs-at g (lefts ++ rights))) x < key_place (pairs (pairs-at g (lefts ++ rights))) (tree g p.0) = omega (arith, a, b, l) in
      subst (λ z. key_place z x < key_place z (tree g p.0)) (sym (ap (λ z. join z (pairs_in (Some (tree g j)))) (all-pairs g are i li) ∙ ap (join (pairs (pairs-at g lefts))) (all-pairs g are j lj) ∙ joined g lefts rights)) d

  -- the keys of earlier entries stand before that of an entry of the left
  pub key-before : slice_get lefts at ≡ Some p → (ps : List Places) (s : Step) → EntriesBelow g i at s → StepBefore ps (Some (tree g i)) (Some (tree g j)) s (at_key (tree g p.0))
  key-before e ps (at_places q) c = absurd c
  key-before e ps (at_key x) c =
      let l = slice_get_within lefts at p e in
      places-before x c.0 at c.1 (get-more lefts rights c.0 c.1 c.3) (same_sym (tree g c.1.0) x c.4) c.2 (omega (arith, l, length-append lefts rights)) other
    where
      other : (k : ℕ) (q : ℕ × ℕ) → k < at → slice_get (lefts ++ rights) k ≡ Some q → same (tree g p.0) (tree g q.0) ≡ true → ⊥
      other k q m f s = elim (get-side lefts rights k q f) [
        | inl h ↦ keys-apart g are i li k at q p m h e (same_sym (tree g p.0) (tree g q.0) s)
        | inr h ↦ absurd (let l = slice_get_within lefts at p e in omega (arith, h.1, l, m))
      ]

  -- and all of them before that of an entry of the right alone
  pub right-key-before : slice_get rights at ≡ Some p → part (tree g i) (plain.at_key (tree g p.0)) ≡ None → (ps : List Places) (s : Step) → RightCovers g i j at s → StepBefore ps (Some (tree g i)) (Some (tree g j)) s (at_key (tree g p.0))
  right-key-before e n ps (at_places q) (inl c) = absurd c
  right-key-before e n ps (at_places q) (inr c) = absurd c
  right-key-before e n ps (at_key x) c = by c
    where
      most : length lefts + at ≤ length (lefts ++ rights)
      most = let l = slice_get_within rights at p e in omega (arith, l, length-append lefts rights)

      other : (k : ℕ) (q : ℕ × ℕ) → k < length lefts + at → slice_get (lefts ++ rights) k ≡ Some q → same (tree g p.0) (tree g q.0) ≡ true → ⊥
      other k q m f s = elim (get-side lefts rights k q f) [
        | inl h ↦ none-some (sym n ∙ value-there g are i li (tree g p.0) k q h s)
        | inr h ↦ keys-apart g are j lj h.0 at q p (omega (arith, h.1, m)) h.2 e (same_sym (tree g p.0) (tree g q.0) s)
      ]

      by : RightCovers g i j at (at_key x) → StepBefore ps (Some (tree g i)) (Some (tree g j)) (at_key x) (at_key (tree g p.0))
      by (inl c) =
          let f = value-some g are i li x c.0 c.1 in
          let m = slice_get_within lefts f.0 f.1 f.2 in
          places-before x f.0 (length lefts + at) f.1 (get-more lefts rights f.0 f.1 f.2) f.3 (omega (arith, m)) most other
      by (inr c) = places-before x (length lefts + c.0) (length lefts + at) c.1 (get-behind lefts rights c.0 c.1 c.3) (same_sym (tree g c.1.0) x c.4) (omega (arith, c.2)) most other
