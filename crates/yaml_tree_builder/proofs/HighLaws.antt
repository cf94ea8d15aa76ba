-- Roots of which some may be too high.
use Rattle.std.proofs.Common.{◌≡◌, inl, inr, ℕ, zero, suc, ◌+◌, ◌<◌, ◌≤◌, Bool, true, false, List, [], ◌∷◌, length, refl, sym, ◌∙◌, subst, arith}
use Rattle.std.specs.Prelude.{Some}
use Rattle.std.specs.List.{slice_get}
use Rattle.std.proofs.lemmas.Bool.{cases_lt}
use Rattle.yaml_definitions.specs.model.Limits.{height_limit}
use Rattle.yaml_definitions.specs.model.Tree.{Tree, height}
use Rattle.yaml_tree.specs.TreeLists.{IsFirstTooHigh, AreLow}
use Rattle.yaml_tree.proofs.LowLaws.{Low, all-low}
use Rattle.yaml_tree_builder.specs.BuilderModel.{AllAt}

-- the tree of a root
pub root-tree : (ts : List Tree) (roots : List ℕ) (us : List Tree) (k i : ℕ) → AllAt ts roots us → slice_get roots k ≡ Some i → (t : Tree) × ((slice_get us k ≡ Some t) × (slice_get ts i ≡ Some t))
root-tree ts (j ∷ roots) (u ∷ us) zero i h e = (u, (refl, (let q : j ≡ i = cc in subst (λ z. slice_get ts z ≡ Some u) q h.0)))
root-tree ts (j ∷ roots) (u ∷ us) (suc k) i h e = root-tree ts roots us k i h.1 e
root-tree ts [] us k i h e = absurd (cc)
root-tree ts (j ∷ roots) [] k i h e = absurd h

pub roots-count : (ts : List Tree) (roots : List ℕ) (us : List Tree) → AllAt ts roots us → length us ≡ length roots
roots-count ts [] [] h = refl
roots-count ts (j ∷ roots) (u ∷ us) h = omega (arith, roots-count ts roots us h.1)
roots-count ts [] (u ∷ us) h = absurd h
roots-count ts (j ∷ roots) [] h = absurd h

-- the trees before a place are low
abbrev pub LowBefore : ℕ → List Tree → Type 0
LowBefore at us = (k : ℕ) (t : Tree) → k < at → slice_get us k ≡ Some t → height t ≤ height_limit

module _ (ts : List Tree) (roots : List ℕ) (us : List Tree) (at i : ℕ) (h : AllAt ts roots us) (e : slice_get roots at ≡ Some i) (low : LowBefore at us) where
  pub low-more : ((t : Tree) → slice_get ts i ≡ Some t → height t ≤ height_limit) → LowBefore (at + 1) us
  low-more here k t l a = elim (cases_lt k at) [
    | inl b ↦ low k t b a
    | inr b ↦ (
        let r = root-tree ts roots us at i h e in
        let q : at ≡ k = omega arith in
        let f : Some r.0 ≡ Some t = sym r.1.0 ∙ subst (λ z. slice_get us z ≡ Some t) (sym q) a in
        let g : r.0 ≡ t = cc in
        subst (λ z. height z ≤ height_limit) g (here r.0 r.1.1))
  ]

  pub first-here : ((t : Tree) → slice_get ts i ≡ Some t → height_limit < height t) → IsFirstTooHigh us at
  first-here here = let r = root-tree ts roots us at i h e in record { tree = r.0; is = r.1.0; high = here r.0 r.1.1; before = low }

low-list : (us : List Tree) → ((k : ℕ) (t : Tree) → slice_get us k ≡ Some t → height t ≤ height_limit) → Low height_limit us
low-list [] f = tt
low-list (u ∷ us) f = (f 0 u refl, low-list us (λ k t e. f (suc k) t e))

pub low-all-before : (us : List Tree) → ((k : ℕ) (t : Tree) → slice_get us k ≡ Some t → height t ≤ height_limit) → AreLow us
low-all-before us f = all-low height_limit us (low-list us f)

-- a test that fails where it would be true above
pub not-above : (b : Bool) (most n : ℕ) → b ≡ false → (most < n → b ≡ true) → n ≤ most
not-above b most n e f = elim (cases_lt most n) [ inl a ↦ (let q = f a in absurd (cc)) | inr a ↦ a ]
