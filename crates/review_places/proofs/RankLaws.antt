-- The keys of a mapping by their ranks.
use Rattle.std.proofs.Common.{◌≡◌, inl, inr, ◌<◌, ℕ, refl, sym, ◌∙◌, ap, arith}
use Rattle.std.specs.Prelude.{Option, Some, None}
use Rattle.std.specs.List.{slice_get}
use Rattle.std.proofs.lemmas.Bool.{cases_lt}
use Rattle.std.proofs.lemmas.Option.{slice_get-get_or, slice_get_within}
use Rattle.yaml_tree.specs.Insides.{Held}
use Rattle.yaml_store_rank.specs.Forests.{Forests, count, rank, entries_held, entries_at, IsRanked}
use Rattle.yaml_diff.proofs.Shapes.{entry-below, keys-apart}

pub some-is : {X : Type 0} {x y : X} → Some x ≡ Some y → x ≡ y
some-is e = cc

module _ (f : Forests) (are : IsRanked f) (i : ℕ) where
  -- an entry is one of a node
  has-node : (k : ℕ) (p : ℕ × ℕ) → slice_get (entries_at f i) k ≡ Some p → i < count f
  has-node k p e = by (slice_get f.nodes i) refl
    where
      by : (o : Option Held) → slice_get f.nodes i ≡ o → i < count f
      by (Some n) h = slice_get_within f.nodes i n h
      by None h = (let q : None ≡ Some p = ap (λ z. slice_get (entries_held z) k) (sym h) ∙ e in absurd (cc))

  -- its key is a node before it
  key-within : (k : ℕ) (p : ℕ × ℕ) → slice_get (entries_at f i) k ≡ Some p → p.0 < count f
  key-within k p e =
      let l = has-node k p e in
      let b = entry-below f are i l k p e in
      omega (arith, b.0, l)

  -- so it has a rank
  pub key-rank : (k : ℕ) (p : ℕ × ℕ) → slice_get (entries_at f i) k ≡ Some p → slice_get f.ranks p.0 ≡ Some (rank f p.0)
  key-rank k p e = let l = key-within k p e in slice_get-get_or f.ranks p.0 0 (omega (arith, l, are.long))

  apart : (j k : ℕ) (p q : ℕ × ℕ) → j < k → slice_get (entries_at f i) j ≡ Some p → slice_get (entries_at f i) k ≡ Some q → rank f p.0 ≡ rank f q.0 → ⊥
  apart j k p q l a b e = keys-apart f are i (has-node j p a) j k p q l a b ((are.ranked p.0 q.0 (key-within j p a) (key-within k q b)).0.0 e)

  -- and no other key of the mapping has this rank
  pub one-place : (j k : ℕ) (p q : ℕ × ℕ) → slice_get (entries_at f i) j ≡ Some p → slice_get (entries_at f i) k ≡ Some q → slice_get f.ranks p.0 ≡ slice_get f.ranks q.0 → j ≡ k
  one-place j k p q a b e =
      let r : rank f p.0 ≡ rank f q.0 = some-is (sym (key-rank j p a) ∙ e ∙ key-rank k q b) in
      elim (cases_lt j k) [ inl l ↦ absurd (apart j k p q l a b r) | inr m ↦ elim (cases_lt k j) [ inl l ↦ absurd (apart k j q p l b a (sym r)) | inr n ↦ omega (arith, m, n) ] ]
