-- Each rank is measured at the node that stands for it, in the order of nodes.
use Rattle.std.proofs.Common.{◌≡◌, ◌≢◌, inl, inr, ℕ, ◌+◌, ◌-◌, ◌<◌, ◌++◌, List, take, length, sym, ap, ◌∙◌, arith}
use Rattle.std.proofs.lemmas.List.{get_or-set_other, length-append, length-replicate, length-take}
use Rattle.std.proofs.lemmas.Grind.{get_or-set_at}
use Rattle.std.proofs.lemmas.Bool.{cases_lt, cases_eq}
use Rattle.std.specs.Prelude.{slice_index, replicate, set}

-- the ranks whose node stands before this one are measured
abbrev pub Measured : (ℕ → ℕ) → List ℕ → List ℕ → ℕ → Type 0
Measured len first shorts node = (r : ℕ) → r < length first → slice_index first r < node → slice_index shorts r ≡ len r

-- the node of a rank has it
abbrev pub Owned : List ℕ → List ℕ → Type 0
Owned ranks first = (r : ℕ) → r < length first → slice_index ranks (slice_index first r) ≡ r

pub zeros-long : (xs : List ℕ) (n m : ℕ) → length xs ≡ 0 → m ≡ 0 → length (take n xs ++ replicate {A = ℕ} (n - m) 0) ≡ n
zeros-long xs n m e f = omega (arith, length-append (take n xs) (replicate {A = ℕ} (n - m) 0), length-take n xs, length-replicate {A = ℕ} (n - m) 0, e, f)

module _ (len : ℕ → ℕ) (ranks first shorts : List ℕ) (node q : ℕ) (own : Owned ranks first) (at : q ≡ slice_index ranks node) (m : Measured len first shorts node) where
  -- a node that stands for no rank
  pub measured-other : slice_index first q ≢ node → Measured len first shorts (node + 1)
  measured-other n r l e = elim (cases_lt (slice_index first r) node) [
    | inl b ↦ m r l b
    | inr b ↦
        let here : slice_index first r ≡ node = omega (arith, e, b) in
        let same : r ≡ q = sym (own r l) ∙ ap (slice_index ranks) here ∙ sym at in
        absurd (n (ap (slice_index first) (sym same) ∙ here))
  ]

  -- one that does, which is measured now
  pub measured-first : (v : ℕ) (new : List ℕ) → slice_index first q ≡ node → q < length shorts → new ≡ set shorts q v → v ≡ len q → Measured len first new (node + 1)
  measured-first v new f w n is r l e = elim (cases_eq r q) [
    | inl same ↦ ap (λ z. slice_index z r) n ∙ get_or-set_at shorts q r v 0 same w ∙ is ∙ ap len (sym same)
    | inr other ↦ elim (cases_lt (slice_index first r) node) [
      | inl b ↦ ap (λ z. slice_index z r) n ∙ get_or-set_other shorts q r v 0 other ∙ m r l b
      | inr b ↦
          let here : slice_index first r ≡ node = omega (arith, e, b) in
          absurd (other (sym (own r l) ∙ ap (slice_index ranks) here ∙ sym at))
    ]
  ]
