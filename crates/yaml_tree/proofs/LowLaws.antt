-- Trees of which none is higher than a limit.
use Rattle.std.proofs.Common.{◌≡◌, ◌<◌, ◌≤◌, ℕ, zero, suc, List, [], ◌∷◌, length, map, get_or, refl, arith}
use Rattle.std.specs.List.{All}
use Rattle.yaml_definitions.specs.model.Limits.{height_limit}
use Rattle.yaml_definitions.specs.model.Tree.{Tree, height}
use Rattle.yaml_tree.specs.TreeLists.{cut}

-- none of the trees is higher
abbrev pub Low : ℕ → List Tree → Type 0
Low h [] = Unit {0}
Low h (t ∷ ts) = (height t ≤ h) × Low h ts

-- low trees are not cut
pub uncut : (ts : List Tree) → Low height_limit ts → map cut ts ≡ map height ts
uncut [] k = refl
uncut (t ∷ ts) k = let e : cut t ≡ height t = omega arith in λ z. e z ∷ uncut ts k.1 z

pub all-low : (h : ℕ) (ts : List Tree) → Low h ts → All (λ t. height t ≤ h) ts
all-low h [] k = λ i d l. absurd (omega arith)
all-low h (t ∷ ts) k = λ i d l. low-at h t ts k i d l
  where
    low-at : (h : ℕ) (t : Tree) (ts : List Tree) → Low h (t ∷ ts) → (i : ℕ) (d : Tree) → i < length (t ∷ ts) → height (get_or (t ∷ ts) i d) ≤ h
    low-at h t ts k zero d l = k.0
    low-at h t [] k (suc i) d l = absurd (omega arith)
    low-at h t (u ∷ ts) k (suc i) d l = low-at h u ts k.1 i d (omega arith)

pub heights-low : (h : ℕ) (ts : List Tree) → Low h ts → All (λ n. n ≤ h) (map height ts)
heights-low h [] k = λ i d l. absurd (omega arith)
heights-low h (t ∷ ts) k = λ i d l. low-at h t ts k i d l
  where
    low-at : (h : ℕ) (t : Tree) (ts : List Tree) → Low h (t ∷ ts) → (i : ℕ) (d : ℕ) → i < length (map height (t ∷ ts)) → get_or (map height (t ∷ ts)) i d ≤ h
    low-at h t ts k zero d l = k.0
    low-at h t [] k (suc i) d l = absurd (omega arith)
    low-at h t (u ∷ ts) k (suc i) d l = low-at h u ts k.1 i d (omega arith)

-- one by one, from all at once
pub low-each : (h : ℕ) (ts : List Tree) → All (λ t. height t ≤ h) ts → Low h ts
low-each h [] a = tt
low-each h (t ∷ ts) a = (a 0 t (omega arith), low-each h ts (λ i d l. a (suc i) d (omega arith)))
