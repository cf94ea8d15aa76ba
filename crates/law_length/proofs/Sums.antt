-- Sums over lists of trees of which no two are one.
use Rattle.std.proofs.Common.{◌≡◌, ℕ, ◌+◌, ◌≤◌, ◌⊎◌, inl, inr, List, [], ◌∷◌, ◌++◌, map, refl, sym, ◌∙◌, ap, subst, arith}
use Rattle.yaml_definitions.specs.model.Tree.{Tree}

-- it stands in the list
abbrev pub Among : Tree → List Tree → Type 0
Among t [] = ⊥
Among t (u ∷ l) = (t ≡ u) ⊎ Among t l

abbrev pub Apart : List Tree → Type 0
Apart [] = Unit {0}
Apart (t ∷ l) = (Among t l → ⊥) × Apart l

-- each of the first stands in the second
abbrev pub AllAmong : List Tree → List Tree → Type 0
AllAmong l s = (t : Tree) → Among t l → Among t s

unfoldable pub total : (Tree → ℕ) → List Tree → ℕ
total w [] = 0
total w (t ∷ l) = w t + total w l

-- the list without the one that stands there
abbrev without : (t : Tree) (s : List Tree) → Among t s → List Tree
without t [] i = []
without t (u ∷ s) (inl e) = s
without t (u ∷ s) (inr i) = u ∷ without t s i

total-without : (w : Tree → ℕ) (t : Tree) (s : List Tree) (i : Among t s) → total w s ≡ w t + total w (without t s i)
unfolding total
total-without w t [] i = absurd i
total-without w t (u ∷ s) (inl e) = ap (λ z. w z + total w s) (sym e)
total-without w t (u ∷ s) (inr i) = omega (arith, total-without w t s i)

still : (t u : Tree) (s : List Tree) (i : Among t s) → Among u s → (t ≡ u → ⊥) → Among u (without t s i)
still t u [] i j n = absurd i
still t u (v ∷ s) (inl e) (inl q) n = absurd (n (e ∙ sym q))
still t u (v ∷ s) (inl e) (inr j) n = j
still t u (v ∷ s) (inr i) (inl q) n = inl q
still t u (v ∷ s) (inr i) (inr j) n = inr (still t u s i j n)

-- Trees of which no two are one weigh no more than any list in which they all stand.
pub total-among : (w : Tree → ℕ) (l s : List Tree) → Apart l → AllAmong l s → total w l ≤ total w s
unfolding total
total-among w [] s a h = omega arith
total-among w (t ∷ l) s a h =
    let i = h t (inl refl) in
    let rest : AllAmong l (without t s i) = λ u j. still t u s i (h u (inr j)) (λ e. a.0 (subst (λ z. Among z l) (sym e) j)) in
    omega (arith, total-without w t s i, total-among w l (without t s i) a.1 rest)

-- ---- joining

pub among_left : (t : Tree) (l m : List Tree) → Among t l → Among t (l ++ m)
among_left t [] m i = absurd i
among_left t (u ∷ l) m (inl e) = inl e
among_left t (u ∷ l) m (inr i) = inr (among_left t l m i)

pub among_right : (t : Tree) (l m : List Tree) → Among t m → Among t (l ++ m)
among_right t [] m i = i
among_right t (u ∷ l) m i = inr (among_right t l m i)

pub among_either : (t : Tree) (l m : List Tree) → Among t (l ++ m) → Among t l ⊎ Among t m
among_either t [] m i = inr i
among_either t (u ∷ l) m (inl e) = inl (inl e)
among_either t (u ∷ l) m (inr i) = elim (among_either t l m i) [ inl j ↦ inl (inr j) | inr j ↦ inr j ]

pub among_map : (f : Tree → Tree) (t : Tree) (l : List Tree) → Among t l → Among (f t) (map f l)
among_map f t [] i = absurd i
among_map f t (u ∷ l) (inl e) = inl (ap f e)
among_map f t (u ∷ l) (inr i) = inr (among_map f t l i)

pub apart_join : (l m : List Tree) → Apart l → Apart m → ((t : Tree) → Among t l → Among t m → ⊥) → Apart (l ++ m)
apart_join [] m a b n = b
apart_join (t ∷ l) m a b n =
    (λ i. elim (among_either t l m i) [ inl j ↦ a.0 j | inr j ↦ n t (inl refl) j ], apart_join l m a.1 b (λ u i j. n u (inr i) j))

pub total-join : (w : Tree → ℕ) (l m : List Tree) → total w (l ++ m) ≡ total w l + total w m
unfolding total
total-join w [] m = omega arith
total-join w (t ∷ l) m = omega (arith, total-join w l m)

pub total-map : (w : Tree → ℕ) (f : Tree → Tree) (l : List Tree) → ((t : Tree) → w (f t) ≡ w t) → total w (map f l) ≡ total w l
unfolding total
total-map w f [] e = refl
total-map w f (t ∷ l) e = omega (arith, e t, total-map w f l e)
