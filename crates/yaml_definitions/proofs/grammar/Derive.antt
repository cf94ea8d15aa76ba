-- Small steps of a reading of a given text. A condition that computes is shown by `refl`.
use Rattle.std.proofs.Common.{◌≡◌, ℕ, zero, suc, ◌+◌, ◌<◌, Bool, true, false, not, ◌&&◌, ◌||◌, List, [], ◌∷◌, Option, Some, None, refl, sym, ◌∙◌, ap, subst, arith, inl, inr, ◌⊎◌}
use Rattle.std.specs.Prelude.{slice_get, ◌==◌, ◌-◌}
use Rattle.std.proofs.Math.Nat.{eq-or-lt_of_le}
use Rattle.std.proofs.lemmas.Bool.{false≢true}
use Rattle.yaml_definitions.specs.grammar.Rules.{Throughout, Stands, Behind, Begins, word, run}
use Rattle.yaml_definitions.specs.grammar.Characters.{is_break, b-break as brk}
use Rattle.yaml_definitions.specs.grammar.Separation.{StartsLine, DocumentMark, DocumentMarkOf, Unmarked, OneLine}
use Rattle.yaml_definitions.proofs.Members.{and_both, or_either}

-- ---- one character

abbrev pub misses : (ℕ → Bool) → Option ℕ → Bool
misses p None = true
misses p (Some c) = not (p c)

abbrev pub passes : (ℕ → Bool) → Option ℕ → Bool
passes p None = false
passes p (Some c) = p c

pub not_here : (cs : List ℕ) (p : ℕ → Bool) (i : ℕ) → misses p (slice_get cs i) ≡ true → Stands cs p i → ⊥
not_here cs p i m (c, e, t) = let a : not (p c) ≡ true = subst (λ x. misses p x ≡ true) e m in false≢true (sym (ap not t) ∙ a)

stands : (cs : List ℕ) (p : ℕ → Bool) (i : ℕ) (o : Option ℕ) → slice_get cs i ≡ o → passes p o ≡ true → Stands cs p i
stands cs p i None e h = absurd (false≢true h)
stands cs p i (Some c) e h = (c, e, h)

pub not_behind : (cs : List ℕ) (p : ℕ → Bool) (i : ℕ) → misses p (slice_get cs i) ≡ true → Behind cs p (i + 1) → ⊥
not_behind cs p i m (lt, s) = not_here cs p i m (subst (λ k. Stands cs p k) (let e : i + 1 - 1 ≡ i = omega arith in e) s)

-- for readings that tools/definitions/derive.py writes
pub not_behind_start : (cs : List ℕ) (p : ℕ → Bool) → Behind cs p 0 → ⊥
not_behind_start cs p (lt, s) = omega (arith, lt)

pub neither : {A B : Type 0} → (A → ⊥) → (B → ⊥) → A ⊎ B → ⊥
neither f g (inl a) = f a
neither f g (inr b) = g b

-- ---- several places

pub none_between : (P : ℕ → Type 0) (i : ℕ) → Throughout P i i
none_between P i k a b = absurd (let x : ⊥ = omega (arith, a, b) in x)

pub next_between : (P : ℕ → Type 0) (i j : ℕ) → P i → Throughout P (i + 1) j → Throughout P i j
next_between P i j h more k a b = pick (eq-or-lt_of_le a)
  where
    pick : (i ≡ k) ⊎ (i < k) → P k
    pick (inl e) = subst P e h
    pick (inr l) = more k (omega (arith, l)) b

-- the test, at each of n places from i
abbrev pub each : (ℕ → Bool) → ℕ → ℕ → Bool
each t i zero = true
each t i (suc n) = t i && each t (i + 1) n

each_between : (P : ℕ → Type 0) (t : ℕ → Bool) → ((k : ℕ) → t k ≡ true → P k) → (i n : ℕ) → each t i n ≡ true → Throughout P i (i + n)
each_between P t f i zero h = subst (λ j. Throughout P i j) (let e : i ≡ i + 0 = omega arith in e) (none_between P i)
each_between P t f i (suc n) h =
    let p = and_both (t i) (each t (i + 1) n) h in
    next_between P i (i + suc n) (f i p.0) (subst (λ j. Throughout P (i + 1) j) (let e : i + 1 + n ≡ i + suc n = omega arith in e) (each_between P t f (i + 1) n p.1))

pub stands_each : (cs : List ℕ) (p : ℕ → Bool) (i n : ℕ) → each (λ k. passes p (slice_get cs k)) i n ≡ true → run cs p i (i + n)
stands_each cs p i n h = (omega arith, each_between (Stands cs p) (λ k. passes p (slice_get cs k)) (λ k g. stands cs p k (slice_get cs k) refl g) i n h)

pub unbroken : (cs : List ℕ) (i n : ℕ) → each (λ k. misses is_break (slice_get cs k)) i n ≡ true → OneLine cs i (i + n)
unbroken cs i n h = each_between (λ k. Stands cs is_break k → ⊥) (λ k. misses is_break (slice_get cs k)) (λ k g. not_here cs is_break k g) i n h

-- ---- document marks

ends_break : (cs : List ℕ) (i j : ℕ) → brk cs i j → (k : ℕ) × Stands cs is_break k × (j ≡ k + 1)
unfolding brk is_break
ends_break cs i j (inl (k, (e, f), (g, h))) = (k, (10, g, refl), h)
ends_break cs i j (inr (inl (k, (e, f), (g, h)))) = (i, (13, e, refl), g ∙ f)
ends_break cs i j (inr (inr (k, (e, h), (g, f)))) = (k, (10, g, refl), f)

within_line : (cs : List ℕ) (i : ℕ) → misses is_break (slice_get cs i) ≡ true → StartsLine cs (i + 1) → ⊥
unfolding StartsLine
within_line cs i m (inl e) = omega (arith, e)
within_line cs i m (inr (k, b)) =
    let h = ends_break cs k (i + 1) b in
    not_here cs is_break i m (subst (λ l. Stands cs is_break l) (let e : h.0 ≡ i = omega (arith, h.2) in e) h.1)

-- fewer than three of the character stand there
abbrev pub fewer : ℕ → List ℕ → ℕ → Bool
fewer c cs i = misses (λ d. d == c) (slice_get cs i) || (misses (λ d. d == c) (slice_get cs (i + 1)) || misses (λ d. d == c) (slice_get cs (i + 2)))

-- a place where plainly no mark stands: inside a line, or before no three dashes or dots
abbrev pub is_clear : List ℕ → ℕ → Bool
is_clear cs zero = fewer 45 cs 0 && fewer 46 cs 0
is_clear cs (suc i) = misses is_break (slice_get cs i) || (fewer 45 cs (suc i) && fewer 46 cs (suc i))

not_begun : (cs : List ℕ) (c i : ℕ) → (c == c) ≡ true → fewer c cs i ≡ true → Begins (word cs (c ∷ c ∷ c ∷ [])) i → ⊥
not_begun cs c i r m (j, (k, (e, f), (l, (g, h), (n, (p, q), w)))) =
    let misses_at : ℕ → Bool = λ x. misses (λ d. d == c) (slice_get cs x) in
    let second : Stands cs (λ d. d == c) (i + 1) = (c, subst (λ x. slice_get cs x ≡ Some c) f g, r) in
    let third : Stands cs (λ d. d == c) (i + 2) = (c, subst (λ x. slice_get cs x ≡ Some c) (let two : l ≡ i + 2 = omega (arith, f, h) in two) p, r) in
    neither (λ a. not_here cs (λ d. d == c) i a (c, e, r))
    (λ b. neither (λ a. not_here cs (λ d. d == c) (i + 1) a second) (λ a. not_here cs (λ d. d == c) (i + 2) a third) (or_either (misses_at (i + 1)) (misses_at (i + 2)) b))
    (or_either (misses_at i) (misses_at (i + 1) || misses_at (i + 2)) m)

unlettered : (cs : List ℕ) (i : ℕ) → (fewer 45 cs i && fewer 46 cs i) ≡ true → DocumentMark cs i → ⊥
unfolding DocumentMark DocumentMarkOf
unlettered cs i h m =
    let p = and_both (fewer 45 cs i) (fewer 46 cs i) h in
    neither (λ d. not_begun cs 45 i refl p.0 d.1) (λ d. not_begun cs 46 i refl p.1 d.1) m

mark_starts : (cs : List ℕ) (i : ℕ) → DocumentMark cs i → StartsLine cs i
unfolding DocumentMark DocumentMarkOf
mark_starts cs i (inl m) = m.0
mark_starts cs i (inr m) = m.0

pub no_mark : (cs : List ℕ) (i : ℕ) → is_clear cs i ≡ true → DocumentMark cs i → ⊥
no_mark cs zero h m = unlettered cs zero h m
no_mark cs (suc i) h m =
    neither (λ a. within_line cs i a (subst (λ k. StartsLine cs k) (let e : suc i ≡ i + 1 = omega arith in e) (mark_starts cs (suc i) m)))
    (λ b. unlettered cs (suc i) b m)
    (or_either (misses is_break (slice_get cs i)) (fewer 45 cs (suc i) && fewer 46 cs (suc i)) h)

pub unmarked : (cs : List ℕ) (i n : ℕ) → each (is_clear cs) i n ≡ true → Unmarked cs i (i + n)
unmarked cs i n h = each_between (λ k. DocumentMark cs k → ⊥) (is_clear cs) (no_mark cs) i n h
