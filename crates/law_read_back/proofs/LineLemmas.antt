-- Lines of a text: where they start and end, and that no mark begins them.
use Rattle.std.proofs.Common.{◌≡◌, ℕ, ◌+◌, ◌-◌, ◌<◌, ◌≤◌, ◌⊎◌, nat_lt, Bool, true, false, inl, inr, Some, List, ◌++◌, slice_get, refl, subst, arith}
use Rattle.std.proofs.lemmas.Bool.Decides.{nat_tests}
use Rattle.std.proofs.Math.Nat.{eq-or-lt_of_le}
use Rattle.yaml_definitions.specs.grammar.Rules.{run, Stands, Spans}
use Rattle.yaml_definitions.specs.grammar.Characters.{is_nb, is_break, is_space, b-break as brk}
use Rattle.yaml_definitions.specs.grammar.Separation.{Ctx, block_out, block_in, flow_out, flow_in, block_key, flow_key, s-separate-in-line as sep, s-separate as separate, s-separate-lines as separate_lines, StartsLine, OneLine, DocumentMark, DocumentMarkOf, Unmarked, b-comment as line_end, s-b-comment as s_b_comment, s-l-comments as s_l_comments}
use Rattle.law_read_back.proofs.PlaceLemmas.{Pass, pass_join, same_at, false_true}

-- ---- no break stands inside

abbrev pub Solid : List ℕ → Type 0
Solid = Pass is_nb

pub join : (xs ys : List ℕ) → Solid xs → Solid ys → Solid (xs ++ ys)
join = pass_join is_nb

ascii_nb : (c : ℕ) → 32 ≤ c → is_nb c ≡ true
unfolding is_nb is_break
ascii_nb c h = grind (arith, nat_tests)

pub a_nb : (c : ℕ) → 32 ≤ c → is_nb c ≡ true
a_nb = ascii_nb

module _ (cs : List ℕ) where
  -- ---- a space parts

  one_space : (i : ℕ) → slice_get cs i ≡ Some 32 → sep cs i (i + 1)
  unfolding sep is_space
  one_space i e = inl ((omega arith, λ k l m. let q : i ≡ k = omega (arith, l, m) in (32, subst (λ z. slice_get cs z ≡ Some 32) q e, refl)), omega arith)

  pub apart : (n : ℕ) (c : Ctx) (i : ℕ) → slice_get cs i ≡ Some 32 → separate cs n c i (i + 1)
  unfolding separate separate_lines
  apart n block_out i e = inr (one_space i e)
  apart n block_in i e = inr (one_space i e)
  apart n flow_out i e = inr (one_space i e)
  apart n flow_in i e = inr (one_space i e)
  apart n block_key i e = one_space i e
  apart n flow_key i e = one_space i e

  pub parted_by : (i : ℕ) → slice_get cs i ≡ Some 32 → sep cs i (i + 1)
  parted_by = one_space

  -- ---- lines

  -- a character that is no break stands just before
  abbrev pub Calm : ℕ → Type 0
  Calm i = (0 < i) × Stands cs is_nb (i - 1)

  pub calm_run : (i j : ℕ) → Calm i → run cs is_nb i j → Calm j
  calm_run i j n a = pick (eq-or-lt_of_le a.0)
    where
      pick : (i ≡ j) ⊎ (i < j) → Calm j
      pick (inl e) = subst Calm e n
      pick (inr l) = (omega (arith, l), a.1 (j - 1) (omega (arith, l)) (omega (arith, l)))

  pub calm_after : (i c : ℕ) → slice_get cs i ≡ Some c → is_nb c ≡ true → Calm (i + 1)
  calm_after i c e n = let q : i ≡ i + 1 - 1 = omega arith in (omega arith, (c, subst (λ z. slice_get cs z ≡ Some c) q e, n))

  pub below_or_not : (a b : ℕ) → (a < b) ⊎ (b ≤ a)
  below_or_not a b = by (nat_lt a b) refl
    where
      by : (t : Bool) → nat_lt a b ≡ t → (a < b) ⊎ (b ≤ a)
      by true e = inl (let h : a < b = grind (arith, nat_tests, e) in h)
      by false e = inr (let h : b ≤ a = grind (arith, nat_tests, e) in h)

  pub run_on : (i k j : ℕ) → run cs is_nb i k → run cs is_nb k j → run cs is_nb i j
  run_on i k j f g = (omega (arith, f.0, g.0), λ m a b. pick m a b (below_or_not m k))
    where
      pick : (m : ℕ) → i ≤ m → m < j → (m < k) ⊎ (k ≤ m) → Stands cs is_nb m
      pick m a b (inl h) = f.1 m a h
      pick m a b (inr h) = g.1 m h b

  pub run_one : (i c : ℕ) → slice_get cs i ≡ Some c → is_nb c ≡ true → run cs is_nb i (i + 1)
  run_one i c e n = (omega arith, λ k a b. let q : i ≡ k = omega (arith, a, b) in (c, subst (λ z. slice_get cs z ≡ Some c) q e, n))

  nb_break : (i c d : ℕ) → slice_get cs i ≡ Some c → is_nb c ≡ true → slice_get cs i ≡ Some d → is_nb d ≡ false → ⊥
  nb_break i c d e n f b = false_true (is_nb d) b (subst (λ z. is_nb z ≡ true) (same_at cs i c d e f) n)

  pub one_line : (i j : ℕ) → run cs is_nb i j → OneLine cs i j
  unfolding is_nb
  one_line i j r k a b (d, g, h) =
      let s = r.1 k a b in
      let e = same_at cs k s.0 d s.1 g in
      let f : is_nb d ≡ true = subst (λ z. is_nb z ≡ true) e s.2 in
      let n : is_nb d ≡ false = rw h refl in
      false_true (is_nb d) n f

  unbroken : (i k : ℕ) → Calm k → brk cs i k → ⊥
  unfolding brk is_nb is_break
  unbroken i k (l, (c, e, n)) (inl (m, (g, h), (p, q))) = let w : m ≡ k - 1 = omega (arith, q) in nb_break (k - 1) c 10 e n (subst (λ z. slice_get cs z ≡ Some 10) w p) refl
  unbroken i k (l, (c, e, n)) (inr (inl (m, (g, h), (p, q)))) = let w : i ≡ k - 1 = omega (arith, h, p) in nb_break (k - 1) c 13 e n (subst (λ z. slice_get cs z ≡ Some 13) w g) refl
  unbroken i k (l, (c, e, n)) (inr (inr (m, (g, h), (p, q)))) = let w : m ≡ k - 1 = omega (arith, q) in nb_break (k - 1) c 10 e n (subst (λ z. slice_get cs z ≡ Some 10) w p) refl

  -- no line starts there
  pub unstarted : (k : ℕ) → Calm k → StartsLine cs k → ⊥
  unfolding StartsLine
  unstarted k n (inl z) = omega (arith, n.0, z)
  unstarted k n (inr (i, b)) = unbroken i k n b

  unmark : (k : ℕ) → Calm k → DocumentMark cs k → ⊥
  unfolding DocumentMark DocumentMarkOf
  unmark k n (inl m) = unstarted k n m.0
  unmark k n (inr m) = unstarted k n m.0

  calm_inside : (i j k : ℕ) → Calm i → run cs is_nb i j → i ≤ k → k ≤ j → Calm k
  calm_inside i j k n r a b = calm_run i k n (a, λ m c d. r.1 m c (omega (arith, d, b)))

  -- no line but perhaps the first starts up to the break
  pub rest_unmarked : (i j : ℕ) → Calm i → run cs is_nb i j → Unmarked cs i (j + 1)
  rest_unmarked i j n r k a b = unmark k (calm_inside i j k n r a (omega (arith, b)))

  pub both_unmarked : (i m j : ℕ) → Unmarked cs i m → Unmarked cs m j → Unmarked cs i j
  both_unmarked i m j f g k a b = pick (below_or_not k m)
    where
      pick : (k < m) ⊎ (m ≤ k) → DocumentMark cs k → ⊥
      pick (inl h) = f k a h
      pick (inr h) = g k h b

  -- ---- a line feed

  pub feed : (i : ℕ) → Calm i → slice_get cs i ≡ Some 10 → brk cs i (i + 1)
  unfolding brk is_nb is_break
  feed i (l, (c, e, n)) g = inr (inr (i, (refl, λ (m, (d, f, h)). let q : d ≡ 13 = grind (arith, nat_tests, h) in nb_break (i - 1) c 13 e n (subst (λ z. slice_get cs (i - 1) ≡ Some z) q f) refl), (g, refl)))

  pub line_starts : (i : ℕ) → Calm i → slice_get cs i ≡ Some 10 → StartsLine cs (i + 1)
  unfolding StartsLine
  line_starts i n g = inr (i, feed i n g)

  -- a line feed ends a node's line
  pub line_ends : (i : ℕ) → Calm i → slice_get cs i ≡ Some 10 → s_l_comments cs i (i + 1)
  unfolding s_l_comments s_b_comment line_end
  line_ends i n g = (i + 1, inl (i, inl refl, inl (feed i n g)), Spans.done refl)

  -- so does a space and a line feed
  pub spaced_end : (i : ℕ) → slice_get cs i ≡ Some 32 → slice_get cs (i + 1) ≡ Some 10 → s_l_comments cs i (i + 1 + 1)
  unfolding s_l_comments s_b_comment line_end
  spaced_end i f g = (i + 1 + 1, inl (i + 1, inr (i + 1, parted_by i f, inl refl), inl (feed (i + 1) (calm_after i 32 f (a_nb 32 (omega arith))) g)), Spans.done refl)

  -- ---- no mark begins a line

  pub other_first : (i c : ℕ) → slice_get cs i ≡ Some c → (c ≡ 45 → ⊥) → (c ≡ 46 → ⊥) → DocumentMark cs i → ⊥
  unfolding DocumentMark DocumentMarkOf
  other_first i c e m n (inl (s, (k, (p, (g, h), w)), a)) = m (same_at cs i c 45 e g)
  other_first i c e m n (inr (s, (k, (p, (g, h), w)), a)) = n (same_at cs i c 46 e g)

  pub dash_first : (i : ℕ) → slice_get cs i ≡ Some 45 → slice_get cs (i + 1) ≡ Some 32 → DocumentMark cs i → ⊥
  unfolding DocumentMark DocumentMarkOf
  dash_first i e f (inl (s, (k, (p, (g, h), (q, (x, y), w))), a)) = let z : 32 ≡ 45 = same_at cs (i + 1) 32 45 f (subst (λ v. slice_get cs v ≡ Some 45) h x) in omega (arith, z)
  dash_first i e f (inr (s, (k, (p, (g, h), w)), a)) = let z : 45 ≡ 46 = same_at cs i 45 46 e g in omega (arith, z)

  -- a line's beginning has no mark where its first place has none
  pub first_unmarked : (i j : ℕ) → (DocumentMark cs i → ⊥) → run cs is_nb i j → Unmarked cs i j
  first_unmarked i j n r k a b = pick (eq-or-lt_of_le a)
    where
      pick : (i ≡ k) ⊎ (i < k) → DocumentMark cs k → ⊥
      pick (inl e) = subst (λ z. DocumentMark cs z → ⊥) e n
      pick (inr l) = let calm : Calm k = (omega (arith, l), r.1 (k - 1) (omega (arith, l)) (omega (arith, l, b))) in rest_unmarked k k calm (omega arith, λ m x y. absurd (let z : ⊥ = omega (arith, x, y) in z)) k (omega arith) (omega arith)
