-- Each line has an end, so a comment after spaces is one whatever it holds.
use Rattle.std.proofs.Common.{◌≡◌, ℕ, zero, suc, ◌+◌, ◌-◌, ◌<◌, ◌≤◌, ◌⊎◌, inl, inr, List, length, get_or, Bool, true, false, Option, Some, None, refl, sym, ◌∙◌, ap, subst, arith}
use Rattle.std.specs.Prelude.{slice_get, ◌==◌}
use Rattle.std.proofs.Math.Nat.{eq-or-lt_of_le}
use Rattle.std.proofs.lemmas.Option.{slice_get_cases, slice_get_past, slice_get_within}
use Rattle.yaml_definitions.specs.grammar.Rules.{Spans, run, Stands}
use Rattle.yaml_definitions.specs.grammar.Characters.{is_nb, is_break, is_space}
use Rattle.yaml_definitions.specs.grammar.Separation.{b-comment as line_end, c-nb-comment-text as comment, s-separate-in-line as sep, s-b-comment as s_b_comment, s-l-comments as s_l_comments}
use Rattle.yaml_text.specs.Lines.{line_brk}
use Rattle.yaml_text.specs.Lines.{Inside}
use Rattle.yaml_text.proofs.Runs.{run_none, run_more, no_stand, no_stand_end}
use Rattle.yaml_text.proofs.Breaks.{run_join}
use Rattle.yaml_text.proofs.LineRuns.{inside_uncut, to_brk, brk_line_end, end_line_end}

break_is : (c : ℕ) → is_nb c ≡ false → (c ≡ 10) ⊎ (c ≡ 13)
unfolding is_nb is_break
break_is c h = pick (c == 10) refl
  where
    pick : (t : Bool) → (c == 10) ≡ t → (c ≡ 10) ⊎ (c ≡ 13)
    pick true e = inl (grind (arith, e))
    pick false e = inr (grind (arith, e, h))

module _ (cs : List ℕ) where
  -- a character stands here, or the text is over
  abbrev Here : ℕ → Type 0
  Here i = ((x : ℕ) × (i < length cs) × (slice_get cs i ≡ Some x) × (get_or cs i x ≡ x)) ⊎ ((length cs ≤ i) × (slice_get cs i ≡ None))

  -- as many as stand there
  whole : (p : ℕ → Bool) (n i : ℕ) → length cs ≤ i + n → (j : ℕ) × run cs p i j × (Stands cs p j → ⊥)
  whole p zero i l = (i, run_none cs p i, no_stand_end cs p i (slice_get_past cs i (omega (arith, l))))
  whole p (suc n) i l = pick (slice_get_cases cs i).1 (whole p n (i + 1) (omega (arith, l)))
    where
      pick : Here i → ((j : ℕ) × run cs p (i + 1) j × (Stands cs p j → ⊥)) → (j : ℕ) × run cs p i j × (Stands cs p j → ⊥)
      pick (inr (far, h)) rec = (i, run_none cs p i, no_stand_end cs p i h)
      pick (inl (c, near, h, g)) (j, r, stop) = test (p c) refl
        where
          test : (t : Bool) → p c ≡ t → (j : ℕ) × run cs p i j × (Stands cs p j → ⊥)
          test true e = (j, run_join cs p i (i + 1) j (run_more cs p i i (i + 1) c (run_none cs p i) h e refl) r, stop)
          test false e = (i, run_none cs p i, no_stand cs p i c h e)

  pub whole_run_is : (p : ℕ → Bool) (i : ℕ) → (j : ℕ) × run cs p i j × (Stands cs p j → ⊥)
  whole_run_is p i = whole p (length cs) i (omega arith)

  nb_inside : (i j : ℕ) → run cs is_nb i j → Inside cs i → Inside cs j
  nb_inside i j (l, r) o = pick (eq-or-lt_of_le l)
    where
      pick : (i ≡ j) ⊎ (i < j) → Inside cs j
      pick (inl e) = subst (Inside cs) e o
      pick (inr m) = (j - 1, omega (arith, m), r (j - 1) (omega (arith, m)) (omega (arith, m)))

  inside_within : (j : ℕ) → Inside cs j → j ≤ length cs
  inside_within j (k, e, (c, h, t)) = let l = slice_get_within cs k c h in omega (arith, e, l)

  feed_breaks : (j c : ℕ) → slice_get cs j ≡ Some c → (c ≡ 10) ⊎ (c ≡ 13) → (y : ℕ) × line_brk cs j y
  feed_breaks j c h (inl e) = (j + 1, inl (h ∙ ap Some e, refl))
  feed_breaks j c h (inr e) = pick (slice_get_cases cs (j + 1)).1
    where
      pick : Here (j + 1) → (y : ℕ) × line_brk cs j y
      pick (inr (far, g)) = (j + 1, inr (inr (h ∙ ap Some e, (λ k. let z : ◌≡◌ {A = Option ℕ} None (Some 10) = sym g ∙ k in cc), refl)))
      pick (inl (d, near, g, q)) = test (d == 10) refl
        where
          test : (t : Bool) → (d == 10) ≡ t → (y : ℕ) × line_brk cs j y
          test true f = let u : d ≡ 10 = grind (arith, f) in (j + 2, inr (inl (h ∙ ap Some e, g ∙ ap Some u, refl)))
          test false f = (j + 1, inr (inr (h ∙ ap Some e, (λ k. let z : Some d ≡ Some 10 = sym g ∙ k in let u : d ≡ 10 = cc in grind (arith, f, u)), refl)))

  line_ends : (j : ℕ) → Inside cs j → (Stands cs is_nb j → ⊥) → (y : ℕ) × line_end cs j y
  line_ends j o stop = pick (slice_get_cases cs j).1
    where
      pick : Here j → (y : ℕ) × line_end cs j y
      pick (inr (far, h)) = let l = inside_within j o in (j, end_line_end cs j (omega (arith, far, l)))
      pick (inl (c, near, h, g)) = test (is_nb c) refl
        where
          test : (t : Bool) → is_nb c ≡ t → (y : ℕ) × line_end cs j y
          test true e = absurd (stop (c, h, e))
          test false e = let (y, b) = feed_breaks j c h (break_is c e) in (y, brk_line_end cs j y (to_brk cs j y (inside_uncut cs j o) b))

  -- a comment after spaces
  pub comment_begins : (a x : ℕ) → run cs is_space a x → a < x → slice_get cs x ≡ Some 35 → (n : ℕ) × s_l_comments cs a n
  unfolding s_l_comments s_b_comment sep comment is_nb is_break
  comment_begins a x r l h =
      let (j, q, stop) = whole_run_is is_nb (x + 1) in
      let (y, e) = line_ends j (nb_inside (x + 1) j q (x, refl, (35, h, refl))) stop in
      (y, (y, inl (j, inr (x, inl (r, l), inr (x + 1, (h, refl), q)), e), Spans.done refl))
