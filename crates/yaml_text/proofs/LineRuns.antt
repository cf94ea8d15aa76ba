-- Runs of characters on a line, breaks and the ends of lines: from a place one at most.
use Rattle.std.proofs.Common.{◌≡◌, ◌≢◌, ℕ, ◌+◌, ◌-◌, ◌<◌, ◌≤◌, ◌⊎◌, inl, inr, List, Some, Bool, true, false, refl, sym, ◌∙◌, ap, subst, arith}
use Rattle.std.specs.Prelude.{slice_get, ◌==◌}
use Rattle.std.proofs.lemmas.Option.{slice_get_past}
use Rattle.std.proofs.Math.Nat.{eq-or-lt_of_le}
use Rattle.yaml_definitions.specs.grammar.Rules.{run, Stands}
use Rattle.yaml_definitions.specs.grammar.Characters.{is_space, is_white, is_nb, is_break, b-break as brk}
use Rattle.yaml_definitions.specs.grammar.Separation.{AtEnd, StartsLine, b-comment as line_end, s-indent as indent}
use Rattle.yaml_text.specs.Lines.{line_brk}
use Rattle.yaml_text.specs.Lines.{AfterLine, Inside, Uncut}
use Rattle.yaml_text.proofs.Repeats.{SameEnd}
use Rattle.yaml_text.proofs.Runs.{same_char, no_stand, no_stand_end}
use Rattle.yaml_text.proofs.Breaks as gap

same_code : (c : ℕ) → (c == c) ≡ true
same_code c = grind arith

code_of : (c d : ℕ) → (c == d) ≡ true → c ≡ d
code_of c d t = grind (arith, t)

the_space : (c : ℕ) → is_space c ≡ true → c ≡ 32
unfolding is_space
the_space c t = grind (arith, t)

white_code : (c : ℕ) → is_white c ≡ true → (c ≡ 32) ⊎ (c ≡ 9)
unfolding is_white
white_code c t = grind (arith, t)

no_break_nb : (c : ℕ) → c ≢ 10 → c ≢ 13 → is_nb c ≡ true
unfolding is_nb is_break
no_break_nb c a b = grind (arith, a, b)

nb_no_code : (c d : ℕ) → is_nb c ≡ true → (d ≡ 10) ⊎ (d ≡ 13) → c ≡ d → ⊥
unfolding is_nb is_break
nb_no_code c d t (inl e) f = grind (arith, t, e, f)
nb_no_code c d t (inr e) f = grind (arith, t, e, f)

module _ (cs : List ℕ) where
  pub end_stops : (p : ℕ → Bool) (i : ℕ) → AtEnd cs i → Stands cs p i → ⊥
  end_stops p i e = no_stand_end cs p i (slice_get_past cs i (omega (arith, e)))

  -- what stands first in a run, if it is not empty
  pub run_first : (p : ℕ → Bool) (i j : ℕ) → run cs p i j → (i ≡ j) ⊎ Stands cs p i
  run_first p i j (a, f) = go (eq-or-lt_of_le a)
    where
      go : (i ≡ j) ⊎ (i < j) → (i ≡ j) ⊎ Stands cs p i
      go (inl e) = inl e
      go (inr l) = inr (f i (omega arith) l)

  -- ---- breaks

  pub brk_same : SameEnd (brk cs)
  brk_same i j k r s = gap.brk_same cs i j k (gap.brk_line cs i j r) (gap.brk_line cs i k s)

  pub brk_onward : (i j : ℕ) → brk cs i j → i < j
  brk_onward i j r = gap.brk_onward cs i j (gap.brk_line cs i j r)

  pub brk_stops : (p : ℕ → Bool) → p 10 ≡ false → p 13 ≡ false → (i j : ℕ) → brk cs i j → Stands cs p i → ⊥
  brk_stops p a b i j r = go (gap.brk_line cs i j r)
    where
      go : line_brk cs i j → Stands cs p i → ⊥
      go (inl (h, e)) = no_stand cs p i 10 h a
      go (inr (inl (h, g, e))) = no_stand cs p i 13 h b
      go (inr (inr (h, g, e))) = no_stand cs p i 13 h b

  pub brk_no_end : (i j : ℕ) → brk cs i j → AtEnd cs i → ⊥
  brk_no_end i j r e = go (gap.brk_line cs i j r)
    where
      stands : (c : ℕ) → slice_get cs i ≡ Some c → ⊥
      stands c h = end_stops (λ d. d == c) i e (c, h, same_code c)

      go : line_brk cs i j → ⊥
      go (inl (h, f)) = stands 10 h
      go (inr (inl (h, g, f))) = stands 13 h
      go (inr (inr (h, g, f))) = stands 13 h

  -- where no CR LF is cut
  pub to_brk : (i j : ℕ) → Uncut cs i → line_brk cs i j → brk cs i j
  unfolding brk Uncut
  to_brk i j u (inl (h, e)) = inr (inr (i, (refl, λ b. u b (10, h, refl)), (h, e)))
  to_brk i j u (inr (inl (h, g, e))) = inl (i + 1, (h, refl), (g, omega (arith, e)))
  to_brk i j u (inr (inr (h, g, e))) = inr (inl (i + 1, (h, refl), (e, λ (c, q, t). g (q ∙ ap Some (code_of c 10 t)))))

  return_breaks : (i : ℕ) → slice_get cs i ≡ Some 13 → ((j : ℕ) → line_brk cs i j → ⊥) → ⊥
  return_breaks i h none = none (i + 1) (inr (inr (h, (λ g. none (i + 2) (inr (inl (h, g, refl)))), refl)))

  -- a character where no break stands
  pub nb_here : (i c : ℕ) → slice_get cs i ≡ Some c → ((j : ℕ) → line_brk cs i j → ⊥) → Stands cs is_nb i
  nb_here i c h none = (c, h, no_break_nb c (λ e. none (i + 1) (inl (h ∙ ap Some e, refl))) (λ e. return_breaks i (h ∙ ap Some e) none))

  -- ---- no CR LF is cut

  pub line_uncut : (i : ℕ) → StartsLine cs i → Uncut cs i
  unfolding StartsLine Uncut
  line_uncut i (inl e) (l, s) t = omega (arith, e, l)
  line_uncut i (inr (k, r)) (l, (c, h, s)) (d, g, t) = go (gap.brk_line cs k i r)
    where
      here : slice_get cs i ≡ Some 10
      here = g ∙ ap Some (code_of d 10 t)

      back : slice_get cs (i - 1) ≡ Some 13
      back = h ∙ ap Some (code_of c 13 s)

      two : (m : ℕ) → i - 1 ≡ m → slice_get cs m ≡ Some 10 → ⊥
      two m e f = let x : 10 ≡ 13 = same_char cs m 10 13 f (ap (slice_get cs) (sym e) ∙ back) in omega (arith, x)

      go : line_brk cs k i → ⊥
      go (inl (f, e)) = two k (omega (arith, e)) f
      go (inr (inl (f, n, e))) = two (k + 1) (omega (arith, e)) n
      go (inr (inr (f, n, e))) = n (ap (slice_get cs) (sym e) ∙ here)

  pub after_uncut : (i : ℕ) → AfterLine cs i → Uncut cs i
  unfolding Uncut
  after_uncut i (inl s) b t = line_uncut i s b t
  after_uncut i (inr e) b t = end_stops (λ c. c == 10) i e t

  pub inside_uncut : (i : ℕ) → Inside cs i → Uncut cs i
  unfolding Uncut
  inside_uncut i (k, e, (c, h, n)) (l, (d, g, s)) t =
      let at : i - 1 ≡ k = omega (arith, e) in
      nb_no_code c 13 n (inr refl) (same_char cs k c 13 h (ap (slice_get cs) (sym at) ∙ g ∙ ap Some (code_of d 13 s)))

  -- no line starts inside one
  pub inside_no_line : (i : ℕ) → Inside cs i → StartsLine cs i → ⊥
  inside_no_line i (k, e, (c, h, n)) s =
      gap.inside_line cs k i e (λ g. nb_no_code c 10 n (inl refl) (same_char cs k c 10 h g)) (λ g. nb_no_code c 13 n (inr refl) (same_char cs k c 13 h g)) s

  -- ---- the ends of lines

  pub line_end_same : SameEnd (line_end cs)
  unfolding line_end
  line_end_same i j k (inl r) (inl s) = brk_same i j k r s
  line_end_same i j k (inl r) (inr (e, h)) = absurd (brk_no_end i j r h)
  line_end_same i j k (inr (e, h)) (inl s) = absurd (brk_no_end i k s h)
  line_end_same i j k (inr (e, h)) (inr (f, g)) = e ∙ sym f

  pub line_end_onward : (i j : ℕ) → line_end cs i j → i ≤ j
  unfolding line_end
  line_end_onward i j (inl r) = let h : i < j = brk_onward i j r in omega (arith, h)
  line_end_onward i j (inr (e, h)) = omega (arith, e)

  pub line_end_stops : (p : ℕ → Bool) → p 10 ≡ false → p 13 ≡ false → (i j : ℕ) → line_end cs i j → Stands cs p i → ⊥
  unfolding line_end
  line_end_stops p a b i j (inl r) = brk_stops p a b i j r
  line_end_stops p a b i j (inr (e, h)) = end_stops p i h

  pub brk_after : (i j : ℕ) → brk cs i j → AfterLine cs j
  unfolding StartsLine
  brk_after i j r = inl (inr (i, r))

  pub line_end_after : (i j : ℕ) → line_end cs i j → AfterLine cs j
  unfolding line_end
  line_end_after i j (inl r) = brk_after i j r
  line_end_after i j (inr (e, h)) = inr (e ∙ h)

  pub brk_line_end : (i j : ℕ) → brk cs i j → line_end cs i j
  unfolding line_end
  brk_line_end i j r = inl r

  pub end_line_end : (i : ℕ) → AtEnd cs i → line_end cs i i
  unfolding line_end
  end_line_end i e = inr (refl, e)

  -- no space where this character does not stand
  pub no_char_space : (i : ℕ) → slice_get cs i ≢ Some 32 → Stands cs is_space i → ⊥
  no_char_space i n (c, h, t) = n (h ∙ ap Some (the_space c t))

  -- no white where neither of the two stands
  pub no_code_white : (i : ℕ) → slice_get cs i ≢ Some 32 → slice_get cs i ≢ Some 9 → Stands cs is_white i → ⊥
  no_code_white i a b (c, h, t) = elim (white_code c t) [
    | inl e ↦ a (h ∙ ap Some e)
    | inr e ↦ b (h ∙ ap Some e)
  ]

  -- ---- runs of places

  -- a place after a character of a line
  pub inside_next : (j k : ℕ) → Stands cs is_nb j → k ≡ j + 1 → Inside cs k
  inside_next j k s e = (j, e, s)

  hash_inside : (i j : ℕ) → slice_get cs i ≡ Some 35 → j ≡ i + 1 → Inside cs j
  unfolding is_nb is_break
  hash_inside i j h e = (i, e, (35, h, refl))

  pub hash_uncut : (i j : ℕ) → slice_get cs i ≡ Some 35 → j ≡ i + 1 → Uncut cs j
  hash_uncut i j h e = inside_uncut j (hash_inside i j h e)

  -- an indent is a run
  pub indent_run : (n i j : ℕ) → indent cs n i j → run cs is_space i j
  unfolding indent
  indent_run n i j (r, e) = r

  pub indent_place : (n i j : ℕ) → indent cs n i j → j ≡ i + n
  unfolding indent
  indent_place n i j (r, e) = e

  space_is_nb : (c : ℕ) → is_space c ≡ true → is_nb c ≡ true
  unfolding is_space is_nb is_break
  space_is_nb c t = grind (arith, t)

  -- after characters of a line no CR LF is cut, as none is before them
  pub nb_uncut : (i j : ℕ) → run cs is_nb i j → Uncut cs i → Uncut cs j
  nb_uncut i j (a, f) u = go (eq-or-lt_of_le a)
    where
      go : (i ≡ j) ⊎ (i < j) → Uncut cs j
      go (inl e) = subst (Uncut cs) e u
      go (inr l) = inside_uncut j (j - 1, omega (arith, l), f (j - 1) (omega (arith, l)) (omega (arith, l)))

  pub spaces_uncut : (i j : ℕ) → run cs is_space i j → Uncut cs i → Uncut cs j
  spaces_uncut i j (a, f) = nb_uncut i j (a, λ m x y. let h = f m x y in (h.0, h.1, space_is_nb h.0 h.2))
