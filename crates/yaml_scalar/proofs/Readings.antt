-- Breaks and folds: the chain form has the readings of the grammar.
use Rattle.std.proofs.Common.{◌≡◌, ◌≢◌, ℕ, zero, suc, ◌+◌, ◌-◌, inl, inr, List, [], ◌∷◌, ◌++◌, Some, true, false, replicate, refl, sym, ◌∙◌, ap, subst, arith}
use Rattle.std.specs.Prelude.{slice_get, ◌==◌}
use Rattle.std.proofs.lemmas.Bool.{cases_eq}
use Rattle.yaml_definitions.specs.grammar.Rules.{Span, ◌◆◌, ◌▸◌, gives, Any, done, then, times, Stands, Behind, run}
use Rattle.yaml_definitions.specs.grammar.Characters.{is_white, b-break as brk}
use Rattle.yaml_definitions.specs.grammar.Separation.{Ctx, block_out, block_in, flow_out, flow_in, block_key, flow_key, s-indent as indent}
use Rattle.yaml_definitions.specs.grammar.FlowScalars.{fold_text, empty_line, s-flow-folded as fold, s-double-escaped as escaped_break, several}
use Rattle.yaml_scalar.specs.Chains.{TextRule}
use Rattle.yaml_scalar.specs.Chains.{margin, lead, breaks, folds, escaped_end}
use Rattle.yaml_text.specs.Lines.{is_key, line_brk}
use Rattle.yaml_scalar.specs.Chains as chain
use Rattle.yaml_text.proofs.Runs.{same_char}
use Rattle.yaml_scalar.proofs.GapLemmas.{blank_white}
use Rattle.yaml_text.proofs.Breaks.{AfterNs, brk_line, thirteen, ns_no_return, white_no_return}

-- ---- a number of lines

pub times_any : (R : Span) (n i j : ℕ) → times n R i j → Any {A = ℕ} (R ▸ gives (10 ∷ [])) j i (replicate n 10)
times_any R zero i j e = done e refl
times_any R (suc n) i j (k, r, t) = then k (10 ∷ []) (replicate n 10) (k, r, (refl, refl)) (times_any R n k j t) refl

pub any_times : (R : Span) {j i : ℕ} {xs : List ℕ} → Any {A = ℕ} (R ▸ gives (10 ∷ [])) j i xs → (n : ℕ) × times n R i j × (xs ≡ replicate n 10)
any_times R (done e f) = (zero, e, f)
any_times R {j} {i} (then k ys zs (l, r, (e, f)) rest g) =
    let q = any_times R rest in
    (suc q.0, (l, r, subst (λ x. times q.0 R x j) e q.1), g ∙ ap (λ v. v ++ zs) f ∙ ap (λ v. 10 ∷ v) q.2)

pub times_weaker : {R S : Span} → ((i j : ℕ) → R i j → S i j) → (n i j : ℕ) → times n R i j → times n S i j
times_weaker f zero i j e = e
times_weaker f (suc n) i j (k, r, t) = (k, f i k r, times_weaker f n k j t)

-- the same where each stands only at places where W holds
pub times_where : {R S : Span} (W : ℕ → Type 0) → ((i j : ℕ) → W i → R i j → S i j × W j) → (n i j : ℕ) → W i → times n R i j → times n S i j × W j
times_where W f zero i j w e = (e, subst W (sym e) w)
times_where W f (suc n) i j w (k, r, t) =
    let q = f i k w r in
    let p = times_where W f n k j q.1 t in
    ((k, q.0, p.0), p.1)

pub fold_texts : (k : ℕ) → fold_text k ≡ chain.folded_breaks (replicate k 10)
unfolding fold_text
fold_texts zero = refl
fold_texts (suc k) = refl

module _ (cs : List ℕ) where
  pub several_is : (c : Ctx) (R : TextRule) (i j : ℕ) (xs : List ℕ) → several cs c R i j xs → (is_key c ≡ false) × R i j xs
  several_is block_key R i j xs p = absurd p
  several_is flow_key R i j xs p = absurd p
  several_is block_out R i j xs p = (refl, p)
  several_is block_in R i j xs p = (refl, p)
  several_is flow_out R i j xs p = (refl, p)
  several_is flow_in R i j xs p = (refl, p)

  pub is_several : (c : Ctx) (R : TextRule) (i j : ℕ) (xs : List ℕ) → is_key c ≡ false → R i j xs → several cs c R i j xs
  is_several block_key R i j xs e p = absurd (let h : true ≡ false = e in cc)
  is_several flow_key R i j xs e p = absurd (let h : true ≡ false = e in cc)
  is_several block_out R i j xs e p = p
  is_several block_in R i j xs e p = p
  is_several flow_out R i j xs e p = p
  is_several flow_in R i j xs e p = p

  -- ---- a place that is not between a CR and its LF

  abbrev pub Clear : ℕ → Type 0
  Clear i = slice_get cs i ≡ Some 10 → Behind cs (λ c. c == 13) i → ⊥

  pub clear_after : (i j c : ℕ) → slice_get cs i ≡ Some c → j ≡ i + 1 → c ≢ 13 → Clear j
  clear_after i j c h e n t (l, (d, g, v)) =
      n (same_char cs i c d h (subst (λ x. slice_get cs x ≡ Some d) (let f : j - 1 ≡ i = omega (arith, e) in f) g) ∙ thirteen d v)

  pub clear_ns : (j : ℕ) → AfterNs cs j → Clear j
  clear_ns j (i, e, (c, h, t)) = clear_after i j c h e (ns_no_return c t)

  pub clear_run : (i j : ℕ) → Clear i → run cs is_white i j → Clear j
  clear_run i j w (le, r) = elim (cases_eq i j) [
    | inl e ↦ subst Clear e w
    | inr n ↦ inside (r (j - 1) (omega (arith, le, n)) (omega (arith, le, n)))
  ]
    where
      inside : Stands cs is_white (j - 1) → Clear j
      inside (c, h, t) g (l, (d, q, v)) = white_no_return c t (same_char cs (j - 1) c d h q ∙ thirteen d v)

  pub line_brk_is : (i j : ℕ) → Clear i → line_brk cs i j → brk cs i j × Clear j
  unfolding brk
  line_brk_is i j w (inl (h, e)) = (inr (inr (i, (refl, w h), (h, e))), clear_after i j 10 h e (omega arith))
  line_brk_is i j w (inr (inl (h, g, e))) = (inl (i + 1, (h, refl), (g, omega (arith, e))), clear_after (i + 1) j 10 g (omega (arith, e)) (omega arith))
  line_brk_is i j w (inr (inr (h, g, e))) =
      (inr (inl (i + 1, (h, refl), (e, λ (c, q, t). g (q ∙ ap Some (ten c t))))), λ q b. g (subst (λ x. slice_get cs x ≡ Some 10) e q))
    where
      ten : (c : ℕ) → (c == 10) ≡ true → c ≡ 10
      ten c p = grind (arith, p)

  -- ---- empty lines and breaks

  empty_chain : (n i j : ℕ) → empty_line cs n i j → chain.skipped_line cs n i j
  unfolding empty_line chain.skipped_line margin
  empty_chain n i j (k, b, r) = (k, b, brk_line cs k j r)

  empty_grammar : (n i j : ℕ) → Clear i → chain.skipped_line cs n i j → empty_line cs n i j × Clear j
  unfolding empty_line chain.skipped_line margin
  empty_grammar n i j w (k, b, r) =
      let q = line_brk_is k j (clear_run i k w (blank_white cs n i k b)) r in
      ((k, b, q.0), q.1)

  abbrev pub Margin : ℕ → Span
  Margin n = indent cs n ◆ run cs is_white

  pub breaks_chain : (n a : ℕ) (c : Ctx) (i k l j : ℕ) → is_key c ≡ false → brk cs i k → times a (empty_line cs n) k l → Margin n l j → breaks cs n c i j (replicate a 10)
  unfolding breaks lead margin
  breaks_chain n a c i k l j f b t m = (f, (k, brk_line cs i k b, (l, times_any (chain.skipped_line cs n) a k l (times_weaker (empty_chain n) a k l t), m)))

  pub breaks_grammar : (n : ℕ) (c : Ctx) (i j : ℕ) (us : List ℕ) → Clear i → breaks cs n c i j us →
      (a : ℕ) × (k : ℕ) × (l : ℕ) × (is_key c ≡ false) × brk cs i k × times a (empty_line cs n) k l × Margin n l j × (us ≡ replicate a 10)
  unfolding breaks lead margin
  breaks_grammar n c i j us w (f, (k, b, (l, p, m))) =
      let first = line_brk_is i k w b in
      let lines = any_times (chain.skipped_line cs n) p in
      let all = times_where Clear (empty_grammar n) lines.0 k l first.1 lines.1 in
      (lines.0, k, l, f, first.0, all.0, m, lines.2)

  pub fold_chain : (n : ℕ) (c : Ctx) (i j : ℕ) (xs : List ℕ) → several cs c (fold cs n) i j xs → folds cs n c i j xs
  unfolding fold folds
  fold_chain n c i j xs p = go (several_is c (fold cs n) i j xs p)
    where
      go : (is_key c ≡ false) × fold cs n i j xs → folds cs n c i j xs
      go (f, (k, (m, r, b), (l, (a, t, e), q))) = (m, r, (replicate a 10, breaks_chain n a c m k l j f b t q, e ∙ fold_texts a))

  pub fold_grammar : (n : ℕ) (c : Ctx) (i j : ℕ) (xs : List ℕ) → Clear i → folds cs n c i j xs → several cs c (fold cs n) i j xs
  unfolding fold folds
  fold_grammar n c i j xs w (m, r, (us, p, e)) =
      let (a, k, l, f, b, t, q, g) = breaks_grammar n c m j us (clear_run i m w r) p in
      is_several c (fold cs n) i j xs f (k, (m, r, b), (l, (a, t, e ∙ ap chain.folded_breaks g ∙ sym (fold_texts a)), q))

  pub escaped_chain : (n : ℕ) (c : Ctx) (i j : ℕ) (xs : List ℕ) → several cs c (escaped_break cs n) i j xs → (k : ℕ) × (slice_get cs i ≡ Some 92) × (k ≡ i + 1) × breaks cs n c k j xs
  unfolding escaped_break
  escaped_chain n c i j xs p = go (several_is c (escaped_break cs n) i j xs p)
    where
      go : (is_key c ≡ false) × escaped_break cs n i j xs → (k : ℕ) × (slice_get cs i ≡ Some 92) × (k ≡ i + 1) × breaks cs n c k j xs
      go (f, (k, (m, (h, d), b), (l, (a, t, e), q))) = (m, h, d, subst (breaks cs n c m j) (sym e) (breaks_chain n a c m k l j f b t q))

  pub escaped_grammar : (n : ℕ) (c : Ctx) (i k j : ℕ) (xs : List ℕ) → slice_get cs i ≡ Some 92 → k ≡ i + 1 → breaks cs n c k j xs → several cs c (escaped_break cs n) i j xs
  unfolding escaped_break
  escaped_grammar n c i k j xs h d p =
      let (a, m, l, f, b, t, q, g) = breaks_grammar n c k j xs (clear_after i k 92 h d (omega arith)) p in
      is_several c (escaped_break cs n) i j xs f (m, (k, (h, d), b), (l, (a, t, g), q))
