-- Breaks, empty lines, folds and gaps: one reading at most before a character that is no white and no break.
use Rattle.std.proofs.Common.{◌≡◌, ◌≢◌, ℕ, ◌<◌, ◌≤◌, inl, inr, List, [], ◌∷◌, ◌++◌, Some, true, false, refl, sym, ◌∙◌, ap, subst, arith}
use Rattle.std.specs.Prelude.{slice_get, slice_range}
use Rattle.yaml_definitions.specs.grammar.Rules.{Span, ◌⊔◌, ◌▸◌, ◌◂◌, ◌⨾◌, gives, any, Any, done, then, Stands, run}
use Rattle.yaml_scalar.specs.Chains.{TextRule}
use Rattle.yaml_definitions.specs.grammar.Characters.{is_white, is_space}
use Rattle.yaml_scalar.specs.Chains.{margin, skipped_line, lead, breaks, folded_breaks, folds, NoLead, NoBreaks, NoFold, gap}
use Rattle.yaml_text.specs.Lines.{line_brk, is_key}
use Rattle.yaml_definitions.specs.grammar.Separation.{DocumentMark, Unmarked, s-indent as indent, s-indent-less-than as less}
use Rattle.yaml_text.specs.LeafAnswer.{Unread}
use Rattle.yaml_definitions.specs.grammar.Separation.{Ctx}
use Rattle.yaml_scalar.proofs.AnyLemmas.{Same, Onward, Cuts, any_span_same, any_span_none, any_onward}
use Rattle.yaml_text.proofs.Repeats.{SameEnd}
use Rattle.yaml_text.proofs.Breaks.{Blank, NoWhite, Ns, blank_brk, blank_join, blank_white_run, brk_no_ns, brk_onward, brk_same, brk_stops, ns_stops, run_join, space_is, space_white, spaces_white}
use Rattle.yaml_text.proofs.Runs.{run_same}

module _ (cs : List ℕ) where
  pub margin_white : (n i j : ℕ) → margin cs n i j → run cs is_white i j
  unfolding margin indent
  margin_white n i j (k, (s, e), r) = run_join cs is_white i k j (spaces_white cs i k s) r

  -- ---- counting spaces

  pub spaces_less : (n m i j : ℕ) → indent cs n i j → n ≤ m → n ≢ m → less cs m i j
  unfolding indent less
  spaces_less n m i j (r, e) a b = (omega (arith, e, a, b), r)

  pub no_space_code : (i : ℕ) → (Stands cs is_space i → ⊥) → slice_get cs i ≢ Some 32
  unfolding is_space
  no_space_code i n h = n (32, h, refl)

  pub margin_is : (n m i j k : ℕ) → n ≡ m → indent cs n i j → run cs is_white j k → margin cs m i k
  unfolding margin
  margin_is n m i j k e s r = subst (λ x. margin cs x i k) e (j, s, r)

  pub blank_white : (n i j : ℕ) → (margin cs n ⊔ less cs n) i j → run cs is_white i j
  unfolding less
  blank_white n i j (inl m) = margin_white n i j m
  blank_white n i j (inr (b, s)) = spaces_white cs i j s

  abbrev pub empty : ℕ → TextRule
  empty n = skipped_line cs n ▸ gives (10 ∷ [])

  -- the margin of a line with text
  abbrev pub text_margin : ℕ → Span
  text_margin n i j = margin cs n i j × Ns cs j

  pub empty_same : (n : ℕ) → Same (empty n)
  unfolding skipped_line
  empty_same n i j k xs ys (l, (m, b, r), (e, f)) (o, (q, c, s), (g, h)) =
      let at : m ≡ q = run_same cs is_white i m q (blank_white n i m b) (blank_white n i q c) (brk_stops cs m l r) (brk_stops cs q o s) in
      (e ∙ brk_same cs q l o (subst (λ x. line_brk cs x l) at r) s ∙ sym g, f ∙ sym h)

  pub empty_onward : (n : ℕ) → Onward (empty n)
  unfolding skipped_line
  empty_onward n i j xs (l, (m, b, r), (e, f)) =
      let x : i ≤ m = (blank_white n i m b).0 in
      let y : m < l = brk_onward cs m l r in
      omega (arith, x, y, e)

  pub empty_apart : (n i j k : ℕ) (xs : List ℕ) → empty n i j xs → text_margin n i k → ⊥
  unfolding skipped_line
  empty_apart n i j k xs (l, (m, b, r), (e, f)) (s, t) =
      let at : m ≡ k = run_same cs is_white i m k (blank_white n i m b) (margin_white n i k s) (brk_stops cs m l r) (ns_stops cs k t) in
      brk_no_ns cs m l r (subst (Ns cs) (sym at) t)

  text_margin_same : (n : ℕ) → SameEnd (text_margin n)
  text_margin_same n i j k (m, s) (p, t) = run_same cs is_white i j k (margin_white n i j m) (margin_white n i k p) (ns_stops cs j s) (ns_stops cs k t)

  pub lead_same : (n i j k : ℕ) (xs ys : List ℕ) → lead cs n i j xs → Ns cs j → lead cs n i k ys → Ns cs k → (j ≡ k) × (xs ≡ ys)
  unfolding lead
  lead_same n i j k xs ys (m, p, s) a (o, q, t) b =
      any_span_same (empty_same n) (text_margin_same n) (empty_apart n) i j k xs ys (m, p, (s, a)) (o, q, (t, b))

  pub breaks_same : (n : ℕ) (c : Ctx) (i j k : ℕ) (xs ys : List ℕ) → breaks cs n c i j xs → Ns cs j → breaks cs n c i k ys → Ns cs k → (j ≡ k) × (xs ≡ ys)
  unfolding breaks
  breaks_same n c i j k xs ys (f, (l, r, p)) a (g, (m, s, q)) b =
      lead_same n m j k xs ys (subst (λ x. lead cs n x j xs) (brk_same cs i l m r s) p) a q b

  pub breaks_brk : (n : ℕ) (c : Ctx) (i j : ℕ) (xs : List ℕ) → breaks cs n c i j xs → (m : ℕ) × line_brk cs i m × lead cs n m j xs
  unfolding breaks
  breaks_brk n c i j xs (f, (l, r, p)) = (l, r, p)

  pub breaks_stops : (n : ℕ) (c : Ctx) (i j : ℕ) (xs : List ℕ) → breaks cs n c i j xs → NoWhite cs i
  breaks_stops n c i j xs p = let q = breaks_brk n c i j xs p in brk_stops cs i q.0 q.1

  pub breaks_no_ns : (n : ℕ) (c : Ctx) (i j : ℕ) (xs : List ℕ) → breaks cs n c i j xs → Ns cs i → ⊥
  breaks_no_ns n c i j xs p = let q = breaks_brk n c i j xs p in brk_no_ns cs i q.0 q.1

  -- a fold goes through the break after the whites
  pub folds_through : (n : ℕ) (c : Ctx) (i k : ℕ) → run cs is_white i k → NoWhite cs k → (j : ℕ) (xs : List ℕ) → folds cs n c i j xs → (us : List ℕ) × breaks cs n c k j us × (xs ≡ folded_breaks us)
  unfolding folds
  folds_through n c i k r stop j xs (l, s, (us, p, e)) =
      (us, subst (λ x. breaks cs n c x j us) (run_same cs is_white i l k s r (breaks_stops n c l j us p) stop) p, e)

  pub folds_is : (n : ℕ) (c : Ctx) (i k j : ℕ) (us : List ℕ) → run cs is_white i k → breaks cs n c k j us → folds cs n c i j (folded_breaks us)
  unfolding folds
  folds_is n c i k j us r p = (k, r, (us, p, refl))

  pub folds_same : (n : ℕ) (c : Ctx) (i j k : ℕ) (xs ys : List ℕ) → folds cs n c i j xs → Ns cs j → folds cs n c i k ys → Ns cs k → (j ≡ k) × (xs ≡ ys)
  unfolding folds
  folds_same n c i j k xs ys (l, r, (us, p, e)) a q b =
      let through = folds_through n c i l r (breaks_stops n c l j us p) k ys q in
      let both = breaks_same n c l j k us through.0 p a through.1 b in
      (both.0, e ∙ ap folded_breaks both.1 ∙ sym through.2)

  -- where no break leads on after the whites there is no fold
  pub no_fold : (n : ℕ) (c : Ctx) (i k : ℕ) → run cs is_white i k → NoWhite cs k → NoBreaks cs n c k → NoFold cs n c i
  no_fold n c i k r stop none j xs p = let q = folds_through n c i k r stop j xs p in none j q.0 q.1

  pub gap_same : (n : ℕ) (c : Ctx) (i j k : ℕ) (xs ys : List ℕ) → gap cs n c i j xs → Ns cs j → gap cs n c i k ys → Ns cs k → (j ≡ k) × (xs ≡ ys)
  unfolding gap folds
  gap_same n c i j k xs ys (inl (r, e)) a (inl (s, f)) b =
      let at : j ≡ k = run_same cs is_white i j k r s (ns_stops cs j a) (ns_stops cs k b) in
      (at, e ∙ ap (slice_range cs i) at ∙ sym f)
  gap_same n c i j k xs ys (inl (r, e)) a (inr (l, s, (us, p, f))) b =
      absurd (breaks_no_ns n c l k us p (subst (Ns cs) (run_same cs is_white i j l r s (ns_stops cs j a) (breaks_stops n c l k us p)) a))
  gap_same n c i j k xs ys (inr (l, s, (us, p, f))) a (inl (r, e)) b =
      absurd (breaks_no_ns n c l j us p (subst (Ns cs) (run_same cs is_white i k l r s (ns_stops cs k b) (breaks_stops n c l j us p)) b))
  gap_same n c i j k xs ys (inr p) a (inr q) b = folds_same n c i j k xs ys p a q b

  -- what begins with such a character
  abbrev pub BeginsNs : TextRule → Type 0
  BeginsNs S = (i j : ℕ) (xs : List ℕ) → S i j xs → Ns cs i

  pub gap_then_same : (n : ℕ) (c : Ctx) (S : TextRule) → BeginsNs S → Same S → Same (gap cs n c ⨾ S)
  gap_then_same n c S first same i j k xs ys (l, us, vs, g, s, e) (m, ws, ts, h, t, f) =
      let both = gap_same n c i l m us ws g (first l j vs s) h (first m k ts t) in
      let rest = same m j k vs ts (subst (λ x. S x j vs) both.0 s) t in
      (rest.0, e ∙ ap (λ v. v ++ vs) both.1 ∙ ap (λ v. ws ++ v) rest.1 ∙ sym f)

  -- ---- after a break

  -- the margin of a line with text that is no mark
  abbrev pub solid_margin : ℕ → Span
  solid_margin n i j = margin cs n i j × Ns cs j × (DocumentMark cs j → ⊥)

  abbrev pub solid_lead : ℕ → TextRule
  solid_lead n = any (empty n) ◂ solid_margin n

  pub lead_is : (n i k j : ℕ) (xs : List ℕ) → any (empty n) i k xs → margin cs n k j → lead cs n i j xs
  unfolding lead
  lead_is n i k j xs p m = (k, p, m)

  -- where no lead to text stands at a later line, none stands at the first
  pub lead_none : (n i k : ℕ) (xs : List ℕ) → any (empty n) i k xs → Unread (solid_lead n) k → (j : ℕ) (ys : List ℕ) → lead cs n i j ys → Ns cs j → (DocumentMark cs j → ⊥) → ⊥
  unfolding lead
  lead_none n i k xs p none j ys (l, q, m) a b =
      any_span_none (empty_same n) (λ x y z us e (f, g, h). empty_apart n x y z us e (f, g)) p none j ys (l, q, (m, a, b))

  no_space : (m : ℕ) → slice_get cs m ≢ Some 32 → Stands cs is_space m → ⊥
  no_space m stop (c, h, t) = stop (h ∙ ap Some (space_is c t))

  short_margin : (n i m k : ℕ) → less cs n i m → slice_get cs m ≢ Some 32 → margin cs n i k → ⊥
  unfolding margin less indent
  short_margin n i m k (b, (a, s)) stop (l, ((h, t), e), r) = no_space m stop (t m a (omega (arith, b, e)))

  no_space_break : (i j : ℕ) → line_brk cs i j → slice_get cs i ≢ Some 32
  no_space_break i j b h = brk_stops cs i j b (32, h, space_white)

  pub short_none : (n i m : ℕ) → less cs n i m → slice_get cs m ≢ Some 32 → ((j : ℕ) → line_brk cs m j → ⊥) → Unread (solid_lead n) i
  unfolding skipped_line less
  short_none n i m short stop no_break j xs (l, p, (t, a, b)) = go xs p t
    where
      go : (xs : List ℕ) → Any (empty n) l i xs → margin cs n l j → ⊥
      go xs (done e f) t = short_margin n i m j short stop (subst (λ x. margin cs n x j) e t)
      go xs (then k ys zs (o, (q, inl r, c), e) rest f) t = short_margin n i m q short stop r
      go xs (then k ys zs (o, (q, inr r, c), e) rest f) t =
          let at : q ≡ m = run_same cs is_space i q m r.1 short.1 (no_space q (no_space_break q o c)) (no_space m stop) in
          no_break o (subst (λ x. line_brk cs x o) at c)

  pub whole_none : (n i m : ℕ) → margin cs n i m → NoWhite cs m → ((j : ℕ) → line_brk cs m j → ⊥) → (Ns cs m → (DocumentMark cs m → ⊥) → ⊥) → Unread (solid_lead n) i
  unfolding skipped_line
  whole_none n i m whole stop no_break barred j xs (l, p, (t, a, b)) = go xs p t
    where
      go : (xs : List ℕ) → Any (empty n) l i xs → margin cs n l j → ⊥
      go xs (done e f) t =
          let at : j ≡ m = run_same cs is_white i j m (margin_white n i j (subst (λ x. margin cs n x j) e t)) (margin_white n i m whole) (ns_stops cs j a) stop in
          barred (subst (Ns cs) at a) (subst (λ x. DocumentMark cs x → ⊥) at b)
      go xs (then k ys zs (o, (q, r, c), e) rest f) t =
          let at : q ≡ m = run_same cs is_white i q m (blank_white n i q r) (margin_white n i m whole) (brk_stops cs q o c) stop in
          no_break o (subst (λ x. line_brk cs x o) at c)

  pub empty_is : (n i m j : ℕ) → (margin cs n ⊔ less cs n) i m → line_brk cs m j → empty n i j (10 ∷ [])
  unfolding skipped_line
  empty_is n i m j b r = (j, (m, b, r), (refl, refl))

  -- ---- no mark stands in a gap

  blank_empties : (n : ℕ) {j i : ℕ} {xs : List ℕ} → Any (empty n) j i xs → Blank cs i j
  unfolding skipped_line
  blank_empties n {j} {i} (done e f) = λ k a b s. absurd (omega (arith, a, b, e))
  blank_empties n {j} {i} (then m ys zs (l, (q, r, c), (e, f)) rest g) =
      blank_join cs i m j (subst (Blank cs i) (sym e) (blank_join cs i q l (blank_white_run cs i q (blank_white n i q r)) (blank_brk cs q l c))) (blank_empties n rest)

  pub blank_lead : (n i j : ℕ) (xs : List ℕ) → lead cs n i j xs → Blank cs i j
  unfolding lead
  blank_lead n i j xs (m, p, q) = blank_join cs i m j (blank_empties n p) (blank_white_run cs m j (margin_white n m j q))

  pub blank_breaks : (n : ℕ) (c : Ctx) (i j : ℕ) (xs : List ℕ) → breaks cs n c i j xs → Blank cs i j
  blank_breaks n c i j xs p = let q = breaks_brk n c i j xs p in blank_join cs i q.0 j (blank_brk cs i q.0 q.1) (blank_lead n q.0 j xs q.2)

  pub blank_folds : (n : ℕ) (c : Ctx) (i j : ℕ) (xs : List ℕ) → folds cs n c i j xs → Blank cs i j
  unfolding folds
  blank_folds n c i j xs (k, r, (us, p, e)) = blank_join cs i k j (blank_white_run cs i k r) (blank_breaks n c k j us p)

  pub blank_gap : (n : ℕ) (c : Ctx) (i j : ℕ) (xs : List ℕ) → gap cs n c i j xs → Blank cs i j
  unfolding gap
  blank_gap n c i j xs (inl (r, e)) = blank_white_run cs i j r
  blank_gap n c i j xs (inr p) = blank_folds n c i j xs p

  pub unmarked_cuts : Cuts (Unmarked cs)
  unmarked_cuts = record {
    front = λ i k j a b u m x y. u m x (omega (arith, y, b));
    back = λ i k j a b u m x y. u m (omega (arith, x, a)) y;
  }

  pub lead_onward : (n i j : ℕ) (xs : List ℕ) → lead cs n i j xs → i ≤ j
  unfolding lead
  lead_onward n i j xs (k, p, m) =
      let a : i ≤ k = any_onward (empty_onward n) p in
      let b : k ≤ j = (margin_white n k j m).0 in
      omega (arith, a, b)

  pub breaks_onward : (n : ℕ) (c : Ctx) (i j : ℕ) (xs : List ℕ) → breaks cs n c i j xs → i < j
  breaks_onward n c i j xs p =
      let q = breaks_brk n c i j xs p in
      let x : i < q.0 = brk_onward cs i q.0 q.1 in
      let y : q.0 ≤ j = lead_onward n q.0 j xs q.2 in
      omega (arith, x, y)

  pub folds_onward : (n : ℕ) (c : Ctx) (i j : ℕ) (xs : List ℕ) → folds cs n c i j xs → i < j
  unfolding folds
  folds_onward n c i j xs (k, r, (us, p, e)) =
      let x : i ≤ k = r.0 in
      let y : k < j = breaks_onward n c k j us p in
      omega (arith, x, y)

  pub gap_onward : (n : ℕ) (c : Ctx) (i j : ℕ) (xs : List ℕ) → gap cs n c i j xs → i ≤ j
  unfolding gap
  gap_onward n c i j xs (inl (r, e)) = r.0
  gap_onward n c i j xs (inr p) = let l : i < j = folds_onward n c i j xs p in omega (arith, l)

  pub no_breaks_key : (n : ℕ) (c : Ctx) (i : ℕ) → is_key c ≡ true → NoBreaks cs n c i
  unfolding breaks
  no_breaks_key n c i k j xs (f, p) = let h : true ≡ false = sym k ∙ f in cc

  pub no_breaks_here : (n : ℕ) (c : Ctx) (i : ℕ) → ((j : ℕ) → line_brk cs i j → ⊥) → NoBreaks cs n c i
  no_breaks_here n c i none j xs p = let q = breaks_brk n c i j xs p in absurd (none q.0 q.1)

  pub no_breaks_lead : (n : ℕ) (c : Ctx) (i l : ℕ) → line_brk cs i l → NoLead cs n l → NoBreaks cs n c i
  no_breaks_lead n c i l b none j xs p =
      let q = breaks_brk n c i j xs p in none j xs (subst (λ x. lead cs n x j xs) (brk_same cs i q.0 l q.1 b) q.2)

  pub breaks_is : (n : ℕ) (c : Ctx) (i l j : ℕ) (us : List ℕ) → is_key c ≡ false → line_brk cs i l → lead cs n l j us → breaks cs n c i j us
  unfolding breaks
  breaks_is n c i l j us f b q = (f, (l, b, q))
