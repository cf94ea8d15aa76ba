-- Double-quoted scalars.
use Rattle.std.proofs.Common.{◌≡◌, ◌≢◌, ℕ, ◌+◌, ◌-◌, ◌<◌, ◌≤◌, ◌⊎◌, inl, inr, List, [], ◌∷◌, ◌++◌, Some, true, refl, sym, ◌∙◌, ap, subst, arith, append_assoc}
use Rattle.std.specs.Prelude.{slice_get, slice_range, not, ◌&&◌, ◌==◌}
use Rattle.std.proofs.lemmas.Bool.{cases_eq}
use Rattle.yaml_text.specs.LeafAnswer.{Only}
use Rattle.yaml_text.specs.LeafAnswer.{Unread}
use Rattle.yaml_definitions.specs.grammar.Rules.{chr, any, Stands, run}
use Rattle.yaml_definitions.specs.grammar.Characters.{is_white, is_ns, is_nb, is_break, c-ns-esc-char as escape}
use Rattle.yaml_definitions.specs.grammar.Separation.{Ctx, DocumentMark, Unmarked}
use Rattle.yaml_definitions.specs.grammar.FlowScalars.{ns-double-char as double_char}
use Rattle.yaml_scalar.specs.Chains.{breaks, folds, gap, verbatim, quoted_more, SolidStart, NoSolidBreaks, escaped_end, double_gap, double_rest, double_chain}
use Rattle.yaml_text.specs.Lines.{line_brk}
use Rattle.yaml_scalar.proofs.AnyLemmas.{Same, Onward}
use Rattle.yaml_text.proofs.Runs.{same_char, run_same}
use Rattle.yaml_scalar.proofs.GapLemmas.{breaks_brk, breaks_same, breaks_stops, breaks_no_ns, breaks_onward, folds_through, gap_same, gap_onward, folds_onward, blank_gap, blank_breaks, unmarked_cuts}
use Rattle.yaml_text.proofs.Breaks.{Ns, NoWhite, ns_stops, blank_white_run, unmarked_one, unmarked_join, unmarked_blank, inside_line, mark_starts, mark_dashes}
use Rattle.yaml_scalar.proofs.QuotedLemmas.{Parts, State, rest_of, rest_same, rest_onward, state_start, state_line, state_solid, state_gap, state_end, state_none, still}
use Rattle.yaml_scalar.proofs.EscapeLemmas.{escape_parts, escape_same, escape_characters}

backslash_ns : is_ns 92 ≡ true
unfolding is_ns is_nb is_break is_white
backslash_ns = refl

quote_ns : is_ns 34 ≡ true
unfolding is_ns is_nb is_break is_white
quote_ns = refl

verbatim_double : (x : ℕ) → verbatim 34 x ≡ true → (is_ns x && not (x == 34) && not (x == 92)) ≡ true
unfolding verbatim
verbatim_double x p = grind (arith, p)

double_verbatim : (x : ℕ) → (is_ns x && not (x == 34) && not (x == 92)) ≡ true → verbatim 34 x ≡ true
unfolding verbatim
double_verbatim x p = grind (arith, p)

pub letter_ns : (x : ℕ) → (is_ns x && not (x == 34) && not (x == 92)) ≡ true → is_ns x ≡ true
letter_ns x p = grind (arith, p)

letter_quote : (x : ℕ) → (is_ns x && not (x == 34) && not (x == 92)) ≡ true → x ≡ 34 → ⊥
letter_quote x p e = grind (arith, p, e)

letter_mark : (x : ℕ) → (is_ns x && not (x == 34) && not (x == 92)) ≡ true → x ≡ 92 → ⊥
letter_mark x p e = grind (arith, p, e)

module _ (cs : List ℕ) where
  mark_ns : (i : ℕ) → slice_get cs i ≡ Some 92 → Ns cs i
  mark_ns i h = (92, h, backslash_ns)

  line_brk_char : (i j : ℕ) → line_brk cs i j → (slice_get cs i ≡ Some 10) ⊎ (slice_get cs i ≡ Some 13)
  line_brk_char i j (inl (h, e)) = inl h
  line_brk_char i j (inr (inl (h, g, e))) = inr h
  line_brk_char i j (inr (inr (h, g, e))) = inr h

  escape_no_break : (i j k : ℕ) (v : ℕ) → escape cs i j v → line_brk cs (i + 1) k → ⊥
  escape_no_break i j k v p b =
      let q = escape_characters cs i j v p in
      let (c, h, ten, thirteen) = q.1 (i + 1) (omega arith) (let l : i + 2 ≤ j = q.0 in omega (arith, l)) in
      elim (line_brk_char (i + 1) k b) [ inl g ↦ ten (same_char cs (i + 1) c 10 h g) | inr g ↦ thirteen (same_char cs (i + 1) c 13 h g) ]

  -- ---- the parts of a double-quoted text

  solid_same : Same (double_char cs)
  unfolding double_char
  solid_same i j k xs ys (x, inl (h, p, e), f) (y, inl (g, q, a), b) = (e ∙ sym a, f ∙ ap (λ v. v ∷ []) (same_char cs i x y h g) ∙ sym b)
  solid_same i j k xs ys (x, inl (h, p, e), f) (y, inr q, b) = absurd (letter_mark x p (same_char cs i x 92 h (escape_parts cs i k y q).mark))
  solid_same i j k xs ys (x, inr q, f) (y, inl (h, p, e), b) = absurd (letter_mark y p (same_char cs i y 92 h (escape_parts cs i j x q).mark))
  solid_same i j k xs ys (x, inr p, f) (y, inr q, b) =
      let both = escape_same cs i j k x y p q in (both.0, f ∙ ap (λ v. v ∷ []) both.1 ∙ sym b)

  escaped_at : (n : ℕ) (c : Ctx) (i j : ℕ) (xs : List ℕ) → escaped_end cs n c i j xs →
      (m : ℕ) × (us : List ℕ) × run cs is_white i m × (slice_get cs m ≡ Some 92) × breaks cs n c (m + 1) j us × (xs ≡ slice_range cs i m ++ us)
  unfolding escaped_end
  escaped_at n c i j xs (m, us, vs, (r, e), (k, (h, f), b), g) = (m, vs, r, h, subst (λ x. breaks cs n c x j vs) f b, g ∙ ap (λ v. v ++ vs) e)

  escaped_is : (n : ℕ) (c : Ctx) (i m k j : ℕ) (us : List ℕ) → run cs is_white i m → slice_get cs m ≡ Some 92 → k ≡ m + 1 → breaks cs n c k j us → escaped_end cs n c i j (slice_range cs i m ++ us)
  unfolding escaped_end
  escaped_is n c i m k j us r h e b = (m, slice_range cs i m, us, (r, refl), (k, (h, e), b), refl)

  -- neither whites nor a fold stands where an escaped break does
  gap_no_escaped : (n : ℕ) (c : Ctx) (i j k : ℕ) (xs ys : List ℕ) → gap cs n c i j xs → SolidStart cs j → escaped_end cs n c i k ys → ⊥
  unfolding gap folds
  gap_no_escaped n c i j k xs ys (inl (r, e)) s p =
      let (m, us, q, h, b, f) = escaped_at n c i k ys p in
      let at : j ≡ m = run_same cs is_white i j m r q (ns_stops cs j s.0) (ns_stops cs m (mark_ns m h)) in
      let l = breaks_brk cs n c (m + 1) k us b in
      s.1 (subst (λ x. slice_get cs x ≡ Some 92) (sym at) h) l.0 (subst (λ x. line_brk cs (x + 1) l.0) (sym at) l.1)
  gap_no_escaped n c i j k xs ys (inr (o, r, (vs, a, w))) s p =
      let (m, us, q, h, b, f) = escaped_at n c i k ys p in
      let at : o ≡ m = run_same cs is_white i o m r q (breaks_stops cs n c o j vs a) (ns_stops cs m (mark_ns m h)) in
      breaks_no_ns cs n c o j vs a (subst (Ns cs) (sym at) (mark_ns m h))

  double_gap_same : (n : ℕ) (c : Ctx) (i j k : ℕ) (xs ys : List ℕ) → double_gap cs n c i j xs → SolidStart cs j → double_gap cs n c i k ys → SolidStart cs k → (j ≡ k) × (xs ≡ ys)
  unfolding double_gap
  double_gap_same n c i j k xs ys (inl p) s (inl q) t = gap_same cs n c i j k xs ys p s.0 q t.0
  double_gap_same n c i j k xs ys (inl p) s (inr q) t = absurd (gap_no_escaped n c i j k xs ys p s q)
  double_gap_same n c i j k xs ys (inr p) s (inl q) t = absurd (gap_no_escaped n c i k j ys xs q t p)
  double_gap_same n c i j k xs ys (inr p) s (inr q) t =
      let (m, us, r, h, b, e) = escaped_at n c i j xs p in
      let (o, vs, r2, h2, b2, e2) = escaped_at n c i k ys q in
      let at : m ≡ o = run_same cs is_white i m o r r2 (ns_stops cs m (mark_ns m h)) (ns_stops cs o (mark_ns o h2)) in
      let both = breaks_same cs n c (o + 1) j k us vs (subst (λ x. breaks cs n c (x + 1) j us) at b) s.0 b2 t.0 in
      (both.0, e ∙ ap (λ v. slice_range cs i m ++ v) both.1 ∙ ap (λ x. slice_range cs i x ++ vs) at ∙ sym e2)

  quote_apart : (i j : ℕ) (xs : List ℕ) → double_char cs i j xs → slice_get cs i ≡ Some 34 → ⊥
  unfolding double_char
  quote_apart i j xs (x, inl (h, p, e), f) g = letter_quote x p (same_char cs i x 34 h g)
  quote_apart i j xs (x, inr q, f) g = let e : 34 ≡ 92 = same_char cs i 34 92 g (escape_parts cs i j x q).mark in omega (arith, e)

  solid_begins : (i j : ℕ) (xs : List ℕ) → double_char cs i j xs → SolidStart cs i
  unfolding double_char
  solid_begins i j xs (x, inl (h, p, e), f) = ((x, h, letter_ns x p), λ g k b. letter_mark x p (same_char cs i x 92 h g))
  solid_begins i j xs (x, inr q, f) = (mark_ns i (escape_parts cs i j x q).mark, λ g k b. escape_no_break i j k x q b)

  quote_begins : (i : ℕ) → slice_get cs i ≡ Some 34 → SolidStart cs i
  quote_begins i h = ((34, h, quote_ns), λ g k b. absurd (let e : 34 ≡ 92 = same_char cs i 34 92 h g in omega (arith, e)))

  solid_onward : Onward (double_char cs)
  unfolding double_char
  solid_onward i j xs (x, inl (h, p, e), f) = omega (arith, e)
  solid_onward i j xs (x, inr q, f) = let l : i + 2 ≤ j = (escape_characters cs i j x q).0 in omega (arith, l)

  double_gap_onward : (n : ℕ) (c : Ctx) (i j : ℕ) (xs : List ℕ) → double_gap cs n c i j xs → i ≤ j
  unfolding double_gap
  double_gap_onward n c i j xs (inl p) = gap_onward cs n c i j xs p
  double_gap_onward n c i j xs (inr p) =
      let (m, us, r, h, b, e) = escaped_at n c i j xs p in
      let x : i ≤ m = r.0 in
      let y : m + 1 < j = breaks_onward cs n c (m + 1) j us b in
      omega (arith, x, y)

  pub double_parts : (n : ℕ) (c : Ctx) → Parts cs (SolidStart cs) (double_gap cs n c) (double_char cs) (chr cs 34)
  unfolding double_gap gap
  double_parts n c = record {
    g_white = λ i j r. inl (inl (r, refl));
    f_ns = λ i s. s.0;
    g_same = double_gap_same n c;
    g_onward = double_gap_onward n c;
    s_begins = solid_begins;
    s_same = solid_same;
    s_onward = solid_onward;
    c_begins = λ i j (h, e). quote_begins i h;
    c_same = λ i j k (h, e) (g, f). e ∙ sym f;
    c_onward = λ i j (h, e). omega (arith, e);
    apart = λ i j k xs p (h, e). quote_apart i j xs p h;
  }

  abbrev pub DoubleState : ℕ → Ctx → ℕ → ℕ → ℕ → List ℕ → Type 0
  DoubleState n c = State cs (SolidStart cs) (double_gap cs n c) (double_char cs) (chr cs 34) (double_parts n c)

  -- ---- marks

  pub no_dashes : (x i : ℕ) → slice_get cs i ≡ Some x → x ≢ 45 → x ≢ 46 → DocumentMark cs i → ⊥
  no_dashes x i h a b m = elim (mark_dashes cs i m) [
    | inl d ↦ a (same_char cs i x 45 h d.0)
    | inr d ↦ b (same_char cs i x 46 h d.0)
  ]

  -- no line starts after a character that is no break
  pub no_mark_after : (i k : ℕ) → k ≡ i + 1 → (c : ℕ) × (slice_get cs i ≡ Some c) × (c ≢ 10) × (c ≢ 13) → DocumentMark cs k → ⊥
  no_mark_after i k e (c, h, a, b) m = inside_line cs i k e (λ g. a (same_char cs i c 10 h g)) (λ g. b (same_char cs i c 13 h g)) (mark_starts cs k m)

  escape_unmarked : (i j v : ℕ) → escape cs i j v → Unmarked cs i j × (DocumentMark cs j → ⊥)
  escape_unmarked i j v p =
      let q = escape_characters cs i j v p in
      let l : i + 2 ≤ j = q.0 in (
        (λ k a b. elim (cases_eq k i) [
          | inl e ↦ no_dashes 92 k (subst (λ x. slice_get cs x ≡ Some 92) (sym e) (escape_parts cs i j v p).mark) (omega arith) (omega arith)
          | inr n ↦ no_mark_after (k - 1) k (omega (arith, a, n)) (q.1 (k - 1) (omega (arith, a, n)) (omega (arith, b)))
        ]),
        no_mark_after (j - 1) j (omega (arith, l)) (q.1 (j - 1) (omega (arith, l)) (omega (arith, l))),
      )

  -- ---- reading on

  pub double_start : (n : ℕ) (c : Ctx) (a b : ℕ) → slice_get cs a ≡ Some 34 → b ≡ a + 1 → DoubleState n c a b b []
  double_start n c a b h e = state_start cs _ _ _ _ (double_parts n c) a b 34 h quote_ns (no_dashes 34 a h (omega arith) (omega arith)) e

  letter_solid : (i j c : ℕ) → slice_get cs i ≡ Some c → verbatim 34 c ≡ true → j ≡ i + 1 → double_char cs i j (c ∷ [])
  unfolding double_char
  letter_solid i j c h v e = (c, inl (h, verbatim_double c v, e), refl)

  pub double_line : (n : ℕ) (c : Ctx) (a b j k : ℕ) (xs zs : List ℕ) → DoubleState n c a b j xs → any (quoted_more cs 34) j k zs → DoubleState n c a b k (xs ++ zs)
  double_line n c a b j k xs zs s p = state_line cs _ _ _ _ (double_parts n c) 34 letter_solid a b p xs s

  pub double_escape : (n : ℕ) (c : Ctx) (a b j k m v : ℕ) (xs : List ℕ) → DoubleState n c a b j xs → run cs is_white j k → escape cs k m v → DoubleState n c a b m ((xs ++ slice_range cs j k) ++ v ∷ [])
  unfolding double_char
  double_escape n c a b j k m v xs s r p =
      let u = escape_unmarked k m v p in
      subst (DoubleState n c a b m) (sym (append_assoc xs (slice_range cs j k) (v ∷ [])))
      (state_solid cs _ _ _ _ (double_parts n c) a b j k m xs (v ∷ []) s r (v, inr p, refl) (unmarked_join cs j k m (unmarked_blank cs j k (blank_white_run cs j k r)) u.0) u.1)

  pub double_fold : (n : ℕ) (c : Ctx) (a b j k : ℕ) (xs ws : List ℕ) → DoubleState n c a b j xs → folds cs n c j k ws → SolidStart cs k → (DocumentMark cs k → ⊥) → DoubleState n c a b k (xs ++ ws)
  unfolding double_gap gap
  double_fold n c a b j k xs ws s f t u =
      state_gap cs _ _ _ _ (double_parts n c) a b j k xs ws s bare
      (record { gap = inl (inr f); first = t; only = λ o zs g h. (double_gap_same n c j o k zs ws g h (inl (inr f)) t).0 }) (unmarked_blank cs j k (blank_gap cs n c j k ws (inr f))) u
    where
      bare : SolidStart cs j → ⊥
      bare q = (let l : j < k = folds_onward cs n c j k ws f in blank_gap cs n c j k ws (inr f) j (omega arith) l q.0)

  pub double_break : (n : ℕ) (c : Ctx) (a b j k l m : ℕ) (xs ws : List ℕ) → DoubleState n c a b j xs → run cs is_white j k → slice_get cs k ≡ Some 92 → l ≡ k + 1 → breaks cs n c l m ws → SolidStart cs m → (DocumentMark cs m → ⊥) →
      DoubleState n c a b m ((xs ++ slice_range cs j k) ++ ws)
  unfolding double_gap
  double_break n c a b j k l m xs ws s r h e p t u =
      subst (DoubleState n c a b m) (sym (append_assoc xs (slice_range cs j k) ws))
      (state_gap cs _ _ _ _ (double_parts n c) a b j m xs (slice_range cs j k ++ ws) s bare
      (record { gap = inr whole; first = t; only = λ o zs g f. (double_gap_same n c j o m zs _ g f (inr whole) t).0 }) unmarked u)
    where
      whole : escaped_end cs n c j m (slice_range cs j k ++ ws)
      whole = escaped_is n c j k l m ws r h e p

      bare : SolidStart cs j → ⊥
      bare q =
          (let at : j ≡ k = still cs _ _ _ _ (double_parts n c) j k q.0 r in
          let o = breaks_brk cs n c l m ws p in
          q.1 (subst (λ x. slice_get cs x ≡ Some 92) (sym at) h) o.0 (subst (λ x. line_brk cs x o.0) (let f : l ≡ j + 1 = omega (arith, e, at) in f) o.1))

      unmarked : Unmarked cs j m
      unmarked = unmarked_join cs j k m (unmarked_blank cs j k (blank_white_run cs j k r))
          (unmarked_join cs k l m (unmarked_one cs k l e (no_dashes 92 k h (omega arith) (omega arith))) (unmarked_blank cs l m (blank_breaks cs n c l m ws p)))

  pub double_end : (n : ℕ) (c : Ctx) (a b j k l : ℕ) (xs : List ℕ) → slice_get cs a ≡ Some 34 → b ≡ a + 1 → DoubleState n c a b j xs → run cs is_white j k → slice_get cs k ≡ Some 34 → l ≡ k + 1 →
      Only (double_chain cs n c) a l (xs ++ slice_range cs j k)
  unfolding double_chain double_rest
  double_end n c a b j k l xs h e s r q f = record {
    is = (unmarked_join cs a j l s.unmarked (unmarked_join cs j k l (unmarked_blank cs j k (blank_white_run cs j k r)) (unmarked_one cs k l f (no_dashes 34 k q (omega arith) (omega arith)))), (b, (h, e), text));
    only = λ m ys (u, (d, (g, x), p)).
        let z = rest_same cs _ _ _ _ (double_parts n c) b m l ys (xs ++ slice_range cs j k) (subst (λ x. rest_of cs (double_gap cs n c) (double_char cs) (chr cs 34) x m ys) (x ∙ sym e) p) text in
        (z.0, z.1);
  }
    where
      text : rest_of cs (double_gap cs n c) (double_char cs) (chr cs 34) b l (xs ++ slice_range cs j k)
      text = state_end cs _ _ _ _ (double_parts n c) a b j k l xs s r (q, f)

  -- where after the whites neither text nor the quote stands, and no fold or escaped break leads on
  pub double_none : (n : ℕ) (c : Ctx) (a b j k : ℕ) (xs : List ℕ) → b ≡ a + 1 → DoubleState n c a b j xs → run cs is_white j k → NoWhite cs k → slice_get cs k ≢ Some 34 → (Stands cs (verbatim 34) k → ⊥) → Unread (escape cs) k →
      NoSolidBreaks cs n c k → (slice_get cs k ≡ Some 92 → NoSolidBreaks cs n c (k + 1)) → Unread (double_chain cs n c) a
  unfolding double_chain double_rest double_char double_gap gap
  double_none n c a b j k xs e s r stop no_quote no_text no_escape no_fold no_break m ys (u, (d, (g, f), p)) =
      let q = subst (λ x. rest_of cs (double_gap cs n c) (double_char cs) (chr cs 34) x m ys) (f ∙ sym e) p in
      let l : b ≤ m = rest_onward cs _ _ _ _ (double_parts n c) b m ys q in
      state_none cs _ _ _ _ (double_parts n c) a b j k xs s r solid (λ m (h, g). no_quote h) gaps m ys ((unmarked_cuts cs).back a b m (omega (arith, e)) l u, q)
    where
      solid : (m : ℕ) (zs : List ℕ) → double_char cs k m zs → ⊥
      solid m zs (x, inl (h, v, f), g) = no_text (x, h, double_verbatim x v)
      solid m zs (x, inr p, g) = no_escape m x p

      gaps : (o : ℕ) (ys : List ℕ) → double_gap cs n c j o ys → SolidStart cs o → (DocumentMark cs o → ⊥) → o ≡ k
      gaps o ys (inl (inl (q, w))) t v = run_same cs is_white j o k q r (ns_stops cs o t.0) stop
      gaps o ys (inl (inr q)) t v = let z = folds_through cs n c j k r stop o ys q in absurd (no_fold o z.0 z.1 t v)
      gaps o ys (inr q) t v =
          let (m, us, w, h, z, x) = escaped_at n c j o ys q in
          let at : m ≡ k = run_same cs is_white j m k w r (ns_stops cs m (mark_ns m h)) stop in
          absurd (no_break (subst (λ x. slice_get cs x ≡ Some 92) at h) o us (subst (λ x. breaks cs n c (x + 1) o us) at z) t v)

  -- a double-quoted scalar has one reading at most
  pub double_chain_same : (n : ℕ) (c : Ctx) → Same (double_chain cs n c)
  unfolding double_chain double_rest
  double_chain_same n c i j k xs ys (u, (m, (h, e), p)) (v, (o, (g, f), q)) =
      rest_same cs _ _ _ _ (double_parts n c) m j k xs ys p (subst (λ x. rest_of cs (double_gap cs n c) (double_char cs) (chr cs 34) x k ys) (f ∙ sym e) q)

  pub no_double : (n : ℕ) (c : Ctx) (a : ℕ) → slice_get cs a ≢ Some 34 → Unread (double_chain cs n c) a
  unfolding double_chain
  no_double n c a h m ys (u, (d, (g, f), p)) = h g

  -- ---- no break that leads on

  pub no_solid : (n : ℕ) (c : Ctx) (i : ℕ) → ((j : ℕ) (xs : List ℕ) → breaks cs n c i j xs → Ns cs j → (DocumentMark cs j → ⊥) → ⊥) → NoSolidBreaks cs n c i
  no_solid n c i none j xs p s m = none j xs p s.0 m

  pub no_solid_second : (n : ℕ) (c : Ctx) (i j k : ℕ) (us : List ℕ) → breaks cs n c i j us → Ns cs j → slice_get cs j ≡ Some 92 → k ≡ j + 1 → (l : ℕ) × line_brk cs k l → NoSolidBreaks cs n c i
  no_solid_second n c i j k us b t h e (l, q) o xs p s m =
      let at : o ≡ j = (breaks_same cs n c i o j xs us p s.0 b t).0 in
      s.1 (subst (λ x. slice_get cs x ≡ Some 92) (sym at) h) l (subst (λ x. line_brk cs x l) (let f : k ≡ o + 1 = omega (arith, e, at) in f) q)

  -- no break stands at a backslash
  pub no_break_mark : (n : ℕ) (c : Ctx) (i : ℕ) → slice_get cs i ≡ Some 92 → NoSolidBreaks cs n c i
  no_break_mark n c i h j xs p s m = breaks_no_ns cs n c i j xs p (mark_ns i h)

  pub no_break_here : (n : ℕ) (c : Ctx) (i : ℕ) → ((j : ℕ) → line_brk cs i j → ⊥) → NoSolidBreaks cs n c i
  no_break_here n c i none j xs p s m = let q = breaks_brk cs n c i j xs p in none q.0 q.1
