-- Quoted scalars.
use Rattle.std.proofs.Common.{◌≡◌, ◌≢◌, ℕ, zero, suc, ◌+◌, ◌-◌, ◌<◌, ◌≤◌, ◌⊎◌, inl, inr, List, [], ◌∷◌, ◌++◌, Some, true, refl, sym, ◌∙◌, ap, subst, arith, append_assoc}
use Rattle.std.proofs.lemmas.List.{append-nil}
use Rattle.std.specs.Prelude.{slice_get, slice_range, not, ◌&&◌, ◌==◌}
use Rattle.std.proofs.lemmas.Bool.{cases_eq}
use Rattle.yaml_definitions.specs.grammar.Rules.{Span, ◌◂◌, ◌⨾◌, any, Any, done, then, Stands, run, where_both}
use Rattle.yaml_scalar.specs.Chains.{TextRule}
use Rattle.yaml_definitions.specs.grammar.Characters.{is_white, is_ns, is_nb, is_break}
use Rattle.yaml_definitions.specs.grammar.Separation.{DocumentMark, Unmarked}
use Rattle.yaml_scalar.specs.Chains.{folds, NoFold, gap, verbatim, quoted_more, closing_quote, single_rest, single_chain}
use Rattle.yaml_text.specs.Lines.{LooksLikeMarker}
use Rattle.yaml_definitions.specs.grammar.FlowScalars.{ns-single-char as single_char}
use Rattle.yaml_text.specs.LeafAnswer.{Unread}
use Rattle.yaml_text.specs.LeafAnswer.{Only}
use Rattle.yaml_definitions.specs.grammar.Separation.{Ctx}
use Rattle.yaml_text.proofs.PlaceLemmas.{slice_snoc, slice_none, slice_join}
use Rattle.yaml_scalar.proofs.AnyLemmas.{Same, Onward, any_onward, any_none, any_snoc, any_then_same, any_then_none}
use Rattle.yaml_text.proofs.Repeats.{SameEnd}
use Rattle.yaml_text.proofs.Runs.{same_char, run_same, run_none}
use Rattle.yaml_scalar.proofs.GapLemmas.{gap_same, gap_onward, folds_onward, blank_gap, unmarked_cuts, BeginsNs}
use Rattle.yaml_text.proofs.Breaks.{Ns, NoWhite, ns_stops, blank_white_run, unmarked_one, unmarked_join, unmarked_blank, after_ns, after_white, mark_starts, mark_dashes}

verbatim_ns : (q x : ℕ) → verbatim q x ≡ true → is_ns x ≡ true
unfolding verbatim
verbatim_ns q x p = grind (arith, p)

verbatim_single : (x : ℕ) → verbatim 39 x ≡ true → (is_ns x && not (x == 39)) ≡ true
unfolding verbatim
verbatim_single x p = grind (arith, p)

single_verbatim : (x : ℕ) → (is_ns x && not (x == 39)) ≡ true → verbatim 39 x ≡ true
unfolding verbatim
single_verbatim x p = grind (arith, p)

pub single_ns : (x : ℕ) → (is_ns x && not (x == 39)) ≡ true → is_ns x ≡ true
single_ns x p = grind (arith, p)

single_quote : (x : ℕ) → (is_ns x && not (x == 39)) ≡ true → x ≡ 39 → ⊥
single_quote x p e = grind (arith, p, e)

quote_ns : is_ns 39 ≡ true
unfolding is_ns is_nb is_break is_white
quote_ns = refl

module _ (cs : List ℕ) where
  pub quoted_is : (q k i j x : ℕ) → run cs is_white k i → slice_get cs i ≡ Some x → verbatim q x ≡ true → j ≡ i + 1 → quoted_more cs q k j (slice_range cs k j)
  unfolding quoted_more
  quoted_is q k i j x r h v e = (i, slice_range cs k i, x ∷ [], (r, refl), ((x, h, v), x, h, e, refl), slice_snoc cs k i j x r.0 h e)

  quoted_steps : (q n k j : ℕ) → j ≡ k + n → run cs (verbatim q) k j → any (quoted_more cs q) k j (slice_range cs k j)
  quoted_steps q zero k j e r =
      subst (λ m. any (quoted_more cs q) k m (slice_range cs k m)) (let z : k ≡ j = omega (arith, e) in z)
      (subst (any (quoted_more cs q) k k) (sym (slice_none cs k)) any_none)
  quoted_steps q (suc n) k j e r =
      let s = r.1 (k + n) (omega arith) (omega (arith, e)) in
      let before = quoted_steps q n k (k + n) refl (omega arith, λ x a b. r.1 x a (omega (arith, b, e))) in
      let one = quoted_is q (k + n) (k + n) j s.0 (run_none cs is_white (k + n)) s.1 s.2 (omega (arith, e)) in
      subst (any (quoted_more cs q) k j) (sym (slice_join cs k (k + n) j (omega arith) (omega (arith, e)))) (any_snoc before one)

  -- characters that stand for themselves
  pub line_quoted : (q k j : ℕ) → run cs (verbatim q) k j → any (quoted_more cs q) k j (slice_range cs k j)
  line_quoted q k j r = quoted_steps q (j - k) k j (let h : k ≤ j = r.0 in omega (arith, h)) r

  pub quoted_onward : (q : ℕ) → Onward (quoted_more cs q)
  unfolding quoted_more
  quoted_onward q i j xs (m, us, vs, ((a, r), y), (l, x, g, e, f), z) = omega (arith, a, e)

  -- a text and then two stretches side by side
  pub two_slices : (xs : List ℕ) (q i k j : ℕ) → any (quoted_more cs q) i k (slice_range cs i k) → k ≤ j → (xs ++ slice_range cs i k) ++ slice_range cs k j ≡ xs ++ slice_range cs i j
  two_slices xs q i k j p h =
      append_assoc xs (slice_range cs i k) (slice_range cs k j) ∙ ap (λ v. xs ++ v) (sym (slice_join cs i k j (any_onward (quoted_onward q) p) h))

  -- ---- a quoted text made of gaps and solid characters, and its end

  -- F holds where a solid character or the end begins
  pub record Parts (F : ℕ → Type 0) (G S : TextRule) (C : Span) : Type 0 where
    pub g_white : (i j : ℕ) → run cs is_white i j → G i j (slice_range cs i j)
    pub f_ns : (i : ℕ) → F i → Ns cs i
    pub g_same : (i j k : ℕ) (xs ys : List ℕ) → G i j xs → F j → G i k ys → F k → (j ≡ k) × (xs ≡ ys)
    pub g_onward : (i j : ℕ) (xs : List ℕ) → G i j xs → i ≤ j
    pub s_begins : (i j : ℕ) (xs : List ℕ) → S i j xs → F i
    pub s_same : Same S
    pub s_onward : Onward S
    pub c_begins : (i j : ℕ) → C i j → F i
    pub c_same : SameEnd C
    pub c_onward : (i j : ℕ) → C i j → i < j
    pub apart : (i j k : ℕ) (xs : List ℕ) → S i j xs → C i k → ⊥

  abbrev pub more_of : TextRule → TextRule → TextRule
  more_of G S = G ⨾ S

  abbrev pub rest_of : TextRule → TextRule → Span → TextRule
  rest_of G S C = any (G ⨾ S) ⨾ (G ◂ C)

  module _ (F : ℕ → Type 0) (G S : TextRule) (C : Span) (parts : Parts F G S C) where
    pub more_same : Same (more_of G S)
    more_same i j k xs ys (l, us, vs, g, s, e) (m, ws, ts, h, t, f) =
        let both = parts.g_same i l m us ws g (parts.s_begins l j vs s) h (parts.s_begins m k ts t) in
        let rest = parts.s_same m j k vs ts (subst (λ x. S x j vs) both.0 s) t in
        (rest.0, e ∙ ap (λ v. v ++ vs) both.1 ∙ ap (λ v. ws ++ v) rest.1 ∙ sym f)

    pub more_onward : Onward (more_of G S)
    more_onward i j xs (l, us, vs, g, s, e) =
        let a : i ≤ l = parts.g_onward i l us g in
        let b : l < j = parts.s_onward l j vs s in
        omega (arith, a, b)

    end_same : Same (G ◂ C)
    end_same i j k xs ys (l, g, c) (m, h, d) =
        let both = parts.g_same i l m xs ys g (parts.c_begins l j c) h (parts.c_begins m k d) in
        (parts.c_same m j k (subst (λ x. C x j) both.0 c) d, both.1)

    end_apart : (i j k : ℕ) (xs ys : List ℕ) → more_of G S i j xs → (G ◂ C) i k ys → ⊥
    end_apart i j k xs ys (l, us, vs, g, s, e) (m, h, d) =
        let both = parts.g_same i l m us ys g (parts.s_begins l j vs s) h (parts.c_begins m k d) in
        parts.apart m j k vs (subst (λ x. S x j vs) both.0 s) d

    end_onward : (i j : ℕ) (xs : List ℕ) → (G ◂ C) i j xs → i ≤ j
    end_onward i j xs (l, g, c) =
        let a : i ≤ l = parts.g_onward i l xs g in
        let b : l < j = parts.c_onward l j c in
        omega (arith, a, b)

    pub rest_same : Same (rest_of G S C)
    rest_same = any_then_same more_same end_same end_apart

    pub rest_onward : (i j : ℕ) (xs : List ℕ) → rest_of G S C i j xs → i ≤ j
    rest_onward i j xs (m, us, vs, p, q, e) =
        let a : i ≤ m = any_onward more_onward p in
        let b : m ≤ j = end_onward m j vs q in
        omega (arith, a, b)

    -- a gap to a character of text, and none to another
    pub record Found (e j : ℕ) (ys : List ℕ) : Type 0 where
      pub gap : G e j ys
      pub first : F j
      pub only : (o : ℕ) (zs : List ℕ) → G e o zs → F o → o ≡ j

    -- What has been read of a quoted text whose quote stands at a: pieces up to e, and a gap that a character of text follows.
    pub record State (a b j : ℕ) (xs : List ℕ) : Type 0 where
      pub e : ℕ
      pub us : List ℕ
      pub ys : List ℕ
      pub chain : any (more_of G S) b e us
      pub pending : ((e ≡ j) × (ys ≡ [])) ⊎ Found e j ys
      pub text : xs ≡ us ++ ys
      pub unmarked : Unmarked cs a j
      pub fresh : DocumentMark cs j → ⊥

    pub state_start : (a b q : ℕ) → slice_get cs a ≡ Some q → is_ns q ≡ true → (DocumentMark cs a → ⊥) → b ≡ a + 1 → State a b b []
    state_start a b q h t n e = record {
      e = b;
      us = [];
      ys = [];
      chain = any_none;
      pending = inl (refl, refl);
      text = refl;
      unmarked = unmarked_one cs a b e n;
      fresh = after_ns cs b (a, e, (q, h, t));
    }

    -- no white follows a gap that is read
    pub still : (j k : ℕ) → Ns cs j → run cs is_white j k → j ≡ k
    still j k s r = run_same cs is_white j j k (run_none cs is_white j) r (ns_stops cs j s) (here (cases_eq j k))
      where
        here : (j ≡ k) ⊎ (j ≡ k → ⊥) → NoWhite cs k
        here (inl e) = subst (NoWhite cs) e (ns_stops cs j s)
        here (inr n) = absurd (let l : j ≤ k = r.0 in ns_stops cs j s (r.1 j (omega arith) (omega (arith, l, n))))

    pub state_whites : (a b j k : ℕ) (xs : List ℕ) (s : State a b j xs) → run cs is_white j k → G s.e k (s.ys ++ slice_range cs j k)
    state_whites a b j k xs s r = go s.pending
      where
        go : ((s.e ≡ j) × (s.ys ≡ [])) ⊎ Found s.e j s.ys → G s.e k (s.ys ++ slice_range cs j k)
        go (inl (f, g)) = subst (λ v. G s.e k (v ++ slice_range cs j k)) (sym g) (subst (λ x. G x k (slice_range cs j k)) (sym f) (parts.g_white j k r))
        go (inr f) =
            let at : j ≡ k = still j k (parts.f_ns j f.first) r in
            subst (λ v. G s.e k (s.ys ++ v)) (sym (ap (slice_range cs j) (sym at) ∙ slice_none cs j))
            (subst (G s.e k) (sym (append-nil s.ys)) (subst (λ x. G s.e x s.ys) at f.gap))

    pub state_solid : (a b j k m : ℕ) (xs zs : List ℕ) → State a b j xs → run cs is_white j k → S k m zs → Unmarked cs j m → (DocumentMark cs m → ⊥) → State a b m (xs ++ (slice_range cs j k ++ zs))
    state_solid a b j k m xs zs s r p u f =
        let g = state_whites a b j k xs s r in
        record {
          e = m;
          us = s.us ++ ((s.ys ++ slice_range cs j k) ++ zs);
          ys = [];
          chain = any_snoc s.chain (k, s.ys ++ slice_range cs j k, zs, g, p, refl);
          pending = inl (refl, refl);
          text = ap (λ v. v ++ (slice_range cs j k ++ zs)) s.text ∙ regroup s.us s.ys (slice_range cs j k) zs;
          unmarked = unmarked_join cs a j m s.unmarked u;
          fresh = f;
        }
      where
        regroup : (a b c d : List ℕ) → (a ++ b) ++ (c ++ d) ≡ (a ++ ((b ++ c) ++ d)) ++ []
        regroup a b c d = simp (append_assoc, append-nil)

    -- the whites before a place and no mark there
    pub unmarked_to : (j k : ℕ) → run cs is_white j k → (DocumentMark cs j → ⊥) → DocumentMark cs k → ⊥
    unmarked_to j k r f = go (cases_eq j k)
      where
        go : (j ≡ k) ⊎ (j ≡ k → ⊥) → DocumentMark cs k → ⊥
        go (inl e) = subst (λ x. DocumentMark cs x → ⊥) e f
        go (inr n) = λ m. after_white cs j k r (let l : j ≤ k = r.0 in omega (arith, l, n)) (mark_starts cs k m)

    pub state_line : (q : ℕ) → ((i j c : ℕ) → slice_get cs i ≡ Some c → verbatim q c ≡ true → j ≡ i + 1 → S i j (c ∷ [])) → (a b : ℕ) →
        {k j : ℕ} {zs : List ℕ} → Any (quoted_more cs q) k j zs → (xs : List ℕ) → State a b j xs → State a b k (xs ++ zs)
    unfolding quoted_more
    state_line q solid a b {k} {j} {zs} (done e f) xs s =
        subst (λ v. State a b k (xs ++ v)) (sym f) (subst (State a b k) (sym (append-nil xs)) (subst (λ x. State a b x xs) (sym e) s))
    state_line q solid a b {k} {j} {zs} (then m vs ws (o, ls, ts, (r, el), ((x, h, v), y, g, e, f), d) rest t) xs s =
        let u : Unmarked cs j m = unmarked_join cs j o m (unmarked_blank cs j o (blank_white_run cs j o r)) (unmarked_one cs o m e (unmarked_to j o r s.fresh)) in
        let next : State a b m (xs ++ (slice_range cs j o ++ x ∷ [])) =
        state_solid a b j o m xs (x ∷ []) s r (solid o m x h v e) u (after_ns cs m (o, e, (x, h, verbatim_ns q x v))) in
        let same : vs ≡ slice_range cs j o ++ x ∷ [] = d ∙ ap (λ w. w ++ ts) el ∙ ap (λ w. slice_range cs j o ++ w) (f ∙ ap (λ w. w ∷ []) (same_char cs o y x g h)) in
        let after : State a b m (xs ++ vs) = subst (λ w. State a b m (xs ++ w)) (sym same) next in
        subst (State a b k) (append_assoc xs vs ws ∙ ap (λ w. xs ++ w) (sym t)) (state_line q solid a b rest (xs ++ vs) after)

    pub state_gap : (a b j k : ℕ) (xs ws : List ℕ) → State a b j xs → (F j → ⊥) → Found j k ws → Unmarked cs j k → (DocumentMark cs k → ⊥) → State a b k (xs ++ ws)
    state_gap a b j k xs ws s bare g u f = go s.pending
      where
        go : ((s.e ≡ j) × (s.ys ≡ [])) ⊎ Found s.e j s.ys → State a b k (xs ++ ws)
        go (inl (at, nil)) = record {
          e = s.e;
          us = s.us;
          ys = ws;
          chain = s.chain;
          pending = inr (subst (λ x. Found x k ws) (sym at) g);
          text = ap (λ v. v ++ ws) (s.text ∙ ap (λ v. s.us ++ v) nil ∙ append-nil s.us);
          unmarked = unmarked_join cs a j k s.unmarked u;
          fresh = f;
        }
        go (inr h) = absurd (bare h.first)

    pub state_end : (a b j k l : ℕ) (xs : List ℕ) → State a b j xs → run cs is_white j k → C k l → rest_of G S C b l (xs ++ slice_range cs j k)
    state_end a b j k l xs s r c =
        (s.e, s.us, s.ys ++ slice_range cs j k, s.chain, (k, state_whites a b j k xs s r, c), ap (λ v. v ++ slice_range cs j k) s.text ∙ append_assoc s.us s.ys (slice_range cs j k))

    -- where after the whites neither a character nor the end stands, and no other gap leads to one
    pub state_none : (a b j k : ℕ) (xs : List ℕ) → State a b j xs → run cs is_white j k → ((m : ℕ) (zs : List ℕ) → S k m zs → ⊥) → ((m : ℕ) → C k m → ⊥) →
        ((o : ℕ) (ys : List ℕ) → G j o ys → F o → (DocumentMark cs o → ⊥) → o ≡ k) → Unread (where_both (Unmarked cs) (rest_of G S C)) b
    state_none a b j k xs s r no_solid no_close gaps =
        any_then_none more_same more_onward (unmarked_cuts cs) end_onward end_apart s.chain here
      where
        at_k : (o : ℕ) (ys : List ℕ) → G s.e o ys → F o → (DocumentMark cs o → ⊥) → ((s.e ≡ j) × (s.ys ≡ [])) ⊎ Found s.e j s.ys → o ≡ k
        at_k o ys g n f (inl (e, z)) = gaps o ys (subst (λ x. G x o ys) e g) n f
        at_k o ys g n f (inr h) = h.only o ys g n ∙ still j k (parts.f_ns j h.first) r

        here : Unread (where_both (Unmarked cs) (rest_of G S C)) s.e
        here l zs (u, (m, us, vs, p, (o, g, c), e)) = go m us p (o, g, c)
          where
            go : (m : ℕ) (us : List ℕ) → Any (more_of G S) m s.e us → (G ◂ C) m l vs → ⊥
            go m us (done d f) (o, g, c) =
                let g2 : G s.e o vs = subst (λ x. G x o vs) d g in
                let w : s.e ≤ o = parts.g_onward s.e o vs g2 in
                let x : o < l = parts.c_onward o l c in
                no_close l (subst (λ y. C y l) (at_k o vs g2 (parts.c_begins o l c) (u o w x) s.pending) c)
            go m us (then n as1 bs (o2, ls, ts, g, t, d) rest f) fin =
                let w : s.e ≤ o2 = parts.g_onward s.e o2 ls g in
                let x : o2 < n = parts.s_onward o2 n ts t in
                let y : n ≤ m = any_onward more_onward rest in
                let z : m ≤ l = end_onward m l vs fin in
                no_solid n ts (subst (λ y. S y n ts) (at_k o2 ls g (parts.s_begins o2 n ts t) (u o2 w (omega (arith, x, y, z))) s.pending) t)

  -- ---- single-quoted

  quote_here : (i : ℕ) → slice_get cs i ≡ Some 39 → Ns cs i
  quote_here i h = (39, h, quote_ns)

  no_verbatim_quote : (i : ℕ) → slice_get cs i ≡ Some 39 → (x : ℕ) → slice_get cs i ≡ Some x → (is_ns x && not (x == 39)) ≡ true → ⊥
  no_verbatim_quote i h x g v = single_quote x v (same_char cs i x 39 g h)

  pub verbatim_solid : (i j c : ℕ) → slice_get cs i ≡ Some c → verbatim 39 c ≡ true → j ≡ i + 1 → single_char cs i j (c ∷ [])
  unfolding single_char
  verbatim_solid i j c h v e = (c, inl (h, verbatim_single c v, e), refl)

  pub pair_solid : (i k j : ℕ) → slice_get cs i ≡ Some 39 → k ≡ i + 1 → slice_get cs k ≡ Some 39 → j ≡ k + 1 → single_char cs i j (39 ∷ [])
  unfolding single_char
  pair_solid i k j h e g f = (39, inr (j, (k, (h, e), (g, f)), (refl, refl)), refl)

  pub single_parts : (n : ℕ) (c : Ctx) → Parts (Ns cs) (gap cs n c) (single_char cs) (closing_quote cs)
  unfolding gap single_char closing_quote
  single_parts n c = record {
    g_white = λ i j r. inl (r, refl);
    f_ns = λ i f. f;
    g_same = gap_same cs n c;
    g_onward = gap_onward cs n c;
    s_begins = begins;
    s_same = same;
    s_onward = onward;
    c_begins = λ i j (h, g, e). quote_here i h;
    c_same = λ i j k (h, g, e) (s, t, f). e ∙ sym f;
    c_onward = λ i j (h, g, e). omega (arith, e);
    apart = apart;
  }
    where
      begins : BeginsNs cs (single_char cs)
      begins i j xs (x, inl (h, v, e), f) = (x, h, single_ns x v)
      begins i j xs (x, inr (k, (m, (h, e), g), t), f) = quote_here i h

      same : Same (single_char cs)
      same i j k xs ys (x, inl (h, p, e), f) (y, inl (g, q, a), b) = (e ∙ sym a, f ∙ ap (λ v. v ∷ []) (same_char cs i x y h g) ∙ sym b)
      same i j k xs ys (x, inl (h, v, e), f) (y, inr (l, (m, (g, a), b), t), d) = absurd (no_verbatim_quote i g x h v)
      same i j k xs ys (y, inr (l, (m, (g, a), b), t), d) (x, inl (h, v, e), f) = absurd (no_verbatim_quote i g x h v)
      same i j k xs ys (r, inr (l, (m, (h, e), (g, f)), (a, b)), q) (o, inr (s, (t, (u, v), (w, x)), (y, z)), p) =
          (a ∙ f ∙ ap (λ r. r + 1) (e ∙ sym v) ∙ sym x ∙ sym y, q ∙ ap (λ v. v ∷ []) (b ∙ sym z) ∙ sym p)

      onward : Onward (single_char cs)
      onward i j xs (x, inl (h, p, e), f) = omega (arith, e)
      onward i j xs (x, inr (l, (m, (h, e), (g, f)), (a, b)), q) = omega (arith, e, f, a)

      apart : (i j k : ℕ) (xs : List ℕ) → single_char cs i j xs → closing_quote cs i k → ⊥
      apart i j k xs (x, inl (t, v, f), q) (h, g, e) = no_verbatim_quote i h x t v
      apart i j k xs (x, inr (l, (m, (a, b), (d, f)), t), q) (h, g, e) = g (subst (λ x. slice_get cs x ≡ Some 39) b d)

  abbrev pub SingleState : ℕ → Ctx → ℕ → ℕ → ℕ → List ℕ → Type 0
  SingleState n c = State (Ns cs) (gap cs n c) (single_char cs) (closing_quote cs) (single_parts n c)

  quote_unmarked : (i : ℕ) → slice_get cs i ≡ Some 39 → DocumentMark cs i → ⊥
  quote_unmarked i h m = go (mark_dashes cs i m)
    where
      go : LooksLikeMarker cs i → ⊥
      go (inl d) = let e : 39 ≡ 45 = same_char cs i 39 45 h d.0 in omega (arith, e)
      go (inr d) = let e : 39 ≡ 46 = same_char cs i 39 46 h d.0 in omega (arith, e)

  pub single_start : (n : ℕ) (c : Ctx) (a b : ℕ) → slice_get cs a ≡ Some 39 → b ≡ a + 1 → SingleState n c a b b []
  single_start n c a b h e = state_start _ _ _ _ (single_parts n c) a b 39 h quote_ns (quote_unmarked a h) e

  pub single_line : (n : ℕ) (c : Ctx) (a b j k : ℕ) (xs zs : List ℕ) → SingleState n c a b j xs → any (quoted_more cs 39) j k zs → SingleState n c a b k (xs ++ zs)
  single_line n c a b j k xs zs s p = state_line _ _ _ _ (single_parts n c) 39 verbatim_solid a b p xs s

  -- two quotes, of which the first is the text
  pub single_pair : (n : ℕ) (c : Ctx) (a b j k l m : ℕ) (xs : List ℕ) → SingleState n c a b j xs → run cs is_white j k → slice_get cs k ≡ Some 39 → l ≡ k + 1 → slice_get cs l ≡ Some 39 → m ≡ l + 1 →
      SingleState n c a b m (xs ++ slice_range cs j l)
  single_pair n c a b j k l m xs s r h e g f =
      subst (λ v. SingleState n c a b m (xs ++ v)) (sym (slice_snoc cs j k l 39 r.0 h e))
      (state_solid _ _ _ _ (single_parts n c) a b j k m xs (39 ∷ []) s r (pair_solid k l m h e g f)
      (unmarked_join cs j k m (unmarked_blank cs j k (blank_white_run cs j k r)) (unmarked_join cs k l m (unmarked_one cs k l e (quote_unmarked k h)) (unmarked_one cs l m f (quote_unmarked l g))))
      (after_ns cs m (l, f, quote_here l g)))

  folds_bare : (n : ℕ) (c : Ctx) (j k : ℕ) (ws : List ℕ) → folds cs n c j k ws → Ns cs j → ⊥
  unfolding gap
  folds_bare n c j k ws f s = let l : j < k = folds_onward cs n c j k ws f in blank_gap cs n c j k ws (inr f) j (omega arith) l s

  pub single_fold : (n : ℕ) (c : Ctx) (a b j k : ℕ) (xs ws : List ℕ) → SingleState n c a b j xs → folds cs n c j k ws → Ns cs k → (DocumentMark cs k → ⊥) → SingleState n c a b k (xs ++ ws)
  unfolding gap
  single_fold n c a b j k xs ws s f t u =
      state_gap _ _ _ _ (single_parts n c) a b j k xs ws s (folds_bare n c j k ws f)
      (record { gap = inr f; first = t; only = λ o zs g h. (gap_same cs n c j o k zs ws g h (inr f) t).0 }) (unmarked_blank cs j k (blank_gap cs n c j k ws (inr f))) u

  pub single_end : (n : ℕ) (c : Ctx) (a b j k l : ℕ) (xs : List ℕ) → slice_get cs a ≡ Some 39 → b ≡ a + 1 → SingleState n c a b j xs → run cs is_white j k → closing_quote cs k l → Only (single_chain cs n c) a l (xs ++ slice_range cs j k)
  unfolding single_chain single_rest closing_quote
  single_end n c a b j k l xs h e s r cl = record {
    is = (unmarked_join cs a j l s.unmarked (unmarked_join cs j k l (unmarked_blank cs j k (blank_white_run cs j k r)) (unmarked_one cs k l cl.2 (quote_unmarked k cl.0))), (b, (h, e), text));
    only = λ m ys (u, (d, (g, f), p)).
        let q = rest_same _ _ _ _ (single_parts n c) b m l ys (xs ++ slice_range cs j k) (subst (λ x. rest_of (gap cs n c) (single_char cs) (closing_quote cs) x m ys) (f ∙ sym e) p) text in
        (q.0, q.1);
  }
    where
      text : rest_of (gap cs n c) (single_char cs) (closing_quote cs) b l (xs ++ slice_range cs j k)
      text = state_end _ _ _ _ (single_parts n c) a b j k l xs s r cl

  pub single_none : (n : ℕ) (c : Ctx) (a b j k : ℕ) (xs : List ℕ) → b ≡ a + 1 → SingleState n c a b j xs → run cs is_white j k → NoWhite cs k → slice_get cs k ≢ Some 39 → (Stands cs (verbatim 39) k → ⊥) → NoFold cs n c j →
      Unread (single_chain cs n c) a
  unfolding single_chain single_rest closing_quote single_char gap
  single_none n c a b j k xs e s r stop no_quote no_text no_fold m ys (u, (d, (g, f), p)) =
      let l : b ≤ m = rest_onward _ _ _ _ (single_parts n c) b m ys (subst (λ x. rest_of (gap cs n c) (single_char cs) (closing_quote cs) x m ys) (f ∙ sym e) p) in
      state_none _ _ _ _ (single_parts n c) a b j k xs s r solid (λ m (h, g, e). no_quote h) gaps m ys
      ((unmarked_cuts cs).back a b m (omega (arith, e)) l u, subst (λ x. rest_of (gap cs n c) (single_char cs) (closing_quote cs) x m ys) (f ∙ sym e) p)
    where
      solid : (m : ℕ) (zs : List ℕ) → single_char cs k m zs → ⊥
      solid m zs (x, inl (h, v, f), g) = no_text (x, h, single_verbatim x v)
      solid m zs (x, inr (l, (o, (h, t), v), f), g) = no_quote h

      gaps : (o : ℕ) (ys : List ℕ) → gap cs n c j o ys → Ns cs o → (DocumentMark cs o → ⊥) → o ≡ k
      gaps o ys (inl (q, w)) t v = run_same cs is_white j o k q r (ns_stops cs o t) stop
      gaps o ys (inr q) t v = absurd (no_fold o ys q t v)

  pub no_single : (n : ℕ) (c : Ctx) (a : ℕ) → slice_get cs a ≢ Some 39 → Unread (single_chain cs n c) a
  unfolding single_chain
  no_single n c a h m ys (u, (d, (g, f), p)) = h g

  pub close_here : (i j : ℕ) → slice_get cs i ≡ Some 39 → j ≡ i + 1 → slice_get cs j ≢ Some 39 → closing_quote cs i j
  unfolding closing_quote
  close_here i j h e n = (h, (λ g. n (ap (slice_get cs) e ∙ g)), e)
