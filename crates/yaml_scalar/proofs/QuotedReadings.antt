-- Quoted scalars: the chain form has the readings of the grammar.
use Rattle.std.proofs.Common.{◌≡◌, ℕ, zero, suc, ◌+◌, ◌-◌, ◌<◌, ◌≤◌, ◌⊎◌, inl, inr, List, [], ◌∷◌, ◌++◌, Some, true, refl, sym, ◌∙◌, ap, subst, arith, append_assoc}
use Rattle.std.proofs.lemmas.List.{append-nil}
use Rattle.std.specs.Prelude.{slice_get, slice_range, ◌==◌}
use Rattle.std.proofs.lemmas.Bool.{cases_eq}
use Rattle.yaml_text.specs.LeafAnswer.{Only}
use Rattle.yaml_text.specs.LeafAnswer.{Unread}
use Rattle.yaml_definitions.specs.grammar.Rules.{◌⨾◌, never, ◌∪◌, any, Any, done, then, Stands, run, copied}
use Rattle.yaml_definitions.specs.grammar.Characters.{is_white}
use Rattle.yaml_definitions.specs.grammar.Separation.{Ctx}
use Rattle.yaml_definitions.specs.grammar.FlowScalars.{several, s-flow-folded as fold, white_text, quoted_line, broken_line, quoted_lines, ns-single-char as single_char, c-single-quoted as single}
use Rattle.yaml_text.proofs.PlaceLemmas.{slice_none, slice_one, slice_join, slice_snoc}
use Rattle.yaml_scalar.specs.Chains.{TextRule}
use Rattle.yaml_scalar.specs.Chains.{gap, closing_quote, single_rest, single_chain}
use Rattle.yaml_scalar.proofs.AnyLemmas.{any_none, any_snoc, any_append, any_weaker}
use Rattle.yaml_text.proofs.Runs.{run_none, run_more}
use Rattle.yaml_text.proofs.Breaks.{ns_no_return}
use Rattle.yaml_scalar.proofs.QuotedLemmas.{single_ns}
use Rattle.yaml_scalar.proofs.Readings.{Clear, clear_after, fold_chain, fold_grammar}

quote_is : (c : ℕ) → (c == 39) ≡ true → c ≡ 39
quote_is c p = grind (arith, p)

module _ (cs : List ℕ) where
  -- whites, one at a time
  loose_run : {j i : ℕ} {xs : List ℕ} → Any (white_text cs) j i xs → run cs is_white i j × (xs ≡ slice_range cs i j)
  loose_run {j} {i} (done e f) = (subst (run cs is_white i) (sym e) (run_none cs is_white i), f ∙ sym (ap (slice_range cs i) e ∙ slice_none cs i))
  loose_run {j} {i} (then k ys zs (a, (h, w, d), f) rest g) =
      let q = loose_run rest in
      let r = q.0 in
      ((omega (arith, d, r.0), from a h w d r), g ∙ ap (λ v. v ++ zs) (f ∙ sym (slice_one cs i k a h d)) ∙ ap (λ v. slice_range cs i k ++ v) q.1 ∙ sym (slice_join cs i k j (omega (arith, d)) r.0))
    where
      from : (a : ℕ) → slice_get cs i ≡ Some a → is_white a ≡ true → k ≡ i + 1 → run cs is_white k j → (m : ℕ) → i ≤ m → m < j → Stands cs is_white m
      from a h w d r m u v = elim (cases_eq i m) [
        | inl e ↦ (a, subst (λ x. slice_get cs x ≡ Some a) e h, w)
        | inr n ↦ r.1 m (omega (arith, d, u, n)) v
      ]

  run_loose_by : (d i j : ℕ) → i + d ≡ j → run cs is_white i j → any (white_text cs) i j (slice_range cs i j)
  run_loose_by zero i j e r = let at : j ≡ i = omega (arith, e) in done at (ap (slice_range cs i) at ∙ slice_none cs i)
  run_loose_by (suc d) i j e r =
      let s = r.1 i (omega arith) (omega (arith, e)) in
      then (i + 1) (s.0 ∷ []) (slice_range cs (i + 1) j) (s.0, (s.1, s.2, refl), refl)
      (run_loose_by d (i + 1) j (omega (arith, e)) (omega (arith, e), λ m a b. r.1 m (omega (arith, a)) b))
      (slice_join cs i (i + 1) j (omega arith) (omega (arith, e)) ∙ ap (λ v. v ++ slice_range cs (i + 1) j) (slice_one cs i (i + 1) s.0 s.1 refl))

  run_loose : (i j : ℕ) → run cs is_white i j → any (white_text cs) i j (slice_range cs i j)
  run_loose i j r = run_loose_by (j - i) i j (let le : i ≤ j = r.0 in omega (arith, le)) r

  -- ---- a quoted text of solid characters S, folds F and escaped breaks E, and its gaps G

  module _ (S F E G : TextRule) where
    abbrev pub Lines : TextRule
    Lines = quoted_lines cs S (white_text cs) F E

    abbrev pub Pieces : TextRule
    Pieces = any (G ⨾ S) ⨾ G

    -- ---- from the grammar

    pub record Gaps : Type 0 where
      pub whites : (i j : ℕ) → run cs is_white i j → G i j (slice_range cs i j)
      pub fold : (i j : ℕ) (xs : List ℕ) → F i j xs → G i j xs
      pub escaped : (i k j : ℕ) (xs : List ℕ) → run cs is_white i k → E k j xs → G i j (slice_range cs i k ++ xs)

    module _ (gaps : Gaps) where
      line_pieces : {j : ℕ} (h : ℕ) {i : ℕ} {xs : List ℕ} → run cs is_white h i → Any (S ∪ white_text cs) j i xs → (any (G ⨾ S) ⨾ copied cs (run cs is_white)) h j (slice_range cs h i ++ xs)
      line_pieces {j} h {i} r (done e f) =
          (h, [], slice_range cs h j, any_none, (subst (run cs is_white h) (sym e) r, refl), ap (λ v. slice_range cs h i ++ v) f ∙ append-nil (slice_range cs h i) ∙ ap (slice_range cs h) (sym e))
      line_pieces {j} h {i} r (then k ys zs (inl s) rest g) =
          let (m, us, vs, chain, w, e) = line_pieces k (run_none cs is_white k) rest in (
            m,
            (slice_range cs h i ++ ys) ++ us,
            vs,
            then k (slice_range cs h i ++ ys) us (i, slice_range cs h i, ys, gaps.whites h i r, s, refl) chain refl,
            w,
            ap (λ v. slice_range cs h i ++ v) (g ∙ ap (λ v. ys ++ v) (sym (ap (λ v. v ++ zs) (slice_none cs k)) ∙ e)) ∙ regroup (slice_range cs h i) ys us vs,
          )
        where
          regroup : (a b c d : List ℕ) → a ++ (b ++ (c ++ d)) ≡ ((a ++ b) ++ c) ++ d
          regroup a b c d = simp append_assoc
      line_pieces {j} h {i} r (then k ys zs (inr (a, (b, w, d), f)) rest g) =
          let (m, us, vs, chain, v, e) = line_pieces h (run_more cs is_white h i k a r b w d) rest in
          (m, us, vs, chain, v, ap (λ v. slice_range cs h i ++ v) (g ∙ ap (λ v. v ++ zs) f) ∙ sym (append_assoc (slice_range cs h i) (a ∷ []) zs) ∙ ap (λ v. v ++ zs) (sym (slice_snoc cs h i k a r.0 b d)) ∙ e)

      line_then : (i j : ℕ) (xs : List ℕ) → any (S ∪ white_text cs) i j xs → (any (G ⨾ S) ⨾ copied cs (run cs is_white)) i j xs
      line_then i j xs p = subst ((any (G ⨾ S) ⨾ copied cs (run cs is_white)) i j) (ap (λ v. v ++ xs) (slice_none cs i)) (line_pieces i (run_none cs is_white i) p)

      solid_piece : (i j : ℕ) (xs : List ℕ) → (any (white_text cs) ⨾ S) i j xs → (G ⨾ S) i j xs
      solid_piece i j xs (k, us, vs, p, s, e) =
          let q = loose_run p in (k, us, vs, subst (G i k) (sym q.1) (gaps.whites i k q.0), s, e)

      line_whole : (i j : ℕ) (xs : List ℕ) → any (S ∪ white_text cs) i j xs → Pieces i j xs
      line_whole i j xs p =
          let (m, us, vs, chain, (r, f), e) = line_then i j xs p in (m, us, vs, chain, subst (G m j) (sym f) (gaps.whites m j r), e)

      broken_pieces : (i j : ℕ) (xs : List ℕ) → broken_line cs S (white_text cs) F E i j xs → Pieces i j xs
      broken_pieces i j xs (inl (m, us, vs, p, f, e)) = (m, us, vs, any_weaker solid_piece p, gaps.fold m j vs f, e)
      broken_pieces i j xs (inr (m, us, vs, p, x, e)) =
          let (o, as1, bs, chain, (r, f), g) = line_then i m us p in
          (o, as1, slice_range cs o m ++ vs, chain, gaps.escaped o m j vs r x, e ∙ ap (λ v. v ++ vs) (g ∙ ap (λ v. as1 ++ v) f) ∙ append_assoc as1 (slice_range cs o m) vs)

      -- a solid character after a gap, and pieces after it
      then_solid : (i k m : ℕ) (xs ys : List ℕ) → Pieces i k xs → S k m ys → any (G ⨾ S) i m (xs ++ ys)
      then_solid i k m xs ys (o, us, vs, chain, g, e) s =
          subst (any (G ⨾ S) i m) (sym (append_assoc us vs ys) ∙ ap (λ v. v ++ ys) (sym e)) (any_snoc chain (k, vs, ys, g, s, refl))

      then_pieces : (i k j : ℕ) (xs ys : List ℕ) → any (G ⨾ S) i k xs → Pieces k j ys → Pieces i j (xs ++ ys)
      then_pieces i k j xs ys p (o, us, vs, chain, g, e) = (o, xs ++ us, vs, any_append p chain, g, ap (λ v. xs ++ v) e ∙ sym (append_assoc xs us vs))

      more_pieces : (i : ℕ) {j k : ℕ} (xs : List ℕ) {ys : List ℕ} → Pieces i k xs → Any (S ⨾ broken_line cs S (white_text cs) F E) j k ys → Pieces i j (xs ++ ys)
      more_pieces i {j} {k} xs {ys} p (done e f) = subst (λ x. Pieces i x (xs ++ ys)) (sym e) (subst (Pieces i k) (sym (ap (λ v. xs ++ v) f ∙ append-nil xs)) p)
      more_pieces i {j} {k} xs {ys} p (then m us vs (o, as1, bs, s, b, e) rest f) =
          subst (Pieces i j) (append_assoc xs us vs ∙ ap (λ v. xs ++ v) (sym f))
          (more_pieces i (xs ++ us) (subst (Pieces i m) (append_assoc xs as1 bs ∙ ap (λ v. xs ++ v) (sym e)) (then_pieces i o m (xs ++ as1) bs (then_solid i k o xs as1 p s) (broken_pieces o m bs b))) rest)

      pub lines_pieces : (i j : ℕ) (xs : List ℕ) → Lines i j xs → Pieces i j xs
      lines_pieces i j xs (inl p) = line_whole i j xs p
      lines_pieces i j xs (inr (k, ys, zs, b, (l, us, vs, ss, last, d), e)) = go last
        where
          front : Pieces i l (ys ++ us)
          front = more_pieces i ys (broken_pieces i k ys b) ss

          text : xs ≡ (ys ++ us) ++ vs
          text = e ∙ ap (λ v. ys ++ v) d ∙ sym (append_assoc ys us vs)

          go : ((j ≡ l) × (vs ≡ [])) ⊎ (S ⨾ quoted_line cs S (white_text cs) F E) l j vs → Pieces i j xs
          go (inl (f, g)) = subst (λ x. Pieces i x xs) (sym f) (subst (Pieces i l) (sym (text ∙ ap (λ v. (ys ++ us) ++ v) g ∙ append-nil (ys ++ us))) front)
          go (inr (m, as1, bs, s, line, f)) =
              subst (Pieces i j) (append_assoc (ys ++ us) as1 bs ∙ ap (λ v. (ys ++ us) ++ v) (sym f) ∙ sym text)
              (then_pieces i m j ((ys ++ us) ++ as1) bs (then_solid i l m (ys ++ us) as1 front s) (line_whole m j bs line))

    -- ---- from the chain

    -- what a gap is at a place that is not between a CR and its LF
    abbrev pub Kinds : ℕ → ℕ → List ℕ → Type 0
    Kinds i j xs = copied cs (run cs is_white) i j xs ⊎ F i j xs ⊎ (copied cs (run cs is_white) ⨾ E) i j xs

    module _ (kinds : (i j : ℕ) (xs : List ℕ) → Clear cs i → G i j xs → Kinds i j xs) (clear : (i j : ℕ) (xs : List ℕ) → S i j xs → Clear cs j) where
      whites_line : (i j : ℕ) (xs : List ℕ) → copied cs (run cs is_white) i j xs → any (S ∪ white_text cs) i j xs
      whites_line i j xs (r, e) = subst (any (S ∪ white_text cs) i j) (sym e) (any_weaker (λ _ _ _ p. inr p) (run_loose i j r))

      broken_is : (i j : ℕ) (xs : List ℕ) → F i j xs ⊎ (copied cs (run cs is_white) ⨾ E) i j xs → broken_line cs S (white_text cs) F E i j xs
      broken_is i j xs (inl f) = inl (i, [], xs, any_none, f, refl)
      broken_is i j xs (inr (m, us, vs, w, x, e)) = inr (m, us, vs, whites_line i m us w, x, e)

      broken_first : (i m k j : ℕ) (us vs zs : List ℕ) → broken_line cs S (white_text cs) F E i m us → S m k vs → Lines k j zs → Lines i j (us ++ (vs ++ zs))
      broken_first i m k j us vs zs b s (inl line) =
          inr (m, us, vs ++ zs, b, (m, [], vs ++ zs, any_none, inr (k, vs, zs, s, line, refl), refl), refl)
      broken_first i m k j us vs zs b s (inr (l, ps, qs, c, (o, rs, ts, more, last, d), e)) =
          inr (m, us, vs ++ zs, b, (o, (vs ++ ps) ++ rs, ts, then l (vs ++ ps) rs (k, vs, ps, s, c, refl) more refl, last, ap (λ v. vs ++ v) (e ∙ ap (λ v. ps ++ v) d) ∙ regroup vs ps rs ts), refl)
        where
          regroup : (a b c d : List ℕ) → a ++ (b ++ (c ++ d)) ≡ ((a ++ b) ++ c) ++ d
          regroup a b c d = simp append_assoc

      whites_first : (i m k j : ℕ) (us vs zs : List ℕ) → copied cs (run cs is_white) i m us → S m k vs → Lines k j zs → Lines i j ((us ++ vs) ++ zs)
      whites_first i m k j us vs zs w s (inl line) = inl (any_append (any_snoc (whites_line i m us w) (inl s)) line)
      whites_first i m k j us vs zs (r, f) s (inr (l, ps, qs, inl (n, as1, bs, p, x, e), rest, d)) =
          inr (
            l,
            (us ++ vs) ++ ps,
            qs,
            inl (n, (us ++ vs) ++ as1, bs, then k (us ++ vs) as1 (m, us, vs, subst (any (white_text cs) i m) (sym f) (run_loose i m r), s, refl) p refl, x, ap (λ v. (us ++ vs) ++ v) e ∙ sym (append_assoc (us ++ vs) as1 bs)),
            rest,
            ap (λ v. (us ++ vs) ++ v) d ∙ sym (append_assoc (us ++ vs) ps qs),
          )
      whites_first i m k j us vs zs w s (inr (l, ps, qs, inr (n, as1, bs, p, x, e), rest, d)) =
          inr (
            l,
            (us ++ vs) ++ ps,
            qs,
            inr (n, (us ++ vs) ++ as1, bs, any_append (any_snoc (whites_line i m us w) (inl s)) p, x, ap (λ v. (us ++ vs) ++ v) e ∙ sym (append_assoc (us ++ vs) as1 bs)),
            rest,
            ap (λ v. (us ++ vs) ++ v) d ∙ sym (append_assoc (us ++ vs) ps qs),
          )

      last_gap : (i j : ℕ) (xs : List ℕ) → Kinds i j xs → Lines i j xs
      last_gap i j xs (inl w) = inl (whites_line i j xs w)
      last_gap i j xs (inr p) = inr (j, xs, [], broken_is i j xs p, (j, [], [], any_none, inl (refl, refl), refl), sym (append-nil xs))

      pub pieces_lines : {m i : ℕ} {us : List ℕ} (j : ℕ) (zs : List ℕ) → Clear cs i → Any (G ⨾ S) m i us → Clear cs m × G m j zs → Lines i j (us ++ zs)
      pieces_lines {m} {i} {us} j zs w (done e f) (v, g) =
          subst (Lines i j) (sym (ap (λ x. x ++ zs) f)) (last_gap i j zs (kinds i j zs w (subst (λ x. G x j zs) e g)))
      pieces_lines {m} {i} {us} j zs w (then k ys ts (o, as1, bs, g, s, d) rest f) fin =
          subst (Lines i j) (ap (λ v. v ++ (ts ++ zs)) (sym d) ∙ sym (append_assoc ys ts zs) ∙ ap (λ v. v ++ zs) (sym f))
          (first (kinds i o as1 w g) (pieces_lines j zs (clear o k bs s) rest fin))
        where
          first : Kinds i o as1 → Lines k j (ts ++ zs) → Lines i j ((as1 ++ bs) ++ (ts ++ zs))
          first (inl p) rest = whites_first i o k j as1 bs (ts ++ zs) p s rest
          first (inr p) rest = subst (Lines i j) (sym (append_assoc as1 bs (ts ++ zs))) (broken_first i o k j as1 bs (ts ++ zs) (broken_is i o as1 p) s rest)

      pub lines_of : (i j : ℕ) (xs : List ℕ) → Clear cs i → Pieces i j xs → Lines i j xs
      lines_of i j xs w (m, us, vs, chain, g, e) = subst (Lines i j) (sym e) (pieces_lines j vs w chain (ends chain w, g))
        where
          ends : {m i : ℕ} {us : List ℕ} → Any (G ⨾ S) m i us → Clear cs i → Clear cs m
          ends (done e f) w = subst (Clear cs) (sym e) w
          ends (then k ys ts (o, as1, bs, g, s, d) rest f) w = ends rest (clear o k bs s)

  -- ---- single-quoted

  single_gaps : (n : ℕ) (c : Ctx) → Gaps (single_char cs) (several cs c (fold cs n)) never (gap cs n c)
  unfolding gap
  single_gaps n c = record {
    whites = λ i j r. inl (r, refl);
    fold = λ i j xs p. inr (fold_chain cs n c i j xs p);
    escaped = λ i k j xs r p. absurd p;
  }

  single_kinds : (n : ℕ) (c : Ctx) (i j : ℕ) (xs : List ℕ) → Clear cs i → gap cs n c i j xs → Kinds (single_char cs) (several cs c (fold cs n)) never (gap cs n c) i j xs
  unfolding gap
  single_kinds n c i j xs w (inl p) = inl p
  single_kinds n c i j xs w (inr p) = inr (inl (fold_grammar cs n c i j xs w p))

  single_clear : (i j : ℕ) (xs : List ℕ) → single_char cs i j xs → Clear cs j
  unfolding single_char
  single_clear i j xs (x, inl (h, v, e), f) = clear_after cs i j x h e (ns_no_return x (single_ns x v))
  single_clear i j xs (x, inr (k, (m, (h, e), (g, d)), (f, t)), q) = clear_after cs m j 39 g (f ∙ d) (omega arith)

  pub single_to_chain : (n : ℕ) (c : Ctx) (i j : ℕ) (xs : List ℕ) → single cs n c i j xs → single_chain cs n c i j xs
  unfolding single single_chain single_rest closing_quote
  single_to_chain n c i j xs (u, (k, q, (l, p, (m, (h, e), (f, none))))) =
      let (o, us, vs, chain, g, t) = lines_pieces (single_char cs) (several cs c (fold cs n)) never (gap cs n c) (single_gaps n c) k l xs p in
      (u, (k, q, (o, us, vs, chain, (l, g, (h, (λ d. none (subst (Stands cs (λ x. x == 39)) (sym e) (39, d, refl))), f ∙ e)), t)))

  single_from_chain : (n : ℕ) (c : Ctx) (i j : ℕ) (xs : List ℕ) → single_chain cs n c i j xs → single cs n c i j xs
  unfolding single single_chain single_rest closing_quote
  single_from_chain n c i j xs (u, (k, (q, a), (o, us, vs, chain, (l, g, (h, none, e)), t))) = (
    u,
    (
      k,
      (q, a),
      (
        l,
        lines_of (single_char cs) (several cs c (fold cs n)) never (gap cs n c) (single_kinds n c) single_clear k l xs (clear_after cs i k 39 q a (omega arith)) (o, us, vs, chain, g, t),
        (l + 1, (h, refl), (e, λ (d, s, v). none (s ∙ ap Some (quote_is d v)))),
      ),
    ),
  )

  pub single_only : (n : ℕ) (c : Ctx) (i j : ℕ) (xs : List ℕ) → Only (single_chain cs n c) i j xs → Only (single cs n c) i j xs
  single_only n c i j xs best = record {
    is = single_from_chain n c i j xs best.is;
    only = λ k ys r. best.only k ys (single_to_chain n c i k ys r);
  }

  pub single_unread : (n : ℕ) (c : Ctx) (i : ℕ) → Unread (single_chain cs n c) i → Unread (single cs n c) i
  single_unread n c i none j xs r = none j xs (single_to_chain n c i j xs r)
