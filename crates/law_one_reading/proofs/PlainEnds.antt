-- A plain scalar ends where what follows it stands: no fold goes on past comment lines, less indented content or a key's colon.
use Rattle.std.proofs.Common.{◌≡◌, ◌≢◌, ℕ, ◌+◌, ◌≤◌, ◌<◌, ◌⊎◌, inl, inr, List, ◌++◌, true, false, Some, refl, sym, ◌∙◌, ap, subst, arith}
use Rattle.std.specs.Prelude.{slice_get}
use Rattle.std.proofs.Math.Nat.{eq-or-lt_of_le}
use Rattle.yaml_definitions.specs.grammar.Rules.{Any, done, then, Spans, run, Stands, where_both, maybe}
use Rattle.yaml_definitions.specs.grammar.Characters.{is_space, is_ns, is_nb, is_break, is_white}
use Rattle.yaml_definitions.specs.grammar.Separation.{Ctx, flow_out, DocumentMark, Unmarked, AtEnd, b-comment as line_end, c-nb-comment-text as comment}
use Rattle.yaml_definitions.specs.grammar.FlowScalars.{ns-plain as plain, PlainFirst}
use Rattle.yaml_text.specs.Lines.{Inside, blank_rest, line_brk}
use Rattle.yaml_scalar.specs.Chains.{margin, lead, breaks, folds, gap, taken_at, Later, plain_more, plain_chain}
use Rattle.yaml_scalar.specs.Chains as chain
use Rattle.yaml_scalar.proofs.AnyLemmas.{any_onward}
use Rattle.yaml_text.proofs.Repeats.{any_to_stop}
use Rattle.yaml_text.proofs.Runs.{same_char, run_same}
use Rattle.yaml_text.proofs.Breaks.{Ns, AfterNs, ns_stops, brk_no_ns, brk_line, run_join, mark_ns, brk_stops, brk_same}
use Rattle.yaml_text.proofs.LineRuns.{inside_no_line, end_stops, line_end_stops, indent_run, indent_place}
use Rattle.yaml_scalar.proofs.GapLemmas.{margin_white, blank_white, empty, gap_onward, unmarked_cuts}
use Rattle.yaml_scalar.proofs.PlainLemmas.{hash_ns, later_no_hash, one_same, later_ns, first_ns, no_later_colon, more_same, more_onward}
use Rattle.yaml_scalar.proofs.PlainReadings.{plain_to_chain}
use Rattle.yaml_text.proofs.RestLemmas.{is_the_space, comment_stops, from_s_b, from_l}
use Rattle.law_one_reading.specs.Readings.{At, Unique}
use Rattle.law_one_reading.proofs.Lines.{solid_nb, solid_no_space}
use Rattle.law_one_reading.specs.Follows.{Solid, Past, Comments, Less, Way, EndsNode as F}
use Rattle.law_one_reading.proofs.BlockEntries.{past_no_ns}
use Rattle.law_one_reading.proofs.FlowNodes.{safe_ns}
use Rattle.law_one_reading.proofs.BlockNodes.{colon_solid}

white_space : is_white 32 ≡ true
unfolding is_white
white_space = refl

white_hash : is_white 35 ≡ false
unfolding is_white
white_hash = refl

white_feed : is_white 10 ≡ false
unfolding is_white
white_feed = refl

white_return : is_white 13 ≡ false
unfolding is_white
white_return = refl

ns_feed : is_ns 10 ≡ false
unfolding is_ns is_nb is_break
ns_feed = refl

ns_return : is_ns 13 ≡ false
unfolding is_ns is_nb is_break
ns_return = refl

module _ (cs : List ℕ) where
  -- a line of content, or the document's end
  abbrev pub Landed : ℕ → Type 0
  Landed m = AtEnd cs m ⊎ DocumentMark cs m ⊎ ((q : ℕ) × run cs is_space m q × Solid cs q)

  pub less_landed : (col m : ℕ) → Less cs col m → Landed m
  less_landed col m (inl e) = inl e
  less_landed col m (inr (inl e)) = inr (inl e)
  less_landed col m (inr (inr (s, p, l, r, h))) = inr (inr (p, indent_run cs s m p r, h))

  spaces_white : (i j : ℕ) → run cs is_space i j → run cs is_white i j
  spaces_white i j (le, r) = (le, λ k a b. let (c, h, t) = r k a b in (c, h, ap is_white (is_the_space c t) ∙ white_space))

  -- ---- a line read as one of whites, and as a comment

  rest_no_text : (a k p : ℕ) → blank_rest cs a k → run cs is_white a p → Ns cs p → slice_get cs p ≢ Some 35 → ⊥
  unfolding blank_rest comment
  rest_no_text a k p (x, r, (z, c, e)) w s h =
      go (run_same cs is_white a x p (spaces_white a x r) w (comment_stops cs is_white white_hash white_feed white_return x z k c e) (ns_stops cs p s)) c
    where
      go : x ≡ p → maybe (comment cs) x z → ⊥
      go at (inl f) = line_end_stops cs is_ns ns_feed ns_return z k e (subst (Ns cs) (sym at ∙ sym f) s)
      go at (inr (y, (g, f), t)) = h (subst (λ u. slice_get cs u ≡ Some 35) at g)

  brk_char : (b y : ℕ) → line_brk cs b y → (c : ℕ) × (slice_get cs b ≡ Some c) × (c < 35)
  brk_char b y (inl (h, e)) = (10, h, omega arith)
  brk_char b y (inr (inl (h, g, e))) = (13, h, omega arith)
  brk_char b y (inr (inr (h, g, e))) = (13, h, omega arith)

  rest_break : (a k b y : ℕ) → blank_rest cs a k → run cs is_white a b → line_brk cs b y → k ≡ y
  unfolding blank_rest comment line_end
  rest_break a k b y (x, r, (z, c, e)) w s =
      go (run_same cs is_white a x b (spaces_white a x r) w (comment_stops cs is_white white_hash white_feed white_return x z k c e) (brk_stops cs b y s)) c e
    where
      go : x ≡ b → maybe (comment cs) x z → line_end cs z k → k ≡ y
      go at (inl f) (inl g) = brk_same cs b k y (subst (λ u. line_brk cs u k) (f ∙ at) (brk_line cs z k g)) s
      go at (inl f) (inr (g, v)) = let (d, h, l) = brk_char b y s in absurd (end_stops cs (λ u. true) b (subst (AtEnd cs) (f ∙ at) v) (d, h, refl))
      go at (inr (u, (g, f), t)) v = let (d, h, l) = brk_char b y s in let n : 35 ≡ d = same_char cs b 35 d (subst (λ o. slice_get cs o ≡ Some 35) at g) h in absurd (omega (arith, n, l))

  landed_no_break : (a b y : ℕ) → Landed a → run cs is_white a b → line_brk cs b y → ⊥
  landed_no_break a b y (inl e) w s = go (eq-or-lt_of_le w.0)
    where
      go : (a ≡ b) ⊎ (a < b) → ⊥
      go (inl h) = let (d, g, l) = brk_char b y s in end_stops cs (λ u. true) b (subst (AtEnd cs) h e) (d, g, refl)
      go (inr l) = end_stops cs is_white a e (w.1 a (omega arith) l)
  landed_no_break a b y (inr (inl e)) w s = go (eq-or-lt_of_le w.0)
    where
      go : (a ≡ b) ⊎ (a < b) → ⊥
      go (inl h) = brk_no_ns cs b y s (subst (Ns cs) h (mark_ns cs a e))
      go (inr l) = ns_stops cs a (mark_ns cs a e) (w.1 a (omega arith) l)
  landed_no_break a b y (inr (inr (q, r, (f, h)))) w s =
      brk_no_ns cs b y s (subst (Ns cs) (run_same cs is_white a q b (spaces_white a q r) w (ns_stops cs q f) (brk_stops cs b y s)) f)

  -- ---- folds and comment lines

  lead_landed : (n m p : ℕ) {b a : ℕ} {xs : List ℕ} → Any (empty cs n) b a xs → margin cs n b p → Ns cs p → slice_get cs p ≢ Some 35 → Comments cs a m → Landed m → margin cs n m p
  unfolding chain.skipped_line
  lead_landed n m p {b} {a} (done e f) g s h (Spans.done c) l = subst (λ x. margin cs n x p) (e ∙ sym c) g
  lead_landed n m p {b} {a} (done e f) g s h (Spans.then k c more) l =
      absurd (rest_no_text a k p (from_l cs a k c) (subst (λ x. run cs is_white x p) e (margin_white cs n b p g)) s h)
  lead_landed n m p {b} {a} (then k us vs (y, (w, r, x), o) rest f) g s h (Spans.done c) l =
      absurd (landed_no_break a w y (subst Landed c l) (blank_white cs n a w r) x)
  lead_landed n m p {b} {a} (then k us vs (y, (w, r, x), o) rest f) g s h (Spans.then q c more) l =
      lead_landed n m p rest g s h (subst (λ u. Comments cs u m) (rest_break a q w y (from_l cs a q c) (blank_white cs n a w r) x ∙ sym o.0) more) l

  -- text after a gap, and comments from the same place: the same line
  pub gap_landed : (n : ℕ) (c : Ctx) (j m p : ℕ) (xs : List ℕ) → gap cs n c j p xs → Ns cs p → slice_get cs p ≢ Some 35 → Inside cs j → Past cs j m → Landed m → margin cs n m p
  unfolding gap folds breaks lead chain.skipped_line
  gap_landed n c j m p xs g s h o (inr (a, b)) l = absurd (inside_no_line cs j o a)
  gap_landed n c j m p xs (inl (r, e)) s h o (inl (a, b, d)) l = absurd (rest_no_text j a p (from_s_b cs j a b) r s h)
  gap_landed n c j m p xs (inr (x, r, (us, (f, (y, k, (b, q, t))), e))) s h o (inl (a, u, d)) l =
      lead_landed n m p q t s h (subst (λ z. Comments cs z m) (rest_break j a x y (from_s_b cs j a u) r k) d) l

  -- ---- a plain scalar does not go on

  -- where content follows that is none of its characters
  pub stop_way : (n : ℕ) (c : Ctx) (j o q : ℕ) (xs : List ℕ) → plain_more cs n c j o xs → Inside cs j → Way cs j q → (Later cs c q → ⊥) → ⊥
  unfolding plain_more gap folds breaks
  stop_way n c j o q xs (inl (h, r1, r2, r3, r4)) a (inl (b, (s, f))) t = go (eq-or-lt_of_le b.0)
    where
      go : (j ≡ q) ⊎ (j < q) → ⊥
      go (inl e) = f (subst (λ x. slice_get cs x ≡ Some 35) e h)
      go (inr l) = solid_no_space cs j (35, h, hash_ns) (b.1 j (omega arith) l)
  stop_way n c j o q xs (inl (h, r1, r2, r3, r4)) a (inr (m, b, d, s)) t = past_no_ns cs j m a b (35, h, hash_ns)
  stop_way n c j o q xs (inr (p, us, vs, inl (r, e), (l, x1, x2, x3, f), d)) a (inl (b, (s, g))) t =
      t (subst (Later cs c) (run_same cs is_white j p q r (spaces_white j q b) (ns_stops cs p (later_ns cs c p l)) (ns_stops cs q s)) l)
  stop_way n c j o q xs (inr (p, us, vs, inr (x, r, (ws, (y, (z, k, u)), e)), (l, x1, x2, x3, f), d)) a (inl (b, (s, g))) t =
      brk_no_ns cs x z k (subst (Ns cs) (run_same cs is_white j q x (spaces_white j q b) r (ns_stops cs q s) (brk_stops cs x z k)) s)
  stop_way n c j o q xs (inr (p, us, vs, r, (l, x1, x2, x3, f), d)) a (inr (m, b, e, s)) t =
      let g = gap_landed n c j m p us r (later_ns cs c p l) (later_no_hash cs c p l) a b (inr (inr (q, e, s))) in
      t (subst (Later cs c) (run_same cs is_white m p q (margin_white cs n m p g) (spaces_white m q e) (ns_stops cs p (later_ns cs c p l)) (ns_stops cs q s.0)) l)

  margin_less : (n m p : ℕ) → margin cs n m p → Less cs n m → Ns cs p → (DocumentMark cs p → ⊥) → ⊥
  unfolding margin
  margin_less n m p (b, i, w) (inl e) s none = end_no_white (eq-or-lt_of_le (whole p).0)
    where
      whole : (x : ℕ) → run cs is_white m p
      whole x = run_join cs is_white m b p (spaces_white m b (indent_run cs n m b i)) w

      end_no_white : (m ≡ p) ⊎ (m < p) → ⊥
      end_no_white (inl h) = end_stops cs is_ns m e (subst (Ns cs) (sym h) s)
      end_no_white (inr l) = end_stops cs is_white m e ((whole p).1 m (omega arith) l)
  margin_less n m p (b, i, w) (inr (inl e)) s none = go (eq-or-lt_of_le (whole p).0)
    where
      whole : (x : ℕ) → run cs is_white m p
      whole x = run_join cs is_white m b p (spaces_white m b (indent_run cs n m b i)) w

      go : (m ≡ p) ⊎ (m < p) → ⊥
      go (inl h) = none (subst (DocumentMark cs) h e)
      go (inr l) = ns_stops cs m (mark_ns cs m e) ((whole p).1 m (omega arith) l)
  margin_less n m p (b, i, w) (inr (inr (t, q, l, r, (f, h)))) s none =
      let x : q ≡ m + t = indent_place cs t m q r in
      let y : b ≡ m + n = indent_place cs n m b i in
      solid_no_space cs q f ((indent_run cs n m b i).1 q (omega (arith, x)) (omega (arith, x, y, l)))

  -- where a less indented line follows
  pub stop_rest : (n : ℕ) (c : Ctx) (j m o : ℕ) (xs : List ℕ) → plain_more cs n c j o xs → Unmarked cs j o → Inside cs j → Past cs j m → Less cs n m → ⊥
  unfolding plain_more
  stop_rest n c j m o xs (inl (h, r1, r2, r3, r4)) u a b t = past_no_ns cs j m a b (35, h, hash_ns)
  stop_rest n c j m o xs (inr (p, us, vs, r, (l, x, y, e, f), d)) u a b t =
      margin_less n m p (gap_landed n c j m p us r (later_ns cs c p l) (later_no_hash cs c p l) a b (less_landed n m t)) t (later_ns cs c p l)
      (u p (gap_onward cs n c j p us r) (omega (arith, e)))

  -- ---- one reading

  pub any_unmarked : (n : ℕ) (c : Ctx) {j i : ℕ} {xs : List ℕ} → Any (plain_more cs n c) j i xs → Unmarked cs i j → Any (where_both (Unmarked cs) (plain_more cs n c)) j i xs
  any_unmarked n c (done e f) u = done e f
  any_unmarked n c {j} {i} (then k ys zs r rest e) u =
      let a : i < k = more_onward cs n c i k ys r in
      let b : k ≤ j = any_onward (more_onward cs n c) rest in
      then k ys zs ((unmarked_cuts cs).front i k j (omega (arith, a)) b u, r) (any_unmarked n c rest ((unmarked_cuts cs).back i k j (omega (arith, a)) b u)) e

  more_after : (n : ℕ) (c : Ctx) (i j : ℕ) (xs : List ℕ) → plain_more cs n c i j xs → AfterNs cs j
  unfolding plain_more
  more_after n c i j xs (inl (h, x, y, e, f)) = (i, e, (35, h, hash_ns))
  more_after n c i j xs (inr (p, us, vs, r, (l, x, y, e, f), d)) = (p, e, later_ns cs c p l)

  pub any_after : (n : ℕ) (c : Ctx) {j i : ℕ} {xs : List ℕ} → Any (plain_more cs n c) j i xs → AfterNs cs i → AfterNs cs j
  any_after n c (done e f) a = subst (AfterNs cs) (sym e) a
  any_after n c (then k ys zs r rest e) a = any_after n c rest (more_after n c _ k ys r)

  pub after_inside : (j : ℕ) → AfterNs cs j → Inside cs j
  after_inside j (i, e, s) = (i, e, solid_nb cs i s)

  chain_inside : (n : ℕ) (c : Ctx) (i j : ℕ) (xs : List ℕ) → plain_chain cs n c i j xs → Inside cs j
  unfolding plain_chain
  chain_inside n c i j xs (u, (m, us, vs, (p, x, h, e, f), r, d)) = after_inside j (any_after n c r (i, e, first_ns cs c i p))

  pub plain_inside : (n : ℕ) (c : Ctx) (i j : ℕ) (xs : List ℕ) → plain cs n c i j xs → Inside cs j
  plain_inside n c i j xs r = chain_inside n c i j xs (plain_to_chain cs n c i j xs r)

  module _ (n : ℕ) (c : Ctx) (Stop : ℕ → Type 0) (none : (j o : ℕ) (xs : List ℕ) → Inside cs j → Stop j → plain_more cs n c j o xs → Unmarked cs j o → ⊥) where
    abbrev Stopped : ℕ → Type 0
    Stopped j = Stop j × AfterNs cs j

    chain_stops : (i j k : ℕ) (v w : List ℕ) → plain_chain cs n c i j v → Stop j → plain_chain cs n c i k w → Stop k → (j ≡ k) × (v ≡ w)
    unfolding plain_chain
    chain_stops i j k v w (u, (m, us, vs, (p, x, h, e, f), r, d)) s (z, (l, ws, ts, (q, y, g, a, b), t, o)) y2 =
        let one = one_same cs (PlainFirst cs c) i m l us ws (p, x, h, e, f) (q, y, g, a, b) in
        let cuts = unmarked_cuts cs in
        let r1 : m ≤ j = any_onward (more_onward cs n c) r in
        let t1 : l ≤ k = any_onward (more_onward cs n c) t in
        let rest = any_to_stop {R = where_both (Unmarked cs) (plain_more cs n c)} (λ i j k v w (a, r) (b, s). more_same cs n c i j k v w r s) Stopped
        (λ i j xs (u, r) (s, af). none i j xs (after_inside i af) s r u)
        (any_unmarked n c r (cuts.back i m j (omega (arith, e)) r1 u)) (s, any_after n c r (i, e, first_ns cs c i p))
        (subst (λ c2. Any (where_both (Unmarked cs) (plain_more cs n c)) k c2 ts) (sym one.0) (any_unmarked n c t (cuts.back i l k (omega (arith, a)) t1 z))) (y2, any_after n c t (i, a, first_ns cs c i q)) in
        (rest.0, d ∙ ap (λ x. us ++ x) rest.1 ∙ ap (λ x. x ++ ts) one.1 ∙ sym o)

    -- a scalar that stops at each end has one end and one text
    pub plain_stops : Unique (plain cs n c) (At Stop)
    plain_stops i j k m o v w r (e, s) t (f, u) =
        let h = chain_stops i j k v w (plain_to_chain cs n c i j v r) s (plain_to_chain cs n c i k w t) u in
        (sym e ∙ h.0 ∙ f, h.1)

  -- in block context
  pub colon_no_later : (c : Ctx) (q : ℕ) → slice_get cs q ≡ Some 58 → (Stands cs is_ns (q + 1) → ⊥) → Later cs c q → ⊥
  colon_no_later c q h none l = no_later_colon cs c q (q + 1) h refl (λ (x, g, t). none (x, g, safe_ns c x t)) l

  pub plain_block_unique : (col d : ℕ) → Unique (plain cs col flow_out) (At (F cs col d))
  plain_block_unique col d = plain_stops col flow_out (F cs col d) go
    where
      go : (j o : ℕ) (xs : List ℕ) → Inside cs j → F cs col d j → plain_more cs col flow_out j o xs → Unmarked cs j o → ⊥
      go j o xs a (inl (m, p, (l, n))) r u = stop_rest col flow_out j m o xs r u a p l
      go j o xs a (inr (q, s, h, n)) r u = stop_way col flow_out j o q xs r a (inl (s, colon_solid cs q h)) (colon_no_later flow_out q h n)
