-- Separation up to content: which places it may end at, by what a reader sees.
use Rattle.std.proofs.Common.{◌≡◌, ℕ, ◌+◌, ◌≤◌, ◌<◌, ◌⊎◌, inl, inr, List, refl, sym, ◌∙◌, subst, arith}
use Rattle.yaml_definitions.specs.grammar.Rules.{Rule, maybe, Spans, Stands, run, ◌▸◌}
use Rattle.yaml_definitions.specs.grammar.Characters.{is_space, is_ns}
use Rattle.yaml_definitions.specs.grammar.Separation.{Ctx, block_out, block_in, flow_out, flow_in, block_key, flow_key, AtEnd, DocumentMark, s-l-comments as s_l_comments, s-separate as separate, s-separate-lines as separate_lines, s-separate-in-line as sep, s-indent as indent}
use Rattle.yaml_text.specs.Lines.{Inside}
use Rattle.yaml_text.proofs.Runs.{run_none, run_same}
use Rattle.yaml_text.proofs.Breaks.{mark_ns, run_join}
use Rattle.yaml_text.proofs.LineRuns.{inside_no_line, end_stops}
use Rattle.law_one_reading.specs.Readings.{End, Starts}
use Rattle.law_one_reading.proofs.Lines.{solid_no_space, past_of, past_same, past_no_run, stuck_run, stuck_mark, sep_run, way_any, way_maybe, past_then}
use Rattle.law_one_reading.specs.Follows.{Solid, Fresh, Stuck, Past, Way}
use Rattle.law_going_on.specs.GoingOn.{Refused, Rest}
use Rattle.law_going_on.proofs.GoingOn.{rest_before, refused_before}

-- the contexts in which separation is spaces alone (7.4)
abbrev pub IsKey : Ctx → Type 0
IsKey block_key = Unit {0}
IsKey flow_key = Unit {0}
IsKey block_out = ⊥
IsKey block_in = ⊥
IsKey flow_out = ⊥
IsKey flow_in = ⊥

module _ (cs : List ℕ) where
  -- these places are over spaces from the start, and no further space follows
  abbrev pub Spaces : ℕ → ℕ → Type 0
  Spaces i x = run cs is_space i x × (Stands cs is_space x → ⊥)

  pub spaces_to : (i x q : ℕ) → Spaces i x → run cs is_space i q → Solid cs q → q ≡ x
  spaces_to i x q (r, n) s h = run_same cs is_space i q x s r (solid_no_space cs q h.0) n

  -- comment lines and what they come to are s_l_comments
  past_lines : (i m : ℕ) → Past cs i m → (j : ℕ) × s_l_comments cs i j
  unfolding s_l_comments
  past_lines i m (inl (a, b, c)) = (m, (a, inl b, c))
  past_lines i m (inr (s, c)) = (m, (i, inr (refl, s), c))

  -- no comment lines begin here: content is on this line
  pub way_on_line : (i x : ℕ) → ((j : ℕ) → s_l_comments cs i j → ⊥) → Spaces i x → (q : ℕ) → Way cs i q → q ≡ x
  way_on_line i x n s q (inl (r, h)) = spaces_to i x q s r h
  way_on_line i x n s q (inr (p, a, r, h)) = absurd (let (j, l) = past_lines i p a in n j l)

  -- they do: content is on the line that they come to
  pub way_on_next : (i s x : ℕ) → s_l_comments cs i s → Stuck cs s → Spaces s x → (q : ℕ) → Way cs i q → q ≡ x
  way_on_next i s x c t y q (inl (r, h)) =
      let a = past_no_run cs i s q (past_of cs i s s c (Spans.done refl)) r h in
      spaces_to s x q y (subst (λ z. run cs is_space z q) (sym a.1) r) h
  way_on_next i s x c t y q (inr (p, a, r, h)) =
      let e : p ≡ s = past_same cs i p s a (stuck_run cs p q r h) (past_of cs i s s c (Spans.done refl)) t in
      spaces_to s x q y (subst (λ z. run cs is_space z q) e r) h

  -- a mark, or the end, stands there: no content comes
  pub way_no_mark : (i s : ℕ) → s_l_comments cs i s → DocumentMark cs s → (q : ℕ) → Way cs i q → Fresh cs q → ⊥
  way_no_mark i s c m q w (h, n) =
      let e : q ≡ s = way_on_next i s s c (stuck_mark cs s m) (run_none cs is_space s, solid_no_space cs s (mark_ns cs s m)) q w in
      n (subst (DocumentMark cs) (sym e) m)

  pub way_no_end : (i s x : ℕ) → s_l_comments cs i s → Stuck cs s → Spaces s x → AtEnd cs x → (q : ℕ) → Way cs i q → Solid cs q → ⊥
  way_no_end i s x c t y e q w h = let f : q ≡ x = way_on_next i s x c t y q w in end_stops cs is_ns q (f ∙ e) h.0

  -- ---- as separation

  -- in a key: over spaces
  pub separate_in_key : (n : ℕ) (c : Ctx) → IsKey c → (i x : ℕ) → Spaces i x → (q : ℕ) → maybe (separate cs n c) i q → Solid cs q → q ≡ x
  unfolding separate
  separate_in_key n block_key k i x s q (inl e) h = spaces_to i x q s (subst (run cs is_space i) (sym e) (run_none cs is_space i)) h
  separate_in_key n flow_key k i x s q (inl e) h = spaces_to i x q s (subst (run cs is_space i) (sym e) (run_none cs is_space i)) h
  separate_in_key n block_key k i x s q (inr r) h = spaces_to i x q s (sep_run cs i q r) h
  separate_in_key n flow_key k i x s q (inr r) h = spaces_to i x q s (sep_run cs i q r) h
  separate_in_key n block_out k i x s q r h = absurd k
  separate_in_key n block_in k i x s q r h = absurd k
  separate_in_key n flow_out k i x s q r h = absurd k
  separate_in_key n flow_in k i x s q r h = absurd k

  pub separate_on_line : (n : ℕ) (c : Ctx) (i x : ℕ) → ((j : ℕ) → s_l_comments cs i j → ⊥) → Spaces i x → (q : ℕ) → maybe (separate cs n c) i q → Solid cs q → q ≡ x
  separate_on_line n c i x f s q r h = way_on_line i x f s q (way_maybe cs n c i q r h)

  pub separate_on_next : (n : ℕ) (c : Ctx) (i s x : ℕ) → s_l_comments cs i s → Stuck cs s → Spaces s x → (q : ℕ) → maybe (separate cs n c) i q → Solid cs q → q ≡ x
  separate_on_next n c i s x l t y q r h = way_on_next i s x l t y q (way_maybe cs n c i q r h)

  -- the line that they come to has fewer than n spaces
  pub separate_short : (n : ℕ) (c : Ctx) (i s x : ℕ) → Inside cs i → s_l_comments cs i s → Stuck cs s → Spaces s x → x < s + n → (q : ℕ) → maybe (separate cs n c) i q → Solid cs q → ⊥
  separate_short n c i s x o l t y lt q (inl e) h =
      inside_no_line cs i o (past_no_run cs i s q (past_of cs i s s l (Spans.done refl)) (subst (run cs is_space i) (sym e) (run_none cs is_space i)) h).0
  separate_short n c i s x o l t y lt q (inr r) h = go (way_any cs n c i q r h)
    where
      go : (run cs is_space i q × Solid cs q) ⊎ ((p : ℕ) × Past cs i p × run cs is_space p q × (p + n ≤ q) × Solid cs q) → ⊥
      go (inl (u, f)) = inside_no_line cs i o (past_no_run cs i s q (past_of cs i s s l (Spans.done refl)) u f).0
      go (inr (p, a, u, le, f)) =
          let e : p ≡ s = past_same cs i p s a (stuck_run cs p q u f) (past_of cs i s s l (Spans.done refl)) t in
          let g : q ≡ x = spaces_to s x q y (subst (λ z. run cs is_space z q) e u) f in
          omega (arith, e, g, le, lt)

  -- a mark, or the end
  pub separate_no_mark : (n : ℕ) (c : Ctx) (i s : ℕ) → s_l_comments cs i s → DocumentMark cs s → (q : ℕ) → maybe (separate cs n c) i q → Fresh cs q → ⊥
  separate_no_mark n c i s l m q r f = way_no_mark i s l m q (way_maybe cs n c i q r f.0) f

  pub separate_no_end : (n : ℕ) (c : Ctx) (i s x : ℕ) → s_l_comments cs i s → Stuck cs s → Spaces s x → AtEnd cs x → (q : ℕ) → maybe (separate cs n c) i q → Solid cs q → ⊥
  separate_no_end n c i s x l t y e q r h = way_no_end i s x l t y e q (way_maybe cs n c i q r h) h

  -- ---- twice

  pub lines_of : (i m : ℕ) → Past cs i m → s_l_comments cs i m
  unfolding s_l_comments
  lines_of i m (inl (a, b, c)) = (a, inl b, c)
  lines_of i m (inr (s, c)) = (i, inr (refl, s), c)

  -- separation and more of it, up to content, is separation
  pub separate_twice : (n a k m : ℕ) → Inside cs a → separate cs n flow_in a k → maybe (separate cs n flow_in) k m → Solid cs m → separate cs n flow_in a m
  unfolding separate separate_lines sep indent
  separate_twice n a k m o r (inl e) h = subst (separate cs n flow_in a) (sym e) r
  separate_twice n a k m o r (inr s) h = go (way_any cs n flow_in k m s h) r
    where
      go : (run cs is_space k m × Solid cs m) ⊎ ((p : ℕ) × Past cs k p × run cs is_space p m × (p + n ≤ m) × Solid cs m) → separate cs n flow_in a k → separate cs n flow_in a m
      go (inl (t, f)) (inl (p, c, (x, d, u))) = inl (p, c, (x, d, run_join cs is_space x k m u t))
      go (inl (t, f)) (inr (inl (u, l))) = inr (inl (run_join cs is_space a k m u t, omega (arith, l, t.0)))
      go (inl (t, f)) (inr (inr (e, st))) = absurd (inside_no_line cs a o st)
      go (inr (p, b, t, le, f)) u =
          inl (p, lines_of a p (past_then cs n flow_in a k p m o r b t h), (p + n, ((omega arith, λ x l g. t.1 x l (omega (arith, g, le))), refl), (le, λ x l g. t.1 x (omega (arith, l)) g)))

  -- ---- before a rule that begins with content

  -- what separation leaves: the rule, at the only place where it may begin
  pub rest_separate : {V : Type 0} (n : ℕ) (c : Ctx) (S : Rule V) (E : End) (i x : ℕ) → Starts S E (Fresh cs) → ((q : ℕ) → maybe (separate cs n c) i q → Solid cs q → q ≡ x) → Rest (separate cs n c ▸ S) E i S E x
  rest_separate n c S E i x s t = rest_before (separate cs n c) S E (Fresh cs) i x s (λ l r f. t l (inr r) f.0)

  pub refused_separate : {V : Type 0} (n : ℕ) (c : Ctx) (S : Rule V) (E : End) (i : ℕ) → Starts S E (Fresh cs) → ((q : ℕ) → maybe (separate cs n c) i q → Fresh cs q → ⊥) → Refused (separate cs n c ▸ S) E i
  refused_separate n c S E i s t = refused_before (separate cs n c) S E (Fresh cs) i s (λ l r f. t l (inr r) f)
