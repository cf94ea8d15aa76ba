-- Where a line of block content begins, and comment lines before it: the place that a text goes on at is the only one.
use Rattle.std.proofs.Common.{◌≡◌, ◌≢◌, ℕ, ◌+◌, ◌-◌, ◌≤◌, ◌<◌, ◌⊎◌, inl, inr, List, Some, true, refl, sym, ◌∙◌, ap, subst, arith}
use Rattle.std.specs.Prelude.{slice_get}
use Rattle.std.proofs.Math.Nat.{eq-or-lt_of_le}
use Rattle.law_one_reading.specs.Follows as follows
use Rattle.yaml_definitions.specs.grammar.Rules.{Span, maybe, Spans, Stands, run}
use Rattle.yaml_definitions.specs.grammar.Characters.{is_space, is_ns, is_nb, is_break, is_white}
use Rattle.yaml_definitions.specs.grammar.Separation.{Ctx, block_out, block_in, flow_out, flow_in, block_key, flow_key, StartsLine, AtEnd, DocumentMark, s-indent as indent, s-separate-in-line as sep, s-b-comment as s_b_comment, b-comment as line_end, l-comment as l_comment, s-l-comments as s_l_comments, s-separate-lines as separate_lines, s-separate as separate}
use Rattle.yaml_definitions.proofs.grammar.Forward.{on_s_l_comments}
use Rattle.yaml_text.specs.Lines.{LooksLikeMarker, AfterLine, Inside, blank_rest}
use Rattle.yaml_text.proofs.Runs.{same_char, run_none, run_same}
use Rattle.yaml_text.proofs.Classes as classes
use Rattle.yaml_text.proofs.DirectiveRuns as runs
use Rattle.yaml_text.proofs.Breaks.{run_join, mark_dashes, mark_ns}
use Rattle.yaml_text.proofs.LineRuns.{inside_no_line, end_stops, indent_run, indent_place}
use Rattle.yaml_text.proofs.RestLemmas.{blank_after, to_s_b, is_the_space, blank_rest_same, from_s_b, from_l, to_l, l_comment_onward, no_blank}

pub ns_dash : is_ns 45 ≡ true
unfolding is_ns is_nb is_break is_white
ns_dash = refl

module _ (cs : List ℕ) where
  abbrev Solid : ℕ → Type 0
  Solid = follows.Solid cs

  abbrev Fresh : ℕ → Type 0
  Fresh = follows.Fresh cs

  abbrev Comments : Span
  Comments = follows.Comments cs

  abbrev Stuck : ℕ → Type 0
  Stuck = follows.Stuck cs

  abbrev Less : ℕ → ℕ → Type 0
  Less = follows.Less cs

  abbrev DashHere : ℕ → Type 0
  DashHere = follows.DashHere cs

  abbrev Dash : ℕ → ℕ → Type 0
  Dash = follows.Dash cs

  pub solid_no_space : (i : ℕ) → Stands cs is_ns i → Stands cs is_space i → ⊥
  solid_no_space = classes.solid_no_space cs

  pub solid_nb : (i : ℕ) → Stands cs is_ns i → Stands cs is_nb i
  solid_nb = classes.solid_nb cs

  pub dash_fresh : (p : ℕ) → DashHere p → Fresh p
  dash_fresh p (h, n) = (((45, h, ns_dash), λ g. let e : 45 ≡ 35 = same_char cs p 45 35 h g in omega (arith, e)), λ m. go (mark_dashes cs p m))
    where
      go : LooksLikeMarker cs p → ⊥
      go (inl (a, b, c, d)) = n (45, b, ns_dash)
      go (inr (a, b, c, d)) = let e : 45 ≡ 46 = same_char cs p 45 46 h a in omega (arith, e)

  -- a character that begins no mark and no comment
  pub char_fresh : (i c : ℕ) → slice_get cs i ≡ Some c → is_ns c ≡ true → (c ≡ 35 → ⊥) → (c ≡ 45 → ⊥) → (c ≡ 46 → ⊥) → Fresh i
  char_fresh i c h s a b d = ((((c, h, s), λ g. a (same_char cs i c 35 h g)), λ m. go (mark_dashes cs i m)))
    where
      go : LooksLikeMarker cs i → ⊥
      go (inl (x, y, z, w)) = b (same_char cs i c 45 h x)
      go (inr (x, y, z, w)) = d (same_char cs i c 46 h x)

  -- ---- comment lines

  -- spaces and content: no comment line begins here, nor is the rest of the line one
  pub no_rest : (i p : ℕ) → run cs is_space i p → Solid p → (j : ℕ) → blank_rest cs i j → ⊥
  no_rest i p r (s, h) = no_blank cs i p r (solid_no_space p s) h (solid_nb p s)

  pub stuck_run : (i p : ℕ) → run cs is_space i p → Solid p → Stuck i
  stuck_run i p r s j c = no_rest i p r s j (from_l cs i j c)

  pub stuck_line : (k i p : ℕ) → indent cs k i p → Solid p → Stuck i
  stuck_line k i p r s = stuck_run i p (indent_run cs k i p r) s

  pub blank_at_end : (i : ℕ) → AtEnd cs i → (j : ℕ) → blank_rest cs i j → j ≡ i
  unfolding blank_rest line_end
  blank_at_end i e j r =
      blank_rest_same cs i j i r (i, run_none cs is_space i, (i, inl refl, inr (refl, e)))

  pub stuck_end : (i : ℕ) → AtEnd cs i → Stuck i
  stuck_end i e j c = let h : j ≡ i = blank_at_end i e j (from_l cs i j c) in let l : i < j = l_comment_onward cs i j c in omega (arith, h, l)

  mark_solid : (i : ℕ) → DocumentMark cs i → Solid i
  mark_solid i m = (mark_ns cs i m, λ g. go g (mark_dashes cs i m))
    where
      go : slice_get cs i ≡ Some 35 → LooksLikeMarker cs i → ⊥
      go g (inl (a, b, c, d)) = let e : 35 ≡ 45 = same_char cs i 35 45 g a in omega (arith, e)
      go g (inr (a, b, c, d)) = let e : 35 ≡ 46 = same_char cs i 35 46 g a in omega (arith, e)

  pub stuck_mark : (i : ℕ) → DocumentMark cs i → Stuck i
  stuck_mark i m = stuck_run i i (run_none cs is_space i) (mark_solid i m)

  pub less_stuck : (col m : ℕ) → Less col m → Stuck m
  less_stuck col m (inl e) = stuck_end m e
  less_stuck col m (inr (inl e)) = stuck_mark m e
  less_stuck col m (inr (inr (s, p, l, r, h))) = stuck_line s m p r h

  pub comments_same : (i m n : ℕ) → Comments i m → Stuck m → Comments i n → Stuck n → m ≡ n
  comments_same = runs.lines_same cs

  pub comments_none : (i m : ℕ) → Stuck i → Comments i m → m ≡ i
  comments_none i m s (Spans.done e) = e
  comments_none i m s (Spans.then k r more) = absurd (s k r)

  pub comments_join : {m k i : ℕ} → Comments i k → Comments k m → Comments i m
  comments_join {m} {k} {i} (Spans.done e) s = subst (λ x. Spans (l_comment cs) m x) e s
  comments_join (Spans.then o r more) s = Spans.then o r (comments_join more s)

  -- ---- columns

  pub run_solid : (m p q : ℕ) → run cs is_space m p → Stands cs is_ns p → run cs is_space m q → Stands cs is_ns q → p ≡ q
  run_solid m p q r s t u = run_same cs is_space m p q r t (solid_no_space p s) (solid_no_space q u)

  pub column_same : (k l m p q : ℕ) → indent cs k m p → Stands cs is_ns p → indent cs l m q → Stands cs is_ns q → (k ≡ l) × (p ≡ q)
  column_same k l m p q r s t u =
      let h : p ≡ q = run_solid m p q (indent_run cs k m p r) s (indent_run cs l m q t) u in
      let a : p ≡ m + k = indent_place cs k m p r in
      let b : q ≡ m + l = indent_place cs l m q t in
      (omega (arith, h, a, b), h)

  pub less_more : (c d m : ℕ) → c ≤ d → Less c m → Less d m
  less_more c d m le (inl e) = inl e
  less_more c d m le (inr (inl e)) = inr (inl e)
  less_more c d m le (inr (inr (s, p, l, r, h))) = inr (inr (s, p, omega (arith, l, le), r, h))

  pub end_no_run : (m p : ℕ) → AtEnd cs m → run cs is_space m p → Stands cs is_ns p → ⊥
  end_no_run m p e r s = go (eq-or-lt_of_le r.0)
    where
      go : (m ≡ p) ⊎ (m < p) → ⊥
      go (inl h) = end_stops cs is_ns p (sym h ∙ e) s
      go (inr l) = end_stops cs is_space m e (r.1 m (omega arith) l)

  mark_no_run : (m p : ℕ) → DocumentMark cs m → run cs is_space m p → (DocumentMark cs p → ⊥) → ⊥
  mark_no_run m p e r n = go (eq-or-lt_of_le r.0)
    where
      go : (m ≡ p) ⊎ (m < p) → ⊥
      go (inl h) = n (subst (DocumentMark cs) h e)
      go (inr l) = solid_no_space m (mark_ns cs m e) (r.1 m (omega arith) l)

  -- content at column c or further right is not less than c
  pub less_run : (c m p : ℕ) → Less c m → run cs is_space m p → m + c ≤ p → Fresh p → ⊥
  less_run c m p (inl e) r le (s, n) = end_no_run m p e r s.0
  less_run c m p (inr (inl e)) r le (s, n) = mark_no_run m p e r n
  less_run c m p (inr (inr (t, q, l, x, h))) r le (s, n) =
      let a : q ≡ p = run_solid m q p (indent_run cs t m q x) h.0 r s.0 in
      let b : q ≡ m + t = indent_place cs t m q x in
      omega (arith, a, b, l, le)

  pub less_column : (c k m p : ℕ) → Less c m → indent cs k m p → c ≤ k → Fresh p → ⊥
  less_column c k m p l r le f = less_run c m p l (indent_run cs k m p r) (let b : p ≡ m + k = indent_place cs k m p r in omega (arith, b, le)) f

  -- ---- the rest of a line, and comment lines

  rest_on : (i a : ℕ) → s_b_comment cs i a → i ≤ a
  unfolding s_l_comments
  rest_on i a b = on_s_l_comments cs i a (a, inl b, Spans.done refl)

  pub lines_on : (i a m : ℕ) → StartsLine cs i → s_b_comment cs i a → Comments a m → Comments i m
  lines_on i a m s b c = go (eq-or-lt_of_le (rest_on i a b)) (from_s_b cs i a b)
    where
      go : (i ≡ a) ⊎ (i < a) → blank_rest cs i a → Comments i m
      go (inl h) r = subst (λ x. Spans (l_comment cs) m x) (sym h) c
      go (inr l) r = Spans.then a (to_l cs i a r s l) c

  abbrev Past : ℕ → ℕ → Type 0
  Past = follows.Past cs

  pub past_of : (i j m : ℕ) → s_l_comments cs i j → Comments j m → Past i m
  unfolding s_l_comments
  past_of i j m (a, inl b, c) d = inl (a, b, comments_join c d)
  past_of i j m (a, inr (e, s), c) d = inr (s, comments_join (subst (λ x. Spans (l_comment cs) j x) e c) d)

  pub past_same : (i m n : ℕ) → Past i m → Stuck m → Past i n → Stuck n → m ≡ n
  past_same i m n (inl (a, b, c)) s (inl (d, e, f)) t =
      let h : a ≡ d = blank_rest_same cs i a d (from_s_b cs i a b) (from_s_b cs i d e) in
      comments_same d m n (subst (λ x. Spans (l_comment cs) m x) h c) s f t
  past_same i m n (inr (a, c)) s (inr (b, d)) t = comments_same i m n c s d t
  past_same i m n (inl (a, b, c)) s (inr (d, f)) t = comments_same i m n (lines_on i a m d b c) s f t
  past_same i m n (inr (d, f)) s (inl (a, b, c)) t = comments_same i m n f s (lines_on i a n d b c) t

  -- content on this line
  pub past_no_run : (i m p : ℕ) → Past i m → run cs is_space i p → Solid p → (StartsLine cs i) × (m ≡ i)
  past_no_run i m p (inl (a, b, c)) r s = absurd (no_rest i p r s a (from_s_b cs i a b))
  past_no_run i m p (inr (b, c)) r s = (b, comments_none i m (stuck_run i p r s) c)

  -- ---- separation, up to content

  abbrev Way : ℕ → ℕ → Type 0
  Way = follows.Way cs

  pub way_same : (i q r : ℕ) → Way i q → Way i r → q ≡ r
  way_same i q r (inl (a, s)) (inl (b, t)) = run_solid i q r a s.0 b t.0
  way_same i q r (inl (a, s)) (inr (p, b, c, t)) =
      let h = past_no_run i p q b a s in
      run_solid i q r a s.0 (subst (λ x. run cs is_space x r) h.1 c) t.0
  way_same i q r (inr (p, b, c, t)) (inl (a, s)) =
      let h = past_no_run i p r b a s in
      run_solid i q r (subst (λ x. run cs is_space x q) h.1 c) t.0 a s.0
  way_same i q r (inr (p, b, c, t)) (inr (o, d, e, u)) =
      let h : p ≡ o = past_same i p o b (stuck_run p q c t) d (stuck_run o r e u) in
      run_solid o q r (subst (λ x. run cs is_space x q) h c) t.0 e u.0

  pub way_here : (i : ℕ) → Solid i → Way i i
  way_here i s = inl (run_none cs is_space i, s)

  pub sep_run : (i q : ℕ) → sep cs i q → run cs is_space i q
  unfolding sep
  sep_run i q (inl (r, l)) = r
  sep_run i q (inr (e, l)) = subst (run cs is_space i) (sym e) (run_none cs is_space i)

  pub way_sep : (i q : ℕ) → sep cs i q → Solid q → Way i q
  unfolding sep
  way_sep i q (inl (r, l)) s = inl (r, s)
  way_sep i q (inr (e, l)) s = inl (subst (run cs is_space i) (sym e) (run_none cs is_space i), s)

  -- content at column n or further right on another line, or on this one
  pub way_lines : (n i q : ℕ) → separate_lines cs n i q → Solid q → (run cs is_space i q × Solid q) ⊎ ((p : ℕ) × Past i p × run cs is_space p q × (p + n ≤ q) × Solid q)
  unfolding separate_lines sep
  way_lines n i q (inl (p, c, (o, d, r))) s =
      let e : o ≡ p + n = indent_place cs n p o d in
      let l : o ≤ q = r.0 in
      inr (p, past_of i p p c (Spans.done refl), run_join cs is_space p o q (indent_run cs n p o d) r, omega (arith, e, l), s)
  way_lines n i q (inr (inl (r, l))) s = inl (r, s)
  way_lines n i q (inr (inr (e, l))) s = inl (subst (run cs is_space i) (sym e) (run_none cs is_space i), s)

  way_wide : (n i q : ℕ) → (run cs is_space i q × Solid q) ⊎ ((p : ℕ) × Past i p × run cs is_space p q × (p + n ≤ q) × Solid q) → Way i q
  way_wide n i q (inl h) = inl h
  way_wide n i q (inr (p, a, r, l, s)) = inr (p, a, r, s)

  pub way_of : (n : ℕ) (c : Ctx) (i q : ℕ) → separate cs n c i q → Solid q → Way i q
  unfolding separate
  way_of n block_key i q r s = way_sep i q r s
  way_of n flow_key i q r s = way_sep i q r s
  way_of n block_out i q r s = way_wide n i q (way_lines n i q r s)
  way_of n block_in i q r s = way_wide n i q (way_lines n i q r s)
  way_of n flow_out i q r s = way_wide n i q (way_lines n i q r s)
  way_of n flow_in i q r s = way_wide n i q (way_lines n i q r s)

  pub way_any : (n : ℕ) (c : Ctx) (i q : ℕ) → separate cs n c i q → Solid q → (run cs is_space i q × Solid q) ⊎ ((p : ℕ) × Past i p × run cs is_space p q × (p + n ≤ q) × Solid q)
  unfolding separate
  way_any n block_key i q r s = inl (sep_run i q r, s)
  way_any n flow_key i q r s = inl (sep_run i q r, s)
  way_any n block_out i q r s = way_lines n i q r s
  way_any n block_in i q r s = way_lines n i q r s
  way_any n flow_out i q r s = way_lines n i q r s
  way_any n flow_in i q r s = way_lines n i q r s

  pub way_maybe : (n : ℕ) (c : Ctx) (i q : ℕ) → maybe (separate cs n c) i q → Solid q → Way i q
  way_maybe n c i q (inl e) s = subst (Way i) (sym e) (way_here i (subst Solid e s))
  way_maybe n c i q (inr r) s = way_of n c i q r s

  -- ---- separation twice

  after_comments : {j i : ℕ} → Comments i j → AfterLine cs i → AfterLine cs j
  after_comments (Spans.done e) a = subst (AfterLine cs) (sym e) a
  after_comments (Spans.then k r more) a = after_comments more (blank_after cs _ k (from_l cs _ k r))

  past_after : (i m : ℕ) → Past i m → AfterLine cs m
  past_after i m (inl (x, b, c)) = after_comments c (blank_after cs i x (from_s_b cs i x b))
  past_after i m (inr (s, c)) = after_comments c (inl s)

  past_more : (i p m : ℕ) → Past i p → Comments p m → Past i m
  past_more i p m (inl (x, b, c)) d = inl (x, b, comments_join c d)
  past_more i p m (inr (s, c)) d = inr (s, comments_join c d)

  lines_parts : (n a k : ℕ) → Inside cs a → separate_lines cs n a k → (run cs is_space a k × (a < k)) ⊎ ((p : ℕ) × Past a p × run cs is_space p k)
  unfolding separate_lines sep
  lines_parts n a k o (inl (p, s, (x, t, r))) = inr (p, past_of a p p s (Spans.done refl), run_join cs is_space p x k (indent_run cs n p x t) r)
  lines_parts n a k o (inr (inl (r, l))) = inl (r, l)
  lines_parts n a k o (inr (inr (e, s))) = absurd (inside_no_line cs a o s)

  end_no_space : (p : ℕ) → AtEnd cs p → Stands cs is_space p → ⊥
  end_no_space p e s = end_stops cs is_space p e s

  pub sep_parts : (n : ℕ) (c : Ctx) (a k : ℕ) → Inside cs a → separate cs n c a k → (run cs is_space a k × (a < k)) ⊎ ((p : ℕ) × Past a p × run cs is_space p k)
  unfolding separate separate_lines sep
  sep_parts n block_key a k o (inl (r, l)) = inl (r, l)
  sep_parts n block_key a k o (inr (e, s)) = absurd (inside_no_line cs a o s)
  sep_parts n flow_key a k o (inl (r, l)) = inl (r, l)
  sep_parts n flow_key a k o (inr (e, s)) = absurd (inside_no_line cs a o s)
  sep_parts n block_out a k o r = lines_parts n a k o r
  sep_parts n block_in a k o r = lines_parts n a k o r
  sep_parts n flow_out a k o r = lines_parts n a k o r
  sep_parts n flow_in a k o r = lines_parts n a k o r

  spaces_inside : (a k : ℕ) → run cs is_space a k → a < k → Inside cs k
  spaces_inside a k (le, r) l =
      let (d, h, u) = r (k - 1) (omega (arith, l)) (omega (arith, l)) in
      (k - 1, omega (arith, l), (d, h, ap is_nb (is_the_space d u) ∙ classes.nb_space))

  rest_spaces : (a k x : ℕ) → run cs is_space a k → blank_rest cs k x → blank_rest cs a x
  unfolding blank_rest
  rest_spaces a k x r (q, s, t) = (q, run_join cs is_space a k q r s, t)

  space_no_hash : (a k : ℕ) → run cs is_space a k → a < k → slice_get cs a ≢ Some 35
  space_no_hash a k r l g =
      let (d, h, u) = r.1 a (omega arith) l in
      let e : 35 ≡ 32 = same_char cs a 35 d g h ∙ is_the_space d u in omega (arith, e)

  -- comments after separation are comments after what stands before it
  pub past_then : (n : ℕ) (c : Ctx) (a k p2 m : ℕ) → Inside cs a → separate cs n c a k → Past k p2 → run cs is_space p2 m → Solid m → Past a p2
  past_then n c a k p2 m o r d s t = go (sep_parts n c a k o r) d
    where
      again : (p : ℕ) → Past a p → run cs is_space p k → Past k p2 → AfterLine cs p → (p ≡ k) ⊎ (p < k) → Past a p2
      again p b r (inr (st, d)) al (inl e) = past_more a p p2 b (subst (λ z. Comments z p2) (sym e) d)
      again p b r (inl (x, y, d)) (inl st) (inl e) = past_more a p p2 b (lines_on p x p2 st (subst (λ z. s_b_comment cs z x) (sym e) y) d)
      again p b r (inl (x, y, d)) (inr en) (inl e) =
          let f : x ≡ p = blank_at_end p en x (from_s_b cs p x (subst (λ z. s_b_comment cs z x) (sym e) y)) in
          let g : p2 ≡ x = comments_none x p2 (stuck_end x (subst (AtEnd cs) (sym f) en)) d in
          absurd (end_no_run p2 m (subst (AtEnd cs) (sym (g ∙ f)) en) s t.0)
      again p b r (inr (st, d)) al (inr l) = absurd (inside_no_line cs k (spaces_inside p k r l) st)
      again p b r (inl (x, y, d)) (inl st) (inr l) =
          let z = rest_spaces p k x r (from_s_b cs k x y) in
          let u : k ≤ x = rest_on k x y in
          past_more a p p2 b (Spans.then x (to_l cs p x z st (omega (arith, l, u))) d)
      again p b r (inl (x, y, d)) (inr en) (inr l) = absurd (end_no_space p en (r.1 p (omega arith) l))

      go : (run cs is_space a k × (a < k)) ⊎ ((p : ℕ) × Past a p × run cs is_space p k) → Past k p2 → Past a p2
      go (inl (r, l)) (inr (st, d)) = absurd (inside_no_line cs k (spaces_inside a k r l) st)
      go (inl (r, l)) (inl (x, y, d)) = inl (x, to_s_b cs a x (rest_spaces a k x r (from_s_b cs k x y)) (space_no_hash a k r l), d)
      go (inr (p, b, r)) d = again p b r d (past_after a p b) (eq-or-lt_of_le r.0)

  -- content after separation and more of it is content after separation
  pub way_then : (n : ℕ) (c : Ctx) (a k m : ℕ) → Inside cs a → separate cs n c a k → Way k m → Way a m
  way_then n c a k m o r (inl (s, t)) = go (sep_parts n c a k o r)
    where
      go : (run cs is_space a k × (a < k)) ⊎ ((p : ℕ) × Past a p × run cs is_space p k) → Way a m
      go (inl (r, l)) = inl (run_join cs is_space a k m r s, t)
      go (inr (p, b, r)) = inr (p, b, run_join cs is_space p k m r s, t)
  way_then n c a k m o r (inr (p, d, s, t)) = inr (p, past_then n c a k p m o r d s t, s, t)
