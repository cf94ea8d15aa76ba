-- The lines of a block scalar: one reading at most of each, and of all of them.
use Rattle.std.proofs.Common.{◌≡◌, ℕ, ◌+◌, ◌<◌, ◌≤◌, ◌⊎◌, inl, inr, List, [], ◌∷◌, ◌++◌, Bool, true, false, refl, sym, ◌∙◌, ap, subst, arith, append_assoc}
use Rattle.std.specs.Prelude.{slice_range}
use Rattle.std.proofs.Math.Nat.{eq-or-lt_of_le}
use Rattle.std.proofs.lemmas.List.{append-nil}
use Rattle.yaml_definitions.specs.grammar.Rules.{run, Stands, maybe, Any, then}
use Rattle.yaml_definitions.specs.grammar.Characters.{is_space, is_nb, is_break, b-break as brk}
use Rattle.yaml_definitions.specs.grammar.Separation.{AtEnd, DocumentMark, s-indent as indent}
use Rattle.yaml_definitions.specs.grammar.BlockScalars.{Line, blank, content_line, NoSpace, LessIndented, LinesEnd, blank_line, text_line, last_spaces, lines}
use Rattle.yaml_scalar.specs.BlockRules.{any_line}
use Rattle.yaml_text.proofs.Runs.{run_none, run_same}
use Rattle.yaml_text.proofs.LineRuns.{end_stops, brk_same, brk_stops, brk_no_end, brk_onward}
use Rattle.yaml_text.proofs.RestLemmas.{nb_feed, nb_return, space_feed, space_return}
use Rattle.yaml_text.proofs.Repeats.{SameRule, any_to_stop, any_push, any_join, any_by, any_start}
use Rattle.yaml_scalar.proofs.IndentationLemmas.{no_space_stops, no_space_no_brk, no_space_no_end, less_is, mark_no_space}

space_nb : (c : ℕ) → is_space c ≡ true → is_nb c ≡ true
unfolding is_space is_nb is_break
space_nb c t = grind (arith, t)

module _ (cs : List ℕ) where
  -- ---- the parts of a line

  pub record Blank (k i j : ℕ) (v : List Line) : Type 0 where
    pub stop : ℕ
    pub spaces : run cs is_space i stop
    pub few : stop ≤ i + k
    pub ends : brk cs stop j
    pub is : v ≡ blank ∷ []

  pub data Tail (q j : ℕ) (xs : List ℕ) (v : List Line) : Type 0 where
    broken : brk cs q j → v ≡ content_line true xs ∷ [] → Tail q j xs v
    last : AtEnd cs q → j ≡ q → v ≡ content_line false xs ∷ [] → Tail q j xs v

  pub record Text (k i j : ℕ) (v : List Line) : Type 0 where
    pub unmarked : DocumentMark cs i → ⊥
    pub spaces : run cs is_space i (i + k)
    pub stop : ℕ
    pub chars : run cs is_nb (i + k) stop
    pub some : i + k < stop
    pub ends : Tail stop j (slice_range cs (i + k) stop) v

  pub blank_of : (k i j : ℕ) (v : List Line) → blank_line cs k i j v → Blank k i j v
  unfolding blank_line
  blank_of k i j v (e, (p, (f, r), b), (g, h)) = record { stop = p; spaces = r; few = f; ends = subst (brk cs p) (sym g) b; is = h }

  pub to_blank : (k i j : ℕ) (v : List Line) → Blank k i j v → blank_line cs k i j v
  unfolding blank_line
  to_blank k i j v b = (j, (b.stop, (b.few, b.spaces), b.ends), (refl, b.is))

  pub text_of : (s : Bool) (k i j : ℕ) (v : List Line) → text_line cs s k i j v → Text k i j v
  unfolding text_line indent
  text_of s k i j v (p, (o, (e, m), (r, f)), (q, xs, ((l, (t, n)), g), w)) =
      let at : p ≡ i + k = omega (arith, e, f) in
      record {
        unmarked = m;
        spaces = subst (run cs is_space i) at (subst (λ x. run cs is_space x p) e r);
        stop = q;
        chars = subst (λ x. run cs is_nb x q) at t;
        some = omega (arith, at, n);
        ends = tail w (g ∙ ap (λ x. slice_range cs x q) at);
      }
    where
      tail : ((e : ℕ) × brk cs q e × ((j ≡ e) × (v ≡ content_line true xs ∷ []))) ⊎ ((e : ℕ) × ((e ≡ q) × AtEnd cs q) × ((j ≡ e) × (v ≡ content_line false xs ∷ []))) → xs ≡ slice_range cs (i + k) q → Tail q j (slice_range cs (i + k) q) v
      tail (inl (a, b, (c, d))) x = broken (subst (brk cs q) (sym c) b) (d ∙ ap (λ y. content_line true y ∷ []) x)
      tail (inr (a, (b, z), (c, d))) x = last z (c ∙ b) (d ∙ ap (λ y. content_line false y ∷ []) x)

  pub to_text : (s : Bool) (k i j : ℕ) (v : List Line) → (t : Text k i j v) → (s ≡ true) ⊎ (run cs is_space (i + k) t.stop → ⊥) → text_line cs s k i j v
  unfolding text_line indent
  to_text s k i j v t l =
      (i + k, (i, (refl, t.unmarked), (t.spaces, refl)), (t.stop, slice_range cs (i + k) t.stop, ((l, (t.chars, t.some)), refl), tail t.ends))
    where
      tail : Tail t.stop j (slice_range cs (i + k) t.stop) v →
          ((e : ℕ) × brk cs t.stop e × ((j ≡ e) × (v ≡ content_line true (slice_range cs (i + k) t.stop) ∷ []))) ⊎ ((e : ℕ) × ((e ≡ t.stop) × AtEnd cs t.stop) × ((j ≡ e) × (v ≡ content_line false (slice_range cs (i + k) t.stop) ∷ [])))
      tail (broken b e) = inl (j, b, (refl, e))
      tail (last z f e) = inr (t.stop, (refl, z), (f, e))

  -- one that spaces alone may be is any
  pub text_any : (s : Bool) (k i j : ℕ) (v : List Line) → text_line cs s k i j v → text_line cs true k i j v
  text_any s k i j v t = to_text true k i j v (text_of s k i j v t) (inl refl)

  -- ---- a line is one

  pub tail_stops : (p : ℕ → Bool) → p 10 ≡ false → p 13 ≡ false → (q j : ℕ) (xs : List ℕ) (v : List Line) → Tail q j xs v → Stands cs p q → ⊥
  tail_stops p a b q j xs v (broken r e) = brk_stops cs p a b q j r
  tail_stops p a b q j xs v (last z f e) = end_stops cs p q z

  tail_same : (q j k : ℕ) (xs : List ℕ) (v w : List Line) → Tail q j xs v → Tail q k xs w → (j ≡ k) × (v ≡ w)
  tail_same q j k xs v w (broken r e) (broken s f) = (brk_same cs q j k r s, e ∙ sym f)
  tail_same q j k xs v w (broken r e) (last z a f) = absurd (brk_no_end cs q j r z)
  tail_same q j k xs v w (last z a e) (broken s f) = absurd (brk_no_end cs q k s z)
  tail_same q j k xs v w (last z a e) (last y b f) = (a ∙ sym b, e ∙ sym f)

  blank_stops : (k i j : ℕ) (v : List Line) (b : Blank k i j v) → Stands cs is_space b.stop → ⊥
  blank_stops k i j v b = brk_stops cs is_space space_feed space_return b.stop j b.ends

  blank_same : (k i j l : ℕ) (v w : List Line) → Blank k i j v → Blank k i l w → (j ≡ l) × (v ≡ w)
  blank_same k i j l v w a b =
      let at : a.stop ≡ b.stop = run_same cs is_space i a.stop b.stop a.spaces b.spaces (blank_stops k i j v a) (blank_stops k i l w b) in
      (brk_same cs b.stop j l (subst (λ x. brk cs x j) at a.ends) b.ends, a.is ∙ sym b.is)

  text_same : (k i j l : ℕ) (v w : List Line) → Text k i j v → Text k i l w → (j ≡ l) × (v ≡ w)
  text_same k i j l v w a b =
      let at : a.stop ≡ b.stop = run_same cs is_nb (i + k) a.stop b.stop a.chars b.chars
      (tail_stops is_nb nb_feed nb_return a.stop j _ v a.ends) (tail_stops is_nb nb_feed nb_return b.stop l _ w b.ends) in
      tail_same b.stop j l (slice_range cs (i + k) b.stop) v w (subst (λ x. Tail x j (slice_range cs (i + k) x) v) at a.ends) b.ends

  -- k spaces and then a character of the line
  text_first : (k i j : ℕ) (v : List Line) → Text k i j v → Stands cs is_nb (i + k)
  text_first k i j v t = t.chars.1 (i + k) (omega arith) t.some

  -- so each place up to there has a character of the line
  short_stop : (k i q j : ℕ) (v : List Line) → Text k i j v → i ≤ q → q ≤ i + k → Stands cs is_nb q
  short_stop k i q j v t a l = go (eq-or-lt_of_le l)
    where
      go : (q ≡ i + k) ⊎ (q < i + k) → Stands cs is_nb q
      go (inl e) = subst (Stands cs is_nb) (sym e) (text_first k i j v t)
      go (inr m) = let h = t.spaces.1 q a m in (h.0, h.1, space_nb h.0 h.2)

  blank_text : (k i j l : ℕ) (v w : List Line) → Blank k i j v → Text k i l w → ⊥
  blank_text k i j l v w b t =
      brk_stops cs is_nb nb_feed nb_return b.stop j b.ends (short_stop k i b.stop l w t b.spaces.0 b.few)

  pub line_same : (k : ℕ) → SameRule (any_line cs k)
  line_same k i j l v w (inl a) (inl b) = blank_same k i j l v w (blank_of k i j v a) (blank_of k i l w b)
  line_same k i j l v w (inl a) (inr b) = absurd (blank_text k i j l v w (blank_of k i j v a) (text_of true k i l w b))
  line_same k i j l v w (inr a) (inl b) = absurd (blank_text k i l j w v (blank_of k i l w b) (text_of true k i j v a))
  line_same k i j l v w (inr a) (inr b) = text_same k i j l v w (text_of true k i j v a) (text_of true k i l w b)

  pub line_onward : (k i j : ℕ) (v : List Line) → any_line cs k i j v → i < j
  line_onward k i j v (inl a) =
      let b = blank_of k i j v a in
      let x : i ≤ b.stop = b.spaces.0 in
      let y : b.stop < j = brk_onward cs b.stop j b.ends in
      omega (arith, x, y)
  line_onward k i j v (inr a) = go (text_of true k i j v a).ends (text_of true k i j v a).some
    where
      go : {q : ℕ} {xs : List ℕ} → Tail q j xs v → i + k < q → i < j
      go {q} (broken b e) l = let y : q < j = brk_onward cs q j b in omega (arith, l, y)
      go {q} (last z f e) l = omega (arith, l, f)

  -- ---- where the lines end

  pub data Over (k i j : ℕ) : Type 0 where
    here : LinesEnd cs k i → j ≡ i → Over k i j
    spaces : run cs is_space i j → j ≤ i + k → AtEnd cs j → Over k i j

  pub no_blank_at : (k i j q : ℕ) (v : List Line) → Blank k i j v → run cs is_space i q → NoSpace cs q → ⊥
  no_blank_at k i j q v b r n =
      let at : b.stop ≡ q = run_same cs is_space i b.stop q b.spaces r (blank_stops k i j v b) (no_space_stops cs q n) in
      no_space_no_brk cs q j n (subst (λ x. brk cs x j) at b.ends)

  pub no_blank_end : (k i j q : ℕ) (v : List Line) → Blank k i j v → run cs is_space i q → AtEnd cs q → ⊥
  no_blank_end k i j q v b r e =
      let at : b.stop ≡ q = run_same cs is_space i b.stop q b.spaces r (blank_stops k i j v b) (end_stops cs is_space q e) in
      brk_no_end cs q j (subst (λ x. brk cs x j) at b.ends) e

  over_no_blank : (k i j l : ℕ) (v : List Line) → Blank k i j v → Over k i l → ⊥
  over_no_blank k i j l v b (here (inl d) e) = let w = less_is cs k i d in no_blank_at k i j w.0 v b w.1 w.3
  over_no_blank k i j l v b (here (inr (inl m)) e) = no_blank_at k i j i v b (run_none cs is_space i) (mark_no_space cs i m)
  over_no_blank k i j l v b (here (inr (inr z)) e) = no_blank_end k i j i v b (run_none cs is_space i) z
  over_no_blank k i j l v b (spaces r f z) = no_blank_end k i j l v b r z

  over_no_text : (k i j l : ℕ) (v : List Line) → Text k i j v → Over k i l → ⊥
  over_no_text k i j l v t (here (inl d) e) = let w = less_is cs k i d in no_space_stops cs w.0 w.3 (t.spaces.1 w.0 w.1.0 w.2)
  over_no_text k i j l v t (here (inr (inl m)) e) = t.unmarked m
  over_no_text k i j l v t (here (inr (inr z)) e) = end_stops cs is_nb i z (short_stop k i i j v t (omega arith) (omega arith))
  over_no_text k i j l v t (spaces r f z) = end_stops cs is_nb l z (short_stop k i l j v t r.0 f)

  abbrev pub OverAt : ℕ → ℕ → Type 0
  OverAt k i = (j : ℕ) × Over k i j

  pub over_no_line : (k i j : ℕ) (v : List Line) → any_line cs k i j v → OverAt k i → ⊥
  over_no_line k i j v (inl a) (l, o) = over_no_blank k i j l v (blank_of k i j v a) o
  over_no_line k i j v (inr a) (l, o) = over_no_text k i j l v (text_of true k i j v a) o

  less_no_end : (k i q : ℕ) → LessIndented cs k i → run cs is_space i q → AtEnd cs q → ⊥
  less_no_end k i q d r z =
      let w = less_is cs k i d in
      let at : w.0 ≡ q = run_same cs is_space i w.0 q w.1 r (no_space_stops cs w.0 w.3) (end_stops cs is_space q z) in
      no_space_no_end cs q (subst (NoSpace cs) at w.3) z

  mark_no_end : (i q : ℕ) → DocumentMark cs i → run cs is_space i q → AtEnd cs q → ⊥
  mark_no_end i q m r z =
      let at : i ≡ q = run_same cs is_space i i q (run_none cs is_space i) r (no_space_stops cs i (mark_no_space cs i m)) (end_stops cs is_space q z) in
      no_space_no_end cs q (subst (NoSpace cs) at (mark_no_space cs i m)) z

  pub over_same : (k i j l : ℕ) → Over k i j → Over k i l → j ≡ l
  over_same k i j l (here a e) (here b f) = e ∙ sym f
  over_same k i j l (here (inl d) e) (spaces r f z) = absurd (less_no_end k i l d r z)
  over_same k i j l (here (inr (inl m)) e) (spaces r f z) = absurd (mark_no_end i l m r z)
  over_same k i j l (here (inr (inr y)) e) (spaces r f z) = omega (arith, e, y, z)
  over_same k i j l (spaces r f z) (here (inl d) e) = absurd (less_no_end k i j d r z)
  over_same k i j l (spaces r f z) (here (inr (inl m)) e) = absurd (mark_no_end i j m r z)
  over_same k i j l (spaces r f z) (here (inr (inr y)) e) = omega (arith, e, y, z)
  over_same k i j l (spaces r f z) (spaces s g y) = omega (arith, y, z)

  pub over_end : (k i j : ℕ) → Over k i j → LinesEnd cs k j
  over_end k i j (here a e) = subst (LinesEnd cs k) (sym e) a
  over_end k i j (spaces r f z) = inr (inr z)

  pub over_maybe : (k i j : ℕ) → Over k i j → maybe (last_spaces cs k) i j
  over_maybe k i j (here a e) = inl e
  over_maybe k i j (spaces r f z) = inr (j, (f, r), (refl, z))

  -- ---- all of them

  pub over_of : (k q j : ℕ) → maybe (last_spaces cs k) q j → LinesEnd cs k j → Over k q j
  over_of k q j (inl e) l = here (subst (LinesEnd cs k) e l) e
  over_of k q j (inr (p, (f, r), (e, z))) l = spaces (subst (run cs is_space q) (sym e) r) (omega (arith, e, f)) (e ∙ z)

  pub chain_of : (s : Bool) (k i j : ℕ) (ls : List Line) → lines cs s k i j ls → LinesEnd cs k j → (q : ℕ) × Any (any_line cs k) q i ls × Over k q j
  unfolding lines
  chain_of s k i j ls (p, ys, zs, a, (q, o, m), e) l = (q, subst (Any (any_line cs k) q i) (sym e) (go o), over_of k q j m l)
    where
      blanks : Any (any_line cs k) p i ys
      blanks = any_by (λ x y v b. inl b) a

      go : ((q ≡ p) × (zs ≡ [])) ⊎ ((r : ℕ) × (us vs : List Line) × text_line cs s k p r us × Any (any_line cs k) q r vs × (zs ≡ us ++ vs)) → Any (any_line cs k) q i (ys ++ zs)
      go (inl (f, g)) = subst (λ x. Any (any_line cs k) x i (ys ++ zs)) (sym f) (subst (Any (any_line cs k) p i) (sym (ap (λ v. ys ++ v) g ∙ append-nil ys)) blanks)
      go (inr (r, us, vs, t, rest, g)) =
          any_join blanks (then r us vs (inr (text_any s k p r us t)) rest g)

  -- the lines are one list, and end at one place
  pub lines_same : (s : Bool) (k i j l : ℕ) (ls ms : List Line) → lines cs s k i j ls → LinesEnd cs k j → lines cs s k i l ms → LinesEnd cs k l → (j ≡ l) × (ls ≡ ms)
  lines_same s k i j l ls ms a x b y =
      let p = chain_of s k i j ls a x in
      let q = chain_of s k i l ms b y in
      let one = any_to_stop (line_same k) (OverAt k) (over_no_line k) p.1 (j, p.2) q.1 (l, q.2) in
      (over_same k q.0 j l (subst (λ v. Over k v j) one.0 p.2) q.2, one.1)

  -- ---- from the front

  -- empty lines, then a line of content, then any lines
  abbrev pub Content : Bool → ℕ → ℕ → ℕ → List Line → Type 0
  Content s k i j ls = (p q : ℕ) × (xs ys zs : List Line) × Any (blank_line cs k) p i xs × text_line cs s k p q ys × Any (any_line cs k) j q zs × (ls ≡ xs ++ (ys ++ zs))

  pub content_start : (s : Bool) (k i p q : ℕ) (xs ys : List Line) → Any (blank_line cs k) p i xs → text_line cs s k p q ys → Content s k i q (xs ++ ys)
  content_start s k i p q xs ys a t = (p, q, xs, ys, [], a, t, any_start, ap (λ v. xs ++ v) (sym (append-nil ys)))

  pub content_more : (s : Bool) (k i j l : ℕ) (ls v : List Line) → Content s k i j ls → any_line cs k j l v → Content s k i l (ls ++ v)
  content_more s k i j l ls v (p, q, xs, ys, zs, a, t, r, e) b =
      (p, q, xs, ys, zs ++ v, a, t, any_push r b, ap (λ w. w ++ v) e ∙ append_assoc xs (ys ++ zs) v ∙ ap (λ w. xs ++ w) (append_assoc ys zs v))

  pub lines_blank : (s : Bool) (k i j l : ℕ) (ls : List Line) → Any (blank_line cs k) j i ls → Over k j l → lines cs s k i l ls
  unfolding lines
  lines_blank s k i j l ls a o = (j, ls, [], a, (j, inl (refl, refl), over_maybe k j l o), sym (append-nil ls))

  pub lines_content : (s : Bool) (k i j l : ℕ) (ls : List Line) → Content s k i j ls → Over k j l → lines cs s k i l ls
  unfolding lines
  lines_content s k i j l ls (p, q, xs, ys, zs, a, t, r, e) o = (p, xs, ys ++ zs, a, (j, inr (q, ys, zs, t, r, refl), over_maybe k j l o), e)
