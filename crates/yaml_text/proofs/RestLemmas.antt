-- The rest of a line without content, and comment lines: from a place one at most.
use Rattle.std.proofs.Common.{◌≡◌, ◌≢◌, ℕ, ◌+◌, ◌<◌, ◌≤◌, ◌⊎◌, inl, inr, List, Some, Bool, true, false, refl, sym, ◌∙◌, ap, subst, arith}
use Rattle.std.specs.Prelude.{slice_get, ◌==◌}
use Rattle.std.proofs.Math.Nat.{eq-or-lt_of_le}
use Rattle.yaml_definitions.specs.grammar.Rules.{◌◆◌, run, Stands, maybe}
use Rattle.yaml_definitions.specs.grammar.Characters.{is_space, is_nb, is_break}
use Rattle.yaml_definitions.specs.grammar.Separation.{StartsLine, b-comment as line_end, c-nb-comment-text as comment, s-separate-in-line as sep, s-b-comment as s_b_comment, l-comment as l_comment}
use Rattle.yaml_text.specs.Lines.{AfterLine, blank_rest}
use Rattle.yaml_text.proofs.Repeats.{SameEnd}
use Rattle.yaml_text.proofs.Runs.{no_stand, run_none, run_same}
use Rattle.yaml_text.proofs.LineRuns.{line_end_after, end_line_end, run_first, line_end_same, line_end_stops}

pub nb_feed : is_nb 10 ≡ false
unfolding is_nb is_break
nb_feed = refl

pub nb_return : is_nb 13 ≡ false
unfolding is_nb is_break
nb_return = refl

pub space_feed : is_space 10 ≡ false
unfolding is_space
space_feed = refl

pub space_return : is_space 13 ≡ false
unfolding is_space
space_return = refl

pub space_hash : is_space 35 ≡ false
unfolding is_space
space_hash = refl

pub is_the_space : (c : ℕ) → is_space c ≡ true → c ≡ 32
unfolding is_space
is_the_space c t = grind (arith, t)

module _ (cs : List ℕ) where
  -- ---- the rest of a line

  pub comment_same : (m j k e f : ℕ) → maybe (comment cs) m j → line_end cs j e → maybe (comment cs) m k → line_end cs k f → j ≡ k
  unfolding comment
  comment_same m j k e f (inl a) r (inl b) s = a ∙ sym b
  comment_same m j k e f (inl a) r (inr (q, (h, g), t)) s =
      absurd (line_end_stops cs (λ c. c == 35) refl refl j e r (subst (Stands cs (λ c. c == 35)) (sym a) (35, h, refl)))
  comment_same m j k e f (inr (q, (h, g), t)) r (inl b) s =
      absurd (line_end_stops cs (λ c. c == 35) refl refl k f s (subst (Stands cs (λ c. c == 35)) (sym b) (35, h, refl)))
  comment_same m j k e f (inr (q, (h, g), t)) r (inr (p, (u, v), w)) s =
      run_same cs is_nb q j k t (subst (λ x. run cs is_nb x k) (v ∙ sym g) w)
      (line_end_stops cs is_nb nb_feed nb_return j e r) (line_end_stops cs is_nb nb_feed nb_return k f s)

  -- what no space is and no `#` stands not where the rest of a line goes on
  pub comment_stops : (p : ℕ → Bool) → p 35 ≡ false → p 10 ≡ false → p 13 ≡ false → (m k e : ℕ) → maybe (comment cs) m k → line_end cs k e → Stands cs p m → ⊥
  unfolding comment
  comment_stops p x y z m k e (inl a) r s = line_end_stops cs p y z k e r (subst (Stands cs p) (sym a) s)
  comment_stops p x y z m k e (inr (q, (h, g), t)) r s = no_stand cs p m 35 h x s

  pub blank_rest_same : SameEnd (blank_rest cs)
  unfolding blank_rest
  blank_rest_same i j k (m, r, (a, c, e)) (n, s, (b, d, f)) =
      let at : m ≡ n = run_same cs is_space i m n r s
      (comment_stops is_space space_hash space_feed space_return m a j c e) (comment_stops is_space space_hash space_feed space_return n b k d f) in
      let to : a ≡ b = comment_same n a b j k (subst (λ x. maybe (comment cs) x a) at c) e d f in
      line_end_same cs b j k (subst (λ x. line_end cs x j) to e) f

  pub blank_rest_stops : (p : ℕ → Bool) → p 32 ≡ false → p 35 ≡ false → p 10 ≡ false → p 13 ≡ false → (i j : ℕ) → blank_rest cs i j → Stands cs p i → ⊥
  unfolding blank_rest
  blank_rest_stops p w x y z i j (m, r, (a, c, e)) s = go (run_first cs is_space i m r)
    where
      go : (i ≡ m) ⊎ Stands cs is_space i → ⊥
      go (inl h) = comment_stops p x y z m a j c e (subst (Stands cs p) h s)
      go (inr (d, g, t)) = no_stand cs p i d g (ap p (is_the_space d t) ∙ w) s

  comment_onward : (m k : ℕ) → maybe (comment cs) m k → m ≤ k
  unfolding comment
  comment_onward m k (inl e) = omega (arith, e)
  comment_onward m k (inr (q, (h, g), t)) = let a : q ≤ k = t.0 in omega (arith, a, g)

  -- after `sep`
  from_sep : (i k m j : ℕ) → sep cs i k → maybe (comment cs) k m → line_end cs m j → blank_rest cs i j
  unfolding sep blank_rest
  from_sep i k m j (inl (r, l)) c e = (k, r, (m, c, e))
  from_sep i k m j (inr (a, s)) c e = (k, subst (run cs is_space i) (sym a) (run_none cs is_space i), (m, c, e))

  pub from_s_b : (i j : ℕ) → s_b_comment cs i j → blank_rest cs i j
  unfolding s_b_comment blank_rest
  from_s_b i j (k, inl a, e) = (i, run_none cs is_space i, (k, inl a, e))
  from_s_b i j (k, inr (m, s, c), e) = from_sep i m k j s c e

  pub from_l : (i j : ℕ) → l_comment cs i j → blank_rest cs i j
  unfolding l_comment
  from_l i j (l, (k, s, (m, c, e))) = from_sep i k m j s c e

  -- back, where no comment stands right here
  pub to_s_b : (i j : ℕ) → blank_rest cs i j → slice_get cs i ≢ Some 35 → s_b_comment cs i j
  unfolding s_b_comment blank_rest sep comment
  to_s_b i j (m, r, (a, c, e)) none = go (eq-or-lt_of_le r.0) c
    where
      go : (i ≡ m) ⊎ (i < m) → maybe (comment cs) m a → s_b_comment cs i j
      go (inl h) (inl f) = (a, inl (f ∙ sym h), e)
      go (inl h) (inr (q, (g, u), t)) = absurd (none (ap (slice_get cs) h ∙ g))
      go (inr l) d = (a, inr (m, inl (r, l), d), e)

  -- and at the start of a line
  pub to_l : (i j : ℕ) → blank_rest cs i j → StartsLine cs i → i < j → l_comment cs i j
  unfolding l_comment blank_rest sep
  to_l i j (m, r, (a, c, e)) s l = (l, go (eq-or-lt_of_le r.0))
    where
      go : (i ≡ m) ⊎ (i < m) → (k : ℕ) × sep cs i k × ((n : ℕ) × maybe (comment cs) k n × line_end cs n j)
      go (inl h) = (m, inr (sym h, s), (a, c, e))
      go (inr n) = (m, inl (r, n), (a, c, e))

  pub l_comment_onward : (i j : ℕ) → l_comment cs i j → i < j
  unfolding l_comment
  l_comment_onward i j (l, r) = l

  pub l_comment_same : SameEnd (l_comment cs)
  l_comment_same i j k r s = blank_rest_same i j k (from_l i j r) (from_l i k s)

  -- what the code reads
  pub comment_is : (i k m j : ℕ) → slice_get cs i ≡ Some 35 → k ≡ i + 1 → run cs is_nb k m → line_end cs m j → (comment cs ◆ line_end cs) i j
  unfolding comment
  comment_is i k m j h e r l = (m, (k, (h, e), r), l)

  pub with_comment : (i j : ℕ) → (comment cs ◆ line_end cs) i j → (maybe (comment cs) ◆ line_end cs) i j
  with_comment i j (k, c, e) = (k, inr c, e)

  pub no_comment : (i j : ℕ) → line_end cs i j → (maybe (comment cs) ◆ line_end cs) i j
  no_comment i j e = (i, inl refl, e)

  pub blank_more : (i m j : ℕ) → run cs is_space i m → (maybe (comment cs) ◆ line_end cs) m j → blank_rest cs i j
  unfolding blank_rest
  blank_more i m j r e = (m, r, e)

  pub blank_end : (i m j : ℕ) → run cs is_space i m → line_end cs m j → blank_rest cs i j
  blank_end i m j r e = blank_more i m j r (no_comment m j e)

  pub no_blank : (i m : ℕ) → run cs is_space i m → (Stands cs is_space m → ⊥) → slice_get cs m ≢ Some 35 → Stands cs is_nb m → (j : ℕ) → blank_rest cs i j → ⊥
  unfolding blank_rest comment
  no_blank i m r stop hash nb j (n, s, (a, c, e)) = go a c e
    where
      go : (a : ℕ) → maybe (comment cs) n a → line_end cs a j → ⊥
      go a c e =
          let at : n ≡ m = run_same cs is_space i n m s r (comment_stops is_space space_hash space_feed space_return n a j c e) stop in
          pick at c e
        where
          pick : n ≡ m → maybe (comment cs) n a → line_end cs a j → ⊥
          pick at (inl f) e = line_end_stops cs is_nb nb_feed nb_return a j e (subst (Stands cs is_nb) (sym at ∙ sym f) nb)
          pick at (inr (q, (h, g), t)) e = hash (ap (slice_get cs) (sym at) ∙ h)

  pub blank_after : (i j : ℕ) → blank_rest cs i j → AfterLine cs j
  unfolding blank_rest
  blank_after i j (m, r, (k, c, e)) = line_end_after cs k j e

  -- a comment line, where the line is one without content
  pub comment_line_is : (i j : ℕ) → AfterLine cs i → blank_rest cs i j → i < j → l_comment cs i j
  comment_line_is i j (inl s) r l = to_l i j r s l
  comment_line_is i j (inr e) r l =
      let at : j ≡ i = blank_rest_same i j i r (blank_end i i i (run_none cs is_space i) (end_line_end cs i e)) in
      absurd (omega (arith, at, l))

  pub no_comment_line : (i : ℕ) → ((j : ℕ) → blank_rest cs i j → ⊥) → (j : ℕ) → l_comment cs i j → ⊥
  no_comment_line i none j r = none j (from_l i j r)

  pub no_comment_here : (i k : ℕ) → blank_rest cs i k → k ≡ i → (j : ℕ) → l_comment cs i j → ⊥
  no_comment_here i k r e j c =
      let at : j ≡ k = blank_rest_same i j k (from_l i j c) r in
      let on : i < j = l_comment_onward i j c in
      omega (arith, at, e, on)
