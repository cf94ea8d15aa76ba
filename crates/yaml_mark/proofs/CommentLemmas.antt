-- Comment lines: where the furthest of them end.
use Rattle.std.proofs.Common.{◌≡◌, ◌≢◌, ℕ, ◌+◌, ◌-◌, ◌<◌, ◌≤◌, ◌⊎◌, inl, inr, List, Some, true, false, refl, sym, ◌∙◌, ap, subst, arith, nat_eq}
use Rattle.std.specs.Prelude.{slice_get, ◌==◌}
use Rattle.std.specs.Int.{is_in_range}
use Rattle.std.proofs.Math.Nat.{eq-or-lt_of_le}
use Rattle.std.proofs.lemmas.Str.{IsUtf8-had}
use Rattle.yaml_text.specs.declared.chars.Chars.{Chars}
use Rattle.yaml_text.specs.Place.{Steps}
use Rattle.yaml_text.specs.Source.{bytes_of, text_of, place_of, IsBorder}
use Rattle.yaml_text.proofs.PlaceLemmas.{before_ascii, place_less}
use Rattle.yaml_definitions.specs.grammar.Rules.{Spans, Behind, Stands}
use Rattle.yaml_definitions.specs.grammar.Characters.{is_space, b-break as brk}
use Rattle.yaml_definitions.specs.grammar.Separation.{StartsLine, s-b-comment as s_b_comment, s-l-comments as s_l_comments, l-comment as l_comment, s-separate-in-line as sep, c-nb-comment-text as comment, b-comment as line_end}
use Rattle.yaml_text.specs.Lines.{Uncut, AfterLine, blank_rest}
use Rattle.yaml_text.proofs.Runs.{same_char, no_stand, run_none, run_more}
use Rattle.yaml_text.proofs.LineRuns.{line_end_stops, line_uncut, line_end_onward, end_stops}
use Rattle.yaml_text.proofs.RestLemmas.{space_hash, space_feed, from_s_b, from_l, to_s_b, to_l, blank_after, blank_rest_same, l_comment_same, l_comment_onward}
use Rattle.yaml_text.proofs.Repeats.{spans_furthest}
use Rattle.yaml_mark.proofs.StartLemmas.{no_blank_text}

equal : (a b : ℕ) → nat_eq a b ≡ true → a ≡ b
equal a b t = grind (arith, t)

same : (a : ℕ) → (a == a) ≡ true
same a = grind arith

-- where a carriage return stands just before a border
pub return_before : (s : Chars) (at : ℕ) → IsBorder s at → Behind (text_of s) (λ c. c == 13) (place_of s at) → IsBorder s (at - 1) × (slice_get (text_of s) (place_of s (at - 1)) ≡ Some 13)
return_before s at p (some, (c, is, t)) =
    let e : c ≡ 13 = equal c 13 t in
    let h : slice_get (text_of s) (place_of s at - 1) ≡ Some 13 = is ∙ ap Some e in
    let q = before_ascii s.text.now at (place_of s at - 1) 13 (IsUtf8-had s.text.now s.utf8) p (omega (arith, some)) h (omega arith) in
    (q.0, ap (slice_get (text_of s)) q.1 ∙ h)

module _ (cs : List ℕ) where
  pub uncut : (i : ℕ) → (Behind cs (λ c. c == 13) i → slice_get cs i ≡ Some 10 → ⊥) → Uncut cs i
  unfolding Uncut
  uncut i f b (c, is, t) = f b (is ∙ ap Some (equal c 10 t))

  cut : (i : ℕ) → slice_get cs i ≡ Some 10 → Behind cs (λ c. c == 13) i → Uncut cs i → ⊥
  unfolding Uncut
  cut i h b u = u b (10, h, same 10)

-- a line feed just after a carriage return
pub is_cut_here : (s : Chars) (at to : ℕ) → IsBorder s at → at ≢ 0 → slice_get (text_of s) (place_of s at) ≡ Some 10 → IsBorder s (at - 1) → Steps (bytes_of s) (at - 1) 13 to → Uncut (text_of s) (place_of s at) → ⊥
is_cut_here s at to p n h q step =
    let u = IsUtf8-had s.text.now s.utf8 in
    let less : place_of s (at - 1) < place_of s at = place_less s.text.now (at - 1) at u q p (omega (arith, n)) in
    let after : ¬ (at < to) = λ l. (let x : place_of s at < place_of s to = place_less s.text.now at to u p step.border l in omega (arith, x, less, step.next)) in
    let e : at ≡ to = omega (arith, after, step.forward, n) in
    let next : place_of s at ≡ place_of s (at - 1) + 1 = ap (place_of s) e ∙ step.next in
    let back : slice_get (text_of s) (place_of s at - 1) ≡ Some 13 = ap (slice_get (text_of s)) (let z : place_of s at - 1 ≡ place_of s (at - 1) = omega (arith, next) in z) ∙ step.is in
    cut (text_of s) (place_of s at) h (omega (arith, next), (13, back, same 13))

space_is : is_space 32 ≡ true
unfolding is_space
space_is = refl

text_no_space : (c : ℕ) → is_in_range 36 126 c ≡ true → is_space c ≡ false
unfolding is_space
text_no_space c t = grind (arith, t)

module _ (cs : List ℕ) where
  l_on : (i j : ℕ) → l_comment cs i j → i ≤ j
  l_on i j c = let l : i < j = l_comment_onward cs i j c in omega (arith, l)

  abbrev pub Stuck : ℕ → Type 0
  Stuck i = (j : ℕ) → l_comment cs i j → ⊥

  abbrev pub Lines : ℕ → ℕ → Type 0
  Lines i j = Spans (l_comment cs) j i

  pub lines_after : {j i : ℕ} → AfterLine cs i → Lines i j → AfterLine cs j
  lines_after {j} {i} s (Spans.done e) = subst (AfterLine cs) (sym e) s
  lines_after {j} {i} s (Spans.then k l more) = lines_after (blank_after cs i k (from_l cs i k l)) more

  furthest : (i j k : ℕ) → Lines i j → Stuck j → Lines i k → k ≤ j
  furthest i j k l stop m = spans_furthest (l_comment_same cs) l_on l stop m

  -- ---- where a line starts

  blank_onward : (i j : ℕ) → blank_rest cs i j → i ≤ j
  unfolding blank_rest comment
  blank_onward i j (m, r, (k, inl e, l)) = let a : i ≤ m = r.0 in let b : k ≤ j = line_end_onward cs k j l in omega (arith, a, b, e)
  blank_onward i j (m, r, (k, inr (q, (h, g), t), l)) = let a : i ≤ m = r.0 in let b : k ≤ j = line_end_onward cs k j l in let d : q ≤ k = t.0 in omega (arith, a, b, d, g)

  pub line_comments : (i j : ℕ) → StartsLine cs i → Lines i j → s_l_comments cs i j
  unfolding s_l_comments
  line_comments i j s l = (i, inr (refl, s), l)

  pub line_furthest : (i j : ℕ) → StartsLine cs i → Lines i j → Stuck j → (k : ℕ) → s_l_comments cs i k → k ≤ j
  unfolding s_l_comments
  line_furthest i j s l stop k (m, inr (e, t), more) = furthest i j k l stop (subst (λ x. Lines x k) e more)
  line_furthest i j s l stop k (m, inl b, more) = go (eq-or-lt_of_le (blank_onward i m (from_s_b cs i m b)))
    where
      go : (i ≡ m) ⊎ (i < m) → k ≤ j
      go (inl e) = furthest i j k l stop (subst (λ x. Lines x k) (sym e) more)
      go (inr o) = furthest i j k l stop (Spans.then m (to_l cs i m (from_s_b cs i m b) s o) more)

  -- ---- where none starts

  pub rest_comments : (i m j : ℕ) → blank_rest cs i m → slice_get cs i ≢ Some 35 → Lines m j → s_l_comments cs i j
  unfolding s_l_comments
  rest_comments i m j b n l = (m, inl (to_s_b cs i m b n), l)

  pub rest_furthest : (i m j : ℕ) → (StartsLine cs i → ⊥) → blank_rest cs i m → Lines m j → Stuck j → (k : ℕ) → s_l_comments cs i k → k ≤ j
  unfolding s_l_comments
  rest_furthest i m j out b l stop k (n, inr (e, t), more) = absurd (out t)
  rest_furthest i m j out b l stop k (n, inl c, more) =
      furthest m j k l stop (subst (λ x. Lines x k) (blank_rest_same cs i n m (from_s_b cs i n c) b) more)

  pub no_rest : (i : ℕ) → (StartsLine cs i → ⊥) → ((j : ℕ) → blank_rest cs i j → ⊥) → (k : ℕ) → s_l_comments cs i k → ⊥
  unfolding s_l_comments
  no_rest i out none k (n, inr (e, t), more) = out t
  no_rest i out none k (n, inl c, more) = none n (from_s_b cs i n c)

  -- where text stands
  pub text_here : (i : ℕ) → (StartsLine cs i → ⊥) → Stands cs (is_in_range 36 126) i → (j : ℕ) → s_l_comments cs i j → ⊥
  text_here i out (c, g, t) = no_rest i out (no_blank_text cs i i (run_none cs is_space i) (no_stand cs is_space i c g (text_no_space c t)) (c, g, t))

  -- and after a space
  pub text_no_rest : (i k : ℕ) → (StartsLine cs i → ⊥) → slice_get cs i ≡ Some 32 → k ≡ i + 1 → Stands cs (is_in_range 36 126) k → (j : ℕ) → s_l_comments cs i j → ⊥
  text_no_rest i k out h e (c, g, t) =
      no_rest i out (no_blank_text cs i k (run_more cs is_space i i k 32 (run_none cs is_space i) h space_is e) (no_stand cs is_space k c g (text_no_space c t)) (c, g, t))

  pub hash_rest : (i : ℕ) → (StartsLine cs i → ⊥) → slice_get cs i ≡ Some 35 → (j : ℕ) → s_b_comment cs i j → ⊥
  unfolding s_b_comment sep
  hash_rest i out h j (k, inl e, l) = line_end_stops cs (λ c. c == 35) refl refl k j l (subst (Stands cs (λ c. c == 35)) (sym e) (35, h, refl))
  hash_rest i out h j (k, inr (m, inl (r, lt), c), l) = no_stand cs is_space i 35 h space_hash (r.1 i (omega arith) lt)
  hash_rest i out h j (k, inr (m, inr (e, s), c), l) = out s

  pub hash_no_comments : (i : ℕ) → (StartsLine cs i → ⊥) → slice_get cs i ≡ Some 35 → (k : ℕ) → s_l_comments cs i k → ⊥
  unfolding s_l_comments
  hash_no_comments i out h k (n, inr (e, t), more) = out t
  hash_no_comments i out h k (n, inl c, more) = hash_rest i out h n c

  feed_return : (i : ℕ) → slice_get cs i ≡ Some 10 → slice_get cs i ≡ Some 13 → ⊥
  feed_return i h g = let e : 10 ≡ 13 = same_char cs i 10 13 h g in omega (arith, e)

  uncut_by : (i : ℕ) → (Behind cs (λ c. c == 13) i → ⊥) → Uncut cs i
  unfolding Uncut
  uncut_by i n b t = n b

  cut_end : (i : ℕ) → (Uncut cs i → ⊥) → slice_get cs i ≡ Some 10 → (j : ℕ) → line_end cs i j → ⊥
  unfolding line_end brk
  cut_end i cut h j (inr (e, l)) = end_stops cs (λ c. c == 10) i l (10, h, same 10)
  cut_end i cut h j (inl (inl (k, (g, e), r))) = feed_return i h g
  cut_end i cut h j (inl (inr (inl (k, (g, e), r)))) = feed_return i h g
  cut_end i cut h j (inl (inr (inr (k, (e, n), r)))) = cut (uncut_by i n)

  -- between a carriage return and its line feed
  cut_rest : (i : ℕ) → (Uncut cs i → ⊥) → slice_get cs i ≡ Some 10 → (j : ℕ) → s_b_comment cs i j → ⊥
  unfolding s_b_comment sep
  cut_rest i cut h j (k, inl e, l) = cut_end i cut h j (subst (λ x. line_end cs x j) e l)
  cut_rest i cut h j (k, inr (m, inl (r, lt), c), l) = no_stand cs is_space i 10 h space_feed (r.1 i (omega arith) lt)
  cut_rest i cut h j (k, inr (m, inr (e, s), c), l) = cut (line_uncut cs i s)

  pub cut_no_comments : (i : ℕ) → (Uncut cs i → ⊥) → slice_get cs i ≡ Some 10 → (k : ℕ) → s_l_comments cs i k → ⊥
  unfolding s_l_comments
  cut_no_comments i cut h k (n, inr (e, t), more) = cut (line_uncut cs i t)
  cut_no_comments i cut h k (n, inl c, more) = cut_rest i cut h n c
