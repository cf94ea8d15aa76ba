-- Names, handles and the characters of tags: from a place one end at most.
use Rattle.std.proofs.Common.{◌≡◌, ℕ, ◌+◌, ◌<◌, ◌⊎◌, inl, inr, List, Bool, false, Some, sym, ◌∙◌, ap, subst, arith}
use Rattle.std.specs.Prelude.{slice_get, slice_range}
use Rattle.std.specs.Char.{is_ascii_hexdigit}
use Rattle.std.proofs.Math.Nat.{eq-or-lt_of_le}
use Rattle.yaml_definitions.specs.model.Event.{WrittenTag, non_specific}
use Rattle.yaml_definitions.specs.grammar.Rules.{any_one_span, Span, Spans, ◌◆◌, run, Stands, one, chr}
use Rattle.yaml_definitions.specs.grammar.Characters.{is_word, is_uri, is_tag}
use Rattle.yaml_definitions.specs.grammar.Tags.{Handles, c-ns-tag-property as tag, ns-anchor-name as name, is_name, uri_char, tag_char, c-tag-handle as tag_handle, c-verbatim-tag as verbatim_tag, c-ns-shorthand-tag as shorthand_tag, c-non-specific-tag as non_specific_tag, joined, decoded, NameEnds}
use Rattle.yaml_text.proofs.Runs.{same_char, no_stand, run_same}
use Rattle.yaml_text.proofs.Classes.{tag_is_name, word_name, uri_percent, uri_greater, tag_bang, tag_percent, tag_angle, name_bang, name_percent, word_percent, word_angle}

-- spans of one end each, up to where none begins
pub spans_same : {R : Span} → ((i j k : ℕ) → R i j → R i k → j ≡ k) → {j k i : ℕ} → Spans R j i → ((m : ℕ) → R j m → ⊥) → Spans R k i → ((m : ℕ) → R k m → ⊥) → j ≡ k
spans_same {R} same {j} {k} {i} (Spans.done e) s (Spans.done f) t = e ∙ sym f
spans_same {R} same {j} {k} {i} (Spans.done e) s (Spans.then o r more) t = absurd (s o (subst (λ x. R x o) (sym e) r))
spans_same {R} same {j} {k} {i} (Spans.then o r more) s (Spans.done f) t = absurd (t o (subst (λ x. R x o) (sym f) r))
spans_same {R} same {j} {k} {i} (Spans.then o r more) s (Spans.then p q rest) t = spans_same same more s (subst (λ x. Spans R k x) (sym (same i o p r q)) rest) t

module _ (cs : List ℕ) where
  pub name_same : (i j k : ℕ) (x y : List ℕ) → name cs i j x → name cs i k y → (j ≡ k) × (x ≡ y)
  unfolding name
  name_same i j k x y ((r, l, n), e) ((s, m, o), f) =
      let h : j ≡ k = run_same cs is_name i j k r s n o in
      (h, e ∙ ap (λ z. slice_range cs i z) h ∙ sym f)

  -- ---- the characters of tags

  escaped_same : (p : ℕ → Bool) → p 37 ≡ false → (i j k : ℕ) → (one cs p i j ⊎ (chr cs 37 ◆ one cs is_ascii_hexdigit ◆ one cs is_ascii_hexdigit) i j) → (one cs p i k ⊎ (chr cs 37 ◆ one cs is_ascii_hexdigit ◆ one cs is_ascii_hexdigit) i k) → j ≡ k
  escaped_same p none i j k (inl (s, e)) (inl (t, f)) = e ∙ sym f
  escaped_same p none i j k (inr (a, (h, e), (b, (s, f), (t, g)))) (inr (c, (l, m), (d, (u, n), (v, o)))) = g ∙ ap (λ z. z + 1) (f ∙ ap (λ z. z + 1) (e ∙ sym m) ∙ sym n) ∙ sym o
  escaped_same p none i j k (inl (s, e)) (inr (c, (l, m), r)) = absurd (no_stand cs p i 37 l none s)
  escaped_same p none i j k (inr (c, (l, m), r)) (inl (s, e)) = absurd (no_stand cs p i 37 l none s)

  pub uri_same : (i j k : ℕ) → uri_char cs i j → uri_char cs i k → j ≡ k
  unfolding uri_char
  uri_same i j k r s = escaped_same is_uri uri_percent i j k r s

  pub tag_char_same : (i j k : ℕ) → tag_char cs i j → tag_char cs i k → j ≡ k
  unfolding tag_char
  tag_char_same i j k r s = escaped_same is_tag tag_percent i j k r s

  pub tag_char_name : (i j : ℕ) → tag_char cs i j → Stands cs is_name i
  unfolding tag_char
  tag_char_name i j (inl ((c, h, t), e)) = (c, h, tag_is_name c t)
  tag_char_name i j (inr (a, (h, e), r)) = (37, h, name_percent)

  -- a name's end ends them
  pub ends_stop : (j : ℕ) → NameEnds cs j → (m : ℕ) → tag_char cs j m → ⊥
  ends_stop j n m r = n (tag_char_name j m r)

  pub no_uri : (j : ℕ) → slice_get cs j ≡ Some 62 → (m : ℕ) → uri_char cs j m → ⊥
  unfolding uri_char
  no_uri j h m (inl (s, e)) = no_stand cs is_uri j 62 h uri_greater s
  no_uri j h m (inr (a, (g, e), q)) = let z : 62 ≡ 37 = same_char cs j 62 37 h g in omega (arith, z)

  pub no_tag_char : (i j c : ℕ) → slice_get cs i ≡ Some c → is_tag c ≡ false → (c ≡ 37 → ⊥) → tag_char cs i j → ⊥
  unfolding tag_char
  no_tag_char i j c h f n (inl (s, e)) = no_stand cs is_tag i c h f s
  no_tag_char i j c h f n (inr (a, (g, e), q)) = n (same_char cs i c 37 h g)

  -- ---- handles

  -- how a handle goes
  pub data Handle (i a : ℕ) : Type 0 where
    named : (x : ℕ) → slice_get cs i ≡ Some 33 → run cs is_word (i + 1) x → i + 1 < x → slice_get cs x ≡ Some 33 → a ≡ x + 1 → Handle i a
    double : slice_get cs i ≡ Some 33 → slice_get cs (i + 1) ≡ Some 33 → a ≡ i + 2 → Handle i a
    single : slice_get cs i ≡ Some 33 → a ≡ i + 1 → Handle i a

  pub handle_of : (i a : ℕ) (h : List ℕ) → tag_handle cs i a h → Handle i a × (h ≡ slice_range cs i a)
  unfolding tag_handle
  handle_of i a h (inl (b, (g, e), (x, (r, l), (k, f))), t) = (named x g (subst (λ z. run cs is_word z x) e r) (omega (arith, e, l)) k f, t)
  handle_of i a h (inr (inl (b, (g, e), (k, f))), t) = (double g (subst (λ z. slice_get cs z ≡ Some 33) e k) (omega (arith, e, f)), t)
  handle_of i a h (inr (inr (g, e)), t) = (single g e, t)

  pub handle_first : (i a : ℕ) → Handle i a → slice_get cs i ≡ Some 33
  handle_first i a (named x g r l k f) = g
  handle_first i a (double g k f) = g
  handle_first i a (single g e) = g

  -- after the handle `!` no named one's suffix ends
  pub no_named : {k y : ℕ} (x : ℕ) → Spans (tag_char cs) k y → run cs is_word y x → slice_get cs x ≡ Some 33 → NameEnds cs k → ⊥
  unfolding tag_char
  no_named {k} {y} x (Spans.done e) r h n = go (eq-or-lt_of_le r.0)
    where
      go : (y ≡ x) ⊎ (y < x) → ⊥
      go (inl f) = n (33, subst (λ z. slice_get cs z ≡ Some 33) (sym f ∙ sym e) h, name_bang)
      go (inr l) = let (c, g, t) = r.1 y (omega arith) l in n (c, subst (λ z. slice_get cs z ≡ Some c) (sym e) g, word_name c t)
  no_named {k} {y} x (Spans.then o s more) r h n = go (λ q. no_named x more q h n) (eq-or-lt_of_le r.0) s
    where
      go : (run cs is_word o x → ⊥) → (y ≡ x) ⊎ (y < x) → tag_char cs y o → ⊥
      go rec (inl f) (inl (s, e)) = no_stand cs is_tag y 33 (subst (λ z. slice_get cs z ≡ Some 33) (sym f) h) tag_bang s
      go rec (inl f) (inr (a, (g, e), q)) = let z : 33 ≡ 37 = same_char cs y 33 37 (subst (λ z. slice_get cs z ≡ Some 33) (sym f) h) g in omega (arith, z)
      go rec (inr l) (inl (s, e)) = rec (omega (arith, l, e), λ m a b. r.1 m (omega (arith, a, e)) b)
      go rec (inr l) (inr (a, (g, e), q)) = no_stand cs is_word y 37 g word_percent (r.1 y (omega arith) l)

  pub angle_handle : (i a k : ℕ) → slice_get cs (i + 1) ≡ Some 60 → Handle i a → any_one_span (tag_char cs) a k → ⊥
  angle_handle i a k h (named x g r l y e) s = no_stand cs is_word (i + 1) 60 h word_angle (r.1 (i + 1) (omega arith) l)
  angle_handle i a k h (double g y e) s = let z : 60 ≡ 33 = same_char cs (i + 1) 60 33 h y in omega (arith, z)
  angle_handle i a k h (single g e) (o, s, more) = no_tag_char a o 60 (subst (λ z. slice_get cs z ≡ Some 60) (sym e) h) tag_angle (λ z. omega (arith, z)) s

  -- ---- a whole tag, by its form

  pub data Form (handles : Handles) (i k : ℕ) (t : WrittenTag) : Type 0 where
    verbatim : (b : ℕ) (text : List ℕ) → slice_get cs i ≡ Some 33 → slice_get cs (i + 1) ≡ Some 60 → Spans (uri_char cs) b (i + 2) → text ≡ slice_range cs (i + 2) b → decoded text ≡ Some t →
        slice_get cs b ≡ Some 62 → k ≡ b + 1 → Form handles i k t
    shorthand : (a : ℕ) (h suffix : List ℕ) → Handle i a → h ≡ slice_range cs i a → any_one_span (tag_char cs) a k → suffix ≡ slice_range cs a k → joined handles h suffix ≡ Some t → Form handles i k t
    bare : slice_get cs i ≡ Some 33 → k ≡ i + 1 → t ≡ non_specific → Form handles i k t

  pub form_of : (handles : Handles) (i k : ℕ) (t : WrittenTag) → tag cs handles i k t → Form handles i k t × NameEnds cs k
  unfolding tag verbatim_tag shorthand_tag non_specific_tag
  form_of handles i k t (a, inl (b, (x, (h, e), (y, (g, f), z)), (m, (text, ((o, r, s), q), l), (u, v))), (d, n)) =
      let at : b ≡ i + 2 = omega (arith, e, f, z) in (
        verbatim m text h (subst (λ w. slice_get cs w ≡ Some 60) e g) (subst (λ w. Spans (uri_char cs) m w) at (Spans.then o r s)) (subst (λ w. text ≡ slice_range cs w m) at q) l u (d ∙ v),
        subst (NameEnds cs) (sym d) n,
      )
  form_of handles i k t (a, inr (inl (b, h, r, (suffix, (s, q), l))), (d, n)) =
      let (x, y) = handle_of i b h r in
      (shorthand b h suffix x y (subst (λ w. any_one_span (tag_char cs) b w) (sym d) s) (subst (λ w. suffix ≡ slice_range cs b w) (sym d) q) l, subst (NameEnds cs) (sym d) n)
  form_of handles i k t (a, inr (inr (b, (h, e), (f, g))), (d, n)) = (bare h (d ∙ f ∙ e) g, subst (NameEnds cs) (sym d) n)

  pub form_here : (handles : Handles) (i k : ℕ) (t : WrittenTag) → Form handles i k t → slice_get cs i ≡ Some 33
  form_here handles i k t (verbatim b x g h r e f l m) = g
  form_here handles i k t (shorthand a h x ha eh s ex f) = handle_first i a ha
  form_here handles i k t (bare h e f) = h
