-- Tags and names: one reading at each place, with nothing asked of what follows.
use Rattle.std.proofs.Common.{◌≡◌, ℕ, ◌+◌, ◌-◌, inl, inr, List, true, Option, Some, sym, ◌∙◌, ap, subst, arith}
use Rattle.std.specs.Prelude.{slice_get, slice_range}
use Rattle.yaml_definitions.specs.grammar.Rules.{any_one_span, Spans, run, Stands}
use Rattle.yaml_definitions.specs.grammar.Characters.{is_nb, is_word}
use Rattle.yaml_definitions.specs.grammar.Tags.{Handles, c-ns-tag-property as tag, c-ns-anchor-property as anchor, c-ns-alias-node as alias, ns-anchor-name as name, is_name, tag_char, joined, decoded, NameEnds}
use Rattle.yaml_definitions.specs.model.Event.{WrittenTag}
use Rattle.yaml_definitions.specs.grammar.Events.{Props}
use Rattle.yaml_text.specs.Lines.{Inside}
use Rattle.yaml_text.proofs.Runs.{same_char, no_stand, run_same}
use Rattle.yaml_text.proofs.Classes.{nb_bang, nb_greater, name_bang, name_angle, tag_bang, word_bang, ns_nb, hex_ns, name_is_ns, tag_is_name, word_name, solid_nb}
use Rattle.yaml_text.proofs.TagRuns.{spans_same, name_same, uri_same, tag_char_same, tag_char_name, ends_stop, no_uri, no_tag_char, Handle, named, double, single, no_named, angle_handle, Form, verbatim, shorthand, bare, form_of, form_here}
use Rattle.law_one_reading.proofs.Properties.{prop, PropHere, tag_props, anchor_props}

module _ (cs : List ℕ) where
  -- ---- names

  name_inside : (i j : ℕ) (x : List ℕ) → name cs i j x → Inside cs j
  unfolding name
  name_inside i j x (((le, r), l, n), e) =
      let (c, h, t) = r (j - 1) (omega (arith, l)) (omega (arith, l)) in
      (j - 1, omega (arith, l), solid_nb cs (j - 1) (c, h, name_is_ns c t))

  pub alias_same : (i j k : ℕ) (x y : List ℕ) → alias cs i j x → alias cs i k y → (j ≡ k) × (x ≡ y)
  unfolding alias
  alias_same i j k x y (a, (h, e), r) (b, (g, f), s) = name_same cs a j k x y r (subst (λ z. name cs z k y) (f ∙ sym e) s)

  pub alias_inside : (i j : ℕ) (x : List ℕ) → alias cs i j x → Inside cs j
  unfolding alias
  alias_inside i j x (a, q, r) = name_inside a j x r

  anchor_same : (i j k : ℕ) (x y : List ℕ) → anchor cs i j x → anchor cs i k y → (j ≡ k) × (x ≡ y)
  unfolding anchor
  anchor_same i j k x y (a, (h, e), r) (b, (g, f), s) = name_same cs a j k x y r (subst (λ z. name cs z k y) (f ∙ sym e) s)

  -- ---- tags

  after_char : (i j c : ℕ) → slice_get cs i ≡ Some c → is_nb c ≡ true → j ≡ i + 1 → Inside cs j
  after_char i j c h t e = (i, e, (c, h, t))

  tag_char_inside : (i j : ℕ) → tag_char cs i j → Inside cs j
  unfolding tag_char
  tag_char_inside i j (inl ((c, h, t), e)) = (i, e, solid_nb cs i (c, h, name_is_ns c (tag_is_name c t)))
  tag_char_inside i j (inr (a, q, (b, r, ((c, h, t), e)))) = (b, e, (c, h, ns_nb c (hex_ns c t)))

  spans_inside : {j i : ℕ} → Spans (tag_char cs) j i → Inside cs i → Inside cs j
  spans_inside (Spans.done e) o = subst (Inside cs) (sym e) o
  spans_inside (Spans.then k r more) o = spans_inside more (tag_char_inside _ k r)

  handles_same : (i a b k l : ℕ) → Handle cs i a → any_one_span (tag_char cs) a k → NameEnds cs k → Handle cs i b → any_one_span (tag_char cs) b l → NameEnds cs l → a ≡ b
  handles_same i a b k l (named x g r m h e) s n (named y g2 r2 m2 h2 e2) t o =
      let z : x ≡ y = run_same cs is_word (i + 1) x y r r2 (no_stand cs is_word x 33 h word_bang) (no_stand cs is_word y 33 h2 word_bang) in omega (arith, z, e, e2)
  handles_same i a b k l (double g h e) s n (double g2 h2 e2) t o = e ∙ sym e2
  handles_same i a b k l (single g e) s n (single g2 e2) t o = e ∙ sym e2
  handles_same i a b k l (named x g r m h e) s n (double g2 h2 e2) t o = absurd (no_stand cs is_word (i + 1) 33 h2 word_bang (r.1 (i + 1) (omega arith) m))
  handles_same i a b k l (double g2 h2 e2) s n (named x g r m h e) t o = absurd (no_stand cs is_word (i + 1) 33 h2 word_bang (r.1 (i + 1) (omega arith) m))
  handles_same i a b k l (named x g r m h e) s n (single g2 e2) (p, t, u) o = absurd (no_named cs x (Spans.then p t u) (subst (λ z. run cs is_word z x) (sym e2) r) h o)
  handles_same i a b k l (single g2 e2) (p, t, u) n (named x g r m h e) s o = absurd (no_named cs x (Spans.then p t u) (subst (λ z. run cs is_word z x) (sym e2) r) h n)
  handles_same i a b k l (double g h e) s n (single g2 e2) (p, t, u) o = absurd (no_tag_char cs b p 33 (subst (λ z. slice_get cs z ≡ Some 33) (sym e2) h) tag_bang (λ z. omega (arith, z)) t)
  handles_same i a b k l (single g2 e2) (p, t, u) n (double g h e) s o = absurd (no_tag_char cs a p 33 (subst (λ z. slice_get cs z ≡ Some 33) (sym e2) h) tag_bang (λ z. omega (arith, z)) t)

  -- ---- a whole tag, by its form

  some_is : {A : Type 0} (x y : A) (o : Option A) → o ≡ Some x → o ≡ Some y → x ≡ y
  some_is x y o p q = let h : Some x ≡ Some y = sym p ∙ q in cc

  handle_bare : (i a k : ℕ) → Handle cs i a → any_one_span (tag_char cs) a k → NameEnds cs (i + 1) → ⊥
  handle_bare i a k (named x g r l y e) s n = let (c, h, t) = r.1 (i + 1) (omega arith) l in n (c, h, word_name c t)
  handle_bare i a k (double g y e) s n = n (33, y, name_bang)
  handle_bare i a k (single g e) (o, s, more) n = n (subst (Stands cs is_name) e (tag_char_name cs a o s))

  forms_same : (handles : Handles) (i j k : ℕ) (t u : WrittenTag) → Form cs handles i j t → NameEnds cs j → Form cs handles i k u → NameEnds cs k → (j ≡ k) × (t ≡ u)
  forms_same handles i j k t u (verbatim b x g h r e f l m) n (verbatim d y g2 h2 s e2 f2 l2 m2) o =
      let at : b ≡ d = spans_same (uri_same cs) r (no_uri cs b l) s (no_uri cs d l2) in
      let text : x ≡ y = e ∙ ap (λ z. slice_range cs (i + 2) z) at ∙ sym e2 in
      (omega (arith, at, m, m2), some_is t u (decoded y) (subst (λ z. decoded z ≡ Some t) text f) f2)
  forms_same handles i j k t u (shorthand a h x ha eh s ex f) n (shorthand b h2 y hb eh2 s2 ex2 f2) o =
      let at : a ≡ b = handles_same i a b j k ha s n hb s2 o in
      let to : j ≡ k = spans_same (tag_char_same cs) (Spans.then (s.0) s.1 s.2) (ends_stop cs j n) (subst (λ z. Spans (tag_char cs) k z) (sym at) (Spans.then (s2.0) s2.1 s2.2)) (ends_stop cs k o) in
      let handle : h ≡ h2 = eh ∙ ap (λ z. slice_range cs i z) at ∙ sym eh2 in
      let text : x ≡ y = ex ∙ ap (λ z. slice_range cs z j) at ∙ ap (λ z. slice_range cs b z) to ∙ sym ex2 in
      (to, some_is t u (joined handles h2 y) (subst (λ z. joined handles z y ≡ Some t) handle (subst (λ z. joined handles h z ≡ Some t) text f)) f2)
  forms_same handles i j k t u (bare h e f) n (bare h2 e2 f2) o = (e ∙ sym e2, f ∙ sym f2)
  forms_same handles i j k t u (verbatim b x g h r e f l m) n (shorthand a h2 y ha eh s ex f2) o = absurd (angle_handle cs i a k h ha s)
  forms_same handles i j k t u (shorthand a h2 y ha eh s ex f2) n (verbatim b x g h r e f l m) o = absurd (angle_handle cs i a j h ha s)
  forms_same handles i j k t u (verbatim b x g h r e f l m) n (bare h2 e2 f2) o = absurd (o (60, subst (λ z. slice_get cs z ≡ Some 60) (sym e2) h, name_angle))
  forms_same handles i j k t u (bare h2 e2 f2) n (verbatim b x g h r e f l m) o = absurd (n (60, subst (λ z. slice_get cs z ≡ Some 60) (sym e2) h, name_angle))
  forms_same handles i j k t u (shorthand a h x ha eh s ex f) n (bare h2 e2 f2) o = absurd (handle_bare i a j ha s (subst (NameEnds cs) e2 o))
  forms_same handles i j k t u (bare h2 e2 f2) n (shorthand a h x ha eh s ex f) o = absurd (handle_bare i a k ha s (subst (NameEnds cs) e2 n))

  pub tag_same : (handles : Handles) (i j k : ℕ) (t u : WrittenTag) → tag cs handles i j t → tag cs handles i k u → (j ≡ k) × (t ≡ u)
  tag_same handles i j k t u r s = let (f, n) = form_of cs handles i j t r in let (g, o) = form_of cs handles i k u s in forms_same handles i j k t u f n g o

  form_inside : (handles : Handles) (i k : ℕ) (t : WrittenTag) → Form cs handles i k t → Inside cs k
  form_inside handles i k t (verbatim b x g h r e f l m) = after_char b k 62 l nb_greater m
  form_inside handles i k t (shorthand a h x ha eh (o, s, more) ex f) = spans_inside more (tag_char_inside a o s)
  form_inside handles i k t (bare h e f) = after_char i k 33 h nb_bang e

  pub tag_here : (handles : Handles) (i j : ℕ) (t : WrittenTag) → tag cs handles i j t → slice_get cs i ≡ Some 33
  tag_here handles i j t r = form_here cs handles i j t (form_of cs handles i j t r).0

  tag_anchor : (handles : Handles) (i j k : ℕ) (t : WrittenTag) (a : List ℕ) → tag cs handles i j t → anchor cs i k a → ⊥
  unfolding anchor
  tag_anchor handles i j k t a r (b, (h, e), s) = let z : 33 ≡ 38 = same_char cs i 33 38 (form_here cs handles i j t (form_of cs handles i j t r).0) h in omega (arith, z)

  -- ---- one property

  pub prop_same : (handles : Handles) (i j k : ℕ) (p q : Props) → prop cs handles i j p → prop cs handles i k q → (j ≡ k) × (p ≡ q)
  prop_same handles i j k p q (inl (t, r, e)) (inl (u, s, f)) = let h = tag_same handles i j k t u r s in (h.0, e ∙ ap tag_props h.1 ∙ sym f)
  prop_same handles i j k p q (inr (a, r, e)) (inr (b, s, f)) = let h = anchor_same i j k a b r s in (h.0, e ∙ ap anchor_props h.1 ∙ sym f)
  prop_same handles i j k p q (inl (t, r, e)) (inr (b, s, f)) = absurd (tag_anchor handles i j k t b r s)
  prop_same handles i j k p q (inr (b, s, f)) (inl (t, r, e)) = absurd (tag_anchor handles i k j t b r s)

  pub prop_here : (handles : Handles) (i j : ℕ) (p : Props) → prop cs handles i j p → PropHere cs handles i
  unfolding anchor
  prop_here handles i j p (inl (t, r, e)) = inl (form_here cs handles i j t (form_of cs handles i j t r).0)
  prop_here handles i j p (inr (a, (k, (h, f), r), e)) = inr h

  pub prop_inside : (handles : Handles) (i j : ℕ) (p : Props) → prop cs handles i j p → Inside cs j
  unfolding anchor
  prop_inside handles i j p (inl (t, r, e)) = form_inside handles i j t (form_of cs handles i j t r).0
  prop_inside handles i j p (inr (a, (k, h, r), e)) = name_inside k j a r
