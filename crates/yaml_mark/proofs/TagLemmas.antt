-- Tags: from a place one at most.
use Rattle.std.proofs.Common.{◌≡◌, ◌≢◌, ℕ, ◌+◌, ◌<◌, ◌⊎◌, inl, inr, List, [], ◌∷◌, ◌++◌, Option, Some, None, refl, sym, ◌∙◌, ap, subst, arith}
use Rattle.std.specs.Prelude.{slice_get, slice_range, codes, option_and_then}
use Rattle.std.specs.Prelude.{bytes_eq}
use Rattle.std.specs.Option.{option_map, option_or}
use Rattle.std.specs.Map.{lookup}
use Rattle.std.proofs.Math.Nat.{eq-or-lt_of_le}
use Rattle.yaml_text.specs.LeafAnswer.{Only}
use Rattle.yaml_definitions.specs.model.Event.{WrittenTag, non_specific}
use Rattle.yaml_definitions.specs.grammar.Rules.{any_one_span, Span, Spans, run, Stands}
use Rattle.yaml_definitions.specs.grammar.Characters.{is_word, is_uri, is_tag}
use Rattle.yaml_definitions.specs.grammar.Tags.{Handles, c-ns-tag-property as tag, is_name, uri_char, tag_char, c-tag-handle as tag_handle, c-verbatim-tag as verbatim_tag, c-ns-shorthand-tag as shorthand_tag, c-non-specific-tag as non_specific_tag, joined, decoded, prefix_of, default_handles, percent_decode, NameEnds}
use Rattle.yaml_text.specs.Calls.{read_tag}
use Rattle.yaml_text.specs.LeafAnswer.{Unread}
use Rattle.yaml_text.proofs.PlaceLemmas.{slice_none, slice_one}
use Rattle.yaml_text.proofs.Runs.{no_stand, run_none, run_same}
use Rattle.yaml_text.proofs.Classes.{name_bang, name_angle, word_name, word_bang}
use Rattle.yaml_text.proofs.TagRuns.{spans_same, uri_same, tag_char_same, tag_char_name, ends_stop, no_uri, Handle, named, double, single, no_named, Form, verbatim, shorthand, bare, form_of, form_here, angle_handle}
use Rattle.yaml_mark.proofs.DecodeLemmas.{decoded_no, empty_is_none}
use Rattle.yaml_mark.proofs.HandleLemmas.{prefix_or}
use Rattle.yaml_mark.specs.Parts.{percent_escape, char_or_escape, handle_rest}
use Rattle.yaml_mark.specs.Prefixes.{StandFor}

-- ---- prefixes

-- the bytes that stand for the prefix are decoded with the suffix
pub joined_is : (hs : Handles) (h b x : List ℕ) (tag : Option WrittenTag) → StandFor (Some b) (prefix_of hs h) → ((text : List ℕ) → percent_decode text ≡ b ++ percent_decode x → tag ≡ decoded text) → joined hs h x ≡ tag
unfolding joined
joined_is hs h b x tag e f = go (prefix_of hs h) (e x)
  where
    go : (o : Option (List ℕ)) → Some (b ++ percent_decode x) ≡ option_map (λ p. percent_decode (p ++ x)) o → option_and_then (λ q. decoded (q ++ x)) o ≡ tag
    go None g = let z : ◌≡◌ {A = Option (List ℕ)} (Some (b ++ percent_decode x)) None = g in cc
    go (Some p) g = let z : ◌≡◌ {A = Option (List ℕ)} (Some (b ++ percent_decode x)) (Some (percent_decode (p ++ x))) = g in let y : percent_decode (p ++ x) ≡ b ++ percent_decode x = cc in sym (f (p ++ x) y)

-- the handle `!` has always a prefix
bang_bound : (hs : Handles) → prefix_of hs (33 ∷ []) ≡ None → ⊥
unfolding default_handles
bang_bound hs e = go (lookup (bytes_eq (33 ∷ [])) hs) (prefix_or hs hs (33 ∷ []) refl ∙ e)
  where
    go : (o : Option (List ℕ)) → option_or o (Some (codes "!")) ≡ None → ⊥
    go None f = let z : ◌≡◌ {A = Option (List ℕ)} (Some (codes "!")) None = f in cc
    go (Some p) f = let z : ◌≡◌ {A = Option (List ℕ)} (Some p) None = f in cc

pub spans_map : {R S : Span} → ((i j : ℕ) → R i j → S i j) → {j i : ℕ} → Spans R j i → Spans S j i
spans_map {R} {S} f {j} {i} (Spans.done e) = Spans.done e
spans_map {R} {S} f {j} {i} (Spans.then k r more) = Spans.then k (f i k r) (spans_map f more)

module _ (cs : List ℕ) where
  -- ---- the characters of tags

  pub uri_is : (i j : ℕ) → char_or_escape cs is_uri i j → uri_char cs i j
  unfolding uri_char char_or_escape percent_escape
  uri_is i j r = r

  pub is_uri_char : (i j : ℕ) → uri_char cs i j → char_or_escape cs is_uri i j
  unfolding uri_char char_or_escape percent_escape
  is_uri_char i j r = r

  pub tag_is : (i j : ℕ) → char_or_escape cs is_tag i j → tag_char cs i j
  unfolding tag_char char_or_escape percent_escape
  tag_is i j r = r

  pub is_tag_char : (i j : ℕ) → tag_char cs i j → char_or_escape cs is_tag i j
  unfolding tag_char char_or_escape percent_escape
  is_tag_char i j r = r

  -- ---- handles

  pub rest_is : (f x a : ℕ) → run cs is_word f x → slice_get cs x ≡ Some 33 → a ≡ x + 1 → handle_rest cs f a
  unfolding handle_rest
  rest_is f x a r h e = inl (x, r, (h, e))

  pub rest_none : (f x : ℕ) → run cs is_word f x → (Stands cs is_word x → ⊥) → slice_get cs x ≢ Some 33 → handle_rest cs f f
  unfolding handle_rest
  rest_none f x r stop n = inr (refl, λ k (y, q, (h, e)). n (ap (slice_get cs) (run_same cs is_word f x y r q stop (no_stand cs is_word y 33 h word_bang)) ∙ h))

  -- the handle that the code takes is one
  pub handle_is : (i f a : ℕ) → slice_get cs i ≡ Some 33 → f ≡ i + 1 → handle_rest cs f a → tag_handle cs i a (slice_range cs i a)
  unfolding tag_handle handle_rest
  handle_is i f a h e (inr (g, none)) = (inr (inr (h, g ∙ e)), refl)
  handle_is i f a h e (inl (x, r, (k, g))) = go (eq-or-lt_of_le r.0)
    where
      go : (f ≡ x) ⊎ (f < x) → tag_handle cs i a (slice_range cs i a)
      go (inl s) = (inr (inl (f, (h, e), (subst (λ z. slice_get cs z ≡ Some 33) (sym s) k, g ∙ ap (λ z. z + 1) (sym s)))), refl)
      go (inr l) = (inl (f, (h, e), (x, (r, l), (k, g))), refl)

  -- the handle of a whole tag is the one that the code takes
  handle_at : (i b k a : ℕ) → Handle cs i b → any_one_span (tag_char cs) b k → NameEnds cs k → handle_rest cs (i + 1) a → b ≡ a
  unfolding handle_rest
  handle_at i b k a (named x g r l y e) s n (inl (z, q, (h, f))) =
      let at : x ≡ z = run_same cs is_word (i + 1) x z r q (no_stand cs is_word x 33 y word_bang) (no_stand cs is_word z 33 h word_bang) in omega (arith, at, e, f)
  handle_at i b k a (named x g r l y e) s n (inr (f, none)) = absurd (none (x + 1) (x, r, (y, refl)))
  handle_at i b k a (double g h e) s n (inl (z, q, (h2, f))) =
      let at : i + 1 ≡ z = run_same cs is_word (i + 1) (i + 1) z (run_none cs is_word (i + 1)) q (no_stand cs is_word (i + 1) 33 h word_bang) (no_stand cs is_word z 33 h2 word_bang) in omega (arith, at, e, f)
  handle_at i b k a (double g h e) s n (inr (f, none)) = absurd (none (i + 1 + 1) (i + 1, run_none cs is_word (i + 1), (h, refl)))
  handle_at i b k a (single g e) (o, s, more) n (inl (z, q, (h, f))) = absurd (no_named cs z (Spans.then o s more) (subst (λ y. run cs is_word y z) (sym e) q) h n)
  handle_at i b k a (single g e) s n (inr (f, none)) = e ∙ sym f

  -- ---- a whole tag, by its form

  pub no_tag_here : (handles : Handles) (i : ℕ) → slice_get cs i ≢ Some 33 → Unread (read_tag cs handles) i
  unfolding read_tag
  no_tag_here handles i n j t r = n (form_here cs handles i j t (form_of cs handles i j t r).0)

  -- ---- verbatim

  record Verbatim (i b k : ℕ) (t : WrittenTag) : Type 0 where
    greater : slice_get cs b ≡ Some 62
    value : decoded (slice_range cs (i + 2) b) ≡ Some t
    end : k ≡ b + 1
    apart : NameEnds cs k

  verbatim_at : (handles : Handles) (i b k : ℕ) (t : WrittenTag) → slice_get cs (i + 1) ≡ Some 60 → Spans (uri_char cs) b (i + 2) → ((m : ℕ) → uri_char cs b m → ⊥) → tag cs handles i k t → Verbatim i b k t
  verbatim_at handles i b k t h s stop r = let (f, n) = form_of cs handles i k t r in go f n
    where
      go : Form cs handles i k t → NameEnds cs k → Verbatim i b k t
      go (verbatim m x g h2 q e f l o) n =
          let at : m ≡ b = spans_same (uri_same cs) q (no_uri cs m l) s stop in
          record {
            greater = subst (λ z. slice_get cs z ≡ Some 62) at l;
            value = ap decoded (sym (e ∙ ap (λ z. slice_range cs (i + 2) z) at)) ∙ f;
            end = o ∙ ap (λ z. z + 1) at;
            apart = n;
          }
      go (shorthand a h2 x ha eh q ex f) n = absurd (angle_handle cs i a k h ha q)
      go (bare g e f) n = absurd (n (60, subst (λ z. slice_get cs z ≡ Some 60) (sym e) h, name_angle))

  decoded_nil : (i b : ℕ) (t : WrittenTag) → b ≡ i → decoded (slice_range cs i b) ≡ Some t → ⊥
  unfolding percent_decode
  decoded_nil i b t e h =
      let z : ◌≡◌ {A = Option WrittenTag} None (Some t) = sym (decoded_no [] (sym (empty_is_none [] refl))) ∙ ap decoded (sym (ap (slice_range cs i) e ∙ slice_none cs i)) ∙ h in cc

  pub verbatim_only : (i f b k : ℕ) (t : WrittenTag) → slice_get cs i ≡ Some 33 → slice_get cs (i + 1) ≡ Some 60 → f ≡ i + 2 → Spans (uri_char cs) b f → ((m : ℕ) → uri_char cs b m → ⊥) →
      slice_get cs b ≡ Some 62 → k ≡ b + 1 → decoded (slice_range cs f b) ≡ Some t → NameEnds cs k → (handles : Handles) → Only (read_tag cs handles) i k t
  unfolding read_tag tag verbatim_tag
  verbatim_only i f b k t h g ef s stop l e v n handles = record {
    is = (k, inl (f, (i + 1, (h, refl), (f, (g, omega (arith, ef)), refl)), (b, (slice_range cs f b, (some s, refl), v), (l, e))), (refl, n));
    only = λ m u r.
        let q = verbatim_at handles i b m u g (subst (λ z. Spans (uri_char cs) b z) ef s) stop r in
        let x : Some u ≡ Some t = sym q.value ∙ ap (λ z. decoded (slice_range cs z b)) (sym ef) ∙ v in
        (q.end ∙ sym e, cc);
  }
    where
      some : Spans (uri_char cs) b f → any_one_span (uri_char cs) f b
      some (Spans.done e) = absurd (decoded_nil f b t e v)
      some (Spans.then o r more) = (o, r, more)

  module _ (i f b : ℕ) (g : slice_get cs (i + 1) ≡ Some 60) (e : f ≡ i + 2) (s : Spans (uri_char cs) b f) (stop : (m : ℕ) → uri_char cs b m → ⊥) (handles : Handles) where
    private_at : (k : ℕ) (t : WrittenTag) → tag cs handles i k t → Verbatim i b k t
    private_at k t r = verbatim_at handles i b k t g (subst (λ z. Spans (uri_char cs) b z) e s) stop r

    pub no_greater : slice_get cs b ≢ Some 62 → Unread (read_tag cs handles) i
    unfolding read_tag
    no_greater n k t r = n (private_at k t r).greater

    pub no_verbatim_value : decoded (slice_range cs f b) ≡ None → Unread (read_tag cs handles) i
    unfolding read_tag
    no_verbatim_value n k t r =
        let z : ◌≡◌ {A = Option WrittenTag} None (Some t) = sym n ∙ ap (λ z. decoded (slice_range cs z b)) e ∙ (private_at k t r).value in cc

    pub no_verbatim_end : (k : ℕ) → k ≡ b + 1 → Stands cs is_name k → Unread (read_tag cs handles) i
    unfolding read_tag
    no_verbatim_end k u n m t r = let q = private_at m t r in q.apart (subst (Stands cs is_name) (u ∙ sym q.end) n)

  -- ---- shorthand

  data Short (handles : Handles) (i a b k : ℕ) (t : WrittenTag) : Type 0 where
    joins : k ≡ b → any_one_span (tag_char cs) a k → joined handles (slice_range cs i a) (slice_range cs a b) ≡ Some t → NameEnds cs b → Short handles i a b k t
    alone : k ≡ i + 1 → a ≡ i + 1 → b ≡ i + 1 → t ≡ non_specific → Short handles i a b k t

  bare_rest : (i a : ℕ) → handle_rest cs (i + 1) a → NameEnds cs (i + 1) → a ≡ i + 1
  unfolding handle_rest
  bare_rest i a (inl (x, r, (h, e))) n = absurd (go (eq-or-lt_of_le r.0))
    where
      go : (i + 1 ≡ x) ⊎ (i + 1 < x) → ⊥
      go (inl f) = n (33, ap (slice_get cs) f ∙ h, name_bang)
      go (inr l) = let (c, g, t) = r.1 (i + 1) (omega arith) l in n (c, g, word_name c t)
  bare_rest i a (inr (e, none)) n = e

  bare_only : (i a b : ℕ) → handle_rest cs (i + 1) a → Spans (tag_char cs) b a → NameEnds cs (i + 1) → (a ≡ i + 1) × (b ≡ i + 1)
  bare_only i a b rest (Spans.done f) n = let e = bare_rest i a rest n in (e, f ∙ e)
  bare_only i a b rest (Spans.then o r more) n = absurd (n (subst (Stands cs is_name) (bare_rest i a rest n) (tag_char_name cs a o r)))

  pub no_prefix : (handles : Handles) (i a : ℕ) → slice_get cs (i + 1) ≢ Some 60 → handle_rest cs (i + 1) a → prefix_of handles (slice_range cs i a) ≡ None → Unread (read_tag cs handles) i
  unfolding read_tag joined
  no_prefix handles i a other rest none k t r = let (f, n) = form_of cs handles i k t r in go f n
    where
      go : Form cs handles i k t → NameEnds cs k → ⊥
      go (verbatim m x g h2 q e f l o) n = other h2
      go (shorthand c h x ha eh q ex f) n =
          let at : c ≡ a = handle_at i c k a ha q n rest in
          let hd : h ≡ slice_range cs i a = eh ∙ ap (slice_range cs i) at in
          let z : ◌≡◌ {A = Option WrittenTag} None (Some t) = ap (option_and_then (λ p. decoded (p ++ x))) (sym (ap (prefix_of handles) hd ∙ none)) ∙ f in cc
      go (bare g e f) n =
          let at = bare_rest i a rest (subst (NameEnds cs) e n) in
          bang_bound handles (ap (prefix_of handles) (sym (slice_one cs i a 33 g at)) ∙ none)

  module _ (handles : Handles) (i a b : ℕ) (open_at : slice_get cs (i + 1) ≢ Some 60) (rest : handle_rest cs (i + 1) a) (s : Spans (tag_char cs) b a) (stop : (m : ℕ) → tag_char cs b m → ⊥) where
    short_at : (k : ℕ) (t : WrittenTag) → tag cs handles i k t → Short handles i a b k t
    short_at k t r = let (f, n) = form_of cs handles i k t r in go f n
      where
        go : Form cs handles i k t → NameEnds cs k → Short handles i a b k t
        go (verbatim m x g h2 q e f l o) n = absurd (open_at h2)
        go (bare g e f) n = let (u, v) = bare_only i a b rest s (subst (NameEnds cs) e n) in alone e u v f
        go (shorthand c h x ha eh (o, q, more) ex f) n =
            let at : c ≡ a = handle_at i c k a ha (o, q, more) n rest in
            let to : k ≡ b = spans_same (tag_char_same cs) (subst (λ z. Spans (tag_char cs) k z) at (Spans.then o q more)) (ends_stop cs k n) s stop in
            let hd : h ≡ slice_range cs i a = eh ∙ ap (slice_range cs i) at in
            let sx : x ≡ slice_range cs a b = ex ∙ ap (λ z. slice_range cs z k) at ∙ ap (slice_range cs a) to in
            joins to (subst (λ z. any_one_span (tag_char cs) z k) at (o, q, more)) (subst (λ z. joined handles (slice_range cs i a) z ≡ Some t) sx (subst (λ z. joined handles z x ≡ Some t) hd f)) (subst (NameEnds cs) to n)

    pub no_short_end : Stands cs is_name b → Unread (read_tag cs handles) i
    unfolding read_tag
    no_short_end n k t r = go (short_at k t r)
      where
        go : Short handles i a b k t → ⊥
        go (joins e q f m) = m n
        go (alone e u v f) = (form_of cs handles i k t r).1 (subst (Stands cs is_name) (v ∙ sym e) n)

    pub no_suffix : b ≡ a → (b ≡ i + 1 → ⊥) → Unread (read_tag cs handles) i
    unfolding read_tag
    no_suffix e out k t r = go (short_at k t r)
      where
        go : Short handles i a b k t → ⊥
        go (joins f (o, q, more) g m) = stop o (subst (λ z. tag_char cs z o) (sym e) q)
        go (alone f u v g) = out v

    pub no_join : joined handles (slice_range cs i a) (slice_range cs a b) ≡ None → (b ≡ i + 1 → ⊥) → Unread (read_tag cs handles) i
    unfolding read_tag
    no_join none out k t r = go (short_at k t r)
      where
        go : Short handles i a b k t → ⊥
        go (joins e q f m) = let z : ◌≡◌ {A = Option WrittenTag} None (Some t) = sym none ∙ f in cc
        go (alone e u v f) = out v

    pub alone_only : slice_get cs i ≡ Some 33 → b ≡ i + 1 → NameEnds cs b → Only (read_tag cs handles) i b non_specific
    unfolding read_tag tag non_specific_tag
    alone_only h e n = record {
      is = (b, inr (inr (b, (h, e), (refl, refl))), (refl, n));
      only = λ k t r. go k t (short_at k t r);
    }
      where
        go : (k : ℕ) (t : WrittenTag) → Short handles i a b k t → (k ≡ b) × (t ≡ non_specific)
        go k t (alone f u v g) = (f ∙ sym e, g)
        go k t (joins f q g m) = absurd (bang_end q)
          where
            bang_end : any_one_span (tag_char cs) a k → ⊥
            bang_end (o, q, more) = n (subst (Stands cs is_name) ((bare_only i a b rest s (subst (NameEnds cs) e n)).0 ∙ sym e) (tag_char_name cs a o q))

    pub short_only : (t : WrittenTag) → slice_get cs i ≡ Some 33 → a < b → joined handles (slice_range cs i a) (slice_range cs a b) ≡ Some t → NameEnds cs b → Only (read_tag cs handles) i b t
    unfolding read_tag tag shorthand_tag
    short_only t h l v n = record {
      is = (b, inr (inl (a, slice_range cs i a, handle_is i (i + 1) a h refl rest, (slice_range cs a b, (some s, refl), v))), (refl, n));
      only = λ k u r. go k u (short_at k u r);
    }
      where
        some : Spans (tag_char cs) b a → any_one_span (tag_char cs) a b
        some (Spans.done e) = absurd (omega (arith, l, e))
        some (Spans.then o r more) = (o, r, more)

        go : (k : ℕ) (u : WrittenTag) → Short handles i a b k u → (k ≡ b) × (u ≡ t)
        go k u (alone f x y g) = absurd (omega (arith, l, x, y))
        go k u (joins f q g m) = let z : Some u ≡ Some t = sym g ∙ v in (f, cc)
