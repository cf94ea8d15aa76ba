-- The parts of directives.
use Rattle.std.proofs.Common.{◌≡◌, ◌≢◌, ℕ, ◌+◌, ◌<◌, ◌⊎◌, inl, inr, List, Bool, true, false, Some, refl, sym, ◌∙◌, ap, subst, arith}
use Rattle.std.specs.Prelude.{slice_get, slice_range, ◌==◌, bytes_eq, is_some}
use Rattle.std.specs.Map.{lookup}
use Rattle.std.proofs.Math.Nat.{eq-or-lt_of_le}
use Rattle.yaml_definitions.specs.grammar.Rules.{Spans, run, some_run, Stands}
use Rattle.yaml_definitions.specs.grammar.Characters.{is_ns, is_space, is_word, is_uri, is_tag}
use Rattle.yaml_definitions.specs.grammar.Separation.{s-l-comments as s_l_comments}
use Rattle.yaml_definitions.specs.grammar.Tags.{Handles, ns-tag-prefix as tag_prefix, uri_char, c-tag-handle as tag_handle}
use Rattle.yaml_definitions.specs.grammar.Directives as grammar
use Rattle.yaml_text.specs.Lines.{Inside}
use Rattle.yaml_text.proofs.Runs.{same_char, no_stand, run_same, run_none}
use Rattle.yaml_text.proofs.LineRuns.{inside_no_line}
use Rattle.yaml_text.proofs.RestLemmas.{from_s_b, no_blank}
use Rattle.yaml_mark.specs.Parts.{char_or_escape, handle_rest}
use Rattle.yaml_mark.specs.DirectiveParts.{version_rest, binding_rest, parameter, prefix_start, prefix_run, Settles, is_repeated, OnlyRepeats}
use Rattle.yaml_mark.proofs.CommentLemmas.{hash_rest}
use Rattle.yaml_text.proofs.Classes.{space_bang, space_one, word_bang, solid_nb, solid_no_space, space_no_word}
use Rattle.yaml_text.proofs.TagRuns.{spans_same, uri_same, Handle, named, double, single, handle_of, handle_first}
use Rattle.yaml_text.proofs.DirectiveRuns.{prefix_nb, prefix_ns, start_same, uri_stands}
use Rattle.yaml_mark.proofs.TagLemmas.{spans_map, uri_is, tag_is, is_tag_char, handle_is}

not_both : (c : ℕ) → (c == 35) ≡ true → c ≡ 35
not_both c h = grind (arith, h)

pub hash_or : (c : ℕ) → (c ≡ 35) ⊎ (c ≢ 35)
hash_or c = pick (c == 35) refl
  where
    pick : (t : Bool) → (c == 35) ≡ t → (c ≡ 35) ⊎ (c ≢ 35)
    pick true e = inl (not_both c e)
    pick false e = inr (λ f. grind (arith, e, f))

module _ (cs : List ℕ) where
  -- no comments follow right before text
  pub past_no_ns : (i m : ℕ) → Inside cs i → s_l_comments cs i m → Stands cs is_ns i → ⊥
  unfolding s_l_comments
  past_no_ns i m o (k, inr (e, s), more) t = inside_no_line cs i o s
  past_no_ns i m o (k, inl b, more) (x, h, t) = pick (hash_or x)
    where
      pick : (x ≡ 35) ⊎ (x ≢ 35) → ⊥
      pick (inl e) = hash_rest cs i (inside_no_line cs i o) (h ∙ ap Some e) k b
      pick (inr n) = no_blank cs i i (run_none cs is_space i) (solid_no_space cs i (x, h, t)) (λ g. n (same_char cs i x 35 h g)) (solid_nb cs i (x, h, t)) k (from_s_b cs i k b)

  -- ---- the version

  pub version_is : (i d a b e : ℕ) → some_run cs is_space i d → slice_get cs d ≡ Some 49 → a ≡ d + 1 → slice_get cs a ≡ Some 46 → b ≡ a + 1 → slice_get cs b ≡ Some 50 → e ≡ b + 1 → version_rest cs i e
  unfolding version_rest
  version_is i d a b e r h1 e1 h2 e2 h3 e3 = (d, r, (a, (h1, e1), (b, (h2, e2), (e, (h3, e3), refl))))

  gap_none : (i k : ℕ) → (Stands cs is_space i → ⊥) → some_run cs is_space i k → ⊥
  gap_none i k n (r, l) = n (r.1 i (omega arith) l)

  pub no_version_gap : (i : ℕ) → (Stands cs is_space i → ⊥) → (j : ℕ) → version_rest cs i j → ⊥
  unfolding version_rest
  no_version_gap i n j (k, r, w) = gap_none i k n r

  -- spaces up to the digit
  version_at : (i d k : ℕ) → some_run cs is_space i d → (Stands cs is_space d → ⊥) → some_run cs is_space i k → slice_get cs k ≡ Some 49 → k ≡ d
  version_at i d k (r, l) stop (s, m) h = run_same cs is_space i k d s r (no_stand cs is_space k 49 h space_one) stop

  pub no_one : (i d : ℕ) → some_run cs is_space i d → (Stands cs is_space d → ⊥) → slice_get cs d ≢ Some 49 → (j : ℕ) → version_rest cs i j → ⊥
  unfolding version_rest
  no_one i d r stop n j (k, s, (a, (h, e), w)) = n (ap (slice_get cs) (sym (version_at i d k r stop s h)) ∙ h)

  pub no_dot : (i d a : ℕ) → some_run cs is_space i d → (Stands cs is_space d → ⊥) → a ≡ d + 1 → slice_get cs a ≢ Some 46 → (j : ℕ) → version_rest cs i j → ⊥
  unfolding version_rest
  no_dot i d a r stop f n j (k, s, (b, (h, e), (c, (g, t), w))) =
      let at = version_at i d k r stop s h in n (ap (slice_get cs) (let z : a ≡ b = omega (arith, f, e, at) in z) ∙ g)

  pub no_two : (i d a b : ℕ) → some_run cs is_space i d → (Stands cs is_space d → ⊥) → a ≡ d + 1 → b ≡ a + 1 → slice_get cs b ≢ Some 50 → (j : ℕ) → version_rest cs i j → ⊥
  unfolding version_rest
  no_two i d a b r stop f g n j (k, s, (x, (h, e), (y, (u, t), (z, (v, q), w)))) =
      let at = version_at i d k r stop s h in n (ap (slice_get cs) (let z : b ≡ y = omega (arith, f, g, e, t, at) in z) ∙ v)

  pub version_same : (i j k : ℕ) → version_rest cs i j → version_rest cs i k → j ≡ k
  unfolding version_rest
  version_same i j k (d, (r, l), (a, (h, e), (b, (h2, e2), (c, (h3, e3), f)))) (x, (s, m), (y, (g, t), (z, (g2, t2), (w, (g3, t3), q)))) =
      let at : d ≡ x = run_same cs is_space i d x r s (no_stand cs is_space d 49 h space_one) (no_stand cs is_space x 49 g space_one) in
      omega (arith, at, e, e2, e3, f, t, t2, t3, q)

  -- ---- prefixes

  pub bang_prefix : (i a j : ℕ) → slice_get cs i ≡ Some 33 → a ≡ i + 1 → Spans (char_or_escape cs is_uri) j a → prefix_run cs i j
  unfolding prefix_run prefix_start
  bang_prefix i a j h e s = (a, inl (h, e), spans_map (uri_is cs) s)

  pub char_prefix : (i a j : ℕ) → char_or_escape cs is_tag i a → Spans (char_or_escape cs is_uri) j a → prefix_run cs i j
  unfolding prefix_run prefix_start
  char_prefix i a j r s = (a, inr (tag_is cs i a r), spans_map (uri_is cs) s)

  pub no_start : (i : ℕ) → slice_get cs i ≢ Some 33 → ((j : ℕ) → char_or_escape cs is_tag i j → ⊥) → (j : ℕ) → prefix_start cs i j → ⊥
  unfolding prefix_start
  no_start i n m j (inl (h, e)) = n h
  no_start i n m j (inr r) = m j (is_tag_char cs i j r)

  prefix_parts : (i j : ℕ) (x : List ℕ) → tag_prefix cs i j x → prefix_run cs i j × (x ≡ slice_range cs i j)
  unfolding tag_prefix prefix_run prefix_start
  prefix_parts i j x r = r

  -- it begins with text
  starts_solid : (i j : ℕ) → prefix_run cs i j → Stands cs is_ns i
  unfolding prefix_run prefix_start
  starts_solid i j r = prefix_ns cs i j r

  prefix_whole : (i j : ℕ) → prefix_run cs i j → tag_prefix cs i j (slice_range cs i j)
  unfolding tag_prefix prefix_run prefix_start
  prefix_whole i j r = (r, refl)

  -- a prefix that comments follow takes all that it can
  prefix_to : (i j k m : ℕ) → prefix_run cs i j → ((n : ℕ) → uri_char cs j n → ⊥) → prefix_run cs i k → Inside cs k → s_l_comments cs k m → k ≡ j
  unfolding prefix_run prefix_start
  prefix_to i j k m (a, r, s) stop (b, t, u) o c =
      let h : b ≡ a = start_same cs i b a t r in
      spans_same (uri_same cs) (subst (λ z. Spans (uri_char cs) k z) h u) (λ n w. past_no_ns k m o c (uri_stands cs k n w)) s stop

  -- ---- handles and prefixes

  -- the handle that spaces follow is the one that the code takes
  handle_gap : (i b a : ℕ) → Handle cs i b → Stands cs is_space b → handle_rest cs (i + 1) a → b ≡ a
  unfolding handle_rest
  handle_gap i b a (named x g r l y e) s (inl (z, q, (h, f))) =
      let at : x ≡ z = run_same cs is_word (i + 1) x z r q (no_stand cs is_word x 33 y word_bang) (no_stand cs is_word z 33 h word_bang) in omega (arith, at, e, f)
  handle_gap i b a (named x g r l y e) s (inr (f, none)) = absurd (none (x + 1) (x, r, (y, refl)))
  handle_gap i b a (double g h e) s (inl (z, q, (h2, f))) =
      let at : i + 1 ≡ z = run_same cs is_word (i + 1) (i + 1) z (run_none cs is_word (i + 1)) q (no_stand cs is_word (i + 1) 33 h word_bang) (no_stand cs is_word z 33 h2 word_bang) in omega (arith, at, e, f)
  handle_gap i b a (double g h e) s (inr (f, none)) = absurd (none (i + 1 + 1) (i + 1, run_none cs is_word (i + 1), (h, refl)))
  handle_gap i b a (single g e) s (inl (z, q, (h, f))) = absurd (go (eq-or-lt_of_le q.0))
    where
      go : (i + 1 ≡ z) ⊎ (i + 1 < z) → ⊥
      go (inl t) = no_stand cs is_space (i + 1) 33 (ap (slice_get cs) t ∙ h) space_bang (subst (Stands cs is_space) e s)
      go (inr l) = space_no_word cs (i + 1) (subst (Stands cs is_space) e s) (q.1 (i + 1) (omega arith) l)
  handle_gap i b a (single g e) s (inr (f, none)) = e ∙ sym f

  gap_first : (i k : ℕ) → some_run cs is_space i k → Stands cs is_space i
  gap_first i k (r, l) = r.1 i (omega arith) l

  pub no_binding_gap : (i : ℕ) → (Stands cs is_space i → ⊥) → (hs : Handles) (v : Bool) → OnlyRepeats cs v hs (binding_rest cs) i
  unfolding binding_rest
  no_binding_gap i n hs v k m w (x, r, q) c = absurd (gap_none i x n r)

  -- spaces up to the handle
  handle_start : (i d x a : ℕ) (h : List ℕ) → some_run cs is_space i d → (Stands cs is_space d → ⊥) → some_run cs is_space i x → tag_handle cs x a h → x ≡ d
  handle_start i d x a h (r, l) stop (s, m) t =
      run_same cs is_space i x d s r (no_stand cs is_space x 33 (handle_first cs x a (handle_of cs x a h t).0) space_bang) stop

  pub no_binding_bang : (i d : ℕ) → some_run cs is_space i d → (Stands cs is_space d → ⊥) → slice_get cs d ≢ Some 33 → (hs : Handles) (v : Bool) → OnlyRepeats cs v hs (binding_rest cs) i
  unfolding binding_rest
  no_binding_bang i d r stop n hs v k m w (x, s, (a, h, t, q)) c =
      absurd (n (ap (slice_get cs) (sym (handle_start i d x a h r stop s t)) ∙ handle_first cs x a (handle_of cs x a h t).0))

  pub no_handle_gap : (i d f a : ℕ) → some_run cs is_space i d → (Stands cs is_space d → ⊥) → f ≡ d + 1 → handle_rest cs f a → (Stands cs is_space a → ⊥) → (hs : Handles) (v : Bool) → OnlyRepeats cs v hs (binding_rest cs) i
  unfolding binding_rest
  no_handle_gap i d f a r stop e t n hs v k m w (x, s, (b, h, u, (y, g, q))) c =
      let at = handle_start i d x b h r stop s u in
      let b_is = handle_gap d b a (subst (λ z. Handle cs z b) at (handle_of cs x b h u).0) (gap_first b y g) (subst (λ z. handle_rest cs z a) e t) in
      absurd (n (subst (Stands cs is_space) b_is (gap_first b y g)))

  -- a handle that is bound already, whatever follows it
  pub bound_repeats : (i d f a : ℕ) (n : List ℕ) → some_run cs is_space i d → (Stands cs is_space d → ⊥) → f ≡ d + 1 → handle_rest cs f a → n ≡ slice_range cs d a →
      (hs : Handles) → is_some (lookup (bytes_eq n) hs) ≡ true → (v : Bool) → OnlyRepeats cs v hs (binding_rest cs) i
  unfolding binding_rest
  bound_repeats i d f a n r stop e t name hs bound v k m w (x, s, (b, h, u, (y, g, (pre, q, z)))) c =
      let at = handle_start i d x b h r stop s u in
      let (hd, h_is) = handle_of cs x b h u in
      let b_is = handle_gap d b a (subst (λ o. Handle cs o b) at hd) (gap_first b y g) (subst (λ o. handle_rest cs o a) e t) in
      let same : h ≡ n = h_is ∙ ap (λ o. slice_range cs o b) at ∙ ap (slice_range cs d) b_is ∙ sym name in
      ap (is_repeated v hs) z ∙ ap (λ o. is_some (lookup (bytes_eq o) hs)) same ∙ bound

  pub no_prefix_start : (i d f a p : ℕ) → some_run cs is_space i d → (Stands cs is_space d → ⊥) → f ≡ d + 1 → handle_rest cs f a → some_run cs is_space a p → (Stands cs is_space p → ⊥) →
      ((j : ℕ) → prefix_start cs p j → ⊥) → (hs : Handles) (v : Bool) → OnlyRepeats cs v hs (binding_rest cs) i
  unfolding binding_rest prefix_run
  no_prefix_start i d f a p r stop e t g halt n hs o k m w (x, s, (b, h, u, (y, v, (pre, q, z)))) c =
      let at = handle_start i d x b h r stop s u in
      let b_is = handle_gap d b a (subst (λ z. Handle cs z b) at (handle_of cs x b h u).0) (gap_first b y v) (subst (λ z. handle_rest cs z a) e t) in
      let (run_is, eq) = prefix_parts y k pre q in
      let y_is = run_same cs is_space a y p (subst (λ z. run cs is_space z y) b_is v.0) g.0 (λ l. solid_no_space cs y (starts_solid y k run_is) l) halt in
      absurd (n run_is.0 (subst (λ z. prefix_start cs z run_is.0) y_is run_is.1))

  pub binding_settles : (i d f a p e : ℕ) → some_run cs is_space i d → (Stands cs is_space d → ⊥) → slice_get cs d ≡ Some 33 → f ≡ d + 1 → handle_rest cs f a → some_run cs is_space a p → (Stands cs is_space p → ⊥) →
      prefix_run cs p e → ((j : ℕ) → uri_char cs e j → ⊥) → ((k : ℕ) → prefix_run cs p k → Inside cs k) →
      Settles cs (binding_rest cs) i e (grammar.binding (slice_range cs d a) (slice_range cs p e))
  unfolding binding_rest
  binding_settles i d f a p e r stop bang ef t g halt pr furthest inside = record {
    is = (d, r, (a, slice_range cs d a, handle_is cs d f a bang ef t, (p, g, (slice_range cs p e, prefix_whole p e pr, refl))));
    only = λ k m w (x, s, (b, h, u, (y, v, (pre, q, z)))) c.
        let at = handle_start i d x b h r stop s u in
        let (hd, h_is) = handle_of cs x b h u in
        let b_is = handle_gap d b a (subst (λ z. Handle cs z b) at hd) (gap_first b y v) (subst (λ z. handle_rest cs z a) ef t) in
        let (run_is, eq) = prefix_parts y k pre q in
        let y_is = run_same cs is_space a y p (subst (λ z. run cs is_space z y) b_is v.0) g.0 (λ o. solid_no_space cs y (starts_solid y k run_is) o) halt in
        let run_at = subst (λ z. prefix_run cs z k) y_is run_is in
        let k_is = prefix_to p e k m pr furthest run_at (inside k run_at) c in (
          z ∙ ap (λ o. grammar.binding o pre) (h_is ∙ ap (λ o. slice_range cs o b) at ∙ ap (slice_range cs d) b_is)
              ∙ ap (grammar.binding (slice_range cs d a)) (eq ∙ ap (λ o. slice_range cs o k) y_is ∙ ap (slice_range cs p) k_is),
          (m, subst (λ o. s_l_comments cs o m) k_is c),
        );
  }

  -- the same with the texts that the code has
  pub settles_texts : (i e : ℕ) (h x m y : List ℕ) → h ≡ x → m ≡ y → Settles cs (binding_rest cs) i e (grammar.binding x y) → Settles cs (binding_rest cs) i e (grammar.binding h m)
  settles_texts i e h x m y f g s = subst (Settles cs (binding_rest cs) i e) (sym (ap (λ o. grammar.binding o m) f ∙ ap (grammar.binding x) g)) s

  -- ---- parameters

  pub no_gap_parameter : (i : ℕ) → (Stands cs is_space i → ⊥) → (j : ℕ) → parameter cs i j → ⊥
  unfolding parameter
  no_gap_parameter i n j (k, r, w) = gap_none i k n r

  parameter_at : (i d k j : ℕ) → run cs is_space i d → (Stands cs is_space d → ⊥) → some_run cs is_space i k → some_run cs is_ns k j → k ≡ d
  parameter_at i d k j r stop (s, l) (t, m) = run_same cs is_space i k d s r (solid_no_space cs k (t.1 k (omega arith) m)) stop

  pub no_solid_parameter : (i d : ℕ) → run cs is_space i d → (Stands cs is_space d → ⊥) → (Stands cs is_ns d → ⊥) → (j : ℕ) → parameter cs i j → ⊥
  unfolding parameter
  no_solid_parameter i d r stop n j (k, s, (h, (t, m, o))) =
      n (subst (Stands cs is_ns) (parameter_at i d k j r stop s (t, m)) (t.1 k (omega arith) m))

  pub no_hash_parameter : (i d : ℕ) → run cs is_space i d → (Stands cs is_space d → ⊥) → slice_get cs d ≡ Some 35 → (j : ℕ) → parameter cs i j → ⊥
  unfolding parameter
  no_hash_parameter i d r stop g j (k, s, (h, (t, m, o))) = h (ap (slice_get cs) (parameter_at i d k j r stop s (t, m)) ∙ g)

  pub parameter_is : (i d j : ℕ) → run cs is_space i d → i < d → slice_get cs d ≢ Some 35 → run cs is_ns d j → d < j → (Stands cs is_ns j → ⊥) → parameter cs i j
  unfolding parameter
  parameter_is i d j r l n t m o = (d, (r, l), (n, (t, m, o)))

  pub prefix_inside : (i j : ℕ) → prefix_run cs i j → Inside cs j
  unfolding prefix_run prefix_start
  prefix_inside i j r = (prefix_nb cs i j r).1
