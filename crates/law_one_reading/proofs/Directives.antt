-- Directives: one reading before a document's mark.
use Rattle.std.proofs.Common.{◌≡◌, ℕ, ◌+◌, inl, inr, List, false, true, Some, refl, sym, ◌∙◌, ap, subst, arith}
use Rattle.std.specs.Prelude.{slice_get, slice_range, codes}
use Rattle.yaml_definitions.specs.grammar.Rules.{Rule, ◌∪◌, Spans, run, whole_run, Stands, word, chr}
use Rattle.yaml_definitions.specs.grammar.Characters.{is_ns, is_nb, is_break, is_space, is_word}
use Rattle.yaml_definitions.specs.grammar.Separation.{StartsLine, DocumentMarkOf, DocumentMark, s-l-comments as s_l_comments}
use Rattle.yaml_definitions.specs.grammar.Tags.{Handles, ns-tag-prefix as tag_prefix, uri_char}
use Rattle.yaml_definitions.specs.grammar.Directives.{Directive, binding, is_known, ns-yaml-directive as yaml_directive, ns-tag-directive as tag_directive, ns-reserved-directive as reserved_directive, l-directive as directive, directives}
use Rattle.yaml_text.specs.Lines.{Inside}
use Rattle.yaml_text.proofs.Runs.{same_char, no_stand, run_same, run_none}
use Rattle.yaml_text.proofs.Breaks.{run_join}
use Rattle.yaml_text.proofs.LineRuns.{inside_no_line}
use Rattle.yaml_text.proofs.RestLemmas.{from_s_b}
use Rattle.yaml_text.proofs.Classes.{ns_two, ns_percent, space_bang, word_bang, solid_no_space, space_no_word}
use Rattle.yaml_text.proofs.TagRuns.{spans_same, uri_same, Handle, named, double, single, handle_of, handle_first}
use Rattle.yaml_text.proofs.DirectiveRuns.{AllOf, yaml_all, tag_all, yaml_known, tag_known, known_no, word_run, word_end, word_text, spaces_nb, ns_nb_run, char_inside, run_inside, one_nb, params_nb, handle_nb, Prefix, prefix_nb, prefix_ns, start_same, uri_stands, Rest, blank_then, rest_same}
use Rattle.law_one_reading.proofs.Unique.{unique_seen, unique_holding, unique_after, unique_before, unique_first, unique_until}
use Rattle.law_one_reading.specs.Readings.{At, Then, More, Unique}
use Rattle.law_one_reading.proofs.Lines.{past_of, stuck_run, stuck_mark}
use Rattle.law_one_reading.specs.Follows.{Stuck, Past}
use Rattle.law_one_reading.proofs.BlockEntries.{past_no_ns}

module _ (cs : List ℕ) where
  -- ---- the rest of a directive's line

  rest_of : (i a m : ℕ) → run cs is_nb i a → Inside cs a → Past cs a m → Rest cs i m
  rest_of i a m r o (inr (s, c)) = absurd (inside_no_line cs a o s)
  rest_of i a m r o (inl (y, b, c)) = blank_then cs i a y m r (from_s_b cs a y b) c

  -- ---- each directive: its line has no break, and ends with text

  abbrev Body : Rule Directive
  Body = yaml_directive cs ∪ tag_directive cs ∪ reserved_directive cs

  two_inside : (y k : ℕ) → word cs (codes "1.2") y k → Inside cs k
  two_inside y k (p, (a, b), (q, (c, d), (s, (g, h), e))) = char_inside cs q k 50 g ns_two (e ∙ h)

  body_nb : (i j : ℕ) (v : Directive) → Body i j v → run cs is_nb i j × Inside cs j
  unfolding yaml_directive tag_directive reserved_directive tag_prefix AllOf is_nb is_break
  body_nb i j v (inl (k, (x, w, (y, (r, l), z)), (e, f))) =
      let a = run_join cs is_nb i x k (word_run cs is_nb (codes "%YAML") i x (refl, (refl, (refl, (refl, (refl, tt))))) w) (run_join cs is_nb x y k (spaces_nb cs x y r) (word_run cs is_nb (codes "1.2") y k (refl, (refl, (refl, tt))) z)) in
      (subst (run cs is_nb i) (sym e) a, subst (Inside cs) (sym e) (two_inside y k z))
  body_nb i j v (inr (inl (k, (x, w, (r, l)), (a, handle, h, (b, (s, m), (pre, (p, e), f)))))) =
      let (c, d) = prefix_nb cs b j p in (
        run_join cs is_nb i x j (word_run cs is_nb (codes "%TAG") i x (refl, (refl, (refl, (refl, tt)))) w) (run_join cs is_nb x k j (spaces_nb cs x k r)
            (run_join cs is_nb k a j (handle_nb cs k a (handle_of cs k a handle h).0) (run_join cs is_nb a b j (spaces_nb cs a b s) c))),
        d,
      )
  body_nb i j v (inr (inr (k, (h, e), (a, (name, (known, ((r, l, n), g)), f), s)))) =
      let (c, d) = params_nb cs s (run_inside cs k a r l) in
      (run_join cs is_nb i k j (one_nb cs i k 37 h ns_percent e) (run_join cs is_nb k a j (ns_nb_run cs k a r) c), d)

  -- ---- their values

  -- a handle before a space
  handle_to : (i a b : ℕ) → Handle cs i a → Stands cs is_space a → Handle cs i b → Stands cs is_space b → a ≡ b
  handle_to i a b (named x g r l k f) s (named y g2 r2 l2 k2 f2) t =
      let z : x ≡ y = run_same cs is_word (i + 1) x y r r2 (no_stand cs is_word x 33 k word_bang) (no_stand cs is_word y 33 k2 word_bang) in f ∙ ap (λ q. q + 1) z ∙ sym f2
  handle_to i a b (double g k f) s (double g2 k2 f2) t = f ∙ sym f2
  handle_to i a b (single g e) s (single g2 e2) t = e ∙ sym e2
  handle_to i a b (named x g r l k f) s (double g2 k2 f2) t = absurd (no_stand cs is_word (i + 1) 33 k2 word_bang (r.1 (i + 1) (omega arith) l))
  handle_to i a b (double g2 k2 f2) t (named x g r l k f) s = absurd (no_stand cs is_word (i + 1) 33 k2 word_bang (r.1 (i + 1) (omega arith) l))
  handle_to i a b (named x g r l k f) s (single g2 e2) t = absurd (space_no_word cs (i + 1) (subst (Stands cs is_space) e2 t) (r.1 (i + 1) (omega arith) l))
  handle_to i a b (single g2 e2) t (named x g r l k f) s = absurd (space_no_word cs (i + 1) (subst (Stands cs is_space) e2 t) (r.1 (i + 1) (omega arith) l))
  handle_to i a b (double g k f) s (single g2 e2) t = absurd (no_stand cs is_space (i + 1) 33 k space_bang (subst (Stands cs is_space) e2 t))
  handle_to i a b (single g2 e2) t (double g k f) s = absurd (no_stand cs is_space (i + 1) 33 k space_bang (subst (Stands cs is_space) e2 t))

  prefix_to : (i j k m n : ℕ) → Prefix cs i j → Past cs j m → Prefix cs i k → Past cs k n → j ≡ k
  prefix_to i j k m n (a, r, s) p (b, t, u) q =
      let h : a ≡ b = start_same cs i a b r t in
      spans_same (uri_same cs) s (λ x y. past_no_ns cs j m (prefix_nb cs i j (a, r, s)).1 p (uri_stands cs j x y)) (subst (λ z. Spans (uri_char cs) k z) (sym h) u) (λ x y. past_no_ns cs k n (prefix_nb cs i k (b, t, u)).1 q (uri_stands cs k x y))

  -- the name of a directive
  name_of : (s : List ℕ) (i a x : ℕ) → word cs s i x → AllOf is_ns s → Stands cs is_space x → run cs is_ns i a → (Stands cs is_ns a → ⊥) → slice_range cs i a ≡ s
  name_of s i a x w all sp r stop =
      ap (slice_range cs i) (run_same cs is_ns i a x r (word_run cs is_ns s i x all w) stop (λ t. solid_no_space cs x t sp)) ∙ word_text cs s i x w

  yaml_tag : (i b b1 b2 b3 : ℕ) → chr cs 37 i b → slice_get cs b ≡ Some 89 → chr cs 37 i b2 → slice_get cs b2 ≡ Some 84 → ⊥
  yaml_tag i b b1 b2 b3 (h, e) g (k, f) l = let z : 89 ≡ 84 = same_char cs b2 89 84 (subst (λ y. slice_get cs y ≡ Some 89) (e ∙ sym f) g) l in omega (arith, z)

  no_name : (s : List ℕ) (b x c d : ℕ) (name : List ℕ) → word cs s b x → AllOf is_ns s → Stands cs is_space x → b ≡ c → whole_run cs is_ns c d → name ≡ slice_range cs c d → is_known s ≡ true → is_known name ≡ false → ⊥
  no_name s b x c d name w all sp e (r, l, n) f k no_known =
      known_no name s k (f ∙ name_of s c d x (subst (λ z. word cs s z x) e w) all sp r n) no_known

  body_value : (i j k m n : ℕ) (v w : Directive) → Body i j v → Past cs j m → Body i k w → Past cs k n → v ≡ w
  unfolding yaml_directive tag_directive reserved_directive tag_prefix
  body_value i j k m n v w (inl (a, r, (e, f))) p (inl (b, s, (g, h))) q = f ∙ sym h
  body_value i j k m n v w (inr (inr (a, r, (b, (name, (known, s), f), t)))) p (inr (inr (c, u, (d, (name2, (known2, s2), g), t2)))) q = f ∙ sym g
  body_value i j k m n v w (inr (inl (a, (x, wd, (r, l)), (b, handle, h, (c, (s, l2), (pre, (pr, e), f)))))) p
      (inr (inl (a2, (x2, wd2, (r2, l3)), (b2, handle2, h2, (c2, (s2, l4), (pre2, (pr2, e2), f2)))))) q =
      let (u, hu) = handle_of cs a b handle h in
      let (u2, hu2) = handle_of cs a2 b2 handle2 h2 in
      let ex : x ≡ x2 = word_end cs (codes "%TAG") i x wd ∙ sym (word_end cs (codes "%TAG") i x2 wd2) in
      let ea : a ≡ a2 = run_same cs is_space x2 a a2 (subst (λ z. run cs is_space z a) ex r) r2 (no_stand cs is_space a 33 (handle_first cs a b u) space_bang) (no_stand cs is_space a2 33 (handle_first cs a2 b2 u2) space_bang) in
      let eb : b ≡ b2 = handle_to a2 b b2 (subst (λ z. Handle cs z b) ea u) (s.1 b (omega arith) l2) u2 (s2.1 b2 (omega arith) l4) in
      let ec : c ≡ c2 = run_same cs is_space b2 c c2 (subst (λ z. run cs is_space z c) eb s) s2 (λ z. solid_no_space cs c (prefix_ns cs c j pr) z) (λ z. solid_no_space cs c2 (prefix_ns cs c2 k pr2) z) in
      let ej : j ≡ k = prefix_to c2 j k m n (subst (λ z. Prefix cs z j) ec pr) p pr2 q in
      let eh : handle ≡ handle2 = hu ∙ ap (λ z. slice_range cs z b) ea ∙ ap (λ z. slice_range cs a2 z) eb ∙ sym hu2 in
      let ep : pre ≡ pre2 = e ∙ ap (λ z. slice_range cs z j) ec ∙ ap (λ z. slice_range cs c2 z) ej ∙ sym e2 in
      f ∙ ap (λ z. binding z pre) eh ∙ ap (λ z. binding handle2 z) ep ∙ sym f2
  body_value i j k m n v w (inl (a, (x, (b, h, (b1, (h1, e1), z)), y), g)) p (inr (inl (a2, (x2, (b2, h2, (b3, (h3, e3), z2)), y2), g2))) q = absurd (yaml_tag i b b1 b2 b3 h h1 h2 h3)
  body_value i j k m n v w (inr (inl (a2, (x2, (b2, h2, (b3, (h3, e3), z2)), y2), g2))) p (inl (a, (x, (b, h, (b1, (h1, e1), z)), y), g)) q = absurd (yaml_tag i b b1 b2 b3 h h1 h2 h3)
  body_value i j k m n v w (inl (a, (x, (b, (h, e), wd), (y, (r, l), z)), g)) p (inr (inr (c, (h2, e2), (d, (name, (known, (u, t)), f), o)))) q =
      absurd (no_name (codes "YAML") b x c d name wd yaml_all (r.1 x (omega arith) l) (e ∙ sym e2) u t yaml_known known)
  body_value i j k m n v w (inr (inr (c, (h2, e2), (d, (name, (known, (u, t)), f), o)))) p (inl (a, (x, (b, (h, e), wd), (y, (r, l), z)), g)) q =
      absurd (no_name (codes "YAML") b x c d name wd yaml_all (r.1 x (omega arith) l) (e ∙ sym e2) u t yaml_known known)
  body_value i j k m n v w (inr (inl (a, (x, (b, (h, e), wd), (r, l)), g))) p (inr (inr (c, (h2, e2), (d, (name, (known, (u, t)), f), o)))) q =
      absurd (no_name (codes "TAG") b x c d name wd tag_all (r.1 x (omega arith) l) (e ∙ sym e2) u t tag_known known)
  body_value i j k m n v w (inr (inr (c, (h2, e2), (d, (name, (known, (u, t)), f), o)))) p (inr (inl (a, (x, (b, (h, e), wd), (r, l)), g))) q =
      absurd (no_name (codes "TAG") b x c d name wd tag_all (r.1 x (omega arith) l) (e ∙ sym e2) u t tag_known known)

  -- a directive before a line of its own
  pub body_unique : Unique Body (Then (s_l_comments cs) (At (Stuck cs)))
  body_unique i j k m n v w r (a, s, (e, t)) u (b, x, (f, y)) =
      let p = past_of cs j a a s (Spans.done refl) in
      let q = past_of cs k b b x (Spans.done refl) in
      let c = body_nb i j v r in
      let d = body_nb i k w u in
      (sym e ∙ rest_same cs i a b (rest_of i j a c.0 c.1 p) t (rest_of i k b d.0 d.1 q) y ∙ f, body_value i j k a b v w r p u q)

  abbrev pub Percent : ℕ → Type 0
  Percent i = (slice_get cs i ≡ Some 37) × StartsLine cs i

  pub percent_stuck : (i : ℕ) → slice_get cs i ≡ Some 37 → Stuck cs i
  percent_stuck i h = stuck_run cs i i (run_none cs is_space i) ((37, h, ns_percent), λ g. let e : 37 ≡ 35 = same_char cs i 37 35 h g in omega (arith, e))

  pub body_percent : (i j : ℕ) (v : Directive) → Body i j v → slice_get cs i ≡ Some 37
  unfolding yaml_directive tag_directive reserved_directive
  body_percent i j v (inl (a, (x, (b, (h, e), z), y), g)) = h
  body_percent i j v (inr (inl (a, (x, (b, (h, e), z), y), g))) = h
  body_percent i j v (inr (inr (a, (h, e), r))) = h

  directive_unique : Unique (directive cs) (At (Stuck cs))
  unfolding directive
  directive_unique = unique_before (λ i. Unit {0}) (λ i j k (e, s) t (f, u) x. e ∙ sym f) (λ i j m v r e. tt) (unique_after (unique_seen _ body_unique))

  directive_starts : (i j : ℕ) (v : List Directive) → directive cs i j v → Percent i
  unfolding directive
  directive_starts i j v (a, (e, s), (b, (d, r, f), t)) = (subst (λ z. slice_get cs z ≡ Some 37) e (body_percent a b d r), s)

  mark_percent : (i : ℕ) → slice_get cs i ≡ Some 37 → DocumentMarkOf cs 45 i → ⊥
  unfolding DocumentMarkOf
  mark_percent i h (s, (j, (k, (g, e), r)), t) = let z : 37 ≡ 45 = same_char cs i 37 45 h g in omega (arith, z)

  more_stuck : (j m : ℕ) → More Percent (At (DocumentMarkOf cs 45)) j m → At (Stuck cs) j m
  unfolding DocumentMark
  more_stuck j m (inl (e, (h, s))) = (e, percent_stuck j h)
  more_stuck j m (inr (e, h)) = (e, stuck_mark cs j (inl h))

  -- the handles before a document's mark
  pub directives_unique : Unique (directives cs) (At (DocumentMarkOf cs 45))
  unfolding directives
  directives_unique = unique_seen _ (unique_holding _ (unique_first Percent (λ i j m v r e. directive_starts i j v r) (unique_until more_stuck directive_unique)
      (λ i m (h, s) (e, t). mark_percent i h t) (λ j m (h, s) (e, t). mark_percent m h (subst (DocumentMarkOf cs 45) e t)) (λ i m n (e, f) (g, h). sym e ∙ g) (unique_until more_stuck directive_unique)))

  pub directives_start : (i j : ℕ) (hs : Handles) → directives cs i j hs → Percent i
  unfolding directives
  directives_start i j hs (ds, (ok, (k, us, vs, r, s, e)), f) = directive_starts i k us r
