-- The lines of directives: which of their parts have no break, and which ends they may have.
use Rattle.std.proofs.Common.{◌≡◌, ℕ, ◌+◌, ◌-◌, ◌<◌, ◌≤◌, ◌⊎◌, inl, inr, List, [], ◌∷◌, ◌++◌, length, Bool, true, false, Some, refl, sym, ◌∙◌, ap, subst, arith}
use Rattle.std.specs.Prelude.{slice_get, slice_range, codes}
use Rattle.std.specs.Char.{is_ascii_hexdigit}
use Rattle.yaml_definitions.specs.grammar.Rules.{◌◆◌, ◌⊔◌, any_span, Spans, run, some_run, Stands, word, one, chr}
use Rattle.yaml_definitions.specs.grammar.Characters.{is_ns, is_nb, is_break, is_white, is_space, is_word, is_uri, is_tag}
use Rattle.yaml_definitions.specs.grammar.Separation.{l-comment as l_comment, b-comment as line_end, c-nb-comment-text as comment}
use Rattle.yaml_definitions.specs.grammar.Tags.{tag_char, uri_char}
use Rattle.yaml_definitions.specs.grammar.Directives.{is_known}
use Rattle.yaml_text.specs.Lines.{Inside, blank_rest}
use Rattle.yaml_text.proofs.PlaceLemmas.{slice_none, slice_one, slice_join}
use Rattle.yaml_text.proofs.Runs.{run_same, run_none, run_more}
use Rattle.yaml_text.proofs.Breaks.{run_join}
use Rattle.yaml_text.proofs.Repeats.{spans_furthest}
use Rattle.yaml_text.proofs.LineRuns.{line_end_same, line_end_stops}
use Rattle.yaml_text.proofs.RestLemmas.{nb_feed, nb_return, is_the_space, l_comment_same, l_comment_onward}
use Rattle.yaml_text.proofs.Classes.{ns_bang, ns_percent, nb_space, nb_hash, uri_ns, hex_ns, name_is_ns, tag_is_name, word_name, tag_bang, solid_nb}
use Rattle.yaml_text.proofs.TagRuns.{no_tag_char, tag_char_name, tag_char_same, Handle, named, double, single}

-- ---- the names of directives

unfoldable pub AllOf : (ℕ → Bool) → List ℕ → Type 0
AllOf p [] = Unit {0}
AllOf p (c ∷ s) = (p c ≡ true) × AllOf p s

pub yaml_all : AllOf is_ns (codes "YAML")
unfolding AllOf is_ns is_nb is_break is_white
yaml_all = (refl, (refl, (refl, (refl, tt))))

pub tag_all : AllOf is_ns (codes "TAG")
unfolding AllOf is_ns is_nb is_break is_white
tag_all = (refl, (refl, (refl, tt)))

pub yaml_known : is_known (codes "YAML") ≡ true
unfolding is_known
yaml_known = refl

pub tag_known : is_known (codes "TAG") ≡ true
unfolding is_known
tag_known = refl

pub known_no : (n s : List ℕ) → is_known s ≡ true → n ≡ s → is_known n ≡ false → ⊥
known_no n s t e f = let z : true ≡ false = sym t ∙ ap is_known (sym e) ∙ f in cc

module _ (cs : List ℕ) where
  -- ---- words

  pub word_run : (p : ℕ → Bool) (s : List ℕ) (i j : ℕ) → AllOf p s → word cs s i j → run cs p i j
  unfolding AllOf
  word_run p [] i j a e = subst (run cs p i) (sym e) (run_none cs p i)
  word_run p (c ∷ s) i j (t, a) (k, (h, e), r) = run_join cs p i k j (run_more cs p i i k c (run_none cs p i) h t e) (word_run p s k j a r)

  pub word_end : (s : List ℕ) (i j : ℕ) → word cs s i j → j ≡ i + length s
  word_end [] i j e = omega (arith, e)
  word_end (c ∷ s) i j (k, (h, e), r) = let f : j ≡ k + length s = word_end s k j r in omega (arith, e, f)

  pub word_text : (s : List ℕ) (i j : ℕ) → word cs s i j → slice_range cs i j ≡ s
  word_text [] i j e = ap (slice_range cs i) e ∙ slice_none cs i
  word_text (c ∷ s) i j (k, (h, e), r) =
      let f : j ≡ k + length s = word_end s k j r in
      slice_join cs i k j (omega (arith, e)) (omega (arith, f)) ∙ ap (λ v. v ++ slice_range cs k j) (slice_one cs i k c h e) ∙ ap (λ v. c ∷ v) (word_text s k j r)

  -- ---- parts without a break

  pub spaces_nb : (i j : ℕ) → run cs is_space i j → run cs is_nb i j
  spaces_nb i j (le, r) = (le, λ k a b. let (c, h, t) = r k a b in (c, h, ap is_nb (is_the_space c t) ∙ nb_space))

  pub ns_nb_run : (i j : ℕ) → run cs is_ns i j → run cs is_nb i j
  ns_nb_run i j (le, r) = (le, λ k a b. solid_nb cs k (r k a b))

  pub comment_nb : (i j : ℕ) → (j ≡ i) ⊎ comment cs i j → run cs is_nb i j
  unfolding comment
  comment_nb i j (inl e) = subst (run cs is_nb i) (sym e) (run_none cs is_nb i)
  comment_nb i j (inr (k, (h, e), r)) = run_join cs is_nb i k j (run_more cs is_nb i i k 35 (run_none cs is_nb i) h nb_hash e) r

  pub char_inside : (i j c : ℕ) → slice_get cs i ≡ Some c → is_ns c ≡ true → j ≡ i + 1 → Inside cs j
  char_inside i j c h t e = (i, e, solid_nb cs i (c, h, t))

  pub run_inside : (i j : ℕ) → run cs is_ns i j → i < j → Inside cs j
  run_inside i j (le, r) l = (j - 1, omega (arith, l), solid_nb cs (j - 1) (r (j - 1) (omega (arith, l)) (omega (arith, l))))

  pub one_nb : (i j c : ℕ) → slice_get cs i ≡ Some c → is_ns c ≡ true → j ≡ i + 1 → run cs is_nb i j
  one_nb i j c h t e = let (d, g, u) = solid_nb cs i (c, h, t) in run_more cs is_nb i i j d (run_none cs is_nb i) g u e

  escaped_nb : (p : ℕ → Bool) → ((c : ℕ) → p c ≡ true → is_ns c ≡ true) → (i j : ℕ) → (one cs p i j ⊎ (chr cs 37 ◆ one cs is_ascii_hexdigit ◆ one cs is_ascii_hexdigit) i j) → run cs is_nb i j × Inside cs j
  escaped_nb p f i j (inl ((c, h, t), e)) = (one_nb i j c h (f c t) e, char_inside i j c h (f c t) e)
  escaped_nb p f i j (inr (a, (h, e), (b, ((c, g, t), k), ((d, l, u), m)))) =
      (run_join cs is_nb i a j (one_nb i a 37 h ns_percent e) (run_join cs is_nb a b j (one_nb a b c g (hex_ns c t) k) (one_nb b j d l (hex_ns d u) m)), char_inside b j d l (hex_ns d u) m)

  uri_nb : (i j : ℕ) → uri_char cs i j → run cs is_nb i j × Inside cs j
  unfolding uri_char
  uri_nb i j r = escaped_nb is_uri uri_ns i j r

  tag_nb : (i j : ℕ) → tag_char cs i j → run cs is_nb i j × Inside cs j
  unfolding tag_char
  tag_nb i j r = escaped_nb is_tag (λ c t. name_is_ns c (tag_is_name c t)) i j r

  uris_nb : {j i : ℕ} → Spans (uri_char cs) j i → Inside cs i → run cs is_nb i j × Inside cs j
  uris_nb {j} {i} (Spans.done e) o = (subst (run cs is_nb i) (sym e) (run_none cs is_nb i), subst (Inside cs) (sym e) o)
  uris_nb {j} {i} (Spans.then k r more) o = let (a, b) = uri_nb i k r in let (c, d) = uris_nb more b in (run_join cs is_nb i k j a c, d)

  pub params_nb : {j i : ℕ} → Spans (some_run cs is_space ◆ some_run cs is_ns) j i → Inside cs i → run cs is_nb i j × Inside cs j
  params_nb {j} {i} (Spans.done e) o = (subst (run cs is_nb i) (sym e) (run_none cs is_nb i), subst (Inside cs) (sym e) o)
  params_nb {j} {i} (Spans.then k (a, (r, l), (s, m)) more) o =
      let (c, d) = params_nb more (run_inside a k s m) in
      (run_join cs is_nb i k j (run_join cs is_nb i a k (spaces_nb i a r) (ns_nb_run a k s)) c, d)

  pub handle_nb : (i j : ℕ) → Handle cs i j → run cs is_nb i j
  handle_nb i j (named x g r l k f) =
      run_join cs is_nb i (i + 1) j (one_nb i (i + 1) 33 g ns_bang refl) (run_join cs is_nb (i + 1) x j (words_nb (i + 1) x r) (one_nb x j 33 k ns_bang f))
    where
      words_nb : (a b : ℕ) → run cs is_word a b → run cs is_nb a b
      words_nb a b (le, r) = (le, λ m u v. let (c, h, t) = r m u v in solid_nb cs m (c, h, name_is_ns c (word_name c t)))
  handle_nb i j (double g k f) = run_join cs is_nb i (i + 1) j (one_nb i (i + 1) 33 g ns_bang refl) (one_nb (i + 1) j 33 k ns_bang (omega (arith, f)))
  handle_nb i j (single g e) = one_nb i j 33 g ns_bang e

  -- ---- the prefix of a tag

  -- how it begins
  abbrev pub PrefixStart : ℕ → ℕ → Type 0
  PrefixStart = chr cs 33 ⊔ tag_char cs

  abbrev pub Prefix : ℕ → ℕ → Type 0
  Prefix = PrefixStart ◆ any_span (uri_char cs)

  pub prefix_nb : (i j : ℕ) → Prefix i j → run cs is_nb i j × Inside cs j
  prefix_nb i j (k, inl (h, e), s) = let (a, b) = uris_nb s (char_inside i k 33 h ns_bang e) in (run_join cs is_nb i k j (one_nb i k 33 h ns_bang e) a, b)
  prefix_nb i j (k, inr r, s) = let (c, d) = tag_nb i k r in let (a, b) = uris_nb s d in (run_join cs is_nb i k j c a, b)

  pub prefix_ns : (i j : ℕ) → Prefix i j → Stands cs is_ns i
  prefix_ns i j (k, inl (h, e), s) = (33, h, ns_bang)
  prefix_ns i j (k, inr r, s) = let (c, h, t) = tag_char_name cs i k r in (c, h, name_is_ns c t)

  pub start_same : (i a b : ℕ) → PrefixStart i a → PrefixStart i b → a ≡ b
  start_same i a b (inl (h, e)) (inl (g, f)) = e ∙ sym f
  start_same i a b (inr r) (inr s) = tag_char_same cs i a b r s
  start_same i a b (inl (h, e)) (inr s) = absurd (no_tag_char cs i b 33 h tag_bang (λ z. omega (arith, z)) s)
  start_same i a b (inr s) (inl (h, e)) = absurd (no_tag_char cs i a 33 h tag_bang (λ z. omega (arith, z)) s)

  pub uri_stands : (i j : ℕ) → uri_char cs i j → Stands cs is_ns i
  unfolding uri_char
  uri_stands i j (inl ((c, h, t), e)) = (c, h, uri_ns c t)
  uri_stands i j (inr (a, (h, e), r)) = (37, h, ns_percent)

  -- ---- the rest of a directive's line

  on_l : (i j : ℕ) → l_comment cs i j → i ≤ j
  on_l i j c = let l : i < j = l_comment_onward cs i j c in omega (arith, l)

  -- comment lines, up to where none begins
  pub lines_same : (i m n : ℕ) → Spans (l_comment cs) m i → ((j : ℕ) → l_comment cs m j → ⊥) → Spans (l_comment cs) n i → ((j : ℕ) → l_comment cs n j → ⊥) → m ≡ n
  lines_same i m n r s t u =
      let a : n ≤ m = spans_furthest (l_comment_same cs) on_l r s t in
      let b : m ≤ n = spans_furthest (l_comment_same cs) on_l t u r in
      omega (arith, a, b)

  -- the rest of a line is of no breaks, wherever it is parted
  pub data Rest (i m : ℕ) : Type 0 where
    rest : (e y : ℕ) → run cs is_nb i e → line_end cs e y → Spans (l_comment cs) m y → Rest i m

  -- from inside the line on
  pub blank_then : (i a y m : ℕ) → run cs is_nb i a → blank_rest cs a y → Spans (l_comment cs) m y → Rest i m
  unfolding blank_rest
  blank_then i a y m r (x, s, (e, t, l)) c = rest e y (run_join cs is_nb i a e r (run_join cs is_nb a x e (spaces_nb a x s) (comment_nb x e t))) l c

  pub rest_same : (i m n : ℕ) → Rest i m → ((j : ℕ) → l_comment cs m j → ⊥) → Rest i n → ((j : ℕ) → l_comment cs n j → ⊥) → m ≡ n
  rest_same i m n (rest e y r l c) s (rest f z t u d) x =
      let a : e ≡ f = run_same cs is_nb i e f r t (line_end_stops cs is_nb nb_feed nb_return e y l) (line_end_stops cs is_nb nb_feed nb_return f z u) in
      let b : y ≡ z = line_end_same cs f y z (subst (λ w. line_end cs w y) a l) u in
      lines_same z m n (subst (λ w. Spans (l_comment cs) m w) b c) s d x
