-- A directive, by its name.
use Rattle.std.proofs.Common.{◌≡◌, ◌≢◌, ℕ, ◌+◌, ◌<◌, ◌≤◌, ◌⊎◌, inl, inr, List, [], ◌∷◌, ◌++◌, Bool, true, false, Some, refl, sym, ◌∙◌, ap, subst, arith}
use Rattle.std.specs.Prelude.{slice_get, slice_range, codes, bytes_eq, Result, Ok, Err, IfErr}
use Rattle.std.specs.Str.{chars, IsUtf8}
use Rattle.std.specs.Cmp.Lexicographic.{bytes_decides}
use Rattle.std.proofs.Math.Nat.{eq-or-lt_of_le}
use Rattle.std.proofs.lemmas.Bool.{cases_lt}
use Rattle.std.proofs.lemmas.Str.{encodes-chars, encodes-IsAscii, chars-IsAscii}
use lib.Utf8.{encodes}
use Rattle.yaml_text.specs.LeafAnswer.{Only}
use Rattle.yaml_definitions.specs.grammar.Rules.{◌◆◌, Spans, run, some_run, Stands, word, chr}
use Rattle.yaml_definitions.specs.grammar.Characters.{is_ns, is_nb, is_break, is_space}
use Rattle.yaml_definitions.specs.grammar.Separation.{StartsLine, s-l-comments as s_l_comments}
use Rattle.yaml_definitions.specs.grammar.Directives.{Directive, version, reserved, is_known, ns-yaml-directive as yaml_directive, ns-tag-directive as tag_directive, ns-reserved-directive as reserved_directive, l-directive as directive}
use Rattle.yaml_text.proofs.PlaceLemmas.{slice_none, slice_one, slice_join}
use Rattle.yaml_text.specs.Lines.{Inside}
use Rattle.yaml_text.proofs.Runs.{same_char, run_same}
use Rattle.yaml_text.proofs.Breaks.{run_join}
use Rattle.yaml_text.proofs.LineRuns.{inside_no_line}
use Rattle.yaml_text.proofs.RestLemmas.{from_s_b, no_blank}
use Rattle.yaml_mark.specs.DirectiveParts.{version_rest, binding_rest, parameter, prefix_run, prefix_start, body, whole_directive, Settles, is_repeated, OnlyRepeats, WholeRepeats}
use Rattle.yaml_mark.proofs.AsciiLemmas.{AllLow, all_ascii}
use Rattle.yaml_definitions.specs.grammar.Tags.{Handles, ns-tag-prefix as tag_prefix}
use Rattle.yaml_text.proofs.Classes.{ns_two, ns_percent, solid_nb, solid_no_space}
use Rattle.yaml_text.proofs.TagRuns.{handle_of}
use Rattle.yaml_text.proofs.DirectiveRuns.{AllOf, yaml_all, tag_all, yaml_known, tag_known, known_no, word_run, word_text, spaces_nb, ns_nb_run, handle_nb, params_nb, prefix_nb, char_inside, run_inside, one_nb, Rest, blank_then, rest_same}
use Rattle.yaml_mark.proofs.CommentLemmas.{Stuck}
use Rattle.yaml_mark.proofs.LineEndLemmas.{comment_begins, whole_run_is}
use Rattle.yaml_mark.proofs.DirectiveLemmas.{past_no_ns, version_same, hash_or}

yaml_low : AllLow (codes "YAML")
unfolding AllLow
yaml_low = (refl, (refl, (refl, (refl, tt))))

tag_low : AllLow (codes "TAG")
unfolding AllLow
tag_low = (refl, (refl, (refl, tt)))

version_nb : AllOf is_nb (codes "1.2")
unfolding AllOf is_nb is_break
version_nb = (refl, (refl, (refl, tt)))

-- a name is compared by its bytes
pub name_is : (s n xs : List ℕ) → chars s ≡ n → AllLow xs → bytes_eq s xs ≡ true → n ≡ xs
name_is s n xs e l t = sym e ∙ ap chars ((bytes_decides s xs).0 t) ∙ chars-IsAscii xs (all_ascii xs l)

pub name_no : (s n xs : List ℕ) → IsUtf8 s → chars s ≡ n → AllLow xs → bytes_eq s xs ≡ false → n ≡ xs → ⊥
name_no s n xs u e l f h =
    let same : s ≡ xs = sym (encodes-chars s u) ∙ ap encodes (e ∙ h) ∙ encodes-IsAscii xs (all_ascii xs l) in
    let z : true ≡ false = sym ((bytes_decides s xs).1 same) ∙ f in cc

pub is_yaml : (s n : List ℕ) → chars s ≡ n → bytes_eq s (codes "YAML") ≡ true → n ≡ codes "YAML"
is_yaml s n e t = name_is s n (codes "YAML") e yaml_low t

pub is_tag : (s n : List ℕ) → chars s ≡ n → bytes_eq s (codes "TAG") ≡ true → n ≡ codes "TAG"
is_tag s n e t = name_is s n (codes "TAG") e tag_low t

pub no_yaml : (s n : List ℕ) → IsUtf8 s → chars s ≡ n → bytes_eq s (codes "YAML") ≡ false → n ≡ codes "YAML" → ⊥
no_yaml s n u e f h = name_no s n (codes "YAML") u e yaml_low f h

pub no_tag : (s n : List ℕ) → IsUtf8 s → chars s ≡ n → bytes_eq s (codes "TAG") ≡ false → n ≡ codes "TAG" → ⊥
no_tag s n u e f h = name_no s n (codes "TAG") u e tag_low f h

unknown : (n : List ℕ) → (n ≡ codes "YAML" → ⊥) → (n ≡ codes "TAG" → ⊥) → is_known n ≡ false
unfolding is_known
unknown n a b = pick (bytes_eq n (codes "YAML")) refl (bytes_eq n (codes "TAG")) refl
  where
    pick : (s : Bool) → bytes_eq n (codes "YAML") ≡ s → (t : Bool) → bytes_eq n (codes "TAG") ≡ t → is_known n ≡ false
    pick true e t f = absurd (a ((bytes_decides n (codes "YAML")).0 e))
    pick false e true f = absurd (b ((bytes_decides n (codes "TAG")).0 f))
    pick false e false f = rw (e, f) refl

yaml_no_tag : (n : List ℕ) → n ≡ codes "YAML" → n ≡ codes "TAG" → ⊥
yaml_no_tag n e f = let z : codes "YAML" ≡ codes "TAG" = sym e ∙ f in let y : bytes_eq (codes "YAML") (codes "YAML") ≡ bytes_eq (codes "YAML") (codes "TAG") = ap (bytes_eq (codes "YAML")) z in let x : true ≡ false = y in cc

nil_no_yaml : (n : List ℕ) → n ≡ [] → n ≡ codes "YAML" → ⊥
nil_no_yaml n e f = let y : bytes_eq n [] ≡ bytes_eq n (codes "YAML") = ap (bytes_eq n) (sym e ∙ f) in let x : bytes_eq [] [] ≡ bytes_eq [] (codes "YAML") = subst (λ z. bytes_eq z [] ≡ bytes_eq z (codes "YAML")) e y in let w : true ≡ false = x in cc

nil_no_tag : (n : List ℕ) → n ≡ [] → n ≡ codes "TAG" → ⊥
nil_no_tag n e f = let y : bytes_eq n [] ≡ bytes_eq n (codes "TAG") = ap (bytes_eq n) (sym e ∙ f) in let x : bytes_eq [] [] ≡ bytes_eq [] (codes "TAG") = subst (λ z. bytes_eq z [] ≡ bytes_eq z (codes "TAG")) e y in let w : true ≡ false = x in cc

nil_cons : (d : ℕ) (s : List ℕ) → [] ≡ d ∷ s → ⊥
nil_cons d s e = let z : ◌≡◌ {A = List ℕ} [] (d ∷ s) = e in cc

omega_cases : (p q : ℕ) → (p ≡ q) ⊎ ((p < q) ⊎ (q < p))
omega_cases p q = pick (cases_lt p q)
  where
    near : (q ≡ p) ⊎ (q < p) → (p ≡ q) ⊎ ((p < q) ⊎ (q < p))
    near (inl e) = inl (sym e)
    near (inr m) = inr (inr m)

    pick : (p < q) ⊎ (q ≤ p) → (p ≡ q) ⊎ ((p < q) ⊎ (q < p))
    pick (inl m) = inr (inl m)
    pick (inr l) = near (eq-or-lt_of_le l)

-- what a refusal says whatever its fault
pub any_err : {T E P : Type 0} (r : Result T E) → P → IfErr r (λ _. P)
any_err {T} {E} {P} (Ok x) p = tt
any_err {T} {E} {P} (Err e) p = p

module _ (cs : List ℕ) where
  -- ---- words

  -- a word before a space is the name that the code reads
  named : (s : List ℕ) (i x a : ℕ) → word cs s i x → AllOf is_ns s → Stands cs is_space x → run cs is_ns i a → (Stands cs is_ns a → ⊥) → (x ≡ a) × (slice_range cs i a ≡ s)
  named s i x a w all sp r stop =
      let e : x ≡ a = run_same cs is_ns i x a (word_run cs is_ns s i x all w) r (λ t. solid_no_space cs x t sp) stop in
      (e, ap (slice_range cs i) (sym e) ∙ word_text cs s i x w)

  abbrev Parameters : ℕ → ℕ → Type 0
  Parameters i j = Spans (some_run cs is_space ◆ some_run cs is_ns) j i

  -- a directive by its name, which stands between the places
  data View (start end f : ℕ) (w : Directive) : Type 0 where
    of_version : slice_range cs start end ≡ codes "YAML" → version_rest cs end f → w ≡ version → View start end f w
    of_binding : slice_range cs start end ≡ codes "TAG" → binding_rest cs end f w → View start end f w
    of_reserved : start < end → is_known (slice_range cs start end) ≡ false → Parameters end f → w ≡ reserved → View start end f w

  gap_stands : (x y : ℕ) → some_run cs is_space x y → Stands cs is_space x
  gap_stands x y (r, l) = r.1 x (omega arith) l

  view_of : (i start end f : ℕ) (w : Directive) → chr cs 37 i start → run cs is_ns start end → (Stands cs is_ns end → ⊥) → body cs i f w → View start end f w
  unfolding body yaml_directive tag_directive reserved_directive version_rest binding_rest
  view_of i start end f w (h, e) r stop (inl (k, (x, (b, (g, t), wd), (y, sp, dig)), (q, v))) =
      let (at, n) = named (codes "YAML") start x end (subst (λ z. word cs (codes "YAML") z x) (t ∙ sym e) wd) yaml_all (gap_stands x y sp) r stop in
      of_version n (subst (version_rest cs end) (sym q) (y, subst (λ z. some_run cs is_space z y) at sp, dig)) v
  view_of i start end f w (h, e) r stop (inr (inl (k, (x, (b, (g, t), wd), sp), more))) =
      let (at, n) = named (codes "TAG") start x end (subst (λ z. word cs (codes "TAG") z x) (t ∙ sym e) wd) tag_all (gap_stands x k sp) r stop in
      of_binding n (k, subst (λ z. some_run cs is_space z k) at sp, more)
  view_of i start end f w (h, e) r stop (inr (inr (k, (g, t), (a, (n, (known, ((q, l, halt), u)), v), ps)))) =
      let s : k ≡ start = t ∙ sym e in
      let at : a ≡ end = run_same cs is_ns start a end (subst (λ z. run cs is_ns z a) s q) r halt stop in
      of_reserved (omega (arith, s, at, l)) (subst (λ z. is_known z ≡ false) (u ∙ ap (λ z. slice_range cs z a) s ∙ ap (slice_range cs start) at) known) (subst (λ z. Parameters z f) at ps) v

  -- ---- a directive's line

  version_line : (i j : ℕ) → version_rest cs i j → run cs is_nb i j × Inside cs j
  unfolding version_rest
  version_line i j (k, (r, l), (a, b, (c, d, (e, (h, f), g)))) =
      (run_join cs is_nb i k j (spaces_nb cs i k r) (word_run cs is_nb (codes "1.2") k j version_nb (a, b, (c, d, (e, (h, f), g)))), char_inside cs c j 50 h ns_two (g ∙ f))

  binding_line : (i j : ℕ) (w : Directive) → binding_rest cs i j w → run cs is_nb i j × Inside cs j
  unfolding binding_rest tag_prefix prefix_run prefix_start
  binding_line i j w (x, (r, l), (a, h, t, (y, (s, m), (pre, (p, e), f)))) =
      let (c, d) = prefix_nb cs y j p in
      (run_join cs is_nb i x j (spaces_nb cs i x r) (run_join cs is_nb x a j (handle_nb cs x a (handle_of cs x a h t).0) (run_join cs is_nb a y j (spaces_nb cs a y s) c)), d)

  body_line : (i start f : ℕ) (w : Directive) → chr cs 37 i start → body cs i f w → run cs is_nb i f × Inside cs f
  body_line i start f w p q =
      let (end, r, stop) = whole_run_is cs is_ns start in
      go end r (view_of i start end f w p r stop q)
    where
      before : (end : ℕ) → run cs is_ns start end → run cs is_nb i end
      before end r = run_join cs is_nb i start end (one_nb cs i start 37 p.0 ns_percent p.1) (ns_nb_run cs start end r)

      go : (end : ℕ) → run cs is_ns start end → View start end f w → run cs is_nb i f × Inside cs f
      go end r (of_version n v e) = let (a, b) = version_line end f v in (run_join cs is_nb i end f (before end r) a, b)
      go end r (of_binding n v) = let (a, b) = binding_line end f w v in (run_join cs is_nb i end f (before end r) a, b)
      go end r (of_reserved l n v e) = let (a, b) = params_nb cs v (run_inside cs start end r l) in (run_join cs is_nb i end f (before end r) a, b)

  rest_of : (i a m : ℕ) → run cs is_nb i a → Inside cs a → s_l_comments cs a m → Rest cs i m
  unfolding s_l_comments
  rest_of i a m r o (y, inr (e, s), c) = absurd (inside_no_line cs a o s)
  rest_of i a m r o (y, inl b, c) = blank_then cs i a y m r (from_s_b cs a y b) c

  -- ---- parameters that the code takes, and others

  no_comments_gap : (a x k : ℕ) → Inside cs a → run cs is_space a x → Stands cs is_ns x → slice_get cs x ≢ Some 35 → s_l_comments cs a k → ⊥
  unfolding s_l_comments
  no_comments_gap a x k o r s n (y, inr (e, t), c) = inside_no_line cs a o t
  no_comments_gap a x k o r s n (y, inl b, c) = no_blank cs a x r (solid_no_space cs x s) n (solid_nb cs x s) y (from_s_b cs a y b)

  params_go : {e f a : ℕ} (k : ℕ) → Inside cs a → Spans (parameter cs) e a → ((j : ℕ) → parameter cs e j → ⊥) → Spans (some_run cs is_space ◆ some_run cs is_ns) f a → s_l_comments cs f k → (n : ℕ) × s_l_comments cs e n
  unfolding parameter
  params_go {e} {f} {a} k o (Spans.done g) stop (Spans.done h) c = (k, subst (λ z. s_l_comments cs z k) (h ∙ sym g) c)
  params_go {e} {f} {a} k o (Spans.done g) stop (Spans.then m (x, sp, (r, l)) more) c = pick (r.1 x (omega arith) l)
    where
      pick : Stands cs is_ns x → (n : ℕ) × s_l_comments cs e n
      pick (d, h, t) = hash (hash_or d)
        where
          hash : (d ≡ 35) ⊎ (d ≢ 35) → (n : ℕ) × s_l_comments cs e n
          hash (inl u) = let (n, q) = comment_begins cs a x sp.0 sp.1 (h ∙ ap Some u) in (n, subst (λ z. s_l_comments cs z n) (sym g) q)
          hash (inr u) =
              let (j, q, halt) = whole_run_is cs is_ns x in
              let on : x ≢ j = λ w. halt (subst (Stands cs is_ns) w (d, h, t)) in
              let le : x ≤ j = q.0 in
              absurd (stop j (x, subst (λ z. some_run cs is_space z x) (sym g) sp, (λ w. u (same_char cs x d 35 h w), (q, omega (arith, on, le), halt))))
  params_go {e} {f} {a} k o (Spans.then m (x, sp, (nh, (r, l, halt))) more) stop (Spans.done h) c =
      absurd (no_comments_gap a x k o sp.0 (r.1 x (omega arith) l) nh (subst (λ z. s_l_comments cs z k) h c))
  params_go {e} {f} {a} k o (Spans.then m (x, sp, (nh, (r, l, halt))) more) stop (Spans.then m2 (x2, sp2, (r2, l2)) more2) c =
      go (λ q. params_go k (run_inside cs x m r l) more stop q c) (test m2 m)
    where
      at : x2 ≡ x
      at = run_same cs is_space a x2 x sp2.0 sp.0 (solid_no_space cs x2 (r2.1 x2 (omega arith) l2)) (solid_no_space cs x (r.1 x (omega arith) l))

      test : (p q : ℕ) → (p ≡ q) ⊎ ((p < q) ⊎ (q < p))
      test p q = omega_cases p q

      stuck : Stands cs is_ns m2 → Spans (some_run cs is_space ◆ some_run cs is_ns) f m2 → (n : ℕ) × s_l_comments cs e n
      stuck s (Spans.done h) = absurd (past_no_ns cs m2 k (run_inside cs x2 m2 r2 l2) (subst (λ z. s_l_comments cs z k) h c) s)
      stuck s (Spans.then o2 (y, (t, u), v) w) = absurd (solid_no_space cs m2 s (t.1 m2 (omega arith) u))

      go : (Spans (some_run cs is_space ◆ some_run cs is_ns) f m → (n : ℕ) × s_l_comments cs e n) → (m2 ≡ m) ⊎ ((m2 < m) ⊎ (m < m2)) → (n : ℕ) × s_l_comments cs e n
      go rec (inl h) = rec (subst (λ z. Spans (some_run cs is_space ◆ some_run cs is_ns) f z) h more2)
      go rec (inr (inl h)) = stuck (r.1 m2 (let z : x2 ≤ m2 = r2.0 in omega (arith, z, at)) h) more2
      go rec (inr (inr h)) = absurd (halt (r2.1 m (let z : x ≤ m = r.0 in omega (arith, z, at)) h))

  -- ---- the body of a directive

  text_word : (s : List ℕ) (i j : ℕ) → run cs is_ns i j → slice_range cs i j ≡ s → word cs s i j
  text_word [] i j r e = pick (eq-or-lt_of_le r.0)
    where
      pick : (i ≡ j) ⊎ (i < j) → j ≡ i
      pick (inl f) = sym f
      pick (inr l) = let (c, h, t) = r.1 i (omega arith) l in
          let z : c ∷ slice_range cs (i + 1) j ≡ [] = sym (slice_join cs i (i + 1) j (omega arith) (omega (arith, l)) ∙ ap (λ v. v ++ slice_range cs (i + 1) j) (slice_one cs i (i + 1) c h refl)) ∙ e in cc
  text_word (d ∷ s) i j r e = pick (eq-or-lt_of_le r.0) (λ k q. text_word s (i + 1) j k q)
    where
      pick : (i ≡ j) ⊎ (i < j) → (run cs is_ns (i + 1) j → slice_range cs (i + 1) j ≡ s → word cs s (i + 1) j) → word cs (d ∷ s) i j
      pick (inl f) rec = let z : [] ≡ d ∷ s = sym (ap (λ k. slice_range cs i k) (sym f) ∙ slice_none cs i) ∙ e in absurd (nil_cons d s z)
      pick (inr l) rec =
          let (c, h, t) = r.1 i (omega arith) l in
          let z : c ∷ slice_range cs (i + 1) j ≡ d ∷ s = sym (slice_join cs i (i + 1) j (omega arith) (omega (arith, l)) ∙ ap (λ v. v ++ slice_range cs (i + 1) j) (slice_one cs i (i + 1) c h refl)) ∙ e in
          let head : c ≡ d = cc in
          let tail : slice_range cs (i + 1) j ≡ s = cc in
          (i + 1, (h ∙ ap Some head, refl), rec (omega (arith, l), λ k a b. r.1 k (omega (arith, a)) b) tail)

  module _ (i start end : ℕ) (percent : chr cs 37 i start) (solid : run cs is_ns start end) (stop : Stands cs is_ns end → ⊥) where
    view : (f : ℕ) (w : Directive) → body cs i f w → View start end f w
    view f w q = view_of i start end f w percent solid stop q

    pub no_version : slice_range cs start end ≡ codes "YAML" → ((j : ℕ) → version_rest cs end j → ⊥) → (v : Bool) (hs : Handles) → OnlyRepeats cs v hs (body cs) i
    no_version n none v hs k m w q c = absurd (go (view k w q))
      where
        go : View start end k w → ⊥
        go (of_version o u e) = none k u
        go (of_binding o u) = yaml_no_tag _ n o
        go (of_reserved l o u e) = known_no _ _ yaml_known n o

    pub version_settles : (e : ℕ) → slice_range cs start end ≡ codes "YAML" → version_rest cs end e → Settles cs (body cs) i e version
    unfolding body yaml_directive version_rest
    version_settles e n v = record {
      is = let (y, sp, dig) = v in inl (e, (end, (start, percent, text_word (codes "YAML") start end solid n), (y, sp, dig)), (refl, refl));
      only = λ k m w q c. go k m w c (view k w q);
    }
      where
        go : (k m : ℕ) (w : Directive) → s_l_comments cs k m → View start end k w → (w ≡ version) × ((n : ℕ) × s_l_comments cs e n)
        go k m w c (of_version o u f) = (f, (m, subst (λ z. s_l_comments cs z m) (version_same cs end k e u v) c))
        go k m w c (of_binding o u) = absurd (yaml_no_tag _ n o)
        go k m w c (of_reserved l o u f) = absurd (known_no _ _ yaml_known n o)

    -- a version behind a version, whatever follows its name
    pub version_repeats : slice_range cs start end ≡ codes "YAML" → (v : Bool) (hs : Handles) → v ≡ true → OnlyRepeats cs v hs (body cs) i
    version_repeats n v hs t k m w q c = go (view k w q)
      where
        go : View start end k w → is_repeated v hs w ≡ true
        go (of_version o u e) = ap (is_repeated v hs) e ∙ t
        go (of_binding o u) = absurd (yaml_no_tag _ n o)
        go (of_reserved l o u e) = absurd (known_no _ _ yaml_known n o)

    pub binding_repeats : slice_range cs start end ≡ codes "TAG" → (v : Bool) (hs : Handles) → OnlyRepeats cs v hs (binding_rest cs) end → OnlyRepeats cs v hs (body cs) i
    binding_repeats n v hs repeats k m w q c = go (view k w q)
      where
        go : View start end k w → is_repeated v hs w ≡ true
        go (of_version o u e) = absurd (yaml_no_tag _ o n)
        go (of_binding o u) = repeats k m w u c
        go (of_reserved l o u e) = absurd (known_no _ _ tag_known n o)

    pub binding_body : (e : ℕ) (d : Directive) → slice_range cs start end ≡ codes "TAG" → Settles cs (binding_rest cs) end e d → Settles cs (body cs) i e d
    unfolding body tag_directive binding_rest
    binding_body e d n s = record {
      is = let (k, gap, more) = s.is in inr (inl (k, (end, (start, percent, text_word (codes "TAG") start end solid n), gap), more));
      only = λ k m w q c. go k m w c (view k w q);
    }
      where
        go : (k m : ℕ) (w : Directive) → s_l_comments cs k m → View start end k w → (w ≡ d) × ((n : ℕ) × s_l_comments cs e n)
        go k m w c (of_version o u f) = absurd (yaml_no_tag _ o n)
        go k m w c (of_binding o u) = s.only k m w u c
        go k m w c (of_reserved l o u f) = absurd (known_no _ _ tag_known n o)

    pub no_body : end ≡ start → (v : Bool) (hs : Handles) → OnlyRepeats cs v hs (body cs) i
    no_body e t hs k m w q c = absurd (go (view k w q))
      where
        none : slice_range cs start end ≡ []
        none = ap (slice_range cs start) e ∙ slice_none cs start

        go : View start end k w → ⊥
        go (of_version o v f) = nil_no_yaml _ none o
        go (of_binding o v) = nil_no_tag _ none o
        go (of_reserved l o v f) = omega (arith, l, e)

    plain_params : {e a : ℕ} → Spans (parameter cs) e a → Spans (some_run cs is_space ◆ some_run cs is_ns) e a
    unfolding parameter
    plain_params {e} {a} (Spans.done h) = Spans.done h
    plain_params {e} {a} (Spans.then k (x, sp, (n, (r, l, halt))) more) = Spans.then k (x, sp, (r, l)) (plain_params more)

    pub reserved_settles : (e : ℕ) → start < end → (slice_range cs start end ≡ codes "YAML" → ⊥) → (slice_range cs start end ≡ codes "TAG" → ⊥) → Spans (parameter cs) e end → ((j : ℕ) → parameter cs e j → ⊥) → Settles cs (body cs) i e reserved
    unfolding body reserved_directive
    reserved_settles e l a b s halt = record {
      is = inr (inr (start, percent, (end, (slice_range cs start end, (unknown _ a b, ((solid, l, stop), refl)), refl), plain_params s)));
      only = λ k m w q c. go k m w c (view k w q);
    }
      where
        go : (k m : ℕ) (w : Directive) → s_l_comments cs k m → View start end k w → (w ≡ reserved) × ((n : ℕ) × s_l_comments cs e n)
        go k m w c (of_version o u f) = absurd (a o)
        go k m w c (of_binding o u) = absurd (b o)
        go k m w c (of_reserved q o u f) = (f, params_go m (run_inside cs start end solid l) s halt u c)

  -- ---- the whole line

  pub directive_parts : (i j : ℕ) (v : List Directive) → directive cs i j v → (f : ℕ) × (d : Directive) × body cs i f d × (v ≡ d ∷ []) × s_l_comments cs f j
  unfolding directive body
  directive_parts i j v (a, (e, s), (b, (d, r, f), t)) = (b, d, subst (λ z. body cs z b d) e r, f, t)

  pub directive_repeats : (i : ℕ) (v : Bool) (hs : Handles) → OnlyRepeats cs v hs (body cs) i → WholeRepeats cs v hs i
  unfolding whole_directive
  directive_repeats i v hs repeats j d (k, r, q) =
      let (f, g, b, e, c) = directive_parts i k (d ∷ []) r in let same : d ≡ g = cc in ap (is_repeated v hs) same ∙ repeats f k g b c

  pub no_comments_after : (i e : ℕ) (d : Directive) (v : Bool) (hs : Handles) → Settles cs (body cs) i e d → ((j : ℕ) → s_l_comments cs e j → ⊥) → WholeRepeats cs v hs i
  unfolding whole_directive
  no_comments_after i e d v hs s n j w (k, r, q) = let (f, g, b, h, c) = directive_parts i k (w ∷ []) r in let (u, (m, t)) = s.only f k g b c in absurd (n m t)

  pub directive_only : (i start e to : ℕ) (d : Directive) → chr cs 37 i start → StartsLine cs i → Settles cs (body cs) i e d → s_l_comments cs e to → Stuck cs to → Only (whole_directive cs) i to (d ∷ [])
  unfolding whole_directive directive body
  directive_only i start e to d p line s c stuck = record {
    is = (to, (i, (refl, line), (e, (d, s.is, refl), c)), (refl, stuck));
    only = λ k v (j, r, (q, halt)).
        let (f, g, b, h, t) = directive_parts i j v r in
        let (u, more) = s.only f j g b t in
        let (x, y) = body_line i start f g p b in
        let (z, w) = body_line i start e d p s.is in
        let same : j ≡ to = rest_same cs i j to (rest_of i f j x y t) halt (rest_of i e to z w c) stuck in
        (q ∙ same, h ∙ ap (λ o. o ∷ []) u);
  }
