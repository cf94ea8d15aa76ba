-- Plain scalars: the chain form has the readings of the grammar.
use Rattle.std.proofs.Common.{◌≡◌, ℕ, zero, suc, ◌+◌, ◌-◌, ◌<◌, ◌≤◌, ◌⊎◌, inl, inr, List, [], ◌∷◌, ◌++◌, Some, true, refl, sym, ◌∙◌, ap, subst, arith, append_assoc}
use Rattle.std.specs.Prelude.{slice_get, slice_range, ◌==◌}
use Rattle.std.proofs.lemmas.Bool.{cases_eq, cases_lt}
use Rattle.yaml_text.specs.LeafAnswer.{Furthest}
use Rattle.yaml_text.specs.LeafAnswer.{Unread}
use Rattle.yaml_definitions.specs.grammar.Rules.{◌⨾◌, any, Any, done, then, Throughout, Stands, Behind, run}
use Rattle.yaml_definitions.specs.grammar.Characters.{is_white, is_ns}
use Rattle.yaml_definitions.specs.grammar.Separation.{Ctx}
use Rattle.yaml_definitions.specs.grammar.FlowScalars.{several, s-flow-folded as fold, PlainFirst, PlainChar, plain_line, ns-plain as plain}
use Rattle.yaml_text.proofs.PlaceLemmas.{slice_none, slice_one, slice_join, slice_snoc}
use Rattle.yaml_scalar.specs.Chains.{folds, gap, plain_inner, Later, taken_at, plain_more, line_more, plain_chain}
use Rattle.yaml_scalar.proofs.AnyLemmas.{any_none, any_snoc, any_append, any_weaker, any_onward}
use Rattle.yaml_text.proofs.Runs.{all_more, run_none, run_more}
use Rattle.yaml_scalar.proofs.GapLemmas.{folds_onward, blank_folds}
use Rattle.yaml_text.proofs.Breaks.{Ns, AfterNs, ns_stops}
use Rattle.yaml_scalar.proofs.PlainLemmas.{later_colon, later_inner, later_ns, first_ns, line_hash, line_later, line_onward, line_is_more, hash_ns}
use Rattle.yaml_scalar.proofs.Readings.{clear_ns, fold_chain, fold_grammar}

hash_is : (c : ℕ) → (c == 35) ≡ true → c ≡ 35
hash_is c p = grind (arith, p)

colon_is : (c : ℕ) → (c == 58) ≡ true → c ≡ 58
colon_is c p = grind (arith, p)

module _ (cs : List ℕ) where
  -- what a line of a plain scalar is made of after its first character
  abbrev pub OnLine : Ctx → ℕ → Type 0
  OnLine c k = PlainChar cs c k ⊎ Stands cs is_white k

  behind_is : (p : ℕ → Type 0) (h j : ℕ) → j ≡ h + 1 → p (j - 1) → p h
  behind_is p h j e s = subst p (let f : j - 1 ≡ h = omega (arith, e) in f) s

  -- after whites no character of text stands just behind
  whites_behind : (e h : ℕ) → run cs is_white e h → Behind cs is_ns h → e ≡ h
  whites_behind e h (le, r) (l, s) = elim (cases_eq e h) [
    | inl q ↦ q
    | inr n ↦ absurd (ns_stops cs (h - 1) s (r (h - 1) (omega (arith, le, n)) (omega (arith, l))))
  ]

  no_white_behind : (e h : ℕ) → run cs is_white e h → (Behind cs is_white h → ⊥) → e ≡ h
  no_white_behind e h (le, r) none = elim (cases_eq e h) [
    | inl q ↦ q
    | inr n ↦ absurd (none (omega (arith, le, n), r (h - 1) (omega (arith, le, n)) (omega (arith, le, n))))
  ]

  -- ---- from the grammar

  abbrev Line : Ctx → ℕ → ℕ → Type 0
  Line c k j = any (line_more cs c) k j (slice_range cs k j)

  line_step : (c : Ctx) (k e m : ℕ) → Line c k e → line_more cs c e m (slice_range cs e m) → Line c k m
  line_step c k e m p more =
      subst (any (line_more cs c) k m) (sym (slice_join cs k e m (any_onward (line_onward cs c) p) (let l : e < m = line_onward cs c e m (slice_range cs e m) more in omega (arith, l)))) (any_snoc p more)

  line_go : (c : Ctx) (k j : ℕ) → Throughout (OnLine c) k j → (Behind cs is_white j → ⊥) → (d e h : ℕ) → h + d ≡ j → Line c k e → run cs is_white e h → k ≤ e → Line c k j
  unfolding PlainChar plain_inner
  line_go c k j all none zero e h f p r l =
      let at : h ≡ j = omega (arith, f) in
      let here : e ≡ j = no_white_behind e j (subst (run cs is_white e) at r) none in
      subst (Line c k) here p
  line_go c k j all none (suc d) e h f p r l =
      next (λ e2 h2 f2 p2 r2 l2. line_go c k j all none d e2 h2 f2 p2 r2 l2) (all h (let z : e ≤ h = r.0 in omega (arith, z, l)) (omega (arith, f)))
    where
      on : ((e2 h2 : ℕ) → h2 + d ≡ j → Line c k e2 → run cs is_white e2 h2 → k ≤ e2 → Line c k j) → (m : ℕ) → m ≡ h + 1 → line_more cs c e m (slice_range cs e m) → Line c k j
      on rest m g more = rest m m (omega (arith, f, g)) (line_step c k e m p more) (run_none cs is_white m) (let z : e < m = line_onward cs c e m (slice_range cs e m) more in omega (arith, l, z))

      next : ((e2 h2 : ℕ) → h2 + d ≡ j → Line c k e2 → run cs is_white e2 h2 → k ≤ e2 → Line c k j) → OnLine c h → Line c k j
      next rest (inr (x, g, w)) = rest e (h + 1) (omega (arith, f)) p (run_more cs is_white e h (h + 1) x r g w refl) l
      next rest (inl (inl (x, g, s))) = on rest (h + 1) refl (line_later cs c e h (h + 1) x r g (later_inner cs c h x g s) refl)
      next rest (inl (inr (inl ((x, g, s), b)))) = on rest (h + 1) refl (line_hash cs c h e (h + 1) (g ∙ ap Some (hash_is x s)) (whites_behind e h r b) refl)
      next rest (inl (inr (inr ((x, g, s), t)))) =
          on rest (h + 1) refl (line_later cs c e h (h + 1) x r g (later_colon cs c h (h + 1) (g ∙ ap Some (colon_is x s)) refl t) refl)

  line_chain : (c : Ctx) (k j : ℕ) → k ≤ j → Throughout (OnLine c) k j → (Behind cs is_white j → ⊥) → Line c k j
  line_chain c k j le all none =
      line_go c k j all none (j - k) k k (omega (arith, le)) (subst (any (line_more cs c) k k) (sym (slice_none cs k)) any_none) (run_none cs is_white k) (omega arith)

  -- a line's first character, and the rest of it
  line_parts : (P : ℕ → Type 0) (c : Ctx) (i j : ℕ) (xs : List ℕ) → ((k : ℕ) → P k → Ns cs k) → plain_line cs P c i j xs → (taken_at cs P ⨾ any (line_more cs c)) i j xs
  unfolding plain_line
  line_parts P c i j xs ns ((none, (k, (p, e), (le, all))), f) =
      let s = ns i p in
      (k, s.0 ∷ [], slice_range cs k j, (p, s.0, s.1, e, refl), line_chain c k j le all none, f ∙ slice_join cs i k j (omega (arith, e)) le ∙ ap (λ v. v ++ slice_range cs k j) (slice_one cs i k s.0 s.1 e))

  -- a later line begins with a later character
  char_later : (c : Ctx) (i : ℕ) → (Behind cs is_ns i → ⊥) → PlainChar cs c i → Later cs c i
  unfolding PlainChar plain_inner
  char_later c i none (inl (x, g, s)) = later_inner cs c i x g s
  char_later c i none (inr (inl (s, b))) = absurd (none b)
  char_later c i none (inr (inr ((x, g, s), t))) = later_colon cs c i (i + 1) (g ∙ ap Some (colon_is x s)) refl t

  fold_behind : (n : ℕ) (c : Ctx) (i j : ℕ) (xs : List ℕ) → folds cs n c i j xs → Behind cs is_ns j → ⊥
  fold_behind n c i j xs p (l, s) =
      let a : i < j = folds_onward cs n c i j xs p in
      blank_folds cs n c i j xs p (j - 1) (omega (arith, a)) (omega (arith, a)) s

  lines_chain : (n : ℕ) (c : Ctx) {j i : ℕ} {xs : List ℕ} → Any (several cs c (fold cs n) ⨾ plain_line cs (PlainChar cs c) c) j i xs → Any (plain_more cs n c) j i xs
  unfolding plain_more gap plain_line
  lines_chain n c (done e f) = done e f
  lines_chain n c {j} {i} {xs} (then k ys zs (m, us, vs, p, ((none, (o, (q, d), (le, all))), f), g) rest e) =
      let fd = fold_chain cs n c i m us p in
      let bare = fold_behind n c i m us fd in
      let t = char_later c m bare q in
      let s = later_ns cs c m t in
      let first : plain_more cs n c i o (us ++ s.0 ∷ []) = inr (m, us, s.0 ∷ [], inr fd, (t, s.0, s.1, d, refl), refl) in
      let line = any_weaker (line_is_more cs n c) (line_chain c o k le all none) in
      let whole : slice_range cs m k ≡ s.0 ∷ [] ++ slice_range cs o k = slice_join cs m o k (omega (arith, d)) le ∙ ap (λ v. v ++ slice_range cs o k) (slice_one cs m o s.0 s.1 d) in
      let text : ys ≡ (us ++ s.0 ∷ []) ++ slice_range cs o k = g ∙ ap (λ v. us ++ v) (f ∙ whole) ∙ sym (append_assoc us (s.0 ∷ []) (slice_range cs o k)) in
      subst (Any (plain_more cs n c) j i) (ap (λ v. v ++ zs) (sym text) ∙ sym e)
      (any_append (then o (us ++ s.0 ∷ []) (slice_range cs o k) first line refl) (lines_chain n c rest))

  pub plain_to_chain : (n : ℕ) (c : Ctx) (i j : ℕ) (xs : List ℕ) → plain cs n c i j xs → plain_chain cs n c i j xs
  unfolding plain plain_chain
  plain_to_chain n c i j xs (u, (m, us, vs, line, rest, e)) =
      let (k, as1, bs, f, more, g) = line_parts (PlainFirst cs c) c i m us (first_ns cs c) line in
      (u, (k, as1, bs ++ vs, f, any_append (any_weaker (line_is_more cs n c) more) (lines_chain n c rest), e ∙ ap (λ v. v ++ vs) g ∙ append_assoc as1 bs vs))

  -- ---- from the chain

  line_is : (P : ℕ → Type 0) (c : Ctx) (s k m : ℕ) → P s → m ≡ s + 1 → m ≤ k → Throughout (OnLine c) m k → AfterNs cs k → plain_line cs P c s k (slice_range cs s k)
  unfolding plain_line
  line_is P c s k m p e le all (i, d, q) =
      (((λ (l, w). ns_stops cs i q (behind_is (Stands cs is_white) i k d w)), (m, (p, e), (le, all))), refl)

  hash_char : (c : Ctx) (i : ℕ) → slice_get cs i ≡ Some 35 → AfterNs cs i → PlainChar cs c i
  unfolding PlainChar
  hash_char c i h (k, e, s) = inr (inl ((35, h, refl), (omega (arith, e), subst (Ns cs) (let f : k ≡ i - 1 = omega (arith, e) in f) s)))

  later_char : (c : Ctx) (i : ℕ) → Later cs c i → PlainChar cs c i
  unfolding PlainChar plain_inner Later
  later_char c i (inl s) = inl s
  later_char c i (inr (h, s)) = inr (inr ((58, h, refl), s))

  throughout_join : (P : ℕ → Type 0) (i k j : ℕ) → Throughout P i k → Throughout P k j → Throughout P i j
  throughout_join P i k j f g m a b = go (f m a) (λ h. g m h b)
    where
      go : (m < k → P m) → (k ≤ m → P m) → P m
      go f g = elim (cases_lt m k) [ inl h ↦ f h | inr h ↦ g h ]

  lines_grammar : (n : ℕ) (c : Ctx) {j k : ℕ} {xs : List ℕ} → Any (plain_more cs n c) j k xs → (P : ℕ → Type 0) (s m : ℕ) → P s → m ≡ s + 1 → m ≤ k → Throughout (OnLine c) m k → AfterNs cs k →
      (plain_line cs P c ⨾ any (several cs c (fold cs n) ⨾ plain_line cs (PlainChar cs c) c)) s j (slice_range cs s k ++ xs)
  unfolding plain_more gap
  lines_grammar n c {j} {k} {xs} (done e f) P s m p d le all after =
      (k, slice_range cs s k, [], line_is P c s k m p d le all after, done e refl, ap (λ v. slice_range cs s k ++ v) f)
  lines_grammar n c {j} {k} {xs} (then o ys zs (inl (h, x, g, e, f)) rest t) P s m p d le all after =
      let next : AfterNs cs o = (k, e, (35, h, hash_ns)) in
      let grown : slice_range cs s o ≡ slice_range cs s k ++ x ∷ [] = slice_snoc cs s k o x (omega (arith, d, le)) g e in
      subst ((plain_line cs P c ⨾ any (several cs c (fold cs n) ⨾ plain_line cs (PlainChar cs c) c)) s j)
      (ap (λ v. v ++ zs) (grown ∙ ap (λ v. slice_range cs s k ++ v) (sym f)) ∙ append_assoc (slice_range cs s k) ys zs ∙ ap (λ v. slice_range cs s k ++ v) (sym t))
      (lines_grammar n c rest P s m p d (omega (arith, le, e)) (all_more cs (OnLine c) m k o all (inl (hash_char c k h after)) e) next)
  lines_grammar n c {j} {k} {xs} (then o ys zs (inr (q, us, vs, inl (r, a), (l, x, g, e, f), b)) rest t) P s m p d le all after =
      let z : k ≤ q = r.0 in
      let next : AfterNs cs o = (q, e, later_ns cs c q l) in
      let whites : Throughout (OnLine c) k q = λ y u v. inr (r.1 y u v) in
      let grown : slice_range cs s o ≡ slice_range cs s k ++ ys =
      slice_snoc cs s q o x (omega (arith, d, le, z)) g e ∙ ap (λ v. v ++ x ∷ []) (slice_join cs s k q (omega (arith, d, le)) z) ∙ append_assoc (slice_range cs s k) (slice_range cs k q) (x ∷ [])
      ∙ ap (λ v. slice_range cs s k ++ v) (ap (λ v. v ++ x ∷ []) (sym a) ∙ ap (λ v. us ++ v) (sym f) ∙ sym b) in
      subst ((plain_line cs P c ⨾ any (several cs c (fold cs n) ⨾ plain_line cs (PlainChar cs c) c)) s j)
      (ap (λ v. v ++ zs) grown ∙ append_assoc (slice_range cs s k) ys zs ∙ ap (λ v. slice_range cs s k ++ v) (sym t))
      (lines_grammar n c rest P s m p d (omega (arith, le, e, z)) (all_more cs (OnLine c) m q o (throughout_join (OnLine c) m k q all whites) (inl (later_char c q l)) e) next)
  lines_grammar n c {j} {k} {xs} (then o ys zs (inr (q, us, vs, inr fd, (l, x, g, e, f), b)) rest t) P s m p d le all after =
      let next : AfterNs cs o = (q, e, later_ns cs c q l) in
      let (y, as1, bs, line, more, h) = lines_grammar n c rest (PlainChar cs c) q o (later_char c q l) e (omega arith) (λ w u v. absurd (omega (arith, u, v))) next in
      let one : slice_range cs q o ≡ vs = slice_one cs q o x g e ∙ sym f in (
        k,
        slice_range cs s k,
        (us ++ as1) ++ bs,
        line_is P c s k m p d le all after,
        then y (us ++ as1) bs (q, us, as1, fold_grammar cs n c k q us (clear_ns cs k after) fd, line, refl) more refl,
        ap (λ v. slice_range cs s k ++ v) (t ∙ ap (λ v. v ++ zs) (b ∙ ap (λ v. us ++ v) (sym one)) ∙ append_assoc us (slice_range cs q o) zs ∙ ap (λ v. us ++ v) h ∙ sym (append_assoc us as1 bs)),
      )

  pub plain_from_chain : (n : ℕ) (c : Ctx) (i j : ℕ) (xs : List ℕ) → plain_chain cs n c i j xs → plain cs n c i j xs
  unfolding plain plain_chain
  plain_from_chain n c i j xs (u, (m, us, vs, (p, x, h, e, f), chain, d)) =
      let all = lines_grammar n c chain (PlainFirst cs c) i m p e (omega arith) (λ w a b. absurd (omega (arith, a, b))) (i, e, first_ns cs c i p) in
      (u, subst ((plain_line cs (PlainFirst cs c) c ⨾ any (several cs c (fold cs n) ⨾ plain_line cs (PlainChar cs c) c)) i j) (ap (λ v. v ++ vs) (slice_one cs i m x h e ∙ sym f) ∙ sym d) all)

  pub plain_furthest : (n : ℕ) (c : Ctx) (i j : ℕ) (xs : List ℕ) → Furthest (plain_chain cs n c) i j xs → Furthest (plain cs n c) i j xs
  plain_furthest n c i j xs best = record {
    is = plain_from_chain n c i j xs best.is;
    furthest = λ k ys r. best.furthest k ys (plain_to_chain n c i k ys r);
    only = λ ys r. best.only ys (plain_to_chain n c i j ys r);
  }

  pub plain_unread : (n : ℕ) (c : Ctx) (i : ℕ) → Unread (plain_chain cs n c) i → Unread (plain cs n c) i
  plain_unread n c i none j xs r = none j xs (plain_to_chain n c i j xs r)
