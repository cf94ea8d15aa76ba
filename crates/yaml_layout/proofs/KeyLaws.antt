-- What is read on one line as a value is read as a key too, at indentation 0 and in the key's context: one line for each
-- production, by induction on the room.
use Rattle.std.proofs.Common.{◌≡◌, ℕ, zero, suc, ◌<◌, ◌≤◌, List, [], refl, sym, ◌∙◌, subst, arith, inl, inr, ◌⊎◌}
use Rattle.std.specs.Prelude.{length}
use Rattle.std.proofs.lemmas.Bool.{cases_lt}
use Rattle.std.proofs.Math.Nat.{eq-or-lt_of_le}
use Rattle.yaml_definitions.specs.model.Event.{Event}
use Rattle.yaml_definitions.specs.grammar.Rules.{Span, Rule, ◌◆◌, ◌▸◌, ◌◂◌, ◌⨾◌, ◌∪◌, gives, given, never, maybe, optional, any, any_span, Any, done, then, Spans, chr, times, with_value, seen, where_both, Stands, run, some_run, ahead}
use Rattle.yaml_definitions.specs.grammar.Characters.{is_break, is_space, is_white, b-break as brk, numbered, c-ns-esc-char as escape}
use Rattle.yaml_definitions.specs.grammar.Separation.{Ctx, block_out, block_in, flow_out, flow_in, block_key, flow_key, inner, OneLine, StartsLine, s-indent as indent, s-indent-less-than as less, s-separate-in-line as sep, s-separate as separate, s-separate-lines as separate_lines, s-l-comments as s_l_comments, s-b-comment as s_b_comment, l-comment as l_comment, b-comment as line_end, c-nb-comment-text as comment, Unmarked}
use Rattle.yaml_definitions.specs.grammar.Tags.{Handles}
use Rattle.yaml_definitions.specs.grammar.Tags as tags
use Rattle.yaml_definitions.specs.grammar.FlowScalars as flow
use Rattle.yaml_definitions.specs.grammar.Nodes as nodes
use Rattle.yaml_definitions.specs.grammar.Events.{Props, no_props}
use Rattle.yaml_definitions.specs.grammar.Nodes.{Part, yaml_part, json_part, pair_part, part, reads}
use Rattle.yaml_definitions.specs.grammar.Laws.{Forward}
use Rattle.yaml_definitions.proofs.grammar.Forward.{on_separate, fwd_tag, fwd_anchor, fwd_alias}
use Rattle.yaml_text.proofs.LineRuns.{brk_onward, indent_run}
use Rattle.yaml_text.specs.Lines.{line_brk}
use Rattle.yaml_text.proofs.Repeats.{spans_onward}
use Rattle.yaml_text.proofs.RestLemmas.{l_comment_onward}
use Rattle.yaml_text.proofs.Breaks as gap
use Rattle.yaml_layout.specs.NodeRules.{part_of, IsInner}
use Rattle.yaml_layout.specs.declared.flow.Kind.{Kind}
use Rattle.yaml_layout.specs.declared.flow.Kind.TheVariants.{Yaml, Json}

-- the context of a key that is read in this one
unfoldable pub key_of : Ctx → Ctx
key_of block_out = block_key
key_of block_in = block_key
key_of flow_out = block_key
key_of flow_in = flow_key
key_of block_key = block_key
key_of flow_key = flow_key

module _ (cs : List ℕ) where
  -- no break stands between the places, and the text goes on after them
  abbrev Within : ℕ → ℕ → Type 0
  Within i j = OneLine cs i j × (j < length cs)

  part_within : (i k l j : ℕ) → i ≤ k → l ≤ j → Within i j → Within k l
  part_within i k l j a b (o, e) = (λ m p q. o m (omega (arith, a, p)) (omega (arith, b, q)), omega (arith, b, e))

  -- each reading by R goes on, and one within a line is a reading by S
  abbrev To : {V : Type 0} → Rule V → Rule V → Type 0
  To {V} R S = (i j : ℕ) (v : V) → R i j v → (i ≤ j) × (Within i j → S i j v)

  abbrev ToSpan : Span → Span → Type 0
  ToSpan R S = (i j : ℕ) → R i j → (i ≤ j) × (Within i j → S i j)

  -- ---- the combinators

  same : {V : Type 0} (R : Rule V) → Forward R → To R R
  same R f i j v r = (f i j v r, λ w. r)

  k_before : {V : Type 0} {R R' : Span} {S S' : Rule V} → ToSpan R R' → To S S' → To (R ▸ S) (R' ▸ S')
  k_before f g i j v (k, r, s) =
      let x = f i k r in let y = g k j v s in
      let a : i ≤ k = x.0 in let b : k ≤ j = y.0 in
      (omega (arith, a, b), λ w. (k, x.1 (part_within i i k j (omega arith) b w), y.1 (part_within i k j j a (omega arith) w)))

  k_after : {V : Type 0} {R R' : Rule V} {S S' : Span} → To R R' → ToSpan S S' → To (R ◂ S) (R' ◂ S')
  k_after f g i j v (k, r, s) =
      let x = f i k v r in let y = g k j s in
      let a : i ≤ k = x.0 in let b : k ≤ j = y.0 in
      (omega (arith, a, b), λ w. (k, x.1 (part_within i i k j (omega arith) b w), y.1 (part_within i k j j a (omega arith) w)))

  k_then : {R R' S S' : Span} → ToSpan R R' → ToSpan S S' → ToSpan (R ◆ S) (R' ◆ S')
  k_then f g i j (k, r, s) =
      let x = f i k r in let y = g k j s in
      let a : i ≤ k = x.0 in let b : k ≤ j = y.0 in
      (omega (arith, a, b), λ w. (k, x.1 (part_within i i k j (omega arith) b w), y.1 (part_within i k j j a (omega arith) w)))

  k_joined : {A : Type 0} {R R' S S' : Rule (List A)} → To R R' → To S S' → To (R ⨾ S) (R' ⨾ S')
  k_joined f g i j v (k, ys, zs, r, s, e) =
      let x = f i k ys r in let y = g k j zs s in
      let a : i ≤ k = x.0 in let b : k ≤ j = y.0 in
      (omega (arith, a, b), λ w. (k, ys, zs, x.1 (part_within i i k j (omega arith) b w), y.1 (part_within i k j j a (omega arith) w), e))

  k_either : {V : Type 0} {R R' S S' : Rule V} → To R R' → To S S' → To (R ∪ S) (R' ∪ S')
  k_either f g i j v (inl r) = let x = f i j v r in (x.0, λ w. inl (x.1 w))
  k_either f g i j v (inr s) = let x = g i j v s in (x.0, λ w. inr (x.1 w))

  k_taking : {A V : Type 0} {R R' : Rule A} {S S' : A → Rule V} → To R R' → ((a : A) → To (S a) (S' a)) → To (with_value R S) (with_value R' S')
  k_taking f g i j v (k, a, r, s) =
      let x = f i k a r in let y = g a k j v s in
      let p : i ≤ k = x.0 in let q : k ≤ j = y.0 in
      (omega (arith, p, q), λ w. (k, a, x.1 (part_within i i k j (omega arith) q w), y.1 (part_within i k j j p (omega arith) w)))

  k_seen : {A V : Type 0} (g : A → V) {R R' : Rule A} → To R R' → To (seen g R) (seen g R')
  k_seen g f i j v (a, r, e) = let x = f i j a r in (x.0, λ w. (a, x.1 w, e))

  k_given : {V : Type 0} (P : Type 0) {R R' : Rule V} → To R R' → To (given P R) (given P R')
  k_given P f i j v (p, r) = let x = f i j v r in (x.0, λ w. (p, x.1 w))

  k_where : {V : Type 0} (P : ℕ → ℕ → Type 0) {R R' : Rule V} → To R R' → To (where_both P R) (where_both P R')
  k_where P f i j v (p, r) = let x = f i j v r in (x.0, λ w. (p, x.1 w))

  k_gives : {V : Type 0} (u : V) → To (gives u) (gives u)
  k_gives u i j v (e, h) = (omega (arith, e), λ w. (e, h))

  k_never : {V : Type 0} (S : Rule V) → To never S
  k_never S i j v h = absurd h

  k_maybe : {R R' : Span} → ToSpan R R' → ToSpan (maybe R) (maybe R')
  k_maybe f i j (inl e) = (omega (arith, e), λ w. inl e)
  k_maybe f i j (inr r) = let x = f i j r in (x.0, λ w. inr (x.1 w))

  k_any : {A : Type 0} {R R' : Rule (List A)} → To R R' → To (any R) (any R')
  k_any {A} {R} {R'} f i j v r = go i v r
    where
      go : (i : ℕ) (v : List A) → Any R j i v → (i ≤ j) × (Within i j → Any R' j i v)
      go i v (done e h) = (omega (arith, e), λ w. done e h)
      go i v (then k ys zs r more e) =
          let x = f i k ys r in let y = go k zs more in
          let a : i ≤ k = x.0 in let b : k ≤ j = y.0 in
          (omega (arith, a, b), λ w. then k ys zs (x.1 (part_within i i k j (omega arith) b w)) (y.1 (part_within i k j j a (omega arith) w)) e)

  k_optional : {A : Type 0} {R R' : Rule (List A)} → To R R' → To (optional R) (optional R')
  k_optional {A} f = k_either (k_gives []) f

  -- ---- breaks

  brk_breaks : (i j : ℕ) → brk cs i j → Stands cs is_break i
  unfolding is_break
  brk_breaks i j b = go (gap.brk_line cs i j b)
    where
      go : line_brk cs i j → Stands cs is_break i
      go (inl (f, e)) = (10, f, refl)
      go (inr (inl (f, n, e))) = (13, f, refl)
      go (inr (inr (f, n, e))) = (13, f, refl)

  no_break : (i k m j : ℕ) → brk cs k m → i ≤ k → m ≤ j → OneLine cs i j → ⊥
  no_break i k m j b l r o = let x : k < m = brk_onward cs k m b in o k l (omega (arith, x, r)) (brk_breaks k m b)

  no_line_end : (i k m j : ℕ) → line_end cs k m → i ≤ k → m ≤ j → Within i j → ⊥
  unfolding line_end
  no_line_end i k m j (inl b) l r w = no_break i k m j b l r w.0
  no_line_end i k m j (inr (e, at)) l r w = let x : j < length cs = w.1 in absurd (omega (arith, e, at, r, x))

  -- ---- separation

  spaces_join : (n i k j : ℕ) → indent cs n i k → run cs is_space k j → run cs is_space i j
  spaces_join n i k j a b =
      let r = indent_run cs n i k a in
      (omega (arith, r.0, b.0), λ m p q. pick m p q (cases_lt m k))
    where
      pick : (m : ℕ) → i ≤ m → m < j → (m < k) ⊎ (k ≤ m) → Stands cs is_space m
      pick m p q (inl h) = (indent_run cs n i k a).1 m p h
      pick m p q (inr h) = b.1 m h q

  maybe_on : (i j : ℕ) → maybe (sep cs ◆ maybe (comment cs)) i j → i ≤ j
  unfolding sep comment
  maybe_on i j (inl e) = omega (arith, e)
  maybe_on i j (inr (k, inl s, inl e)) = let a : i ≤ k = s.0.0 in omega (arith, a, e)
  maybe_on i j (inr (k, inr s, inl e)) = let a : k ≡ i = s.0 in omega (arith, a, e)
  maybe_on i j (inr (k, inl s, inr (m, (h, e), r))) = let a : i ≤ k = s.0.0 in let b : m ≤ j = r.0 in omega (arith, a, b, e)
  maybe_on i j (inr (k, inr s, inr (m, (h, e), r))) = let a : k ≡ i = s.0 in let b : m ≤ j = r.0 in omega (arith, a, b, e)

  rest_broken : (i k j : ℕ) → s_b_comment cs i k → k ≤ j → Within i j → ⊥
  unfolding s_b_comment
  rest_broken i k j (m, r, e) l w = no_line_end i m k j e (maybe_on i m r) l w

  line_broken : (i k m j : ℕ) → l_comment cs k m → i ≤ k → m ≤ j → Within i j → ⊥
  unfolding l_comment
  line_broken i k m j (f, (a, s, (b, r, e))) l h w =
      let x : k ≤ b = maybe_on k b (inr (a, s, r)) in no_line_end i b m j e (omega (arith, l, x)) h w

  lines_on : (m p : ℕ) → any_span (l_comment cs) m p → m ≤ p
  lines_on m p s = spans_onward (λ a b r. on_line a b r) s
    where
      on_line : (a b : ℕ) → l_comment cs a b → a ≤ b
      on_line a b r = let x : a < b = l_comment_onward cs a b r in omega (arith, x)

  k_lines : (n i j : ℕ) → separate_lines cs n i j → Within i j → sep cs i j
  unfolding separate_lines s_l_comments sep
  k_lines n i j (inr s) w = s
  k_lines n i j (inl (p, (m, inl r, lines), (q, ind, spaces))) w =
      let a = indent_run cs n p q ind in
      let x : m ≤ p = lines_on m p lines in
      absurd (rest_broken i m j r (omega (arith, a.0, spaces.0, x)) w)
  k_lines n i j (inl (p, (m, inr (e, s), Spans.done f), (q, ind, spaces))) w =
      let all = spaces_join n p q j ind spaces in
      let at : p ≡ i = f ∙ e in
      pick (eq-or-lt_of_le (subst (λ x. x ≤ j) at all.0)) (subst (λ x. run cs is_space x j) at all)
    where
      pick : (i ≡ j) ⊎ (i < j) → run cs is_space i j → some_run cs is_space i j ⊎ ((j ≡ i) × StartsLine cs i)
      pick (inl g) r = inr (sym g, s)
      pick (inr g) r = inl (r, g)
  k_lines n i j (inl (p, (m, inr (e, s), Spans.then k l lines), (q, ind, spaces))) w =
      let a = indent_run cs n p q ind in
      let x : k ≤ p = lines_on k p lines in
      absurd (line_broken i m k j l (omega (arith, e)) (omega (arith, a.0, spaces.0, x)) w)

  k_separate : (n : ℕ) (c : Ctx) → ToSpan (separate cs n c) (separate cs 0 (key_of c))
  unfolding separate key_of
  k_separate n block_key i j r = (on_separate cs n block_key i j r, λ w. r)
  k_separate n flow_key i j r = (on_separate cs n flow_key i j r, λ w. r)
  k_separate n block_out i j r = (on_separate cs n block_out i j r, λ w. k_lines n i j r w)
  k_separate n block_in i j r = (on_separate cs n block_in i j r, λ w. k_lines n i j r w)
  k_separate n flow_out i j r = (on_separate cs n flow_out i j r, λ w. k_lines n i j r w)
  k_separate n flow_in i j r = (on_separate cs n flow_in i j r, λ w. k_lines n i j r w)

  k_properties : (handles : Handles) (n : ℕ) (c : Ctx) → To (tags.c-ns-properties cs handles n c) (tags.c-ns-properties cs handles 0 (key_of c))
  unfolding tags.c-ns-properties
  k_properties handles n c = k_either
      (k_taking (same (tags.c-ns-tag-property cs handles) (fwd_tag cs handles)) (λ t. k_either (k_gives _) (k_before (k_separate n c) (k_seen _ (same (tags.c-ns-anchor-property cs) (fwd_anchor cs))))))
      (k_taking (same (tags.c-ns-anchor-property cs) (fwd_anchor cs)) (λ a. k_either (k_gives _) (k_before (k_separate n c) (k_seen _ (same (tags.c-ns-tag-property cs handles) (fwd_tag cs handles))))))

  -- ---- characters

  k_chr : (c : ℕ) → ToSpan (chr cs c) (chr cs c)
  k_chr c i j (h, e) = (omega (arith, e), λ w. (h, e))

  inner_key : (c : Ctx) → key_of (inner c) ≡ inner (key_of c)
  unfolding key_of inner
  inner_key block_out = refl
  inner_key block_in = refl
  inner_key flow_out = refl
  inner_key flow_in = refl
  inner_key block_key = refl
  inner_key flow_key = refl

  k_ahead : (P Q : ℕ → Type 0) → ((i : ℕ) → P i → Q i) → ToSpan (ahead P) (ahead Q)
  k_ahead P Q f i j (e, p) = (omega (arith, e), λ w. (e, f i p))

  k_unsafe : (c : Ctx) (i : ℕ) → (Stands cs (flow.plain_safe c) i → ⊥) → Stands cs (flow.plain_safe (key_of c)) i → ⊥
  unfolding flow.plain_safe flow.is_flow key_of
  k_unsafe block_out i f = f
  k_unsafe block_in i f = f
  k_unsafe flow_out i f = f
  k_unsafe flow_in i f = f
  k_unsafe block_key i f = f
  k_unsafe flow_key i f = f

  -- ---- scalars

  -- a break stands inside
  abbrev HasBreak : Rule (List ℕ) → Type 0
  HasBreak R = (i j : ℕ) (v : List ℕ) → R i j v → (x : ℕ) × (y : ℕ) × (i ≤ x) × brk cs x y × (y ≤ j)

  margin_on : (n i j : ℕ) → (indent cs n ◆ run cs is_white) i j → i ≤ j
  margin_on n i j (k, a, b) = let x : i ≤ k = (indent_run cs n i k a).0 in let y : k ≤ j = b.0 in omega (arith, x, y)

  empty_on : (n i j : ℕ) → flow.empty_line cs n i j → i ≤ j
  unfolding flow.empty_line less
  empty_on n i j (k, inl m, b) = let x : i ≤ k = margin_on n i k m in let y : k < j = brk_onward cs k j b in omega (arith, x, y)
  empty_on n i j (k, inr m, b) = let x : i ≤ k = m.1.0 in let y : k < j = brk_onward cs k j b in omega (arith, x, y)

  empties_on : (n a i j : ℕ) → times a (flow.empty_line cs n) i j → i ≤ j
  empties_on n zero i j e = omega (arith, e)
  empties_on n (suc a) i j (k, r, more) = let x : i ≤ k = empty_on n i k r in let y : k ≤ j = empties_on n a k j more in omega (arith, x, y)

  fold_break : (n : ℕ) → HasBreak (flow.s-flow-folded cs n)
  unfolding flow.s-flow-folded
  fold_break n i j v (k, (m, ws, b), (l, (a, e, q), mar)) =
      let x : k ≤ l = empties_on n a k l e in let y : l ≤ j = margin_on n l j mar in
      (m, k, ws.0, b, omega (arith, x, y))

  escape_break : (n : ℕ) → HasBreak (flow.s-double-escaped cs n)
  unfolding flow.s-double-escaped
  escape_break n i j v (k, (m, (h, f), b), (l, (a, e, q), mar)) =
      let x : k ≤ l = empties_on n a k l e in let y : l ≤ j = margin_on n l j mar in
      (m, k, omega (arith, f), b, omega (arith, x, y))

  several_break : (c : Ctx) (R : Rule (List ℕ)) → HasBreak R → HasBreak (flow.several cs c R)
  several_break block_key R h i j v r = absurd r
  several_break flow_key R h i j v r = absurd r
  several_break block_out R h i j v r = h i j v r
  several_break block_in R h i j v r = h i j v r
  several_break flow_out R h i j v r = h i j v r
  several_break flow_in R h i j v r = h i j v r

  none_of : HasBreak never
  none_of i j v r = absurd r

  -- ---- plain

  line_to : (P Q : ℕ → Type 0) (c d : Ctx) → ((i : ℕ) → P i → Q i) → ((i : ℕ) → flow.PlainChar cs c i → flow.PlainChar cs d i) → To (flow.plain_line cs P c) (flow.plain_line cs Q d)
  unfolding flow.plain_line
  line_to P Q c d f g i j v ((nb, (k, (p, e), (le, all))), q) =
      (omega (arith, e, le), λ w. ((nb, (k, (f i p, e), (le, λ m a b. pick m (all m a b)))), q))
    where
      pick : (m : ℕ) → flow.PlainChar cs c m ⊎ Stands cs is_white m → flow.PlainChar cs d m ⊎ Stands cs is_white m
      pick m (inl x) = inl (g m x)
      pick m (inr x) = inr x

  first_to : (c : Ctx) (i : ℕ) → flow.PlainFirst cs c i → flow.PlainFirst cs (key_of c) i
  unfolding flow.PlainFirst flow.plain_safe flow.is_flow key_of
  first_to block_out i p = p
  first_to block_in i p = p
  first_to flow_out i p = p
  first_to flow_in i p = p
  first_to block_key i p = p
  first_to flow_key i p = p

  char_to : (c : Ctx) (i : ℕ) → flow.PlainChar cs c i → flow.PlainChar cs (key_of c) i
  unfolding flow.PlainChar flow.plain_safe flow.is_flow key_of
  char_to block_out i p = p
  char_to block_in i p = p
  char_to flow_out i p = p
  char_to flow_in i p = p
  char_to block_key i p = p
  char_to flow_key i p = p

  k_plain : (n : ℕ) (c : Ctx) → To (flow.ns-plain cs n c) (flow.ns-plain cs 0 (key_of c))
  unfolding flow.ns-plain
  k_plain n c = k_where (Unmarked cs) (k_joined (line_to _ _ c (key_of c) (first_to c) (char_to c)) more)
    where
      lines : To (flow.several cs c (flow.s-flow-folded cs n) ⨾ flow.plain_line cs (flow.PlainChar cs c) c) (flow.several cs (key_of c) (flow.s-flow-folded cs 0) ⨾ flow.plain_line cs (flow.PlainChar cs (key_of c)) (key_of c))
      lines i j v (k, ys, zs, r, p, e) =
          let b = several_break c (flow.s-flow-folded cs n) (fold_break n) i k ys r in
          let l : b.0 < b.1 = brk_onward cs b.0 b.1 b.3 in
          let q : k ≤ j = (line_to _ (flow.PlainChar cs c) c c (λ i x. x) (λ i x. x) k j zs p).0 in
          (omega (arith, b.2, b.4, l, q), λ w. absurd (no_break i b.0 b.1 j b.3 b.2 (omega (arith, b.4, q)) w.0))

      more : To (any (flow.several cs c (flow.s-flow-folded cs n) ⨾ flow.plain_line cs (flow.PlainChar cs c) c)) (any (flow.several cs (key_of c) (flow.s-flow-folded cs 0) ⨾ flow.plain_line cs (flow.PlainChar cs (key_of c)) (key_of c)))
      more = k_any lines

  -- ---- quoted

  module _ (solid loose folded escaped : Rule (List ℕ)) (fs : Forward solid) (fl : Forward loose) (hf : HasBreak folded) (he : HasBreak escaped) where
    line_on : Forward (flow.quoted_line cs solid loose folded escaped)
    line_on i j v r = (k_any (k_either (same solid fs) (same loose fl)) i j v r).0

    broken : HasBreak (flow.broken_line cs solid loose folded escaped)
    broken i j v (inl (k, ys, zs, r, f, e)) =
        let a : i ≤ k = (k_any (k_joined (k_any (same loose fl)) (same solid fs)) i k ys r).0 in
        let b = hf k j zs f in
        (b.0, b.1, omega (arith, a, b.2), b.3, b.4)
    broken i j v (inr (k, ys, zs, r, f, e)) =
        let a : i ≤ k = line_on i k ys r in
        let b = he k j zs f in
        (b.0, b.1, omega (arith, a, b.2), b.3, b.4)

    broken_to : (S : Rule (List ℕ)) → To (flow.broken_line cs solid loose folded escaped) S
    broken_to S i j v r =
        let b = broken i j v r in
        let l : b.0 < b.1 = brk_onward cs b.0 b.1 b.3 in
        (omega (arith, b.2, b.4, l), λ w. absurd (no_break i b.0 b.1 j b.3 b.2 b.4 w.0))

    k_lines_of : (folded' escaped' : Rule (List ℕ)) → To (flow.quoted_lines cs solid loose folded escaped) (flow.quoted_lines cs solid loose folded' escaped')
    k_lines_of folded' escaped' = k_either (same _ line_on) (k_joined (broken_to _)
        (k_joined (k_any (k_joined (same solid fs) (broken_to _))) (k_optional (k_joined (same solid fs) (same _ line_on)))))

  white_on : Forward (flow.white_text cs)
  white_on i j v (a, (h, t, e), q) = omega (arith, e)

  single_on : Forward (flow.ns-single-char cs)
  unfolding flow.ns-single-char
  single_on i j v (a, inl (h, t, e), q) = omega (arith, e)
  single_on i j v (a, inr (k, (m, (h, e), (g, f)), (d, x)), q) = omega (arith, e, f, d)

  k_single : (n : ℕ) (c : Ctx) → To (flow.c-single-quoted cs n c) (flow.c-single-quoted cs 0 (key_of c))
  unfolding flow.c-single-quoted
  k_single n c = k_where (Unmarked cs) (k_before (k_chr 39)
      (k_after (k_lines_of (flow.ns-single-char cs) (flow.white_text cs) (flow.several cs c (flow.s-flow-folded cs n)) never single_on white_on (several_break c (flow.s-flow-folded cs n) (fold_break n)) none_of _ _)
      (k_then (k_chr 39) (k_ahead _ _ (λ i x. x)))))

  numbered_on : (count : ℕ) → Forward (numbered cs count)
  unfolding numbered
  numbered_on count i j v (p, (a, (r, e), q)) = r.0.0

  double_on : Forward (flow.ns-double-char cs)
  unfolding flow.ns-double-char escape
  double_on i j v (a, inl (h, t, e), q) = omega (arith, e)
  double_on i j v (a, inr (k, (h, e), inl (b, (g, t, f), x)), q) = omega (arith, e, f)
  double_on i j v (a, inr (k, (h, e), inr (inl (m, (g, f), r))), q) = let x : m ≤ j = numbered_on 2 m j a r in omega (arith, e, f, x)
  double_on i j v (a, inr (k, (h, e), inr (inr (inl (m, (g, f), r)))), q) = let x : m ≤ j = numbered_on 4 m j a r in omega (arith, e, f, x)
  double_on i j v (a, inr (k, (h, e), inr (inr (inr (m, (g, f), r)))), q) = let x : m ≤ j = numbered_on 8 m j a r in omega (arith, e, f, x)

  k_double : (n : ℕ) (c : Ctx) → To (flow.c-double-quoted cs n c) (flow.c-double-quoted cs 0 (key_of c))
  unfolding flow.c-double-quoted
  k_double n c = k_where (Unmarked cs) (k_before (k_chr 34)
      (k_after (k_lines_of (flow.ns-double-char cs) (flow.white_text cs) (flow.several cs c (flow.s-flow-folded cs n)) (flow.several cs c (flow.s-double-escaped cs n)) double_on white_on
      (several_break c (flow.s-flow-folded cs n) (fold_break n)) (several_break c (flow.s-double-escaped cs n) (escape_break n)) _ _)
      (k_chr 34)))

  -- ---- nodes

  module _ (Wide : Type 0) (handles : Handles) where
    module _ (Open : Type 0) (inside : Part → Rule (List Event)) where
      -- what is inside is read as in a key
      abbrev Inside : Type 0
      Inside = (n : ℕ) (c : Ctx) → To (inside (yaml_part n c)) (inside (yaml_part 0 (key_of c))) × To (inside (json_part n c)) (inside (json_part 0 (key_of c)))
          × To (inside (pair_part n c)) (inside (pair_part 0 (key_of c)))

      k_flow : Inside → (n : ℕ) (c : Ctx) → To (nodes.inside_flow cs Wide handles Open inside n c) (nodes.inside_flow cs Wide handles Open inside 0 (key_of c))
      k_flow h n c = k_either (h n c).0 (h n c).1

      k_yaml : (n : ℕ) (c : Ctx) → To (nodes.ns-flow-yaml-node cs Wide handles Open inside n c) (nodes.ns-flow-yaml-node cs Wide handles Open inside 0 (key_of c))
      unfolding nodes.ns-flow-yaml-node
      k_yaml n c = k_either (k_seen _ (same (tags.c-ns-alias-node cs) (fwd_alias cs))) (k_either (k_seen _ (k_plain n c))
          (k_taking (k_properties handles n c) (λ p. k_either (k_before (k_separate n c) (k_seen _ (k_plain n c))) (k_gives _))))

      k_parted : (n : ℕ) (c : Ctx) (R S : Rule (List Event)) → To R S → To (nodes.parted cs Wide handles Open inside n c R) (nodes.parted cs Wide handles Open inside 0 (key_of c) S)
      k_parted n c R S f = k_joined (k_any (k_after f (k_then (k_chr 44) (k_maybe (k_separate n c))))) (k_optional f)

      k_value : Inside → (n : ℕ) (c : Ctx) → To (nodes.c-ns-flow-map-separate-value cs Wide handles Open inside n c) (nodes.c-ns-flow-map-separate-value cs Wide handles Open inside 0 (key_of c))
      unfolding nodes.c-ns-flow-map-separate-value
      k_value h n c = k_before (k_then (k_chr 58) (k_ahead _ _ (k_unsafe c))) (k_either (k_before (k_separate n c) (k_flow h n c)) (k_gives _))

      k_adjacent : Inside → (n : ℕ) (c : Ctx) → To (nodes.c-ns-flow-map-adjacent-value cs Wide handles Open inside n c) (nodes.c-ns-flow-map-adjacent-value cs Wide handles Open inside 0 (key_of c))
      unfolding nodes.c-ns-flow-map-adjacent-value
      k_adjacent h n c = k_before (k_chr 58) (k_either (k_before (k_maybe (k_separate n c)) (k_flow h n c)) (k_gives _))

      k_implicit : Inside → (n : ℕ) (c : Ctx) → To (nodes.ns-flow-map-implicit-entry cs Wide handles Open inside n c) (nodes.ns-flow-map-implicit-entry cs Wide handles Open inside 0 (key_of c))
      unfolding nodes.ns-flow-map-implicit-entry nodes.ns-flow-map-yaml-key-entry nodes.c-ns-flow-map-json-key-entry
      k_implicit h n c = k_either
          (k_joined (h n c).0 (k_either (k_before (k_maybe (k_separate n c)) (k_value h n c)) (k_gives _)))
          (k_joined (h n c).1 (k_either (k_before (k_maybe (k_separate n c)) (k_adjacent h n c)) (k_gives _)))

      k_empty_key : Inside → (n : ℕ) (c : Ctx) → To (nodes.c-ns-flow-map-empty-key-entry cs Wide handles Open inside n c) (nodes.c-ns-flow-map-empty-key-entry cs Wide handles Open inside 0 (key_of c))
      unfolding nodes.c-ns-flow-map-empty-key-entry
      k_empty_key h n c = k_joined (k_gives _) (k_value h n c)

      k_explicit : Inside → (n : ℕ) (c : Ctx) → To (nodes.ns-flow-map-explicit-entry cs Wide handles Open inside n c) (nodes.ns-flow-map-explicit-entry cs Wide handles Open inside 0 (key_of c))
      unfolding nodes.ns-flow-map-explicit-entry
      k_explicit h n c = k_before (k_then (k_chr 63) (k_separate n c)) (k_either (k_implicit h n c) (k_either (k_empty_key h n c) (k_joined (k_gives _) (k_gives _))))

      k_entry : Inside → (n : ℕ) (c : Ctx) → To (nodes.ns-flow-map-entry cs Wide handles Open inside n c) (nodes.ns-flow-map-entry cs Wide handles Open inside 0 (key_of c))
      unfolding nodes.ns-flow-map-entry
      k_entry h n c = k_either (k_implicit h n c) (k_given Wide (k_either (k_empty_key h n c) (k_explicit h n c)))

      k_key : (c : Ctx) → ToSpan (sep cs) (sep cs)
      unfolding separate key_of
      k_key c = k_separate 0 flow_key

      k_pair : Inside → (n : ℕ) (c : Ctx) → To (nodes.ns-flow-pair cs Wide handles Open inside n c) (nodes.ns-flow-pair cs Wide handles Open inside 0 (key_of c))
      unfolding nodes.ns-flow-pair nodes.ns-s-implicit-yaml-key nodes.c-s-implicit-json-key key_of
      k_pair h n c = k_given Open (k_seen _ (k_either (k_joined (k_where _ (k_after (h 0 flow_key).0 (k_maybe (k_key c)))) (k_value h n c))
          (k_either (k_joined (k_where _ (k_after (h 0 flow_key).1 (k_maybe (k_key c)))) (k_adjacent h n c))
          (k_given Wide (k_either (k_empty_key h n c) (k_explicit h n c))))))

      k_items : Inside → (n : ℕ) (c : Ctx) → To (inside (pair_part n (inner c)) ∪ nodes.inside_flow cs Wide handles Open inside n (inner c))
          (inside (pair_part 0 (inner (key_of c))) ∪ nodes.inside_flow cs Wide handles Open inside 0 (inner (key_of c)))
      k_items h n c = subst (λ x. To (inside (pair_part n (inner c)) ∪ nodes.inside_flow cs Wide handles Open inside n (inner c)) (inside (pair_part 0 x) ∪ nodes.inside_flow cs Wide handles Open inside 0 x))
          (inner_key c) (k_either (h n (inner c)).2 (k_flow h n (inner c)))

      k_entries : Inside → (n : ℕ) (c : Ctx) → To (nodes.ns-flow-map-entry cs Wide handles Open inside n (inner c)) (nodes.ns-flow-map-entry cs Wide handles Open inside 0 (inner (key_of c)))
      k_entries h n c = subst (λ x. To (nodes.ns-flow-map-entry cs Wide handles Open inside n (inner c)) (nodes.ns-flow-map-entry cs Wide handles Open inside 0 x)) (inner_key c) (k_entry h n (inner c))

      k_seq : Inside → (p : Props) (n : ℕ) (c : Ctx) → To (nodes.c-flow-sequence cs Wide handles Open inside p n c) (nodes.c-flow-sequence cs Wide handles Open inside p 0 (key_of c))
      unfolding nodes.c-flow-sequence
      k_seq h p n c = k_given Open (k_seen _ (k_before (k_then (k_chr 91) (k_maybe (k_separate n c)))
          (k_after (k_parted n c _ _ (k_after (k_items h n c) (k_maybe (k_separate n c)))) (k_chr 93))))

      k_map : Inside → (p : Props) (n : ℕ) (c : Ctx) → To (nodes.c-flow-mapping cs Wide handles Open inside p n c) (nodes.c-flow-mapping cs Wide handles Open inside p 0 (key_of c))
      unfolding nodes.c-flow-mapping
      k_map h p n c = k_given Open (k_seen _ (k_before (k_then (k_chr 123) (k_maybe (k_separate n c)))
          (k_after (k_parted n c _ _ (k_after (k_entries h n c) (k_maybe (k_separate n c)))) (k_chr 125))))

      k_json : Inside → (n : ℕ) (c : Ctx) → To (nodes.c-flow-json-node cs Wide handles Open inside n c) (nodes.c-flow-json-node cs Wide handles Open inside 0 (key_of c))
      unfolding nodes.c-flow-json-node
      k_json h n c = k_taking (k_either (k_gives no_props) (k_after (k_properties handles n c) (k_separate n c)))
          (λ p. k_either (k_seen _ (k_single n c)) (k_either (k_seen _ (k_double n c)) (k_either (k_seq h p n c) (k_map h p n c))))

    k_reads : (room n : ℕ) (c : Ctx) → To (reads cs Wide handles room (yaml_part n c)) (reads cs Wide handles room (yaml_part 0 (key_of c)))
        × To (reads cs Wide handles room (json_part n c)) (reads cs Wide handles room (json_part 0 (key_of c)))
        × To (reads cs Wide handles room (pair_part n c)) (reads cs Wide handles room (pair_part 0 (key_of c)))
    unfolding reads
    k_reads zero n c = (k_yaml ⊥ (λ q. never) n c, k_json ⊥ (λ q. never) (λ m d. (k_never _, k_never _, k_never _)) n c, k_pair ⊥ (λ q. never) (λ m d. (k_never _, k_never _, k_never _)) n c)
    k_reads (suc room) n c =
        let h : Inside (Unit {0}) (reads cs Wide handles room) = λ m d. k_reads room m d in
        (k_yaml (Unit {0}) (reads cs Wide handles room) n c, k_json (Unit {0}) (reads cs Wide handles room) h n c, k_pair (Unit {0}) (reads cs Wide handles room) h n c)

pub block_key_too : (cs : List ℕ) (Wide : Type 0) (handles : Handles) (room n : ℕ) (kind : Kind) (i j : ℕ) (es : List Event) →
    reads cs Wide handles room (part_of kind n flow_out) i j es → OneLine cs i j → j < length cs → reads cs Wide handles room (part_of kind 0 block_key) i j es
unfolding key_of
block_key_too cs Wide handles room n Yaml i j es r o l = ((k_reads cs Wide handles room n flow_out).0 i j es r).1 (o, l)
block_key_too cs Wide handles room n Json i j es r o l = ((k_reads cs Wide handles room n flow_out).1 i j es r).1 (o, l)

pub flow_key_too : (cs : List ℕ) (Wide : Type 0) (handles : Handles) (room n : ℕ) (kind : Kind) (c : Ctx) (i j : ℕ) (es : List Event) → IsInner c →
    reads cs Wide handles room (part_of kind n c) i j es → OneLine cs i j → j < length cs → reads cs Wide handles room (part_of kind 0 flow_key) i j es
unfolding key_of
flow_key_too cs Wide handles room n Yaml flow_in i j es b r o l = ((k_reads cs Wide handles room n flow_in).0 i j es r).1 (o, l)
flow_key_too cs Wide handles room n Json flow_in i j es b r o l = ((k_reads cs Wide handles room n flow_in).1 i j es r).1 (o, l)
flow_key_too cs Wide handles room n Yaml flow_key i j es b r o l = ((k_reads cs Wide handles room n flow_key).0 i j es r).1 (o, l)
flow_key_too cs Wide handles room n Json flow_key i j es b r o l = ((k_reads cs Wide handles room n flow_key).1 i j es r).1 (o, l)
flow_key_too cs Wide handles room n kind _ i j es b r o l = absurd b
