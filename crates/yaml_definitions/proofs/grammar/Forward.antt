-- A reading ends at or after its start: a law over all productions, one line for each, by induction on the room.
use Rattle.std.proofs.Common.{ℕ, zero, suc, ◌≤◌, Bool, List, [], ◌∷◌, Option, Some, None, arith, inl, inr}
use Rattle.std.specs.Prelude.{codes}
use Rattle.yaml_definitions.specs.grammar.Rules.{Span, Rule, ◌◆◌, ◌⊔◌, ◌▸◌, ◌◂◌, ◌⨾◌, ◌∪◌, gives, given, never, maybe, nowhere, optional, some, any, any_span, times, counted, Any, done, then, Spans, chr, word, one, at, letter, run, some_run, whole_run, exactly, how_many, stretch, copied, ahead, looking, with_value, seen, mapped, limited, where_both, where_value}
use Rattle.yaml_definitions.specs.grammar.Characters.{b-break as brk, numbered, c-ns-esc-char as escape, is_space, is_white, is_nb}
use Rattle.yaml_definitions.specs.grammar.Separation.{Ctx, block_out, block_in, flow_out, flow_in, block_key, flow_key, s-indent as indent, s-indent-less-than as less, s-separate-in-line as sep, s-separate as separate, s-separate-lines as separate_lines, s-l-comments as s_l_comments, s-b-comment as s_b_comment, l-comment as l_comment, b-comment as line_end, c-nb-comment-text as comment}
use Rattle.yaml_definitions.specs.grammar.Tags as tags
use Rattle.yaml_definitions.specs.grammar.FlowScalars as flow
use Rattle.yaml_definitions.specs.grammar.BlockScalars as block
use Rattle.yaml_definitions.specs.grammar.Nodes as nodes
use Rattle.yaml_definitions.specs.grammar.Directives as directives
use Rattle.yaml_definitions.specs.grammar.Streams as streams
use Rattle.yaml_definitions.specs.grammar.Nodes.{Part, yaml_part, json_part, pair_part, block_part, compact_part, part, reads}
use Rattle.yaml_definitions.specs.model.Event.{Event}
use Rattle.yaml_definitions.specs.grammar.Events.{Props}
pub use Rattle.yaml_definitions.specs.grammar.Laws.{Onward, Forward}

-- ---- the combinators

pub on_then : {R S : Span} → Onward R → Onward S → Onward (R ◆ S)
on_then f g i j (k, r, s) = let a : i ≤ k = f i k r in let b : k ≤ j = g k j s in omega (arith, a, b)

pub on_or : {R S : Span} → Onward R → Onward S → Onward (R ⊔ S)
on_or f g i j (inl r) = f i j r
on_or f g i j (inr s) = g i j s

pub on_nowhere : Onward nowhere
on_nowhere i j e = omega (arith, e)

pub on_ahead : (P : ℕ → Type 0) → Onward (ahead P)
on_ahead P i j (e, h) = omega (arith, e)

pub on_limited : (P : ℕ → ℕ → Type 0) {R : Span} → Onward R → Onward (limited P R)
on_limited P f i j (p, r) = f i j r

pub on_spans : {R : Span} → Onward R → Onward (any_span R)
on_spans {R} f i j r = go i r
  where
    go : (i : ℕ) → Spans R j i → i ≤ j
    go i (Spans.done e) = omega (arith, e)
    go i (Spans.then k r more) = let a : i ≤ k = f i k r in let b : k ≤ j = go k more in omega (arith, a, b)

pub on_times : {R : Span} → Onward R → (n : ℕ) → Onward (times n R)
on_times f zero i j e = omega (arith, e)
on_times {R} f (suc n) i j (k, r, s) = let a : i ≤ k = f i k r in let b : k ≤ j = on_times {R = R} f n k j s in omega (arith, a, b)

pub before : {V : Type 0} {R : Span} {S : Rule V} → Onward R → Forward S → Forward (R ▸ S)
before f g i j v (k, r, s) = let a : i ≤ k = f i k r in let b : k ≤ j = g k j v s in omega (arith, a, b)

pub after : {V : Type 0} {R : Rule V} {S : Span} → Forward R → Onward S → Forward (R ◂ S)
after f g i j v (k, r, s) = let a : i ≤ k = f i k v r in let b : k ≤ j = g k j s in omega (arith, a, b)

pub both : {A : Type 0} {R S : Rule (List A)} → Forward R → Forward S → Forward (R ⨾ S)
both f g i j v (k, ys, zs, r, s, e) = let a : i ≤ k = f i k ys r in let b : k ≤ j = g k j zs s in omega (arith, a, b)

pub either : {V : Type 0} {R S : Rule V} → Forward R → Forward S → Forward (R ∪ S)
either f g i j v (inl r) = f i j v r
either f g i j v (inr s) = g i j v s

pub taking : {A V : Type 0} {R : Rule A} {S : A → Rule V} → Forward R → ((a : A) → Forward (S a)) → Forward (with_value R S)
taking f g i j v (k, a, r, s) = let x : i ≤ k = f i k a r in let y : k ≤ j = g a k j v s in omega (arith, x, y)

pub for_some : {V : Type 0} {R : ℕ → Rule V} → ((a : ℕ) → Forward (R a)) → Forward (some R)
for_some f i j v (a, r) = f a i j v r

pub giving : {V : Type 0} (w : V) → Forward (gives w)
giving w i j v (e, h) = omega (arith, e)

pub none_at_all : {V : Type 0} → Forward {V = V} never
none_at_all i j v h = absurd h

pub viewed : {A V : Type 0} (g : A → V) {R : Rule A} → Forward R → Forward (seen g R)
viewed g f i j v (a, r, e) = f i j a r

pub through : {A V : Type 0} (g : A → Option V) {R : Rule A} → Forward R → Forward (mapped g R)
through g f i j v (a, r, e) = f i j a r

pub under : {V : Type 0} (P : Type 0) {R : Rule V} → Forward R → Forward (given P R)
under P f i j v (p, r) = f i j v r

pub bounded : {V : Type 0} (P : ℕ → ℕ → Type 0) {R : Rule V} → Forward R → Forward (where_both P R)
bounded P f i j v (p, r) = f i j v r

pub holding : {V : Type 0} (P : V → Type 0) {R : Rule V} → Forward R → Forward (where_value P R)
holding P f i j v (p, r) = f i j v r

pub looked : {V : Type 0} (R : Rule V) → Forward (looking R)
looked R i j v (e, k, r) = omega (arith, e)

pub repeated : {A : Type 0} {R : Rule (List A)} → Forward R → Forward (any R)
repeated {A} {R} f i j v r = go i v r
  where
    go : (i : ℕ) (v : List A) → Any R j i v → i ≤ j
    go i v (done e g) = omega (arith, e)
    go i v (then k ys zs r more e) = let a : i ≤ k = f i k ys r in let b : k ≤ j = go k zs more in omega (arith, a, b)

pub perhaps : {A : Type 0} {R : Rule (List A)} → Forward R → Forward (optional R)
perhaps {A} f = either (giving []) f

pub counting : {R : Span} → Onward R → Forward (counted R)
counting {R} f i j n r = on_times {R = R} f n i j r

pub on_maybe : {R : Span} → Onward R → Onward (maybe R)
on_maybe f = on_or on_nowhere f

module _ (cs : List ℕ) where
  pub copying : {R : Span} → Onward R → Forward (copied cs R)
  copying f i j v (r, e) = f i j r

  pub on_chr : (c : ℕ) → Onward (chr cs c)
  on_chr c i j (h, e) = omega (arith, e)

  pub on_word : (s : List ℕ) → Onward (word cs s)
  on_word [] i j e = omega (arith, e)
  on_word (c ∷ s) i j (k, (h, e), r) = let a : k ≤ j = on_word s k j r in omega (arith, e, a)

  pub on_one : (p : ℕ → Bool) → Onward (one cs p)
  on_one p i j (h, e) = omega (arith, e)

  pub on_at : (P : ℕ → Type 0) → Onward (at cs P)
  on_at P i j (h, e) = omega (arith, e)

  pub on_letter : (p : ℕ → Bool) → Forward (letter cs p)
  on_letter p i j v (h, t, e) = omega (arith, e)

  pub on_run : (p : ℕ → Bool) → Onward (run cs p)
  on_run p i j (le, h) = le

  pub on_stretch : (P : ℕ → Type 0) → Onward (stretch cs P)
  on_stretch P i j (le, h) = le

  pub on_some_run : (p : ℕ → Bool) → Onward (some_run cs p)
  on_some_run p i j ((le, h), lt) = le

  pub on_whole_run : (p : ℕ → Bool) → Onward (whole_run cs p)
  on_whole_run p i j ((le, h), lt, stop) = le

  pub on_exactly : (n : ℕ) (p : ℕ → Bool) → Onward (exactly cs n p)
  on_exactly n p i j ((le, h), e) = le

  -- ---- characters and separation

  pub on_brk : Onward (brk cs)
  unfolding brk
  on_brk = on_or (on_then (on_chr 13) (on_chr 10)) (on_or (on_then (on_chr 13) (on_ahead _)) (on_then (on_ahead _) (on_chr 10)))

  pub on_indent : (n : ℕ) → Onward (indent cs n)
  unfolding indent
  on_indent n = on_exactly n is_space

  pub on_less : (n : ℕ) → Onward (less cs n)
  unfolding less
  on_less n = on_limited _ (on_run is_space)

  pub on_sep : Onward (sep cs)
  unfolding sep
  on_sep = on_or (on_some_run is_space) (on_ahead _)

  pub on_comment : Onward (comment cs)
  unfolding comment
  on_comment = on_then (on_chr 35) (on_run is_nb)

  pub on_line_end : Onward (line_end cs)
  unfolding line_end
  on_line_end = on_or on_brk (on_ahead _)

  pub on_s_b_comment : Onward (s_b_comment cs)
  unfolding s_b_comment
  on_s_b_comment = on_then (on_maybe (on_then on_sep (on_maybe on_comment))) on_line_end

  pub on_l_comment : Onward (l_comment cs)
  unfolding l_comment
  on_l_comment = on_limited _ (on_then on_sep (on_then (on_maybe on_comment) on_line_end))

  pub on_s_l_comments : Onward (s_l_comments cs)
  unfolding s_l_comments
  on_s_l_comments = on_then (on_or on_s_b_comment (on_ahead _)) (on_spans on_l_comment)

  pub on_separate_lines : (n : ℕ) → Onward (separate_lines cs n)
  unfolding separate_lines
  on_separate_lines n = on_or (on_then on_s_l_comments (on_then (on_indent n) (on_run is_space))) on_sep

  pub on_separate : (n : ℕ) (c : Ctx) → Onward (separate cs n c)
  unfolding separate
  on_separate n block_key = on_sep
  on_separate n flow_key = on_sep
  on_separate n block_out = on_separate_lines n
  on_separate n block_in = on_separate_lines n
  on_separate n flow_out = on_separate_lines n
  on_separate n flow_in = on_separate_lines n

  -- ---- tags and names

  pub on_tag_char : Onward (tags.tag_char cs)
  unfolding tags.tag_char
  on_tag_char = on_or (on_one _) (on_then (on_chr 37) (on_then (on_one _) (on_one _)))

  pub on_uri_char : Onward (tags.uri_char cs)
  unfolding tags.uri_char
  on_uri_char = on_or (on_one _) (on_then (on_chr 37) (on_then (on_one _) (on_one _)))

  pub fwd_tag_handle : Forward (tags.c-tag-handle cs)
  unfolding tags.c-tag-handle
  fwd_tag_handle = copying (on_or (on_then (on_chr 33) (on_then (on_some_run _) (on_chr 33))) (on_or (on_then (on_chr 33) (on_chr 33)) (on_chr 33)))

  pub fwd_verbatim_tag : Forward (tags.c-verbatim-tag cs)
  unfolding tags.c-verbatim-tag
  fwd_verbatim_tag = before (on_word (codes "!<")) (after (through _ (copying (on_then on_uri_char (on_spans on_uri_char)))) (on_chr 62))

  pub fwd_shorthand_tag : (h : tags.Handles) → Forward (tags.c-ns-shorthand-tag cs h)
  unfolding tags.c-ns-shorthand-tag
  fwd_shorthand_tag h = taking fwd_tag_handle (λ handle. through _ (copying (on_then on_tag_char (on_spans on_tag_char))))

  pub fwd_non_specific_tag : Forward (tags.c-non-specific-tag cs)
  unfolding tags.c-non-specific-tag
  fwd_non_specific_tag = before (on_chr 33) (giving _)

  pub fwd_tag : (h : tags.Handles) → Forward (tags.c-ns-tag-property cs h)
  unfolding tags.c-ns-tag-property
  fwd_tag h = after (either fwd_verbatim_tag (either (fwd_shorthand_tag h) fwd_non_specific_tag)) (on_ahead _)

  pub fwd_name : Forward (tags.ns-anchor-name cs)
  unfolding tags.ns-anchor-name
  fwd_name = copying (on_whole_run _)

  pub fwd_anchor : Forward (tags.c-ns-anchor-property cs)
  unfolding tags.c-ns-anchor-property
  fwd_anchor = before (on_chr 38) fwd_name

  pub fwd_alias : Forward (tags.c-ns-alias-node cs)
  unfolding tags.c-ns-alias-node
  fwd_alias = before (on_chr 42) fwd_name

  pub fwd_properties : (h : tags.Handles) (n : ℕ) (c : Ctx) → Forward (tags.c-ns-properties cs h n c)
  unfolding tags.c-ns-properties
  fwd_properties h n c = either
      (taking (fwd_tag h) (λ t. either (giving _) (before (on_separate n c) (viewed _ fwd_anchor))))
      (taking fwd_anchor (λ a. either (giving _) (before (on_separate n c) (viewed _ (fwd_tag h)))))

  -- ---- flow scalars

  pub fwd_numbered : (count : ℕ) → Forward (numbered cs count)
  unfolding numbered
  fwd_numbered count = holding _ (viewed _ (copying (on_exactly count _)))

  pub fwd_escape : Forward (escape cs)
  unfolding escape
  fwd_escape = before (on_chr 92) (either (through _ (on_letter _))
      (either (before (on_chr 120) (fwd_numbered 2)) (either (before (on_chr 117) (fwd_numbered 4)) (before (on_chr 85) (fwd_numbered 8)))))

  pub on_empty_line : (n : ℕ) → Onward (flow.empty_line cs n)
  unfolding flow.empty_line
  on_empty_line n = on_then (on_or (on_then (on_indent n) (on_run is_white)) (on_less n)) on_brk

  pub fwd_fold : (n : ℕ) → Forward (flow.s-flow-folded cs n)
  unfolding flow.s-flow-folded
  fwd_fold n = before (on_then (on_run is_white) on_brk) (after (viewed _ (counting (on_empty_line n))) (on_then (on_indent n) (on_run is_white)))

  pub fwd_escaped_break : (n : ℕ) → Forward (flow.s-double-escaped cs n)
  unfolding flow.s-double-escaped
  fwd_escaped_break n = before (on_then (on_chr 92) on_brk) (after (viewed _ (counting (on_empty_line n))) (on_then (on_indent n) (on_run is_white)))

  pub fwd_several : (c : Ctx) {R : Rule (List ℕ)} → Forward R → Forward (flow.several cs c R)
  fwd_several block_key f = none_at_all
  fwd_several flow_key f = none_at_all
  fwd_several block_out f = f
  fwd_several block_in f = f
  fwd_several flow_out f = f
  fwd_several flow_in f = f

  module _ (solid loose folded escaped : Rule (List ℕ)) (f : Forward solid) (g : Forward loose) (h : Forward folded) (k : Forward escaped) where
    pub fwd_quoted_line : Forward (flow.quoted_line cs solid loose folded escaped)
    fwd_quoted_line = repeated (either f g)

    pub fwd_broken_line : Forward (flow.broken_line cs solid loose folded escaped)
    fwd_broken_line = either (both (repeated (both (repeated g) f)) h) (both fwd_quoted_line k)

    pub fwd_quoted_lines : Forward (flow.quoted_lines cs solid loose folded escaped)
    fwd_quoted_lines = either fwd_quoted_line (both fwd_broken_line (both (repeated (both f fwd_broken_line)) (perhaps (both f fwd_quoted_line))))

  pub fwd_white : Forward (flow.white_text cs)
  fwd_white = viewed _ (on_letter _)

  pub fwd_double_char : Forward (flow.ns-double-char cs)
  unfolding flow.ns-double-char
  fwd_double_char = viewed _ (either (on_letter _) fwd_escape)

  pub fwd_double : (n : ℕ) (c : Ctx) → Forward (flow.c-double-quoted cs n c)
  unfolding flow.c-double-quoted
  fwd_double n c = bounded _ (before (on_chr 34) (after
      (fwd_quoted_lines _ _ _ _ fwd_double_char fwd_white (fwd_several c (fwd_fold n)) (fwd_several c (fwd_escaped_break n))) (on_chr 34)))

  pub fwd_single_char : Forward (flow.ns-single-char cs)
  unfolding flow.ns-single-char
  fwd_single_char = viewed _ (either (on_letter _) (before (on_then (on_chr 39) (on_chr 39)) (giving _)))

  pub fwd_single : (n : ℕ) (c : Ctx) → Forward (flow.c-single-quoted cs n c)
  unfolding flow.c-single-quoted
  fwd_single n c = bounded _ (before (on_chr 39) (after
      (fwd_quoted_lines _ _ _ _ fwd_single_char fwd_white (fwd_several c (fwd_fold n)) none_at_all) (on_then (on_chr 39) (on_ahead _))))

  pub fwd_plain_line : (P : ℕ → Type 0) (c : Ctx) → Forward (flow.plain_line cs P c)
  unfolding flow.plain_line
  fwd_plain_line P c = copying (on_limited _ (on_then (on_at P) (on_stretch _)))

  pub fwd_plain : (n : ℕ) (c : Ctx) → Forward (flow.ns-plain cs n c)
  unfolding flow.ns-plain
  fwd_plain n c = bounded _ (both (fwd_plain_line _ c) (repeated (both (fwd_several c (fwd_fold n)) (fwd_plain_line _ c))))

  -- ---- block scalars

  pub fwd_digit : Forward (block.c-indentation-indicator cs)
  unfolding block.c-indentation-indicator
  fwd_digit = either (giving _) (viewed _ (on_letter _))

  pub fwd_sign : Forward (block.c-chomping-indicator cs)
  unfolding block.c-chomping-indicator
  fwd_sign = either (giving _) (either (before (on_chr 45) (giving _)) (before (on_chr 43) (giving _)))

  pub fwd_header : Forward (block.c-b-block-header cs)
  unfolding block.c-b-block-header
  fwd_header = after (either (taking fwd_digit (λ d. viewed _ fwd_sign)) (taking fwd_sign (λ s. viewed _ fwd_digit))) on_s_b_comment

  pub fwd_indentation : (col : ℕ) (d : Option ℕ) → Forward (block.indentation cs col d)
  unfolding block.indentation
  fwd_indentation col None = looked _
  fwd_indentation col (Some d) = before (on_ahead _) (giving _)

  pub on_few_spaces : (k : ℕ) → Onward (block.s-indent-less-or-equal cs k)
  on_few_spaces k = on_limited _ (on_run is_space)

  pub fwd_blank_line : (k : ℕ) → Forward (block.blank_line cs k)
  unfolding block.blank_line
  fwd_blank_line k = before (on_then (on_few_spaces k) on_brk) (giving _)

  pub fwd_text_line : (b : Bool) (k : ℕ) → Forward (block.text_line cs b k)
  unfolding block.text_line
  fwd_text_line b k = before (on_then (on_ahead _) (on_indent k)) (taking (copying (on_limited _ (on_some_run is_nb)))
      (λ xs. either (before on_brk (giving _)) (before (on_ahead _) (giving _))))

  pub fwd_lines : (b : Bool) (k : ℕ) → Forward (block.lines cs b k)
  unfolding block.lines
  fwd_lines b k = both (repeated (fwd_blank_line k)) (after
      (perhaps (both (fwd_text_line b k) (repeated (either (fwd_blank_line k) (fwd_text_line _ k)))))
      (on_maybe (on_then (on_few_spaces k) (on_ahead _))))

  pub on_comment_lines : (k : ℕ) → Onward (block.l-trail-comments cs k)
  unfolding block.l-trail-comments
  on_comment_lines k = on_then (on_less k) (on_then on_comment (on_then on_line_end (on_spans on_l_comment)))

  pub fwd_block_content : (b : Bool) (h : block.Header) (k : ℕ) → Forward (block.block_content cs b h k)
  unfolding block.block_content
  fwd_block_content b h k = after (viewed _ (fwd_lines _ k)) (on_then (on_ahead _) (on_maybe (on_comment_lines k)))

  pub fwd_block_scalar : (b : Bool) (col : ℕ) → Forward (block.block_scalar cs b col)
  fwd_block_scalar b col = taking fwd_header (λ h. taking (fwd_indentation col h.digit) (λ k. fwd_block_content b h k))

  pub fwd_literal : (col : ℕ) → Forward (block.c-l+literal cs col)
  unfolding block.c-l+literal
  fwd_literal col = before (on_chr 124) (fwd_block_scalar _ col)

  pub fwd_folded : (col : ℕ) → Forward (block.c-l+folded cs col)
  unfolding block.c-l+folded
  fwd_folded col = before (on_chr 62) (fwd_block_scalar _ col)

  -- ---- nodes

  module _ (Wide : Type 0) (handles : tags.Handles) where
    module _ (Open : Type 0) (inside : Part → Rule (List Event)) (fwd : (p : Part) → Forward (inside p)) where
      pub fwd_inside_flow : (n : ℕ) (c : Ctx) → Forward (nodes.inside_flow cs Wide handles Open inside n c)
      fwd_inside_flow n c = either (fwd (yaml_part n c)) (fwd (json_part n c))

      pub fwd_e : Forward (nodes.e-node cs Wide handles Open inside)
      fwd_e = giving _

      pub fwd_yaml_node : (n : ℕ) (c : Ctx) → Forward (nodes.ns-flow-yaml-node cs Wide handles Open inside n c)
      unfolding nodes.ns-flow-yaml-node
      fwd_yaml_node n c = either (viewed _ fwd_alias) (either (viewed _ (fwd_plain n c))
          (taking (fwd_properties handles n c) (λ p. either (before (on_separate n c) (viewed _ (fwd_plain n c))) (giving _))))

      pub on_gap : (n : ℕ) (c : Ctx) → Onward (maybe (separate cs n c))
      on_gap n c = on_maybe (on_separate n c)

      pub fwd_parted : (n : ℕ) (c : Ctx) {R : Rule (List Event)} → Forward R → Forward (nodes.parted cs Wide handles Open inside n c R)
      fwd_parted n c f = both (repeated (after f (on_then (on_chr 44) (on_gap n c)))) (perhaps f)

      pub fwd_value : (n : ℕ) (c : Ctx) → Forward (nodes.c-ns-flow-map-separate-value cs Wide handles Open inside n c)
      unfolding nodes.c-ns-flow-map-separate-value
      fwd_value n c = before (on_then (on_chr 58) (on_ahead _)) (either (before (on_separate n c) (fwd_inside_flow n c)) fwd_e)

      pub fwd_adjacent : (n : ℕ) (c : Ctx) → Forward (nodes.c-ns-flow-map-adjacent-value cs Wide handles Open inside n c)
      unfolding nodes.c-ns-flow-map-adjacent-value
      fwd_adjacent n c = before (on_chr 58) (either (before (on_gap n c) (fwd_inside_flow n c)) fwd_e)

      pub fwd_yaml_key_entry : (n : ℕ) (c : Ctx) → Forward (nodes.ns-flow-map-yaml-key-entry cs Wide handles Open inside n c)
      unfolding nodes.ns-flow-map-yaml-key-entry
      fwd_yaml_key_entry n c = both (fwd (yaml_part n c)) (either (before (on_gap n c) (fwd_value n c)) fwd_e)

      pub fwd_json_key_entry : (n : ℕ) (c : Ctx) → Forward (nodes.c-ns-flow-map-json-key-entry cs Wide handles Open inside n c)
      unfolding nodes.c-ns-flow-map-json-key-entry
      fwd_json_key_entry n c = both (fwd (json_part n c)) (either (before (on_gap n c) (fwd_adjacent n c)) fwd_e)

      pub fwd_implicit_entry : (n : ℕ) (c : Ctx) → Forward (nodes.ns-flow-map-implicit-entry cs Wide handles Open inside n c)
      unfolding nodes.ns-flow-map-implicit-entry
      fwd_implicit_entry n c = either (fwd_yaml_key_entry n c) (fwd_json_key_entry n c)

      pub fwd_empty_key : (n : ℕ) (c : Ctx) → Forward (nodes.c-ns-flow-map-empty-key-entry cs Wide handles Open inside n c)
      unfolding nodes.c-ns-flow-map-empty-key-entry
      fwd_empty_key n c = both fwd_e (fwd_value n c)

      pub fwd_explicit : (n : ℕ) (c : Ctx) → Forward (nodes.ns-flow-map-explicit-entry cs Wide handles Open inside n c)
      unfolding nodes.ns-flow-map-explicit-entry
      fwd_explicit n c = before (on_then (on_chr 63) (on_separate n c)) (either (fwd_implicit_entry n c) (either (fwd_empty_key n c) (both fwd_e fwd_e)))

      pub fwd_entry : (n : ℕ) (c : Ctx) → Forward (nodes.ns-flow-map-entry cs Wide handles Open inside n c)
      unfolding nodes.ns-flow-map-entry
      fwd_entry n c = either (fwd_implicit_entry n c) (under _ (either (fwd_empty_key n c) (fwd_explicit n c)))

      pub fwd_implicit_yaml_key : (c : Ctx) → Forward (nodes.ns-s-implicit-yaml-key cs Wide handles Open inside c)
      unfolding nodes.ns-s-implicit-yaml-key
      fwd_implicit_yaml_key c = bounded _ (after (fwd (yaml_part 0 c)) (on_maybe on_sep))

      pub fwd_implicit_json_key : (c : Ctx) → Forward (nodes.c-s-implicit-json-key cs Wide handles Open inside c)
      unfolding nodes.c-s-implicit-json-key
      fwd_implicit_json_key c = bounded _ (after (fwd (json_part 0 c)) (on_maybe on_sep))

      pub fwd_pair : (n : ℕ) (c : Ctx) → Forward (nodes.ns-flow-pair cs Wide handles Open inside n c)
      unfolding nodes.ns-flow-pair
      fwd_pair n c = under _ (viewed _ (either (both (fwd_implicit_yaml_key _) (fwd_value n c))
          (either (both (fwd_implicit_json_key _) (fwd_adjacent n c)) (under _ (either (fwd_empty_key n c) (fwd_explicit n c))))))

      pub fwd_flow_seq : (p : Props) (n : ℕ) (c : Ctx) → Forward (nodes.c-flow-sequence cs Wide handles Open inside p n c)
      unfolding nodes.c-flow-sequence
      fwd_flow_seq p n c = under _ (viewed _ (before (on_then (on_chr 91) (on_gap n c)) (after
          (fwd_parted n c (after (either (fwd _) (fwd_inside_flow n _)) (on_gap n c))) (on_chr 93))))

      pub fwd_flow_map : (p : Props) (n : ℕ) (c : Ctx) → Forward (nodes.c-flow-mapping cs Wide handles Open inside p n c)
      unfolding nodes.c-flow-mapping
      fwd_flow_map p n c = under _ (viewed _ (before (on_then (on_chr 123) (on_gap n c)) (after
          (fwd_parted n c (after (fwd_entry n _) (on_gap n c))) (on_chr 125))))

      pub fwd_json_node : (n : ℕ) (c : Ctx) → Forward (nodes.c-flow-json-node cs Wide handles Open inside n c)
      unfolding nodes.c-flow-json-node
      fwd_json_node n c = taking (either (giving _) (after (fwd_properties handles n c) (on_separate n c)))
          (λ p. either (viewed _ (fwd_single n c)) (either (viewed _ (fwd_double n c)) (either (fwd_flow_seq p n c) (fwd_flow_map p n c))))

      pub fwd_flow_node : (n : ℕ) (c : Ctx) → Forward (nodes.ns-flow-node cs Wide handles Open inside n c)
      unfolding nodes.ns-flow-node
      fwd_flow_node n c = either (fwd_yaml_node n c) (fwd_json_node n c)

      pub fwd_empty_rest : Forward (nodes.empty_rest cs Wide handles Open inside)
      fwd_empty_rest = after fwd_e on_s_l_comments

      pub fwd_indented : (n : ℕ) → Forward (nodes.s-l+block-indented cs Wide handles Open inside n)
      unfolding nodes.s-l+block-indented
      fwd_indented n = either (for_some (λ m. under _ (before (on_indent m) (fwd _)))) (either (fwd _) fwd_empty_rest)

      pub fwd_seq_entry : (n : ℕ) → Forward (nodes.c-l-block-seq-entry cs Wide handles Open inside n)
      unfolding nodes.c-l-block-seq-entry
      fwd_seq_entry n = before (on_then (on_chr 45) (on_ahead _)) (fwd_indented n)

      pub fwd_map_entry : (n : ℕ) → Forward (nodes.ns-l-block-map-entry cs Wide handles Open inside n)
      unfolding nodes.ns-l-block-map-entry
      fwd_map_entry n = both (after (either (fwd_implicit_yaml_key _) (fwd_implicit_json_key _)) (on_chr 58)) (either (fwd _) fwd_empty_rest)

      pub fwd_block_seq : (p : Props) (col : ℕ) → Forward (nodes.l+block-sequence cs Wide handles Open inside p col)
      unfolding nodes.l+block-sequence
      fwd_block_seq p col = under _ (viewed _ (for_some (λ k. under _ (both (line k) (repeated (line k))))))
        where
          line : (k : ℕ) → Forward (indent cs k ▸ nodes.c-l-block-seq-entry cs Wide handles Open inside k)
          line k = before (on_indent k) (fwd_seq_entry k)

      pub fwd_block_map : (p : Props) (col : ℕ) → Forward (nodes.l+block-mapping cs Wide handles Open inside p col)
      unfolding nodes.l+block-mapping
      fwd_block_map p col = under _ (viewed _ (for_some (λ k. under _ (both (line k) (repeated (line k))))))
        where
          line : (k : ℕ) → Forward (indent cs k ▸ nodes.ns-l-block-map-entry cs Wide handles Open inside k)
          line k = before (on_indent k) (fwd_map_entry k)

      pub fwd_compact_seq : (k : ℕ) → Forward (nodes.ns-l-compact-sequence cs Wide handles Open inside k)
      unfolding nodes.ns-l-compact-sequence
      fwd_compact_seq k = under _ (viewed _ (both (fwd_seq_entry k) (repeated (before (on_indent k) (fwd_seq_entry k)))))

      pub fwd_compact_map : (k : ℕ) → Forward (nodes.ns-l-compact-mapping cs Wide handles Open inside k)
      unfolding nodes.ns-l-compact-mapping
      fwd_compact_map k = under _ (viewed _ (both (fwd_map_entry k) (repeated (before (on_indent k) (fwd_map_entry k)))))

      pub fwd_block_node : (col : ℕ) (c : Ctx) → Forward (nodes.s-l+block-node cs Wide handles Open inside col c)
      unfolding nodes.s-l+block-node
      fwd_block_node col c = either
          (before (on_separate col flow_out) (after (fwd_flow_node col flow_out) on_s_l_comments))
          (either
          (before (on_separate col c) (taking (either (giving _) (after (fwd_properties handles col c) (on_separate col c)))
          (λ p. either (viewed _ (fwd_literal col)) (viewed _ (fwd_folded col)))))
          (taking (after (either (giving _) (before (on_separate col c) (fwd_properties handles col c))) on_s_l_comments)
          (λ p. either (fwd_block_map p col) (fwd_block_seq p _))))

      pub fwd_part : (p : Part) → Forward (part cs Wide handles Open inside p)
      fwd_part (yaml_part n c) = fwd_yaml_node n c
      fwd_part (json_part n c) = fwd_json_node n c
      fwd_part (pair_part n c) = fwd_pair n c
      fwd_part (block_part col c) = fwd_block_node col c
      fwd_part (compact_part k) = either (fwd_compact_seq k) (fwd_compact_map k)

    -- by induction on the room
    pub fwd_reads : (room : ℕ) (p : Part) → Forward (reads cs Wide handles room p)
    unfolding reads
    fwd_reads zero p = fwd_part ⊥ (λ q. never) (λ q. none_at_all) p
    fwd_reads (suc room) p = fwd_part (Unit {0}) (reads cs Wide handles room) (fwd_reads room) p

  -- ---- directives

  pub fwd_tag_prefix : Forward (tags.ns-tag-prefix cs)
  unfolding tags.ns-tag-prefix
  fwd_tag_prefix = copying (on_then (on_or (on_chr 33) on_tag_char) (on_spans on_uri_char))

  pub fwd_yaml_directive : Forward (directives.ns-yaml-directive cs)
  unfolding directives.ns-yaml-directive
  fwd_yaml_directive = before (on_then (on_word (codes "%YAML")) (on_then (on_some_run is_space) (on_word (codes "1.2")))) (giving _)

  pub fwd_tag_directive : Forward (directives.ns-tag-directive cs)
  unfolding directives.ns-tag-directive
  fwd_tag_directive = before (on_then (on_word (codes "%TAG")) (on_some_run is_space)) (taking fwd_tag_handle
      (λ handle. before (on_some_run is_space) (viewed _ fwd_tag_prefix)))

  pub fwd_reserved_directive : Forward (directives.ns-reserved-directive cs)
  unfolding directives.ns-reserved-directive
  fwd_reserved_directive = before (on_chr 37) (after (viewed _ (holding _ (copying (on_whole_run _)))) (on_spans (on_then (on_some_run is_space) (on_some_run _))))

  pub fwd_directive : Forward (directives.l-directive cs)
  unfolding directives.l-directive
  fwd_directive = before (on_ahead _) (after (viewed _ (either fwd_yaml_directive (either fwd_tag_directive fwd_reserved_directive))) on_s_l_comments)

  pub fwd_directives : Forward (directives.directives cs)
  unfolding directives.directives
  fwd_directives = viewed _ (holding _ (both fwd_directive (repeated fwd_directive)))

  -- ---- documents and streams

  module _ (Wide : Type 0) (room : ℕ) where
    pub on_document_mark : (c : ℕ) → Onward (streams.document_mark cs Wide room c)
    unfolding streams.document_mark
    on_document_mark c = on_then (on_ahead _) (on_word (c ∷ c ∷ c ∷ []))

    pub fwd_bare_document : (handles : tags.Handles) → Forward (streams.l-bare-document cs Wide room handles)
    unfolding streams.l-bare-document
    fwd_bare_document handles = bounded _ (fwd_reads Wide handles room _)

    pub fwd_explicit_document : (handles : tags.Handles) → Forward (streams.l-explicit-document cs Wide room handles)
    unfolding streams.l-explicit-document
    fwd_explicit_document handles = before (on_document_mark 45) (either (fwd_bare_document handles) (after (giving _) on_s_l_comments))

    pub fwd_directive_document : Forward (streams.l-directive-document cs Wide room)
    unfolding streams.l-directive-document
    fwd_directive_document = taking fwd_directives fwd_explicit_document

    pub fwd_explicit_piece : Forward (streams.explicit_piece cs Wide room)
    fwd_explicit_piece = viewed _ (fwd_explicit_document [])

    pub fwd_any_document : Forward (streams.l-any-document cs Wide room)
    unfolding streams.l-any-document
    fwd_any_document = either (viewed _ (fwd_bare_document [])) (either fwd_explicit_piece (viewed _ fwd_directive_document))

    pub fwd_suffix : Forward (streams.l-document-suffix cs Wide room)
    unfolding streams.l-document-suffix
    fwd_suffix = before (on_document_mark 46) (after (giving _) on_s_l_comments)

    pub on_comments : Onward (any_span (l_comment cs))
    on_comments = on_spans on_l_comment

    pub fwd_stream : Forward (streams.l-yaml-stream cs Wide room)
    unfolding streams.l-yaml-stream
    fwd_stream = both (before on_comments (perhaps fwd_any_document)) (repeated (either
        (both (both fwd_suffix (repeated fwd_suffix)) (before on_comments (perhaps fwd_any_document)))
        (either fwd_explicit_piece (before on_l_comment (giving _)))))
