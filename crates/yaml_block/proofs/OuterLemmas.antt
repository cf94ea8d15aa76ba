-- A node's properties on its own line and on the lines before it.
use Rattle.std.proofs.Common.{◌≡◌, ℕ, ◌+◌, ◌<◌, ◌≤◌, ◌⊎◌, List, Option, Some, None, refl, sym, ◌∙◌, ap, subst, arith, inl, inr, encode_utf8_all}
use Rattle.std.specs.Prelude.{slice_get}
use Rattle.yaml_definitions.specs.model.Event.{Event, Anchor, WrittenTag, untagged, non_specific, full}
use Rattle.yaml_definitions.specs.grammar.Separation.{Ctx, flow_out, block_key, s-indent as indent, s-separate as separate, s-separate-lines as separate_lines, s-l-comments as s_l_comments}
use Rattle.yaml_definitions.specs.grammar.Tags.{Handles, c-ns-tag-property as tag, c-ns-alias-node as alias, c-ns-properties as properties}
use Rattle.yaml_definitions.specs.grammar.Events.{Props, no_props, e-scalar as empty}
use Rattle.yaml_definitions.specs.grammar.Nodes as nodes
use Rattle.yaml_definitions.specs.grammar.Nodes.{yaml_part, reads}
use Rattle.yaml_layout.specs.NodeRules.{Bare, aliased, plainly, with_properties, lone, part_of}
use Rattle.yaml_sink.specs.PropertyRules.{SomeProperties, tag_alone, anchor_alone, both, Own, Disjoint, HasTag, HasAnchor, both_props, either_anchor, either_tag, tag_props, anchor_props, dressed}
use Rattle.yaml_layout.specs.declared.flow.Kind.{Kind}
use Rattle.yaml_layout.specs.declared.flow.Kind.TheVariants.{Yaml, Json}
use Rattle.yaml_layout.proofs.PropertyLemmas.{marks_props, marks_some, tag_then, anchor_then}
use Rattle.yaml_layout.proofs.SpaceLemmas.{lines_separate, sep_separate, flow_separate}
use Rattle.yaml_layout.proofs.NodeLemmas.{dressed_at, marked_node, lone_node, bare_flow}
use Rattle.yaml_block.specs.BlockRules.{least_dash, node_rest, block_scalar_rest, sequence_with, mapping_with, mapping_in}
use Rattle.yaml_block.specs.OuterRules.{Outer, nothing, above, OnLine, AfterOwn, at_once, spaced, Follows, MayBear, properties_left, anchors_left, tags_left, column_by, column_of}

-- ---- the column of a mapping without properties

pub column_none : (p : Props) → column_of p None ≡ None
column_none p = go p.anchor p.tag
  where
    go : (a : Anchor) (t : WrittenTag) → column_by a t None ≡ None
    go None untagged = refl
    go None non_specific = refl
    go None (full t) = refl
    go (Some a) t = refl

pub column_free : (p : Props) (column : Option ℕ) → p ≡ no_props → column_of p column ≡ column
column_free p column e = ap (λ x. column_of x column) e

column_marked : (a : Anchor) (t : WrittenTag) (column : Option ℕ) → HasTag t → column_by a t column ≡ None
column_marked None untagged column h = absurd h
column_marked None non_specific column h = refl
column_marked None (full t) column h = refl
column_marked (Some a) t column h = refl

-- ---- two sets of properties

pub none_both : (q : Props) → both_props no_props q ≡ q
none_both q = λ z. record { anchor = anchor_none q.anchor z; tag = tag_none q.tag z }
  where
    anchor_none : (a : Anchor) → either_anchor a None ≡ a
    anchor_none None = refl
    anchor_none (Some a) = refl

    tag_none : (t : WrittenTag) → either_tag t untagged ≡ t
    tag_none untagged = refl
    tag_none non_specific = refl
    tag_none (full t) = refl

-- an own property takes one of those that were left
pub fewer_left : (p q : Props) → Disjoint p q → (q ≡ no_props → ⊥) → properties_left (both_props p q) < properties_left p
fewer_left p q apart some = go p.anchor q.anchor p.tag q.tag apart.0 apart.1 (λ a t. some (λ z. record { anchor = a z; tag = t z }))
  where
    go : (a b : Anchor) (s t : WrittenTag) → (a ≡ None) ⊎ (b ≡ None) → (s ≡ untagged) ⊎ (t ≡ untagged) → (b ≡ None → t ≡ untagged → ⊥) →
        anchors_left (either_anchor b a) + tags_left (either_tag t s) < anchors_left a + tags_left s
    go a None s untagged x y f = absurd (f refl refl)
    go None None untagged non_specific x y f = omega arith
    go (Some a) None untagged non_specific x y f = omega arith
    go None None untagged (full t) x y f = omega arith
    go (Some a) None untagged (full t) x y f = omega arith
    go a None non_specific non_specific x (inl e) f = cc
    go a None non_specific non_specific x (inr e) f = cc
    go a None non_specific (full t) x (inl e) f = cc
    go a None non_specific (full t) x (inr e) f = cc
    go a None (full s) non_specific x (inl e) f = cc
    go a None (full s) non_specific x (inr e) f = cc
    go a None (full s) (full t) x (inl e) f = cc
    go a None (full s) (full t) x (inr e) f = cc
    go None (Some b) untagged untagged x y f = omega arith
    go None (Some b) untagged non_specific x y f = omega arith
    go None (Some b) untagged (full t) x y f = omega arith
    go None (Some b) non_specific untagged x y f = omega arith
    go None (Some b) (full s) untagged x y f = omega arith
    go None (Some b) non_specific non_specific x (inl e) f = cc
    go None (Some b) non_specific non_specific x (inr e) f = cc
    go None (Some b) non_specific (full t) x (inl e) f = cc
    go None (Some b) non_specific (full t) x (inr e) f = cc
    go None (Some b) (full s) non_specific x (inl e) f = cc
    go None (Some b) (full s) non_specific x (inr e) f = cc
    go None (Some b) (full s) (full t) x (inl e) f = cc
    go None (Some b) (full s) (full t) x (inr e) f = cc
    go (Some a) (Some b) s t (inl e) y f = cc
    go (Some a) (Some b) s t (inr e) y f = cc

module _ (cs : List ℕ) (handles : Handles) where
  -- properties on one line are properties in every context
  pub line_properties : (n : ℕ) (i j : ℕ) (p : Props) → properties cs handles 0 block_key i j p → properties cs handles n flow_out i j p
  unfolding properties separate separate_lines
  line_properties n i j p (inl (k, t, r, inl e)) = inl (k, t, r, inl e)
  line_properties n i j p (inl (k, t, r, inr (m, s, a))) = inl (k, t, r, inr (m, inr s, a))
  line_properties n i j p (inr (k, a, r, inl e)) = inr (k, a, r, inl e)
  line_properties n i j p (inr (k, a, r, inr (m, s, t))) = inr (k, a, r, inr (m, inr s, t))

  pub line_marks : (n : ℕ) (i j : ℕ) (p : Props) → SomeProperties cs handles 0 block_key i j p → SomeProperties cs handles n flow_out i j p
  line_marks n i j p (tag_alone t r s e) = tag_alone t r s e
  line_marks n i j p (anchor_alone a r e) = anchor_alone a r e
  line_marks n i j p (both r s t) = both (line_properties n i j p r) s t

  pub line_own : (n : ℕ) (i j : ℕ) (p : Props) → OnLine cs handles i j p → Own cs handles n flow_out i j p
  line_own n i j p (inl e) = inl e
  line_own n i j p (inr m) = inr (line_marks n i j p m)

  module _ (n : ℕ) where
    -- properties of two places, of which each has one
    pub joined : (i e k j : ℕ) (p q : Props) → SomeProperties cs handles n flow_out i e p → separate cs n flow_out e k → SomeProperties cs handles n flow_out k j q → Disjoint p q →
        SomeProperties cs handles n flow_out i j (both_props p q)
    joined i e k j p q (tag_alone t r s h) d (tag_alone u v w g) a = absurd (no_two a.1)
      where
        no_two : (p.tag ≡ untagged) ⊎ (q.tag ≡ untagged) → ⊥
        no_two (inl f) = subst HasTag (ap Props.tag (sym h) ∙ f) s
        no_two (inr f) = subst HasTag (ap Props.tag (sym g) ∙ f) w
    joined i e k j p q (anchor_alone x r h) d (anchor_alone y v g) a = absurd (no_two a.0)
      where
        no_two : (p.anchor ≡ None) ⊎ (q.anchor ≡ None) → ⊥
        no_two (inl f) = subst HasAnchor (ap Props.anchor (sym h) ∙ f) tt
        no_two (inr f) = subst HasAnchor (ap Props.anchor (sym g) ∙ f) tt
    joined i e k j p q (tag_alone t r s h) d (anchor_alone y v g) a =
        subst (SomeProperties cs handles n flow_out i j) (λ z. both_props (sym h z) (sym g z)) (tag_then cs handles n flow_out i e k j t y r d v)
    joined i e k j p q (anchor_alone x r h) d (tag_alone u v w g) a = by_tag u v w g
      where
        with_tag : (u : WrittenTag) → HasTag u → both_props (anchor_props x) (tag_props u) ≡ record { anchor = Some (encode_utf8_all x); tag = u }
        with_tag untagged w = absurd w
        with_tag non_specific w = refl
        with_tag (full t) w = refl

        by_tag : (u : WrittenTag) → tag cs handles k j u → HasTag u → q ≡ tag_props u → SomeProperties cs handles n flow_out i j (both_props p q)
        by_tag u v w g = subst (SomeProperties cs handles n flow_out i j) (sym (with_tag u w) ∙ (λ z. both_props (sym h z) (sym g z))) (anchor_then cs handles n flow_out i e k j u x r d v)
    joined i e k j p q (both r s t) d (tag_alone u v w g) a = absurd (no_two a.1)
      where
        no_two : (p.tag ≡ untagged) ⊎ (q.tag ≡ untagged) → ⊥
        no_two (inl f) = subst HasTag f s
        no_two (inr f) = subst HasTag (ap Props.tag (sym g) ∙ f) w
    joined i e k j p q (both r s t) d (anchor_alone y v g) a = absurd (no_two a.0)
      where
        no_two : (p.anchor ≡ None) ⊎ (q.anchor ≡ None) → ⊥
        no_two (inl f) = subst HasAnchor f t
        no_two (inr f) = subst HasAnchor (ap Props.anchor (sym g) ∙ f) tt
    joined i e k j p q (tag_alone t r s h) d (both u v w) a = absurd (no_two a.1)
      where
        no_two : (p.tag ≡ untagged) ⊎ (q.tag ≡ untagged) → ⊥
        no_two (inl f) = subst HasTag (ap Props.tag (sym h) ∙ f) s
        no_two (inr f) = subst HasTag f v
    joined i e k j p q (anchor_alone x r h) d (both u v w) a = absurd (no_two a.0)
      where
        no_two : (p.anchor ≡ None) ⊎ (q.anchor ≡ None) → ⊥
        no_two (inl f) = subst HasAnchor (ap Props.anchor (sym h) ∙ f) tt
        no_two (inr f) = subst HasAnchor f w
    joined i e k j p q (both r s t) d (both u v w) a = absurd (no_two a.1)
      where
        no_two : (p.tag ≡ untagged) ⊎ (q.tag ≡ untagged) → ⊥
        no_two (inl f) = subst HasTag f s
        no_two (inr f) = subst HasTag f v

  -- the line on which the node stands is apart from the properties
  pub above_separate : (col k e l m : ℕ) → s_l_comments cs e l → indent cs k l m → col ≤ k → separate cs col flow_out e m
  above_separate col k e l m c ind le = flow_separate cs col e m (lines_separate cs col k e l m le c ind)

  -- one more line of properties
  pub above_own : (col : ℕ) (column : Option ℕ) (i m j : ℕ) (p q : Props) → Outer cs handles col column i m p → SomeProperties cs handles 0 block_key m j q → Disjoint p q →
      SomeProperties cs handles col flow_out i j (both_props p q)
  above_own col column i m j p q (nothing e h) r a =
      subst (λ x. SomeProperties cs handles col flow_out x j (both_props p q)) e (subst (λ x. SomeProperties cs handles col flow_out m j x) (sym (ap (λ x. both_props x q) h ∙ none_both q)) (line_marks col m j q r))
  above_own col column i m j p q (above e l k s c ind le f up st sp nd ne nm) r a = joined col i e m j p q s (above_separate col k e l m c ind le) (line_marks col m j q r) a

  pub follows_before : (i e n : ℕ) (p : Props) → OnLine cs handles i e p → Follows cs i e n p → AfterOwn cs handles i n p
  follows_before i e n p own (inl (h, f)) = at_once f h
  follows_before i e n p (inl (f, h)) (inr (g, r, l)) = absurd (g h)
  follows_before i e n p (inr m) (inr (g, r, l)) = spaced e m r l

  -- what stands before content
  pub before_own : (col : ℕ) (column : Option ℕ) (i m n : ℕ) (p q : Props) → Outer cs handles col column i m p → AfterOwn cs handles m n q → Disjoint p q →
      ((n ≡ i) × (both_props p q ≡ no_props)) ⊎ ((e : ℕ) × SomeProperties cs handles col flow_out i e (both_props p q) × separate cs col flow_out e n)
  before_own col column i m n p q (nothing e h) (at_once f g) a = inl (f ∙ e, ap (λ x. both_props x q) h ∙ none_both q ∙ g)
  before_own col column i m n p q (above e l k s c ind le f up st sp nd ne nm) (at_once g h) a =
      inr (e, subst (λ x. SomeProperties cs handles col flow_out i e (both_props p x)) (sym h) s, subst (separate cs col flow_out e) (sym g) (above_separate col k e l m c ind le))
  before_own col column i m n p q o (spaced e r s l) a =
      inr (e, above_own col column i m e p q o r a, flow_separate cs col e n (sep_separate cs col e n s l))

-- a block scalar's event gets its properties
pub scalar_dressed : (cs : List ℕ) (p : Props) (col i j : ℕ) (es : List Event) → block_scalar_rest cs no_props col i j es → block_scalar_rest cs p col i j (dressed p es)
scalar_dressed cs p col i j es (inl (t, r, e)) = inl (t, r, ap (dressed p) e)
scalar_dressed cs p col i j es (inr (t, r, e)) = inr (t, r, ap (dressed p) e)

module _ (cs : List ℕ) (Wide : Type 0) (handles : Handles) where
  -- a block scalar after its properties
  pub block_scalar : (room col : ℕ) (c : Ctx) (column other : Option ℕ) (i m n j : ℕ) (p q : Props) (es : List Event) → Outer cs handles col column i m p → AfterOwn cs handles m n q → Disjoint p q →
      block_scalar_rest cs (both_props p q) col n j es → node_rest cs Wide handles room col c other i j es
  block_scalar room col c column other i m n j p q es o b a r = pick (before_own cs handles col column i m n p q o b a)
    where
      pick : ((n ≡ i) × (both_props p q ≡ no_props)) ⊎ ((e : ℕ) × SomeProperties cs handles col flow_out i e (both_props p q) × separate cs col flow_out e n) → node_rest cs Wide handles room col c other i j es
      pick (inl (e, f)) = inr (inl (n, both_props p q, inl (e, f), r))
      pick (inr (e, s, d)) = inr (inl (n, both_props p q, inr (e, marks_props cs handles col flow_out i e (both_props p q) s, d), r))

  pub part_flow : (kind : Kind) (room n i j : ℕ) (es : List Event) → reads cs Wide handles room (part_of kind n flow_out) i j es
      → (reads cs Wide handles room (nodes.yaml_part n flow_out) i j es ⊎ reads cs Wide handles room (nodes.json_part n flow_out) i j es)
  part_flow Yaml room n i j es r = inl r
  part_flow Json room n i j es r = inr r

  alias_star : (i j : ℕ) (x : List ℕ) → alias cs i j x → slice_get cs i ≡ Some 42
  unfolding alias
  alias_star i j x (v, (w, u), y) = w

  -- a flow node that is no key
  pub no_key : (room deep col : ℕ) (c : Ctx) (kind : Kind) (column other : Option ℕ) (i m e n l : ℕ) (p q : Props) (es : List Event) → Outer cs handles col column i m p → OnLine cs handles m e q →
      Bare cs Wide handles deep kind col flow_out q e m n es → deep ≤ room → Disjoint p q → MayBear cs m p → s_l_comments cs n l →
      node_rest cs Wide handles room col c other i l (dressed (both_props p q) es)
  no_key room deep col c kind column other i m e n l p q es (nothing f g) own bare le a may lines =
      inl (
        n,
        part_flow kind room col i n _ (subst (λ x. reads cs Wide handles room (part_of kind col flow_out) x n (dressed (both_props p q) es)) f
            (subst (λ x. reads cs Wide handles room (part_of kind col flow_out) m n (dressed x es)) (sym (ap (λ x. both_props x q) g ∙ none_both q))
            (bare_flow cs Wide handles deep kind col flow_out q e m n es bare room le))),
        lines,
      )
  no_key room deep col c kind column other i m e n l p q es (above d b k s comments ind lo f up st sp nd ne nm) own bare le a may lines =
      inl (n, part_flow kind room col i n _ (node bare), lines)
    where
      apart : separate cs col flow_out d m
      apart = above_separate cs handles col k d b m comments ind lo

      node : Bare cs Wide handles deep kind col flow_out q e m n es → reads cs Wide handles room (part_of kind col flow_out) i n (dressed (both_props p q) es)
      node (aliased x r g h t) = absurd (no_alias may)
        where
          no_alias : MayBear cs m p → ⊥
          no_alias (inl z) = marks_some cs handles col flow_out i d p s z
          no_alias (inr z) = z (alias_star m n x r)
      node (plainly h r) = marked_node cs Wide handles kind room col flow_out (both_props p q) i d m n (dressed (both_props p q) es)
          (subst (λ x. properties cs handles col flow_out i d (both_props p x)) (sym h) (marks_props cs handles col flow_out i d p s)) apart (dressed_at cs Wide handles (both_props p q) kind room col flow_out m n es (r room le))
      node (with_properties v r t u) = marked_node cs Wide handles kind room col flow_out (both_props p q) i e v n (dressed (both_props p q) es)
          (marks_props cs handles col flow_out i e (both_props p q) (joined cs handles col i d m e p q s apart r a)) t (dressed_at cs Wide handles (both_props p q) kind room col flow_out v n es (u room le))
      node (lone r g h t) =
          subst (λ x. reads cs Wide handles room (part_of x col flow_out) i n (dressed (both_props p q) es)) (sym t)
          (lone_node cs Wide handles room col flow_out (both_props p q) i n (dressed (both_props p q) es)
          (subst (λ x. properties cs handles col flow_out i x (both_props p q)) (sym g) (marks_props cs handles col flow_out i e (both_props p q) (joined cs handles col i d m e p q s apart r a)))
          (ap (dressed (both_props p q)) h))

  -- a mapping whose first key begins at m
  pub keyed : (room col k : ℕ) (c : Ctx) (column : Option ℕ) (i m j : ℕ) (p : Props) (es : List Event) → Outer cs handles col column i m p → column ≡ Some k →
      mapping_with cs Wide handles p room k m j es → node_rest cs Wide handles room col c (column_of p column) i j es
  unfolding nodes.l+block-mapping
  keyed room col k c column i m j p es (nothing e h) f r =
      inr (inr (inr (subst (λ o. mapping_in cs Wide handles room o i j es) (sym (column_free p column h ∙ f))
      (subst (λ x. mapping_with cs Wide handles no_props room k x j es) e (subst (λ x. mapping_with cs Wide handles x room k m j es) h r)))))
  keyed room col k c column i m j p es (above e l n s comments ind le g up st sp nd ne nm) f (o, (xs, (x, ys, zs, entry, more, h), w)) =
      inr (inr (inl (l, p, (e, marks_props cs handles col flow_out i e p s, comments), inl (o, (xs, (k, (subst (λ y. col ≤ y) same le, (x, ys, zs, (m, subst (λ y. indent cs y l m) same ind, entry), more, h))), w)))))
    where
      some_is : {a b : ℕ} → Some a ≡ Some b → a ≡ b
      some_is h = cc

      same : n ≡ k
      same = some_is (sym g ∙ f)

  -- properties, and a sequence on a later line
  pub marked_sequence : (room col k : ℕ) (c : Ctx) (other : Option ℕ) (i e l m j : ℕ) (p : Props) (es : List Event) → SomeProperties cs handles col flow_out i e p → s_l_comments cs e l → least_dash col c ≤ k → indent cs k l m →
      sequence_with cs Wide handles p room k m j es → node_rest cs Wide handles room col c other i j es
  unfolding nodes.l+block-sequence
  marked_sequence room col k c other i e l m j p es s comments le ind (o, (xs, (x, ys, zs, entry, more, h), w)) =
      inr (inr (inl (l, p, (e, marks_props cs handles col flow_out i e p s, comments), inr (o, (xs, (k, (le, (x, ys, zs, (m, ind, entry), more, h))), w)))))

  -- properties, and no content on a later line
  pub marked_nothing : (room col : ℕ) (c : Ctx) (other : Option ℕ) (i e l : ℕ) (p : Props) (es : List Event) → SomeProperties cs handles col flow_out i e p → s_l_comments cs e l → es ≡ empty p →
      node_rest cs Wide handles room col c other i l es
  marked_nothing room col c other i e l p es s comments f =
      inl (e, inl (lone_node cs Wide handles room col flow_out p i e es (marks_props cs handles col flow_out i e p s) f), comments)

  -- after outer properties no mapping stands without any
  pub marked_column : (col i e : ℕ) (p : Props) (column : Option ℕ) → SomeProperties cs handles col flow_out i e p → column_of p column ≡ None
  marked_column col i e p column (tag_alone t r s h) = ap (λ x. column_of x column) h ∙ column_marked None t column s
  marked_column col i e p column (anchor_alone a r h) = ap (λ x. column_of x column) h
  marked_column col i e p column (both r s t) = column_marked p.anchor p.tag column s

  -- where no mapping may stand without properties, one may stand where it may
  pub any_column : (room col : ℕ) (c : Ctx) (column : Option ℕ) (i j : ℕ) (es : List Event) → node_rest cs Wide handles room col c None i j es → node_rest cs Wide handles room col c column i j es
  any_column room col c column i j es (inl r) = inl r
  any_column room col c column i j es (inr (inl r)) = inr (inl r)
  any_column room col c column i j es (inr (inr (inl r))) = inr (inr (inl r))
  any_column room col c column i j es (inr (inr (inr r))) = absurd r
