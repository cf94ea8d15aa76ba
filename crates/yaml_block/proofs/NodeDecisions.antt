-- Nodes with their properties, on the node's own line and on the lines before it: what is left of them where a flow node may begin.
use Rattle.std.proofs.Common.{◌≡◌, ◌≢◌, ℕ, ◌+◌, ◌<◌, ◌≤◌, ◌⊎◌, List, Option, Some, None, inl, inr, refl, sym, ◌∙◌, ap, subst, arith}
use Rattle.std.specs.Prelude.{slice_get}
use Rattle.std.proofs.lemmas.Bool.{cases_eq}
use Rattle.yaml_definitions.specs.model.Event.{Event, WrittenTag, Anchor, untagged, non_specific, full}
use Rattle.yaml_text.specs.Lines.{Inside}
use Rattle.yaml_definitions.specs.grammar.Rules.{Rule, Stands}
use Rattle.yaml_definitions.specs.grammar.Characters.{is_space}
use Rattle.yaml_definitions.specs.grammar.Separation.{Ctx, block_key, flow_out, s-indent as indent, s-separate as separate, s-separate-lines as separate_lines, s-l-comments as s_l_comments, AtEnd, DocumentMark}
use Rattle.yaml_definitions.specs.grammar.Tags.{Handles}
use Rattle.yaml_definitions.specs.grammar.Events.{Props, no_props}
use Rattle.yaml_text.proofs.LineRuns.{indent_run, indent_place}
use Rattle.yaml_text.proofs.Runs.{same_char}
use Rattle.law_one_reading.specs.Readings.{End}
use Rattle.law_one_reading.specs.Follows.{Stuck, Follow, DashHere}
use Rattle.law_one_reading.proofs.FlowNodes.{Kind, Sign}
use Rattle.law_one_reading.proofs.Properties.{PropHere, prop, prop_solid, both, props_two, props_here, props_inside}
use Rattle.law_one_reading.proofs.TagEnds.{prop_same, prop_here, prop_inside}
use Rattle.law_going_on.specs.GoingOn.{Refused, Rest}
use Rattle.law_going_on.proofs.GoingOn.{rest_rest, rest_refused, refused_either}
use Rattle.law_going_on.proofs.Separations.{separate_on_next, separate_short}
use Rattle.law_going_on.proofs.PropertyChoices.{Second, no_second}
use Rattle.law_going_on.proofs.BlockLoops.{line_less}
use Rattle.law_going_on.proofs.BlockStarts.{ScalarOf}
use Rattle.law_going_on.proofs.BlockProperties.{Under}
use Rattle.law_going_on.proofs.PropertyLines.{Upper, one_line_above, two_lines_above, upper_left, upper_clash, upper_barred, no_forms_barred, no_mapping_barred}
use Rattle.law_going_on.proofs.OwnLines as own
use Rattle.law_going_on.proofs.OwnLines.{MappingIn, FlowOrKey, mapping_refused, flow_or_key, scalar_here, own_flow_or_key, own_scalar, no_mapping_in, above_flow_or_key, above_scalar, above_alias, both_flow_or_key, both_scalar, no_key_signed}
use Rattle.yaml_layout.specs.PropertyDecisions.{AllProperties, Barred, IsProperty, LineGoesOn}
use Rattle.yaml_layout.specs.NodeRules.{opens, below}
use Rattle.yaml_layout.specs.Lines.{IsBlock}
use Rattle.yaml_sink.specs.PropertyRules.{SomeProperties, Disjoint, both_props}
use Rattle.yaml_layout.proofs.PropertyLemmas.{marks_props, marks_some}
use Rattle.yaml_layout.proofs.PropertyDecisions.{both_is, apart_kinds, barred_line}
use Rattle.yaml_layout.proofs.SpaceLemmas.{lines_separate, flow_separate, block_separate}
use Rattle.yaml_block.specs.BlockRules.{least_dash, node_rest}
use Rattle.yaml_block.specs.BlockEnds.{AfterNode, IsStyleSign}
use Rattle.yaml_block.specs.OuterRules.{Outer, nothing, above, Above, one_line, two_lines, OnLine, Follows, MayBear, properties_left, column_of}
use Rattle.yaml_block.proofs.Levels.{facts_at, eased_at, wider_at, forward_at, blocks_at}
use Rattle.yaml_block.proofs.NodeForms.{Forms, MappingAt, mapping_at, node_left, node_alone, block_lines}
use Rattle.yaml_block.proofs.OuterLemmas.{column_free, marked_column, none_both, fewer_left}
use Rattle.yaml_block.proofs.ScalarDecisions.{sign_kind, kind_sign}

-- ---- which properties are apart

anchors_or : (a b : Anchor) → ((a ≡ None) ⊎ (b ≡ None)) ⊎ (((a ≡ None) ⊎ (b ≡ None)) → ⊥)
anchors_or None b = inl (inl refl)
anchors_or (Some a) None = inl (inr refl)
anchors_or (Some a) (Some b) = inr none
  where
    none : (Some a ≡ None) ⊎ (Some b ≡ None) → ⊥
    none (inl e) = cc
    none (inr e) = cc

tags_or : (t u : WrittenTag) → ((t ≡ untagged) ⊎ (u ≡ untagged)) ⊎ (((t ≡ untagged) ⊎ (u ≡ untagged)) → ⊥)
tags_or untagged u = inl (inl refl)
tags_or non_specific untagged = inl (inr refl)
tags_or (full a) untagged = inl (inr refl)
tags_or non_specific non_specific = inr none
  where
    none : (non_specific ≡ untagged) ⊎ (non_specific ≡ untagged) → ⊥
    none (inl e) = cc
    none (inr e) = cc
tags_or non_specific (full b) = inr none
  where
    none : (non_specific ≡ untagged) ⊎ (full b ≡ untagged) → ⊥
    none (inl e) = cc
    none (inr e) = cc
tags_or (full a) non_specific = inr none
  where
    none : (full a ≡ untagged) ⊎ (non_specific ≡ untagged) → ⊥
    none (inl e) = cc
    none (inr e) = cc
tags_or (full a) (full b) = inr none
  where
    none : (full a ≡ untagged) ⊎ (full b ≡ untagged) → ⊥
    none (inl e) = cc
    none (inr e) = cc

pub apart_or : (p q : Props) → Disjoint p q ⊎ (Disjoint p q → ⊥)
apart_or p q = go (anchors_or p.anchor q.anchor) (tags_or p.tag q.tag)
  where
    go : ((p.anchor ≡ None) ⊎ (q.anchor ≡ None)) ⊎ (((p.anchor ≡ None) ⊎ (q.anchor ≡ None)) → ⊥) → ((p.tag ≡ untagged) ⊎ (q.tag ≡ untagged)) ⊎ (((p.tag ≡ untagged) ⊎ (q.tag ≡ untagged)) → ⊥) → Disjoint p q ⊎ (Disjoint p q → ⊥)
    go (inl a) (inl b) = inl (a, b)
    go (inr a) b = inr (λ z. a z.0)
    go (inl a) (inr b) = inr (λ z. b z.1)

pub apart_none : (q : Props) → Disjoint no_props q
apart_none q = (inl refl, inl refl)

pub none_apart : (p : Props) → Disjoint p no_props
none_apart p = (inr refl, inr refl)

-- two of them are all that a node may have
two_full : (a b q : Props) → (a ≡ no_props → ⊥) → (b ≡ no_props → ⊥) → (q ≡ no_props → ⊥) → Disjoint a b → Disjoint (both_props a b) q → ⊥
two_full a b q sa sb sq u v =
    let x : properties_left (both_props no_props a) < properties_left no_props = fewer_left no_props a (apart_none a) sa in
    let y : properties_left (both_props no_props a) ≡ properties_left a = ap properties_left (none_both a) in
    let z : properties_left (both_props a b) < properties_left a = fewer_left a b u sb in
    let w : properties_left (both_props (both_props a b) q) < properties_left (both_props a b) = fewer_left (both_props a b) q v sq in
    let two : properties_left no_props ≡ 2 = refl in
    omega (arith, x, y, z, w, two)

star_or : (o : Option ℕ) → (o ≡ Some 42) ⊎ (o ≢ Some 42)
star_or None = inr none
  where
    none : ◌≡◌ {A = Option ℕ} None (Some 42) → ⊥
    none e = cc
star_or (Some c) = elim (cases_eq c 42) [
  | inl e ↦ inl (ap Some e)
  | inr n ↦ inr (λ e. n (some_is e))
]
  where
    some_is : ◌≡◌ {A = Option ℕ} (Some c) (Some 42) → c ≡ 42
    some_is e = cc

module _ (cs : List ℕ) (handles : Handles) where
  marked : (i e : ℕ) (p : Props) → SomeProperties cs handles 0 block_key i e p → p ≡ no_props → ⊥
  marked i e p m h = marks_some cs handles 0 block_key i e p m h

  marked_here : (i e : ℕ) (p : Props) → SomeProperties cs handles 0 block_key i e p → PropHere cs handles i
  marked_here i e p m = props_here cs handles (prop_same cs handles) (prop_here cs handles) (prop_inside cs handles) 0 block_key i e p (props_two cs handles 0 block_key i e p (marks_props cs handles 0 block_key i e p m))

  kind_property : (i : ℕ) → Kind cs 1 i → IsProperty cs i
  kind_property i (c, h, s) = go 1 c refl s h
    where
      go : (k c : ℕ) → k ≡ 1 → Sign k c → slice_get cs i ≡ Some c → IsProperty cs i
      go _ c e (Sign.bang d f) h = inl (subst (λ x. slice_get cs i ≡ Some x) f h)
      go _ c e (Sign.and d f) h = inr (subst (λ x. slice_get cs i ≡ Some x) f h)
      go _ c e (Sign.star d f) h = let z : 2 ≡ 1 = e in absurd (omega (arith, z))
      go _ c e (Sign.quotes d f) h = let z : 3 ≡ 1 = e in absurd (omega (arith, z))
      go _ c e (Sign.quote d f) h = let z : 3 ≡ 1 = e in absurd (omega (arith, z))
      go _ c e (Sign.bracket d f) h = let z : 3 ≡ 1 = e in absurd (omega (arith, z))
      go _ c e (Sign.brace d f) h = let z : 3 ≡ 1 = e in absurd (omega (arith, z))
      go _ c e (Sign.bar d f) h = let z : 4 ≡ 1 = e in absurd (omega (arith, z))
      go _ c e (Sign.greater d f) h = let z : 4 ≡ 1 = e in absurd (omega (arith, z))

  no_kind_one : (i e : ℕ) (p : Props) → AllProperties cs handles 0 block_key i e p → p ≡ no_props → Kind cs 1 i → ⊥
  no_kind_one i e p all h k = all.none h (kind_property i k)

  module _ (room : ℕ) (col : ℕ) (c : Ctx) (b : IsBlock c) where
    abbrev Node : Option ℕ → Rule (List Event)
    Node = node_rest cs (Unit {0}) handles room col c

    abbrev E : End
    E = AfterNode cs col c

    abbrev pub Kept : Props → Option ℕ → Rule (List Event)
    Kept = FlowOrKey cs (Unit {0}) handles (opens cs (Unit {0}) handles room) (below cs (Unit {0}) handles room) (facts_at cs (Unit {0}) handles room) (eased_at cs (Unit {0}) handles room) (wider_at cs (Unit {0}) handles room) (forward_at cs (Unit {0}) handles room) (blocks_at cs (Unit {0}) handles room) col (least_dash col c) c

    abbrev pub Keyed : Props → Option ℕ → Rule (List Event)
    Keyed = MappingIn cs (Unit {0}) handles (opens cs (Unit {0}) handles room) (below cs (Unit {0}) handles room) (facts_at cs (Unit {0}) handles room) (eased_at cs (Unit {0}) handles room) (wider_at cs (Unit {0}) handles room) (forward_at cs (Unit {0}) handles room) (blocks_at cs (Unit {0}) handles room) col (least_dash col c) c

    abbrev Scalar : Props → Rule (List Event)
    Scalar = ScalarOf cs (Unit {0}) handles (opens cs (Unit {0}) handles room) (below cs (Unit {0}) handles room) (facts_at cs (Unit {0}) handles room) (eased_at cs (Unit {0}) handles room) (wider_at cs (Unit {0}) handles room) (forward_at cs (Unit {0}) handles room) (blocks_at cs (Unit {0}) handles room) col c

    -- ---- own properties

    pub own_of : (x e : ℕ) (q : Props) → SomeProperties cs handles 0 block_key x e q → AllProperties cs handles 0 block_key x e q → LineGoesOn cs e q → own.Own cs (Unit {0}) handles (opens cs (Unit {0}) handles room) (below cs (Unit {0}) handles room) (facts_at cs (Unit {0}) handles room) (eased_at cs (Unit {0}) handles room) (wider_at cs (Unit {0}) handles room) (forward_at cs (Unit {0}) handles room) (blocks_at cs (Unit {0}) handles room) col (least_dash col c) c x e q
    own_of x e q m all on = record { read = marks_props cs handles 0 block_key x e q m; all = λ o r s d. all.second (single r) o s d; goes_on = going on }
      where
        single : prop cs handles x e q → (q.anchor ≡ None) ⊎ (q.tag ≡ untagged)
        single (inl (t, u, h)) = inl (ap Props.anchor h)
        single (inr (t, u, h)) = inr (ap Props.tag h)

        going : LineGoesOn cs e q → (j : ℕ) → s_l_comments cs e j → ⊥
        going (inl h) = absurd (marked x e q m h)
        going (inr f) = f

    -- ---- no properties above

    alone_left : (x e : ℕ) (q : Props) (column : Option ℕ) → OnLine cs handles x e q → AllProperties cs handles 0 block_key x e q → LineGoesOn cs e q → ((n : ℕ) → Follows cs x e n q → IsStyleSign cs n → ⊥)
        → Rest (Node column) E x (Kept no_props column) E x
    alone_left x e q column (inl (h, g)) all on none =
        rest_rest (node_left cs (Unit {0}) handles room col c b column E x) (flow_or_key cs (Unit {0}) handles (opens cs (Unit {0}) handles room) (below cs (Unit {0}) handles room) (facts_at cs (Unit {0}) handles room) (eased_at cs (Unit {0}) handles room) (wider_at cs (Unit {0}) handles room) (forward_at cs (Unit {0}) handles room) (blocks_at cs (Unit {0}) handles room) col (least_dash col c) c x column (no_kind_one x e q all g) (λ k. none x (inl (g, refl)) (kind_sign cs x k)))
    alone_left x e q column (inr m) all on none =
        rest_rest (node_left cs (Unit {0}) handles room col c b column E x) (own_flow_or_key cs (Unit {0}) handles (opens cs (Unit {0}) handles room) (below cs (Unit {0}) handles room) (facts_at cs (Unit {0}) handles room) (eased_at cs (Unit {0}) handles room) (wider_at cs (Unit {0}) handles room) (forward_at cs (Unit {0}) handles room) (blocks_at cs (Unit {0}) handles room) col (least_dash col c) c x e q column (own_of x e q m all on) (λ n r lt k. none n (inr (marked x e q m, r, lt)) (kind_sign cs n k)))

    -- ---- properties above

    pub upper_of : (i e : ℕ) (p : Props) → Above cs handles col i e p → Upper cs (Unit {0}) handles (opens cs (Unit {0}) handles room) (below cs (Unit {0}) handles room) (facts_at cs (Unit {0}) handles room) (eased_at cs (Unit {0}) handles room) (wider_at cs (Unit {0}) handles room) (forward_at cs (Unit {0}) handles room) (blocks_at cs (Unit {0}) handles room) col (least_dash col c) c i e p
    upper_of i e p (one_line m all) = one_line_above (marks_props cs handles 0 block_key i e p m)
    upper_of i e p (two_lines l s k z a d ma over st ind whole le md ap eq) =
        let (ra, rd, df) = apart_kinds cs handles i l z e a d ma md ap in two_lines_above l s k z a d ra over st ind whole le rd df (eq ∙ both_is a d)

    pub upper_inside : (i e : ℕ) (p : Props) → Above cs handles col i e p → Inside cs e
    upper_inside i e p (one_line m all) = props_inside cs handles (prop_same cs handles) (prop_here cs handles) (prop_inside cs handles) 0 block_key i e p (props_two cs handles 0 block_key i e p (marks_props cs handles 0 block_key i e p m))
    upper_inside i e p (two_lines l s k z a d ma over st ind whole le md ap eq) = props_inside cs handles (prop_same cs handles) (prop_here cs handles) (prop_inside cs handles) 0 block_key z e d (props_two cs handles 0 block_key z e d (marks_props cs handles 0 block_key z e d md))

    -- one more that is apart from them: they were one
    first_of : (i e x f : ℕ) (p q : Props) → Above cs handles col i e p → SomeProperties cs handles 0 block_key x f q → Disjoint p q → SomeProperties cs handles 0 block_key i e p
    first_of i e x f p q (one_line m all) mq ap = m
    first_of i e x f p q (two_lines l s k z a d ma over st ind whole le md u eq) mq ap =
        absurd (two_full a d q (marked i l a ma) (marked z e d md) (marked x f q mq) u (subst (λ y. Disjoint y q) eq ap))

    to_block : (i q : ℕ) → separate_lines cs col i q → separate cs col c i q
    to_block i q s = block_separate cs col c i q b s

    to_lines : (i q : ℕ) → separate cs col c i q → separate_lines cs col i q
    to_lines i q s = block_lines cs c b col i q s

    -- the line that comes after them, with no further property that is theirs
    pub under_all : (i f s : ℕ) (p : Props) → Above cs handles col i f p → s_l_comments cs f s → (Second cs handles col flow_out i f p → ⊥) → Rest (Node None) E i (Under cs (Unit {0}) handles (opens cs (Unit {0}) handles room) (below cs (Unit {0}) handles room) (facts_at cs (Unit {0}) handles room) (eased_at cs (Unit {0}) handles room) (wider_at cs (Unit {0}) handles room) (forward_at cs (Unit {0}) handles room) (blocks_at cs (Unit {0}) handles room) col (least_dash col c) c p) E f
    under_all i f s p up over none = rest_rest (node_alone cs (Unit {0}) handles room col c b E i) (upper_left cs (Unit {0}) handles (opens cs (Unit {0}) handles room) (below cs (Unit {0}) handles room) (facts_at cs (Unit {0}) handles room) (eased_at cs (Unit {0}) handles room) (wider_at cs (Unit {0}) handles room) (forward_at cs (Unit {0}) handles room) (blocks_at cs (Unit {0}) handles room) col (least_dash col c) c to_block to_lines i f s p (upper_of i f p up) over none)

    module _ (i f s k x : ℕ) (p : Props) (up : Above cs handles col i f p) (over : s_l_comments cs f s) (st : Stuck cs s) (ind : indent cs k s x) (whole : Stands cs is_space x → ⊥) where
      pub no_property : (PropHere cs handles x → ⊥) → Second cs handles col flow_out i f p → ⊥
      no_property none = no_second cs handles col flow_out i f x p (λ q t g. separate_on_next cs col flow_out f s x over st (indent_run cs k s x ind, whole) q (inr t) g) (λ d. none (here d))
        where
          here : ((slice_get cs i ≡ Some 33) × (slice_get cs x ≡ Some 38)) ⊎ ((slice_get cs i ≡ Some 38) × (slice_get cs x ≡ Some 33)) → PropHere cs handles x
          here (inl (g, h)) = inr h
          here (inr (g, h)) = inl h

      pub too_short : k < col → Second cs handles col flow_out i f p → ⊥
      too_short lt (r, (l, o, q, t, u, d)) =
          separate_short cs col flow_out f s x (upper_inside i f p up) over st (indent_run cs k s x ind, whole) (let a : x ≡ s + k = indent_place cs k s x ind in omega (arith, a, lt)) o (inr t) (prop_solid cs handles o (prop_here cs handles o l q u)).0

      module _ (le : col ≤ k) where
        clash_left : (e : ℕ) (q : Props) → SomeProperties cs handles 0 block_key x e q → (Disjoint p q → ⊥) → Rest (Node None) E i (Keyed p (Some k)) E x
        clash_left e q m clash =
            rest_rest (node_alone cs (Unit {0}) handles room col c b E i) (upper_clash cs (Unit {0}) handles (opens cs (Unit {0}) handles room) (below cs (Unit {0}) handles room) (facts_at cs (Unit {0}) handles room) (eased_at cs (Unit {0}) handles room) (wider_at cs (Unit {0}) handles room) (forward_at cs (Unit {0}) handles room) (blocks_at cs (Unit {0}) handles room) col (least_dash col c) c to_block to_lines i f s k x p (upper_of i f p up) over st ind whole le (marked_here x e q m) e q (marks_props cs handles 0 block_key x e q m) clash)

        keyed_kept : Rest (Keyed p (Some k)) E x (Kept p (Some k)) E x
        keyed_kept = record { rest = λ j m v r e. (j, v, inr r, e) }

        module _ (no_dash : DashHere cs x → ⊥) (no_end : AtEnd cs s → ⊥) (no_mark : DocumentMark cs s → ⊥) (e : ℕ) (q : Props) (all : AllProperties cs handles 0 block_key x e q) (on : LineGoesOn cs e q) where
          other : Follow cs col (least_dash col c) s → ⊥
          other g = line_less cs col k s x ind whole le no_end no_mark g.0

          -- without own properties
          bare_under : q ≡ no_props → Rest (Forms cs (Unit {0}) handles room col c) E i (Under cs (Unit {0}) handles (opens cs (Unit {0}) handles room) (below cs (Unit {0}) handles room) (facts_at cs (Unit {0}) handles room) (eased_at cs (Unit {0}) handles room) (wider_at cs (Unit {0}) handles room) (forward_at cs (Unit {0}) handles room) (blocks_at cs (Unit {0}) handles room) col (least_dash col c) c p) E f
          bare_under g = upper_left cs (Unit {0}) handles (opens cs (Unit {0}) handles room) (below cs (Unit {0}) handles room) (facts_at cs (Unit {0}) handles room) (eased_at cs (Unit {0}) handles room) (wider_at cs (Unit {0}) handles room) (forward_at cs (Unit {0}) handles room) (blocks_at cs (Unit {0}) handles room) col (least_dash col c) c to_block to_lines i f s p (upper_of i f p up) over (no_property (all.none g))

          apart_at : separate_lines cs col f x
          apart_at = lines_separate cs col k f s x le over ind

          above_left : OnLine cs handles x e q → ((n : ℕ) → Follows cs x e n q → IsStyleSign cs n → ⊥) → Rest (Node None) E i (Kept p (Some k)) E x
          above_left (inl (h, g)) none =
              rest_rest (node_alone cs (Unit {0}) handles room col c b E i) (above_flow_or_key cs (Unit {0}) handles (opens cs (Unit {0}) handles room) (below cs (Unit {0}) handles room) (facts_at cs (Unit {0}) handles room) (eased_at cs (Unit {0}) handles room) (wider_at cs (Unit {0}) handles room) (forward_at cs (Unit {0}) handles room) (blocks_at cs (Unit {0}) handles room) col (least_dash col c) c i f s k x p (bare_under g) over st ind whole other (λ z. none x (inl (g, refl)) (kind_sign cs x z)) no_dash)
          above_left (inr m) none = go (apart_or p q)
            where
              go : Disjoint p q ⊎ (Disjoint p q → ⊥) → Rest (Node None) E i (Kept p (Some k)) E x
              go (inl ap) =
                  let (rp, rq, df) = apart_kinds cs handles i f x e p q (first_of i f x e p q up m ap) m ap in
                  rest_rest (node_alone cs (Unit {0}) handles room col c b E i) (both_flow_or_key cs (Unit {0}) handles (opens cs (Unit {0}) handles room) (below cs (Unit {0}) handles room) (facts_at cs (Unit {0}) handles room) (eased_at cs (Unit {0}) handles room) (wider_at cs (Unit {0}) handles room) (forward_at cs (Unit {0}) handles room) (blocks_at cs (Unit {0}) handles room) col (least_dash col c) c i f s k x e p q rp over st ind whole (flow_separate cs col f x apart_at) (to_block f x apart_at) rq df (own_of x e q m all on) (λ n r lt z. none n (inr (marked x e q m, r, lt)) (kind_sign cs n z)))
              go (inr clash) = rest_rest (clash_left e q m clash) keyed_kept

          above_keyed : OnLine cs handles x e q → (Disjoint p q → ⊥) ⊎ (MayBear cs x p → ⊥) → Rest (Node None) E i (Keyed p (Some k)) E x
          above_keyed (inl (h, g)) (inl clash) = absurd (clash (subst (Disjoint p) (sym g) (none_apart p)))
          above_keyed (inl (h, g)) (inr alias) = go (star_or (slice_get cs x))
            where
              go : (slice_get cs x ≡ Some 42) ⊎ (slice_get cs x ≢ Some 42) → Rest (Node None) E i (Keyed p (Some k)) E x
              go (inl star) = rest_rest (node_alone cs (Unit {0}) handles room col c b E i) (above_alias cs (Unit {0}) handles (opens cs (Unit {0}) handles room) (below cs (Unit {0}) handles room) (facts_at cs (Unit {0}) handles room) (eased_at cs (Unit {0}) handles room) (wider_at cs (Unit {0}) handles room) (forward_at cs (Unit {0}) handles room) (blocks_at cs (Unit {0}) handles room) col (least_dash col c) c i f s k x p (bare_under g) over st ind whole other (42, star, Sign.star 42 refl))
              go (inr n) = absurd (alias (inr n))
          above_keyed (inr m) (inl clash) = clash_left e q m clash
          above_keyed (inr m) (inr alias) = absurd (alias (inr (not_star (marked_here x e q m))))
            where
              not_star : PropHere cs handles x → slice_get cs x ≡ Some 42 → ⊥
              not_star (inl h) g = let z : 33 ≡ 42 = same_char cs x 33 42 h g in omega (arith, z)
              not_star (inr h) g = let z : 38 ≡ 42 = same_char cs x 38 42 h g in omega (arith, z)

          -- a block scalar
          above_signed : (n : ℕ) → OnLine cs handles x e q → Follows cs x e n q → IsStyleSign cs n → Disjoint p q → (r : Props) × Rest (Node None) E i (Scalar r) E n
          above_signed n (inl (h, g)) (inl (u, v)) sign ap =
              (p, subst (λ z. Rest (Node None) E i (Scalar p) E z) (sym v) (rest_rest (node_alone cs (Unit {0}) handles room col c b E i) (above_scalar cs (Unit {0}) handles (opens cs (Unit {0}) handles room) (below cs (Unit {0}) handles room) (facts_at cs (Unit {0}) handles room) (eased_at cs (Unit {0}) handles room) (wider_at cs (Unit {0}) handles room) (forward_at cs (Unit {0}) handles room) (blocks_at cs (Unit {0}) handles room) col (least_dash col c) c i f s k x p (bare_under g) over st ind whole other (subst (Kind cs 4) v (sign_kind cs n sign)))))
          above_signed n (inl (h, g)) (inr (u, r, lt)) sign ap = absurd (u g)
          above_signed n (inr m) (inl (u, v)) sign ap = absurd (marked x e q m u)
          above_signed n (inr m) (inr (u, r, lt)) sign ap =
              let (rp, rq, df) = apart_kinds cs handles i f x e p q (first_of i f x e p q up m ap) m ap in
              (both p q, rest_rest (node_alone cs (Unit {0}) handles room col c b E i) (both_scalar cs (Unit {0}) handles (opens cs (Unit {0}) handles room) (below cs (Unit {0}) handles room) (facts_at cs (Unit {0}) handles room) (eased_at cs (Unit {0}) handles room) (wider_at cs (Unit {0}) handles room) (forward_at cs (Unit {0}) handles room) (blocks_at cs (Unit {0}) handles room) col (least_dash col c) c i f s k x e p q rp over st ind whole (flow_separate cs col f x apart_at) (to_block f x apart_at) rq df (own_of x e q m all on) n (r, lt, sign_kind cs n sign)))

          above_signed_clash : (n : ℕ) → OnLine cs handles x e q → Follows cs x e n q → IsStyleSign cs n → (Disjoint p q → ⊥) → Refused (Node None) E i
          above_signed_clash n (inl (h, g)) t sign clash = absurd (clash (subst (Disjoint p) (sym g) (none_apart p)))
          above_signed_clash n (inr m) (inl (u, v)) sign clash = absurd (marked x e q m u)
          above_signed_clash n (inr m) (inr (u, r, lt)) sign clash =
              rest_refused (clash_left e q m clash) (mapping_refused cs (Unit {0}) handles (opens cs (Unit {0}) handles room) (below cs (Unit {0}) handles room) (facts_at cs (Unit {0}) handles room) (eased_at cs (Unit {0}) handles room) (wider_at cs (Unit {0}) handles room) (forward_at cs (Unit {0}) handles room) (blocks_at cs (Unit {0}) handles room) col (least_dash col c) c E x p (Some k) (no_key_signed cs (Unit {0}) handles (opens cs (Unit {0}) handles room) (below cs (Unit {0}) handles room) (facts_at cs (Unit {0}) handles room) (eased_at cs (Unit {0}) handles room) (wider_at cs (Unit {0}) handles room) (forward_at cs (Unit {0}) handles room) (blocks_at cs (Unit {0}) handles room) col (least_dash col c) c x e q (own_of x e q m all on) n (r, lt, sign_kind cs n sign)))

        -- no properties could be read
        above_barred : Barred cs handles 0 block_key x → Refused (Node None) E i
        above_barred bar =
            rest_refused (node_alone cs (Unit {0}) handles room col c b E i) (upper_barred cs (Unit {0}) handles (opens cs (Unit {0}) handles room) (below cs (Unit {0}) handles room) (facts_at cs (Unit {0}) handles room) (eased_at cs (Unit {0}) handles room) (wider_at cs (Unit {0}) handles room) (forward_at cs (Unit {0}) handles room) (blocks_at cs (Unit {0}) handles room) col (least_dash col c) c to_block to_lines i f s k x p (upper_of i f p up) over st ind whole le bar.0 (barred_line cs handles x bar))

        -- their line is over too
        above_over_clash : (e h : ℕ) (q : Props) → x ≤ e → SomeProperties cs handles 0 block_key x e q → s_l_comments cs e h → (Disjoint p q → ⊥) → Refused (Node None) E i
        above_over_clash e h q on m end clash =
            rest_refused (clash_left e q m clash) (no_mapping_in cs (Unit {0}) handles (opens cs (Unit {0}) handles room) (below cs (Unit {0}) handles room) (facts_at cs (Unit {0}) handles room) (eased_at cs (Unit {0}) handles room) (wider_at cs (Unit {0}) handles room) (forward_at cs (Unit {0}) handles room) (blocks_at cs (Unit {0}) handles room) col (least_dash col c) c p E x e h q (Some k) on (marks_props cs handles 0 block_key x e q m) end)

    -- ---- properties above, or none

    module _ (column : Option ℕ) (i x : ℕ) (p : Props) where
      moved : (R : Props → Option ℕ → ℕ → Type 0) → x ≡ i → p ≡ no_props → R no_props column x → R p (column_of p column) i
      moved R e h r = subst (λ z. R p (column_of p column) z) e (subst (λ o. R p o x) (sym (column_free p column h)) (subst (λ q. R q column x) (sym h) r))

      beside : (R : Props → Option ℕ → Option ℕ → ℕ → Type 0) → x ≡ i → p ≡ no_props → R no_props column column x → R p (column_of p column) column i
      beside R e h r = moved (λ q o z. R q o column z) e h r

      up_to : (R : Option ℕ → Option ℕ → Type 0) (f k : ℕ) → SomeProperties cs handles col flow_out i f p → column ≡ Some k → R None (Some k) → R (column_of p column) column
      up_to R f k m g r = subst (λ o. R o column) (sym (marked_column cs (Unit {0}) handles col i f p column m)) (subst (R None) (sym g) r)

      module _ (e : ℕ) (q : Props) (all : AllProperties cs handles 0 block_key x e q) (on : LineGoesOn cs e q) (line : OnLine cs handles x e q) where
        pub kept : Outer cs handles col column i x p → ((n : ℕ) → Follows cs x e n q → IsStyleSign cs n → ⊥) → Rest (Node (column_of p column)) E i (Kept p column) E x
        kept (nothing g h) none = beside (λ u o a z. Rest (Node o) E z (Kept u a) E x) g h (alone_left x e q column line all on none)
        kept (above f l k m over ind le g up st whole dash end mark) none =
            up_to (λ o a. Rest (Node o) E i (Kept p a) E x) f k m g (above_left i f l k x p up over st ind whole le dash end mark e q all on line none)

        pub keyed_only : Outer cs handles col column i x p → (Disjoint p q → ⊥) ⊎ (MayBear cs x p → ⊥) → Rest (Node (column_of p column)) E i (Keyed p column) E x
        keyed_only (nothing g h) (inl clash) = absurd (clash (subst (λ z. Disjoint z q) (sym h) (apart_none q)))
        keyed_only (nothing g h) (inr alias) = absurd (alias (inl h))
        keyed_only (above f l k m over ind le g up st whole dash end mark) why =
            up_to (λ o a. Rest (Node o) E i (Keyed p a) E x) f k m g (above_keyed i f l k x p up over st ind whole le dash end mark e q all on line why)

        pub signed : (n : ℕ) → Outer cs handles col column i x p → Follows cs x e n q → IsStyleSign cs n → Disjoint p q → (r : Props) × Rest (Node (column_of p column)) E i (Scalar r) E n
        signed n (nothing g h) t sign ap = beside (λ u o a z. (r : Props) × Rest (Node o) E z (Scalar r) E n) g h (go line t)
          where
            go : OnLine cs handles x e q → Follows cs x e n q → (r : Props) × Rest (Node column) E x (Scalar r) E n
            go (inl (u, v)) (inl (y, w)) = (no_props, subst (λ z. Rest (Node column) E x (Scalar no_props) E z) (sym w) (rest_rest (node_left cs (Unit {0}) handles room col c b column E x) (scalar_here cs (Unit {0}) handles (opens cs (Unit {0}) handles room) (below cs (Unit {0}) handles room) (facts_at cs (Unit {0}) handles room) (eased_at cs (Unit {0}) handles room) (wider_at cs (Unit {0}) handles room) (forward_at cs (Unit {0}) handles room) (blocks_at cs (Unit {0}) handles room) col (least_dash col c) c x column (subst (Kind cs 4) w (sign_kind cs n sign)))))
            go (inl (u, v)) (inr (y, r, lt)) = absurd (y v)
            go (inr m) (inl (y, w)) = absurd (marked x e q m y)
            go (inr m) (inr (y, r, lt)) = (q, rest_rest (node_left cs (Unit {0}) handles room col c b column E x) (own_scalar cs (Unit {0}) handles (opens cs (Unit {0}) handles room) (below cs (Unit {0}) handles room) (facts_at cs (Unit {0}) handles room) (eased_at cs (Unit {0}) handles room) (wider_at cs (Unit {0}) handles room) (forward_at cs (Unit {0}) handles room) (blocks_at cs (Unit {0}) handles room) col (least_dash col c) c x e n q column (own_of x e q m all on) (r, lt, sign_kind cs n sign)))
        signed n (above f l k m over ind le g up st whole dash end mark) t sign ap =
            up_to (λ o a. (r : Props) × Rest (Node o) E i (Scalar r) E n) f k m g (above_signed i f l k x p up over st ind whole le dash end mark e q all on n line t sign ap)

        pub signed_clash : (n : ℕ) → Outer cs handles col column i x p → Follows cs x e n q → IsStyleSign cs n → (Disjoint p q → ⊥) → Refused (Node (column_of p column)) E i
        signed_clash n (nothing g h) t sign clash = absurd (clash (subst (λ z. Disjoint z q) (sym h) (apart_none q)))
        signed_clash n (above f l k m over ind le g up st whole dash end mark) t sign clash =
            up_to (λ o a. Refused (Node o) E i) f k m g (above_signed_clash i f l k x p up over st ind whole le dash end mark e q all on n line t sign clash)

      pub barred : Outer cs handles col column i x p → Barred cs handles 0 block_key x → Refused (Node (column_of p column)) E i
      barred (nothing g h) bar = beside (λ u o a z. Refused (Node o) E z) g h (rest_refused (node_left cs (Unit {0}) handles room col c b column E x) (refused_either (no_forms_barred cs (Unit {0}) handles (opens cs (Unit {0}) handles room) (below cs (Unit {0}) handles room) (facts_at cs (Unit {0}) handles room) (eased_at cs (Unit {0}) handles room) (wider_at cs (Unit {0}) handles room) (forward_at cs (Unit {0}) handles room) (blocks_at cs (Unit {0}) handles room) col (least_dash col c) c x (barred_line cs handles x bar)) (no_keyed column)))
        where
          no_keyed : (o : Option ℕ) → Refused (MappingAt cs (Unit {0}) handles room col c no_props o) E x
          no_keyed None = record { none = λ j m v r f. r }
          no_keyed (Some k) = no_mapping_barred cs (Unit {0}) handles (opens cs (Unit {0}) handles room) (below cs (Unit {0}) handles room) (facts_at cs (Unit {0}) handles room) (eased_at cs (Unit {0}) handles room) (wider_at cs (Unit {0}) handles room) (forward_at cs (Unit {0}) handles room) (blocks_at cs (Unit {0}) handles room) col (least_dash col c) c no_props E k x (barred_line cs handles x bar)
      barred (above f l k m over ind le g up st whole dash end mark) bar =
          up_to (λ o a. Refused (Node o) E i) f k m g (above_barred i f l k x p up over st ind whole le bar)

      -- ---- the line is over after own properties

      module _ (e h : ℕ) (q : Props) (onward : x ≤ e) (own_marks : SomeProperties cs handles 0 block_key x e q) (all : AllProperties cs handles 0 block_key x e q) (end : s_l_comments cs e h) where
        pub over_above : Outer cs handles col column i x p → Disjoint p q → Above cs handles col i e (both_props p q)
        over_above (nothing g u) ap =
            subst (λ z. Above cs handles col z e (both_props p q)) g (subst (Above cs handles col x e) (sym (ap_both u)) (one_line own_marks all))
          where
            ap_both : p ≡ no_props → both_props p q ≡ q
            ap_both u = subst (λ z. both_props z q ≡ q) (sym u) (none_both q)
        over_above (above f l k m over ind le g up st whole dash no_end mark) ap =
            two_lines f l k x p q (first_of i f x e p q up own_marks ap) over st ind whole le own_marks ap refl

        pub over_left : Outer cs handles col column i x p → Rest (Node (column_of p column)) E i (Node None) E i
        over_left (nothing g u) = beside (λ w o a z. Rest (Node o) E z (Node None) E z) g u (record { rest = go })
          where
            go : (j m : ℕ) (v : List Event) → Node column x j v → E j m → (o : ℕ) × (w : List Event) × Node None x o w × E o m
            go j m v (inl r) f = (j, v, inl r, f)
            go j m v (inr (inl r)) f = (j, v, inr (inl r), f)
            go j m v (inr (inr (inl r))) f = (j, v, inr (inr (inl r)), f)
            go j m v (inr (inr (inr r))) f = absurd ((no_mapping_in cs (Unit {0}) handles (opens cs (Unit {0}) handles room) (below cs (Unit {0}) handles room) (facts_at cs (Unit {0}) handles room) (eased_at cs (Unit {0}) handles room) (wider_at cs (Unit {0}) handles room) (forward_at cs (Unit {0}) handles room) (blocks_at cs (Unit {0}) handles room) col (least_dash col c) c no_props E x e h q column onward (marks_props cs handles 0 block_key x e q own_marks) end).none j m v (mapping_at cs (Unit {0}) handles room col c no_props column x j v refl r) f)
        over_left (above f l k m over ind le g up st whole dash no_end mark) =
            up_to (λ o a. Rest (Node o) E i (Node None) E i) f k m g (record { rest = λ j n v r w. (j, v, r, w) })

        pub over_clash : Outer cs handles col column i x p → (Disjoint p q → ⊥) → Refused (Node (column_of p column)) E i
        over_clash (nothing g u) clash = absurd (clash (subst (λ z. Disjoint z q) (sym u) (apart_none q)))
        over_clash (above f l k m over ind le g up st whole dash no_end mark) clash =
            up_to (λ o a. Refused (Node o) E i) f k m g (above_over_clash i f l k x p up over st ind whole le e h q onward own_marks end clash)
