-- Properties of a block node on one line and on two, as a reader finds them: it reads those of a line, and then looks whether the line is over.
use Rattle.std.proofs.Common.{◌≡◌, ℕ, ◌+◌, ◌≤◌, ◌<◌, ◌⊎◌, inl, inr, List, Some, None, refl, sym, ◌∙◌, ap, subst, arith}
use Rattle.std.specs.Prelude.{slice_get, encode_utf8_all}
use Rattle.yaml_definitions.specs.model.Event.{Event, WrittenTag, untagged}
use Rattle.yaml_text.specs.Lines.{Inside}
use Rattle.yaml_definitions.specs.grammar.Rules.{Rule, Spans, ◌▸◌, ◌∪◌, with_value, run, Stands}
use Rattle.yaml_definitions.specs.grammar.Characters.{is_space}
use Rattle.yaml_definitions.specs.grammar.Separation.{Ctx, block_out, block_in, flow_out, flow_in, block_key, flow_key, s-separate as separate, s-separate-lines as separate_lines, s-l-comments as s_l_comments, s-indent as indent}
use Rattle.yaml_definitions.specs.grammar.Tags.{Handles, c-ns-tag-property as tag, c-ns-anchor-property as anchor, c-ns-properties as properties}
use Rattle.yaml_definitions.specs.grammar.Events.{Props, no_props}
use Rattle.yaml_definitions.specs.grammar.Nodes.{Part, part, ns-flow-node as flow_node}
use Rattle.yaml_definitions.proofs.grammar.Widening.{Within}
use Rattle.yaml_text.proofs.Runs.{run_none, same_char}
use Rattle.yaml_text.proofs.LineRuns.{inside_no_line}
use Rattle.yaml_definitions.proofs.grammar.Forward.{Forward, on_separate, fwd_tag, fwd_anchor}
use Rattle.law_one_reading.specs.Readings.{End, At}
use Rattle.law_one_reading.specs.Follows.{Solid, Stuck, Past, Way, Over, Follow, EndsNode as F}
use Rattle.law_one_reading.proofs.Lines.{past_of, past_no_run, sep_parts, sep_run, way_of, way_same}
use Rattle.law_one_reading.proofs.FlowNodes.{Kind, kind_same, prop_kind, YamlRest, JsonRest}
use Rattle.law_one_reading.proofs.FlowEntries.{Facts}
use Rattle.law_one_reading.proofs.BlockNodes.{KeyRead, dash_no_kind, scalars_other}
use Rattle.law_one_reading.proofs.KeyContexts.{Eased}
use Rattle.law_one_reading.proofs.BlockLevels.{Blocks, entry_key}
use Rattle.law_one_reading.proofs.Properties.{PropHere, prop, prop_solid, Two, alone, pair, both, props_two, props_here, props_inside, props_alone, tag_props, anchor_props}
use Rattle.law_one_reading.proofs.TagEnds.{prop_same, prop_here, prop_inside, tag_here}
use Rattle.law_going_on.specs.GoingOn.{Refused, Rest}
use Rattle.law_going_on.proofs.GoingOn.{rest_refused}
use Rattle.law_going_on.proofs.PropertyChoices.{Differ, Second, Kinds, one_prop, two_props, kinds}
use Rattle.law_going_on.proofs.BlockLoops.{SequenceFrom, MappingFrom}
use Rattle.law_going_on.proofs.BlockStarts.{FlowLine, ScalarOf, ProppedScalar, ProppedCollection, CollectionsOf, OnLine, scalar_kind, mapping_from, sequence_from, seq_dash}
use Rattle.law_going_on.proofs.BlockProperties.{Contents, Under, rest_next, propped_left, scalar_next, collections_stuck, line_of, line_after, scalar_after, collection_after, collection_of_both}

module _ (cs : List ℕ) where
  -- separation on one line is separation everywhere
  pub line_separate : (n : ℕ) (c : Ctx) (i j : ℕ) → separate cs 0 block_key i j → separate cs n c i j
  unfolding separate separate_lines
  line_separate n block_out i j s = inr s
  line_separate n block_in i j s = inr s
  line_separate n flow_out i j s = inr s
  line_separate n flow_in i j s = inr s
  line_separate n block_key i j s = s
  line_separate n flow_key i j s = s

  -- and where the line goes on there is no other
  pub separate_line : (n : ℕ) (c : Ctx) (i j : ℕ) → ((k : ℕ) → s_l_comments cs i k → ⊥) → separate cs n c i j → separate cs 0 block_key i j
  unfolding separate separate_lines
  separate_line n block_out i j f (inl (k, s, r)) = absurd (f k s)
  separate_line n block_out i j f (inr s) = s
  separate_line n block_in i j f (inl (k, s, r)) = absurd (f k s)
  separate_line n block_in i j f (inr s) = s
  separate_line n flow_out i j f (inl (k, s, r)) = absurd (f k s)
  separate_line n flow_out i j f (inr s) = s
  separate_line n flow_in i j f (inl (k, s, r)) = absurd (f k s)
  separate_line n flow_in i j f (inr s) = s
  separate_line n block_key i j f s = s
  separate_line n flow_key i j f s = s

  -- a line below with at least n spaces
  pub below_separate : (n k i s x : ℕ) → s_l_comments cs i s → indent cs k s x → n ≤ k → separate_lines cs n i x
  unfolding separate_lines indent
  below_separate n k i s x l (r, e) le = inl (s, l, (s + n, ((omega arith, λ m a b. r.1 m a (omega (arith, e, b, le))), refl), (omega (arith, e, le), λ m a b. r.1 m (omega (arith, a)) b)))

  pub line_run : (i j : ℕ) → separate cs 0 block_key i j → run cs is_space i j
  unfolding separate
  line_run i j s = sep_run cs i j s

  -- content is not apart from what ends where it begins
  pub no_gap : (n : ℕ) (c : Ctx) (e : ℕ) → Inside cs e → separate cs n c e e → Solid cs e → ⊥
  no_gap n c e o s h = go (sep_parts cs n c e e o s)
    where
      go : (run cs is_space e e × (e < e)) ⊎ ((p : ℕ) × Past cs e p × run cs is_space p e) → ⊥
      go (inl (r, l)) = omega (arith, l)
      go (inr (p, a, r)) = inside_no_line cs e o (past_no_run cs e p e a (run_none cs is_space e) h).0

module _ (cs : List ℕ) (handles : Handles) where
  -- properties on one line are properties everywhere
  pub line_properties : (n : ℕ) (c : Ctx) (i j : ℕ) (p : Props) → properties cs handles 0 block_key i j p → properties cs handles n c i j p
  unfolding properties
  line_properties n c i j p (inl (k, t, r, inl e)) = inl (k, t, r, inl e)
  line_properties n c i j p (inl (k, t, r, inr (q, s, a))) = inl (k, t, r, inr (q, line_separate cs n c k q s, a))
  line_properties n c i j p (inr (k, t, r, inl e)) = inr (k, t, r, inl e)
  line_properties n c i j p (inr (k, t, r, inr (q, s, a))) = inr (k, t, r, inr (q, line_separate cs n c k q s, a))

  prop_onward : (i j : ℕ) (p : Props) → prop cs handles i j p → i ≤ j
  prop_onward i j p (inl (t, r, e)) = fwd_tag cs handles i j t r
  prop_onward i j p (inr (t, r, e)) = fwd_anchor cs i j t r

  -- after one property comes another: both are not one
  pub two_not_one : (n : ℕ) (c : Ctx) (i l z e : ℕ) (a b p : Props) → prop cs handles i l a → separate cs n c l z → prop cs handles z e b → prop cs handles i e p → ⊥
  two_not_one n c i l z e a b p r s t u =
      let h : l ≡ e = (prop_same cs handles i l e a p r u).0 in
      let x : l ≤ z = on_separate cs n c l z s in
      let y : z ≤ e = prop_onward z e b t in
      let g : z ≡ l = omega (arith, h, x, y) in
      no_gap cs n c l (prop_inside cs handles i l a r) (subst (separate cs n c l) g s) (subst (Solid cs) g (prop_solid cs handles z (prop_here cs handles z e b t)).0)

  pub no_second_of_two : (n m : ℕ) (c d : Ctx) (i l z e : ℕ) (a b p : Props) → prop cs handles i l a → separate cs n c l z → prop cs handles z e b → Second cs handles m d i e p → ⊥
  no_second_of_two n m c d i l z e a b p r s t (u, w) = two_not_one n c i l z e a b p r s t u

  -- those of one line stand on one line
  pub one_line : (i e : ℕ) (p : Props) → properties cs handles 0 block_key i e p
      → (n : ℕ) (c : Ctx) (l o : ℕ) (a b : Props) → prop cs handles i l a → separate cs n c l o → prop cs handles o e b → run cs is_space l o
  one_line i e p r n c l o a b f s g = go (props_two cs handles 0 block_key i e p r)
    where
      go : Two cs handles 0 block_key i e p → run cs is_space l o
      go (alone u) = absurd (two_not_one n c i l o e a b p f s g u)
      go (pair y z a2 b2 k t w eq) =
          let h : y ≡ l = (prop_same cs handles i y l a2 a k f).0 in
          let x : z ≡ o = way_same cs l z o (subst (λ v. Way cs v z) h (way_of cs 0 block_key y z t (prop_solid cs handles z (prop_here cs handles z e b2 w)).0)) (way_of cs n c l o s (prop_solid cs handles o (prop_here cs handles o e b g)).0) in
          subst (λ v. run cs is_space v o) h (subst (λ v. run cs is_space y v) x (line_run cs y z t))

  anchor_here : (i j : ℕ) (x : List ℕ) → anchor cs i j x → slice_get cs i ≡ Some 38
  unfolding anchor
  anchor_here i j x (k, (h, e), r) = h

  two_tags : (i x j l : ℕ) (t u : WrittenTag) → tag cs handles i j t → tag cs handles x l u → Differ cs handles 0 block_key i x → ⊥
  two_tags i x j l t u r s (inl (g, h)) = let m : 33 ≡ 38 = same_char cs x 33 38 (tag_here cs handles x l u s) h in omega (arith, m)
  two_tags i x j l t u r s (inr (g, h)) = let m : 33 ≡ 38 = same_char cs i 33 38 (tag_here cs handles i j t r) g in omega (arith, m)

  two_anchors : (i x j l : ℕ) (a b : List ℕ) → anchor cs i j a → anchor cs x l b → Differ cs handles 0 block_key i x → ⊥
  two_anchors i x j l a b r s (inl (g, h)) = let m : 38 ≡ 33 = same_char cs i 38 33 (anchor_here i j a r) g in omega (arith, m)
  two_anchors i x j l a b r s (inr (g, h)) = let m : 38 ≡ 33 = same_char cs x 38 33 (anchor_here x l b s) h in omega (arith, m)

  -- two on two lines, or on one
  pub properties_of_both : (n : ℕ) (c : Ctx) (i l z e : ℕ) (a b : Props) → prop cs handles i l a → separate cs n c l z → prop cs handles z e b → Differ cs handles n c i z → properties cs handles n c i e (both a b)
  unfolding properties
  properties_of_both n c i l z e a b r s t d = go r t d
    where
      is : (p : Props) → properties cs handles n c i e p → p ≡ both a b
      is p u = same (props_two cs handles n c i e p u)
        where
          same : Two cs handles n c i e p → p ≡ both a b
          same (alone v) = absurd (two_not_one n c i l z e a b p r s t v)
          same (pair y o a2 b2 k v w eq) =
              let h = prop_same cs handles i y l a2 a k r in
              let x : o ≡ z = way_same cs l o z (subst (λ m. Way cs m o) h.0 (way_of cs n c y o v (prop_solid cs handles o (prop_here cs handles o e b2 w)).0)) (way_of cs n c l z s (prop_solid cs handles z (prop_here cs handles z e b t)).0) in
              let g = prop_same cs handles z e e b2 b (subst (λ m. prop cs handles m e b2) x w) t in
              eq ∙ ap (λ m. both m b2) h.1 ∙ ap (both a) g.1

      given : (p : Props) → properties cs handles n c i e p → properties cs handles n c i e (both a b)
      given p u = subst (properties cs handles n c i e) (is p u) u

      go : prop cs handles i l a → prop cs handles z e b → Differ cs handles n c i z → properties cs handles n c i e (both a b)
      go (inl (x, f, h)) (inr (y, g, k)) w = given (record { anchor = Some (encode_utf8_all y); tag = x }) (inl (l, x, f, inr (z, s, (y, g, refl))))
      go (inr (x, f, h)) (inl (y, g, k)) w = given (record { anchor = Some (encode_utf8_all x); tag = y }) (inr (l, x, f, inr (z, s, (y, g, refl))))
      go (inl (x, f, h)) (inl (y, g, k)) w = absurd (two_tags i z l e x y f g w)
      go (inr (x, f, h)) (inr (y, g, k)) w = absurd (two_anchors i z l e x y f g w)

  -- properties begin on this line, but after all of them one more follows on it
  abbrev pub BarredLine : ℕ → Type 0
  BarredLine i = PropHere cs handles i × ((l : ℕ) (q : Props) → properties cs handles 0 block_key i l q → (o : ℕ) × separate cs 0 block_key l o × PropHere cs handles o)

  -- whichever way properties are separated, the same line bars them
  pub barred_further : (i : ℕ) → BarredLine i → (n : ℕ) (c : Ctx) (l : ℕ) (q : Props) → properties cs handles n c i l q → (o : ℕ) × separate cs 0 block_key l o × PropHere cs handles o
  unfolding properties
  barred_further i (at, more) n c l q (inl (k, t, r, inl (e, f))) = more l q (inl (k, t, r, inl (e, f)))
  barred_further i (at, more) n c l q (inr (k, a, r, inl (e, f))) = more l q (inr (k, a, r, inl (e, f)))
  barred_further i (at, more) n c l q (inl (k, t, r, inr (z, s, (a, u, f)))) = more l q (inl (k, t, r, inr (z, on_line (more k (tag_props t) (inl (k, t, r, inl (refl, refl)))), (a, u, f))))
    where
      on_line : (o : ℕ) × separate cs 0 block_key k o × PropHere cs handles o → separate cs 0 block_key k z
      on_line (o, v, h) =
          let e : o ≡ z = way_same cs k o z (way_of cs 0 block_key k o v (prop_solid cs handles o h).0) (way_of cs n c k z s (prop_solid cs handles z (inr (anchor_here z l a u))).0) in
          subst (separate cs 0 block_key k) e v
  barred_further i (at, more) n c l q (inr (k, a, r, inr (z, s, (t, u, f)))) = more l q (inr (k, a, r, inr (z, on_line (more k (anchor_props a) (inr (k, a, r, inl (refl, refl)))), (t, u, f))))
    where
      on_line : (o : ℕ) × separate cs 0 block_key k o × PropHere cs handles o → separate cs 0 block_key k z
      on_line (o, v, h) =
          let e : o ≡ z = way_same cs k o z (way_of cs 0 block_key k o v (prop_solid cs handles o h).0) (way_of cs n c k z s (prop_solid cs handles z (inl (tag_here cs handles z l t u))).0) in
          subst (separate cs 0 block_key k) e v

module _ (cs : List ℕ) (Wide : Type 0) (handles : Handles) (Open : Type 0) (inside : Part → Rule (List Event)) (facts : Facts cs inside) (ease : Eased cs Wide handles inside)
    (wider : (p : Part) → Within (inside p) (part cs Wide handles Open inside p)) (fwd : (p : Part) → Forward (inside p)) (blocks : Blocks cs Wide handles inside) (col d : ℕ) (c : Ctx) where
  abbrev Flow : Rule (List Event)
  Flow = flow_node cs Wide handles Open inside col flow_out

  abbrev FlowRest : Props → Rule (List Event)
  FlowRest p = YamlRest cs Wide handles Open inside col flow_out p ∪ JsonRest cs Wide handles Open inside col flow_out p

  abbrev Content : Props → Rule (List Event)
  Content = Contents cs Wide handles Open inside facts ease wider fwd blocks col d c

  abbrev Line : Rule (List Event)
  Line = FlowLine cs Wide handles Open inside facts ease wider fwd blocks col c

  abbrev Scalar : Props → Rule (List Event)
  Scalar = ScalarOf cs Wide handles Open inside facts ease wider fwd blocks col c

  abbrev Scalars : Rule (List Event)
  Scalars = ProppedScalar cs Wide handles Open inside facts ease wider fwd blocks col c

  abbrev Collections : Rule (List Event)
  Collections = ProppedCollection cs Wide handles Open inside facts ease wider fwd blocks col c

  abbrev Forms : Rule (List Event)
  Forms = OnLine cs Wide handles Open inside facts ease wider fwd blocks col c

  abbrev Mapping : ℕ → Props → Rule (List Event)
  Mapping k = MappingFrom cs Wide handles Open inside k

  abbrev Sequence : ℕ → Props → Rule (List Event)
  Sequence k = SequenceFrom cs Wide handles Open inside k

  abbrev AfterNode : End
  AfterNode = Over cs (Follow cs col d)

  abbrev AfterThem : Props → Rule (List Event)
  AfterThem = Under cs Wide handles Open inside facts ease wider fwd blocks col d c

  no_scalar_at : (p : Props) (i j : ℕ) (v : List Event) → Kind cs 1 i → Scalar p i j v → ⊥
  no_scalar_at p i j v h r = let z : 4 ≡ 1 = kind_same cs 4 1 i (scalar_kind cs Wide handles Open inside facts ease wider fwd blocks col c p i j v r) h in omega (arith, z)

  no_sequence_at : (p : Props) (k i j : ℕ) (v : List Event) → Kind cs 1 i → Sequence k p i j v → ⊥
  no_sequence_at p k i j v h (o, (t, (m, us, vs, d1, rest, f), y)) = dash_no_kind cs 1 i (seq_dash cs Wide handles Open inside facts ease wider fwd blocks col c k i m us d1) h

  -- ---- the properties of a line, or of two, are all there are

  pub under_after : (i e : ℕ) (p : Props) → Kind cs 1 i → properties cs handles 0 block_key i e p → (Second cs handles col flow_out i e p → ⊥) → (Second cs handles col c i e p → ⊥) → Rest Forms AfterNode i (AfterThem p) AfterNode e
  under_after i e p h r out none = record { rest = go }
    where
      go : (j m : ℕ) (v : List Event) → Forms i j v → AfterNode j m → (k : ℕ) × (w : List Event) × AfterThem p e k w × AfterNode k m
      go j m v (inl t) f =
          let (k, w, s, g) = (line_after cs Wide handles Open inside facts ease wider fwd blocks col d c i e p h (line_properties cs handles col flow_out i e p r) out).rest j m v t f in (k, w, inl s, g)
      go j m v (inr (inl t)) f = absurd (no_scalar_at no_props i j v h t)
      go j m v (inr (inr (inl t))) f =
          let (k, w, s, g) = (scalar_after cs Wide handles Open inside facts ease wider fwd blocks col d c i e p (line_properties cs handles col c i e p r) none).rest j m v t f in (k, w, inr (inl s), g)
      go j m v (inr (inr (inr t))) f =
          let (k, w, s, g) = (collection_after cs Wide handles Open inside facts ease wider fwd blocks col d c i e p (line_properties cs handles col c i e p r) none (λ l o a b. one_line cs handles i e p r col c l o a b)).rest j m v t f in
          (k, w, inr (inr s), g)

  -- one alone on its line, and one of the other kind on the next, whose line is over after it
  pub under_both : (i l e s z k h : ℕ) (a b : Props) → prop cs handles i l a → s_l_comments cs l s → Stuck cs s → indent cs k s z → (Stands cs is_space z → ⊥)
      → separate cs col flow_out l z → separate cs col c l z → prop cs handles z e b → Differ cs handles col c i z → s_l_comments cs e h → Rest Forms AfterNode i (AfterThem (both a b)) AfterNode e
  under_both i l e s z k h a b ra over st ind n sf sc rb df end = record { rest = go }
    where
      here : Kind cs 1 i
      here = prop_kind cs handles i (prop_here cs handles i l a ra)

      go : (j m : ℕ) (v : List Event) → Forms i j v → AfterNode j m → (o : ℕ) × (w : List Event) × AfterThem (both a b) e o w × AfterNode o m
      go j m v (inl t) f =
          let r = properties_of_both cs handles col flow_out i l z e a b ra sf rb df in
          let (o, w, u, g) = (line_after cs Wide handles Open inside facts ease wider fwd blocks col d c i e (both a b) here r (no_second_of_two cs handles col col flow_out flow_out i l z e a b (both a b) ra sf rb)).rest j m v t f in
          (o, w, inl u, g)
      go j m v (inr (inl t)) f = absurd (no_scalar_at no_props i j v here t)
      go j m v (inr (inr (inl t))) f =
          let r = properties_of_both cs handles col c i l z e a b ra sc rb df in
          let (o, w, u, g) = (scalar_after cs Wide handles Open inside facts ease wider fwd blocks col d c i e (both a b) r (no_second_of_two cs handles col col c c i l z e a b (both a b) ra sc rb)).rest j m v t f in
          (o, w, inr (inl u), g)
      go j m v (inr (inr (inr t))) f =
          let (o, w, u, g) = (collection_of_both cs Wide handles Open inside facts ease wider fwd blocks col d c i l e s z k h a b ra over st ind n sc rb end).rest j m v t f in (o, w, inr (inr u), g)

  -- ---- one property too many

  -- one more follows after any properties that begin at i
  abbrev pub Further : ℕ → Type 0
  Further i = (b : Ctx) (l : ℕ) (q : Props) → properties cs handles col b i l q → (o : ℕ) × (x : Ctx) × separate cs col x l o × PropHere cs handles o

  inside_of : (b : Ctx) (i l : ℕ) (q : Props) → properties cs handles col b i l q → Inside cs l
  inside_of b i l q r = props_inside cs handles (prop_same cs handles) (prop_here cs handles) (prop_inside cs handles) col b i l q (props_two cs handles col b i l q r)

  pub no_flow_further : (i : ℕ) → Kind cs 1 i → Further i → Refused Flow (At (F cs col d)) i
  no_flow_further i h more = record { none = λ j m v t f. go m ((propped_left cs Wide handles Open inside facts ease wider fwd blocks col d c (At (F cs col d)) i h).rest j m v t f) }
    where
      go : (m : ℕ) → (k : ℕ) × (w : List Event) × with_value (properties cs handles col flow_out) FlowRest i k w × At (F cs col d) k m → ⊥
      go m (k, w, (l, q, r, u), f) =
          let (o, x, s, p) = more flow_out l q r in
          rest_next cs Wide handles Open inside facts ease wider fwd blocks col d c q l k m w (inside_of flow_out i l q r) u f x o s p

  pub no_line_further : (i : ℕ) → Kind cs 1 i → Further i → Refused Line AfterNode i
  no_line_further i h more = record { none = λ j m v (k, t, s) (x, y). (no_flow_further i h more).none k k v t (refl, inl (m, past_of cs k j m s x, y)) }

  pub no_scalar_further : (i : ℕ) → Further i → Refused Scalars AfterNode i
  no_scalar_further i more = record { none = go }
    where
      go : (j m : ℕ) (v : List Event) → Scalars i j v → AfterNode j m → ⊥
      go j m v (l, q, r, u) f =
          let (o, x, s, p) = more c l q r in
          scalar_next cs Wide handles Open inside facts ease wider fwd blocks col d c q l j m v (inside_of c i l q r) u f x o s p

  further : (i : ℕ) → BarredLine cs handles i → Further i
  further i bar b l q r = let (o, s, p) = barred_further cs handles i bar col b l q r in (o, block_key, line_separate cs col block_key l o s, p)

  -- a property on the line of what stands before: the line is not over
  not_over : (l o x : ℕ) → Inside cs l → separate cs 0 block_key l o → PropHere cs handles o → s_l_comments cs l x → ⊥
  not_over l o x ins s p t = inside_no_line cs l ins (past_no_run cs l x o (past_of cs l x x t (Spans.done refl)) (line_run cs l o s) (prop_solid cs handles o p).0).0

  -- so nothing of block level begins with them
  pub no_flow_barred : (i : ℕ) → BarredLine cs handles i → Refused Flow (At (F cs col d)) i
  no_flow_barred i bar = no_flow_further i (prop_kind cs handles i bar.0) (further i bar)

  pub no_forms_barred : (i : ℕ) → BarredLine cs handles i → Refused Forms AfterNode i
  no_forms_barred i bar = record { none = go }
    where
      go : (j m : ℕ) (v : List Event) → Forms i j v → AfterNode j m → ⊥
      go j m v (inl t) f = (no_line_further i (prop_kind cs handles i bar.0) (further i bar)).none j m v t f
      go j m v (inr (inl t)) f = no_scalar_at no_props i j v (prop_kind cs handles i bar.0) t
      go j m v (inr (inr (inl t))) f = (no_scalar_further i (further i bar)).none j m v t f
      go j m v (inr (inr (inr (l, q, r, (x, t, u))))) f = let (o, s, p) = barred_further cs handles i bar col c l q r in not_over l o x (inside_of c i l q r) s p t

  pub no_mapping_barred : (p : Props) (E : End) (k i : ℕ) → BarredLine cs handles i → Refused (Mapping k p) E i
  no_mapping_barred p E k i bar = record { none = λ j m v (a, (t, (b, us, vs, u, rest, y), f)) w. key (entry_key cs Wide handles Open inside facts ease wider fwd blocks col d c k i b us u) }
    where
      key : KeyRead cs Wide handles Open inside col d c i → ⊥
      key (o, v, f, fk, one) = (no_flow_barred i bar).none o o v f (refl, inr fk)

  -- ---- properties above, and one more on the next line that is not theirs: they are a mapping's, whose key begins there

  abbrev CollectionsBelow : Props → Rule (List Event)
  CollectionsBelow p = s_l_comments cs ▸ CollectionsOf cs Wide handles Open inside facts ease wider fwd blocks col c p

  mapping_left : (p : Props) (e s x k j : ℕ) (v : List Event) → s_l_comments cs e s → Stuck cs s → indent cs k s x → (Stands cs is_space x → ⊥) → Kind cs 1 x → CollectionsBelow p e j v → Mapping k p x j v
  mapping_left p e s x k j v over st ind n h (y, t, r) = go (line_of cs Wide handles Open inside facts ease wider fwd blocks col d c e s y over st t (collections_stuck cs Wide handles Open inside facts ease wider fwd blocks col d c p y j v r)) r
    where
      go : y ≡ s → CollectionsOf cs Wide handles Open inside facts ease wider fwd blocks col c p y j v → Mapping k p x j v
      go g (inl u) = (mapping_from cs Wide handles Open inside facts ease wider fwd blocks col c p k y x j v (subst (λ z. indent cs k z x) (sym g) ind) n u).1
      go g (inr u) =
          absurd (no_sequence_at p k x j v h (sequence_from cs Wide handles Open inside facts ease wider fwd blocks col c p (Rattle.yaml_definitions.specs.grammar.Nodes.seq-space cs Wide handles Open inside col c) k y x j v (subst (λ z. indent cs k z x) (sym g) ind) n u).1)

  mapping_alone : (i e s x k : ℕ) (p : Props) → Kind cs 1 i → Further i → Rest Collections AfterNode i (CollectionsBelow p) AfterNode e → s_l_comments cs e s → Stuck cs s → indent cs k s x → (Stands cs is_space x → ⊥) → Kind cs 1 x
      → Rest Forms AfterNode i (Mapping k p) AfterNode x
  mapping_alone i e s x k p h more left over st ind n hx = record { rest = go }
    where
      go : (j m : ℕ) (v : List Event) → Forms i j v → AfterNode j m → (o : ℕ) × (w : List Event) × Mapping k p x o w × AfterNode o m
      go j m v (inl t) f = absurd ((no_line_further i h more).none j m v t f)
      go j m v (inr (inl t)) f = absurd (no_scalar_at no_props i j v h t)
      go j m v (inr (inr (inl t))) f = absurd ((no_scalar_further i more).none j m v t f)
      go j m v (inr (inr (inr t))) f = let (o, w, u, g) = left.rest j m v t f in (o, w, mapping_left p e s x k o w over st ind n hx u, g)

  -- after a second property that begins at x one more follows on its line
  abbrev Held : ℕ → ℕ → ℕ → Props → Type 0
  Held i e x p = (l : ℕ) (b : Props) → prop cs handles i e p → prop cs handles x l b → Differ cs handles col c i x → (o : ℕ) × separate cs 0 block_key l o × PropHere cs handles o

  module _ (i e s x k : ℕ) (p : Props) (r : properties cs handles 0 block_key i e p) (over : s_l_comments cs e s) (st : Stuck cs s) (ind : indent cs k s x) (n : Stands cs is_space x → ⊥)
      (next : separate cs col flow_out e x) (hx : PropHere cs handles x) (held : Held i e x p) where
    solid_at : (o j : ℕ) (b : Props) → prop cs handles o j b → Solid cs o
    solid_at o j b t = (prop_solid cs handles o (prop_here cs handles o j b t)).0

    -- the second of two properties of a reading stands at x
    second_at : (b : Ctx) (y z l : ℕ) (a2 b2 : Props) → y ≡ e → separate cs col b y z → prop cs handles z l b2 → z ≡ x
    second_at b y z l a2 b2 h t w = way_same cs e z x (subst (λ v. Way cs v z) h (way_of cs col b y z t (solid_at z l b2 w))) (way_of cs col flow_out e x next (prop_solid cs handles x hx).0)

    more_after : Further i
    more_after b l q t = go (props_two cs handles 0 block_key i e p r) (kinds cs handles col b i l q t)
      where
        one_more : e ≡ l → (o : ℕ) × (y : Ctx) × separate cs col y l o × PropHere cs handles o
        one_more h = (x, flow_out, subst (λ v. separate cs col flow_out v x) h next, hx)

        go : Two cs handles 0 block_key i e p → Kinds cs handles col b i l q → (o : ℕ) × (y : Ctx) × separate cs col y l o × PropHere cs handles o
        go (alone a) (one_prop u) = one_more (prop_same cs handles i e l p q a u).0
        go (alone a) (two_props y z a2 b2 f g w eq df) =
            let h = prop_same cs handles i y e a2 p f a in
            let m : z ≡ x = second_at b y z l a2 b2 h.0 g w in
            let (o, s2, at) = held l b2 a (subst (λ v. prop cs handles v l b2) m w) (subst (Differ cs handles col c i) m df) in
            (o, block_key, line_separate cs col block_key l o s2, at)
        go (pair y z a b2 f g w eq) (one_prop u) =
            let h = prop_same cs handles i y l a q f u in (z, block_key, line_separate cs col block_key l z (subst (λ v. separate cs 0 block_key v z) h.0 g), prop_here cs handles z e b2 w)
        go (pair y z a b2 f g w eq) (two_props y2 z2 a2 b3 f2 g2 w2 eq2 df) =
            let h = prop_same cs handles i y y2 a a2 f f2 in
            let m : z ≡ z2 = way_same cs y2 z z2 (subst (λ o. Way cs o z) h.0 (way_of cs 0 block_key y z g (solid_at z e b2 w))) (way_of cs col b y2 z2 g2 (solid_at z2 l b3 w2)) in
            one_more (prop_same cs handles z2 e l b2 b3 (subst (λ v. prop cs handles v e b2) m w) w2).0

    collections_held : Rest Collections AfterNode i (CollectionsBelow p) AfterNode e
    collections_held = record { rest = λ j m v (l, q, t, (y, u, w)) f. go j m v l q y u w f (props_two cs handles 0 block_key i e p r) (kinds cs handles col c i l q t) }
      where
        go : (j m : ℕ) (v : List Event) (l : ℕ) (q : Props) (y : ℕ) → s_l_comments cs l y → CollectionsOf cs Wide handles Open inside facts ease wider fwd blocks col c q y j v → AfterNode j m
            → Two cs handles 0 block_key i e p → Kinds cs handles col c i l q → (o : ℕ) × (w : List Event) × CollectionsBelow p e o w × AfterNode o m
        go j m v l q y u w f (alone a) (one_prop t) =
            let h = prop_same cs handles i e l p q a t in
            (j, v, (y, subst (λ z. s_l_comments cs z y) (sym h.0) u, subst (λ z. CollectionsOf cs Wide handles Open inside facts ease wider fwd blocks col c z y j v) (sym h.1) w), f)
        go j m v l q y u w f (alone a) (two_props y2 z a2 b2 f2 g t eq df) =
            let h = prop_same cs handles i y2 e a2 p f2 a in
            let g2 : z ≡ x = second_at c y2 z l a2 b2 h.0 g t in
            let (o, s2, at) = held l b2 a (subst (λ v. prop cs handles v l b2) g2 t) (subst (Differ cs handles col c i) g2 df) in
            absurd (not_over l o y (prop_inside cs handles z l b2 t) s2 at u)
        go j m v l q y u w f (pair y2 z a b2 f2 g t eq) (one_prop t2) =
            let h = prop_same cs handles i y2 l a q f2 t2 in
            absurd (not_over l z y (prop_inside cs handles i l q t2) (subst (λ v. separate cs 0 block_key v z) h.0 g) (prop_here cs handles z e b2 t) u)
        go j m v l q y u w f (pair y1 z a b2 f2 g t eq) (two_props y2 z2 a2 b3 f3 g2 t2 eq2 df) =
            let h = prop_same cs handles i y1 y2 a a2 f2 f3 in
            let h2 : z ≡ z2 = way_same cs y2 z z2 (subst (λ o. Way cs o z) h.0 (way_of cs 0 block_key y1 z g (solid_at z e b2 t))) (way_of cs col c y2 z2 g2 (solid_at z2 l b3 t2)) in
            let o = prop_same cs handles z2 e l b2 b3 (subst (λ v. prop cs handles v e b2) h2 t) t2 in
            let is : p ≡ q = eq ∙ ap (λ v. both v b2) h.1 ∙ ap (both a2) o.1 ∙ sym eq2 in
            (j, v, (y, subst (λ z. s_l_comments cs z y) (sym o.0) u, subst (λ z. CollectionsOf cs Wide handles Open inside facts ease wider fwd blocks col c z y j v) (sym is) w), f)

    pub key_under : Kind cs 1 i → Rest Forms AfterNode i (Mapping k p) AfterNode x
    key_under h = mapping_alone i e s x k p h more_after collections_held over st ind n (prop_kind cs handles x hx)

  -- ---- what is left after properties, as a node by itself: the values differ, the places do not

  pub scalar_line : (p q : Props) (E : End) (z e : ℕ) → properties cs handles col c z e q → Rest (separate cs col c ▸ Scalar p) E e Scalars E z
  scalar_line p q E z e own = record { rest = λ j m v (k, s, r) f. let (w, t) = scalars_other cs Wide handles Open inside col d c p q k j v r in (j, w, (e, q, own, (k, s, t)), f) }

  -- ---- all properties above the line on which a node goes on

  -- all on one line, or one on a line and one of the other kind on the next
  pub data Upper (i e : ℕ) (p : Props) : Type 0 where
    one_line_above : properties cs handles 0 block_key i e p → Upper i e p
    two_lines_above : (l s k z : ℕ) (a b : Props) → prop cs handles i l a → s_l_comments cs l s → Stuck cs s → indent cs k s z → (Stands cs is_space z → ⊥) → col ≤ k → prop cs handles z e b → Differ cs handles col c i z
        → p ≡ both a b → Upper i e p

  -- neither has what the other has
  abbrev pub Unlike : Props → Props → Type 0
  Unlike p q = ((p.anchor ≡ None) ⊎ (q.anchor ≡ None)) × ((p.tag ≡ untagged) ⊎ (q.tag ≡ untagged))

  upper_kind : (i e : ℕ) (p : Props) → Upper i e p → Kind cs 1 i
  upper_kind i e p (one_line_above r) = prop_kind cs handles i (props_here cs handles (prop_same cs handles) (prop_here cs handles) (prop_inside cs handles) 0 block_key i e p (props_two cs handles 0 block_key i e p r))
  upper_kind i e p (two_lines_above l s k z a b r x st ind n le t df eq) = prop_kind cs handles i (prop_here cs handles i l a r)

  module _ (block : (i q : ℕ) → separate_lines cs col i q → separate cs col c i q) (lines : (i q : ℕ) → separate cs col c i q → separate_lines cs col i q) where
    out : (i q : ℕ) → separate_lines cs col i q → separate cs col flow_out i q
    unfolding separate
    out i q s = s

    out_lines : (i q : ℕ) → separate cs col flow_out i q → separate_lines cs col i q
    unfolding separate
    out_lines i q s = s

    no_second_in : (i e : ℕ) (p : Props) → (Second cs handles col flow_out i e p → ⊥) → Second cs handles col c i e p → ⊥
    no_second_in i e p none (a, (l, o, b, s, r, df)) = none (a, (l, o, b, out e o (lines e o s), r, df))

    -- and no more property follows on the next line: what is left after them
    pub upper_left : (i e s : ℕ) (p : Props) → Upper i e p → s_l_comments cs e s → (Second cs handles col flow_out i e p → ⊥) → Rest Forms AfterNode i (AfterThem p) AfterNode e
    upper_left i e s p u l none = go u
      where
        go : Upper i e p → Rest Forms AfterNode i (AfterThem p) AfterNode e
        go (one_line_above r) = under_after i e p (upper_kind i e p u) r none (no_second_in i e p none)
        go (two_lines_above l2 s2 k z a b r x st ind n le t df eq) =
            let sp = below_separate cs col k l2 s2 z x ind le in
            subst (λ q. Rest Forms AfterNode i (AfterThem q) AfterNode e) (sym eq) (under_both i l2 e s2 z k s a b r x st ind n (out l2 z sp) (block l2 z sp) t df l)

    -- a property begins the next line, at x, but it is none of theirs: they are a mapping's
    module _ (i e s k x : ℕ) (p : Props) (u : Upper i e p) (over : s_l_comments cs e s) (st : Stuck cs s) (ind : indent cs k s x) (n : Stands cs is_space x → ⊥) (le : col ≤ k) (hx : PropHere cs handles x) where
      next : separate cs col flow_out e x
      next = out e x (below_separate cs col k e s x over ind le)

      -- after the first of two lines the second follows, and after both the next line's
      further_of_two : (l s2 k2 z : ℕ) (a b : Props) → prop cs handles i l a → s_l_comments cs l s2 → indent cs k2 s2 z → col ≤ k2 → prop cs handles z e b → Further i
      further_of_two l s2 k2 z a b r over2 ind2 le2 t c2 m q w = go (kinds cs handles col c2 i m q w)
        where
          sp : separate cs col flow_out l z
          sp = out l z (below_separate cs col k2 l s2 z over2 ind2 le2)

          go : Kinds cs handles col c2 i m q → (o : ℕ) × (y : Ctx) × separate cs col y m o × PropHere cs handles o
          go (one_prop v) = (z, flow_out, subst (λ y. separate cs col flow_out y z) (prop_same cs handles i l m a q r v).0 sp, prop_here cs handles z e b t)
          go (two_props y z2 a2 b2 f g v eq df) =
              let h = prop_same cs handles i y l a2 a f r in
              let h2 : z2 ≡ z = way_same cs l z2 z (subst (λ o. Way cs o z2) h.0 (way_of cs col c2 y z2 g (prop_solid cs handles z2 (prop_here cs handles z2 m b2 v)).0)) (way_of cs col flow_out l z sp (prop_solid cs handles z (prop_here cs handles z e b t)).0) in
              let h3 = prop_same cs handles z e m b b2 t (subst (λ o. prop cs handles o m b2) h2 v) in
              (x, flow_out, subst (λ y. separate cs col flow_out y x) h3.0 next, hx)

      upper_key : Held i e x p → Rest Forms AfterNode i (Mapping k p) AfterNode x
      upper_key held = go u
        where
          go : Upper i e p → Rest Forms AfterNode i (Mapping k p) AfterNode x
          go (one_line_above r) = key_under i e s x k p r over st ind n next hx held (upper_kind i e p u)
          go (two_lines_above l2 s2 k2 z a b r x2 st2 ind2 n2 le2 t df eq) =
              let sp = below_separate cs col k2 l2 s2 z x2 ind2 le2 in
              let left = collection_of_both cs Wide handles Open inside facts ease wider fwd blocks col d c i l2 e s2 z k2 s a b r x2 st2 ind2 n2 (block l2 z sp) t over in
              subst (λ q. Rest Forms AfterNode i (Mapping k q) AfterNode x) (sym eq)
              (mapping_alone i e s x k (both a b) (upper_kind i e p u) (further_of_two l2 s2 k2 z a b r x2 ind2 le2 t) left over st ind n (prop_kind cs handles x hx))

      -- since both have a tag, or both an anchor
      pub upper_clash : (f : ℕ) (q : Props) → properties cs handles 0 block_key x f q → (Unlike p q → ⊥) → Rest Forms AfterNode i (Mapping k p) AfterNode x
      upper_clash f q r clash = upper_key held
        where
          unlike : (l : ℕ) → prop cs handles i e p → prop cs handles x l q → Differ cs handles col c i x → Unlike p q
          unlike l (inl (t, a, g)) (inr (y, b, h)) w = (inl (ap Props.anchor g), inr (ap Props.tag h))
          unlike l (inr (y, a, g)) (inl (t, b, h)) w = (inr (ap Props.anchor h), inl (ap Props.tag g))
          unlike l (inl (t, a, g)) (inl (u2, b, h)) w = absurd (two_tags cs handles i x e l t u2 a b w)
          unlike l (inr (y, a, g)) (inr (z, b, h)) w = absurd (two_anchors cs handles i x e l y z a b w)

          held : Held i e x p
          held l b a t w = go (props_two cs handles 0 block_key x f q r)
            where
              go : Two cs handles 0 block_key x f q → (o : ℕ) × separate cs 0 block_key l o × PropHere cs handles o
              go (alone v) = absurd (clash (unlike f a v w))
              go (pair y z a2 b2 g v m eq) = (z, subst (λ o. separate cs 0 block_key o z) (prop_same cs handles x y l a2 b g t).0 v, prop_here cs handles z f b2 m)

      -- or since none of those that begin there can be read to the end
      pub upper_barred : BarredLine cs handles x → Refused Forms AfterNode i
      upper_barred bar = rest_refused (upper_key held) (no_mapping_barred p AfterNode k x bar)
        where
          held : Held i e x p
          held l b a t w = bar.1 l b (props_alone cs handles 0 block_key x l b t)
