-- A node of block level: which of its forms stands here.
use Rattle.std.proofs.Common.{◌≡◌, ◌≢◌, ℕ, ◌+◌, ◌≤◌, ◌<◌, ◌⊎◌, inl, inr, List, true, Some, refl, sym, ◌∙◌, subst, arith}
use Rattle.std.specs.Prelude.{slice_get}
use Rattle.law_one_reading.specs.Follows as follows
use Rattle.yaml_definitions.specs.grammar.Rules.{Rule, ◌▸◌, ◌◂◌, ◌∪◌, with_value, run, Stands, maybe, Spans}
use Rattle.yaml_definitions.specs.grammar.Characters.{is_space, is_ns, is_nb, is_break, is_white, b-break as brk}
use Rattle.yaml_definitions.specs.grammar.Separation.{Ctx, flow_out, s-separate as separate, s-separate-lines as separate_lines, s-separate-in-line as sep, StartsLine, AtEnd, OneLine, s-indent as indent, s-l-comments as s_l_comments, b-comment as line_end, c-nb-comment-text as comment, l-comment as l_comment}
use Rattle.yaml_definitions.specs.grammar.Tags.{Handles, c-ns-properties as properties}
use Rattle.yaml_definitions.specs.grammar.Tags as tags
use Rattle.yaml_definitions.specs.grammar.FlowScalars.{ns-plain as plain, PlainFirst}
use Rattle.yaml_definitions.specs.grammar.BlockScalars.{c-l+literal as literal, c-l+folded as folded}
use Rattle.yaml_definitions.specs.model.Event.{Event}
use Rattle.yaml_definitions.specs.model.Event as style
use Rattle.yaml_definitions.specs.grammar.Events.{Props, no_props}
use Rattle.yaml_definitions.specs.grammar.Nodes.{Part, ns-flow-yaml-node as yaml_node, c-flow-json-node as json_node, ns-flow-node as flow_node, scalar_of, l+block-sequence as block_seq, l+block-mapping as block_map, s-l+block-node as block_node, seq-space as seq_column, c-flow-sequence as flow_seq, c-flow-mapping as flow_map}
use Rattle.yaml_definitions.proofs.grammar.Forward.{fwd_properties}
use Rattle.yaml_text.specs.Lines.{Inside, blank_rest}
use Rattle.yaml_text.proofs.Runs.{same_char, run_none}
use Rattle.yaml_text.proofs.Breaks.{run_join}
use Rattle.std.proofs.Math.Nat.{eq-or-lt_of_le}
use Rattle.yaml_scalar.proofs.PlainLemmas.{no_first_sign}
use Rattle.yaml_text.proofs.LineRuns.{inside_no_line, indent_run, indent_place, brk_onward}
use Rattle.yaml_text.proofs.RestLemmas.{from_s_b, l_comment_onward}
use Rattle.yaml_text.proofs.Repeats.{spans_onward}
use Rattle.law_one_reading.proofs.Unique.{unique_within, unique_until, unique_seen, unique_before, unique_either, unique_from, from}
use Rattle.law_one_reading.specs.Readings.{End, At, Unique, Apart, To}
use Rattle.law_one_reading.proofs.Lines.{way_any, way_of, way_same, past_of, past_same, past_no_run, stuck_run, stuck_line, stuck_end, less_stuck, less_run, less_column, column_same, comments_none, end_no_run, dash_fresh}
use Rattle.law_one_reading.specs.Follows.{Solid, Fresh, Stuck, Less, DashHere, Past, Comments, Way, Over, Follow}
use Rattle.law_one_reading.proofs.BlockEntries.{follow_seq, NodeStart}
use Rattle.law_one_reading.proofs.Properties.{PropHere, NoMore, prop, props_two, props_alone, props_here, props_inside, Compare, equal, less, more, compare, unique_propped, apart_propped, prop_solid}
use Rattle.law_one_reading.proofs.FlowNodes.{kind_colon, kind_dash, sign_colon, sign_dash, safe_ns, Kind, Sign, sign_not, kind_same, kind_three, kind_fresh, plain_start, plain_no_kind, prop_kind, ContentHere, Jsons, Plains, YamlRest, JsonRest, jsons_start, json_parts, yaml_next, json_next, law_one_reading, json_node_unique, nodes_apart}

ns_colon : is_ns 58 ≡ true
unfolding is_ns is_nb is_break is_white
ns_colon = refl

break_feed : is_break 10 ≡ true
unfolding is_break
break_feed = refl

break_return : is_break 13 ≡ true
unfolding is_break
break_return = refl

module _ (cs : List ℕ) where
  abbrev FollowKey : ℕ → Type 0
  FollowKey = follows.FollowKey cs

  abbrev FollowRest : ℕ → ℕ → ℕ → Type 0
  FollowRest = follows.FollowRest cs

  abbrev F : ℕ → ℕ → ℕ → Type 0
  F = follows.EndsNode cs

  pub colon_solid : (q : ℕ) → slice_get cs q ≡ Some 58 → Solid cs q
  colon_solid q h = ((58, h, ns_colon), λ g. let e : 58 ≡ 35 = same_char cs q 58 35 h g in omega (arith, e))

  pub rest_key : (col d j : ℕ) → Inside cs j → FollowRest col d j → FollowKey j → ⊥
  rest_key col d j o (m, p, f) (q, r, h, n) = inside_no_line cs j o (past_no_run cs j m q p r (colon_solid q h)).0

  pub rest_no : (col d : ℕ) (c : Ctx) (k q : ℕ) → Inside cs k → FollowRest col d k → separate cs col c k q → Fresh cs q → ⊥
  rest_no col d c k q o (m, p, (l, n)) s f = go (way_any cs col c k q s f.0)
    where
      go : (run cs is_space k q × Solid cs q) ⊎ ((x : ℕ) × Past cs k x × run cs is_space x q × (x + col ≤ q) × Solid cs q) → ⊥
      go (inl (r, y)) = inside_no_line cs k o (past_no_run cs k m q p r f.0).0
      go (inr (x, y, r, le, z)) =
          let e : x ≡ m = past_same cs k x m y (stuck_run cs x q r f.0) p (less_stuck cs col m l) in
          less_run cs col m q l (subst (λ a. run cs is_space a q) e r) (subst (λ a. a + col ≤ q) e le) f

  pub colon_no_plain : (q : ℕ) → slice_get cs q ≡ Some 58 → (Stands cs is_ns (q + 1) → ⊥) → (c : Ctx) → PlainFirst cs c q → ⊥
  colon_no_plain q h n c f = no_first_sign cs c q (q + 1) 58 h sign_colon refl (λ (x, g, t). n (x, g, safe_ns c x t)) f

  pub dash_no_plain : (q : ℕ) → DashHere cs q → (c : Ctx) → PlainFirst cs c q → ⊥
  dash_no_plain q (h, n) c f = no_first_sign cs c q (q + 1) 45 h sign_dash refl (λ (x, g, t). n (x, g, safe_ns c x t)) f

  pub colon_no_kind : (k q : ℕ) → slice_get cs q ≡ Some 58 → Kind cs k q → ⊥
  colon_no_kind k q h (y, g, s) = sign_not k y 58 s (same_char cs q y 58 g h) kind_colon

  pub dash_no_kind : (k q : ℕ) → DashHere cs q → Kind cs k q → ⊥
  dash_no_kind k q (h, n) (y, g, s) = sign_not k y 45 s (same_char cs q y 45 g h) kind_dash

  -- content is no colon of a key, and is not less indented
  pub content_here : (col d : ℕ) (k q : ℕ) → Inside cs k → F col d k → separate cs col flow_out k q → ContentHere cs flow_out q → ⊥
  content_here col d k q o (inl r) s (f, h) = rest_no col d flow_out k q o r s f
  content_here col d k q o (inr (x, r, c, n)) s (f, h) =
      let e : x ≡ q = way_same cs k x q (inl (r, colon_solid x c)) (way_of cs col flow_out k q s f.0) in
      go (subst (λ y. slice_get cs y ≡ Some 58) e c) (subst (λ y. Stands cs is_ns (y + 1) → ⊥) e n) h
    where
      go : slice_get cs q ≡ Some 58 → (Stands cs is_ns (q + 1) → ⊥) → Kind cs 3 q ⊎ PlainFirst cs flow_out q → ⊥
      go c n (inl t) = colon_no_kind 3 q c t
      go c n (inr p) = colon_no_plain q c n flow_out p

  pub next_here : (handles : Handles) (col d : ℕ) (k : ℕ) → Inside cs k → F col d k → NoMore cs handles col k
  next_here handles col d k o (inl r) c q s h = rest_no col d c k q o r s (prop_solid cs handles q h)
  next_here handles col d k o (inr (x, r, c2, n)) c q s h =
      let e : x ≡ q = way_same cs k x q (inl (r, colon_solid x c2)) (way_of cs col c k q s (prop_solid cs handles q h).0) in
      colon_no_kind 1 q (subst (λ y. slice_get cs y ≡ Some 58) e c2) (prop_kind cs handles q h)

  break_stands : (i j : ℕ) → brk cs i j → Stands cs is_break i
  unfolding brk
  break_stands i j (inl (o, (h, e), r)) = (13, h, break_return)
  break_stands i j (inr (inl (o, (h, e), r))) = (13, h, break_return)
  break_stands i j (inr (inr (o, (e, f), (h, g)))) = (10, subst (λ x. slice_get cs x ≡ Some 10) e h, break_feed)

  comment_on : (i j : ℕ) → maybe (comment cs) i j → i ≤ j
  unfolding comment
  comment_on i j (inl e) = omega (arith, e)
  comment_on i j (inr (k, (h, e), (le, r))) = omega (arith, e, le)

  on_l : (i j : ℕ) → l_comment cs i j → i ≤ j
  on_l i j c = let l : i < j = l_comment_onward cs i j c in omega (arith, l)

  -- a line goes by
  pub past_crosses : (i j k p q : ℕ) → Inside cs k → Past cs k p → run cs is_space p q → Solid cs q → OneLine cs i j → i ≤ k → q ≤ j → ⊥
  unfolding blank_rest line_end
  past_crosses i j k p q o (inr (s, c)) r f one a b = inside_no_line cs k o s
  past_crosses i j k p q o (inl (x, s, c)) r f one a b = go (from_s_b cs k x s)
    where
      go : blank_rest cs k x → ⊥
      go (m, t, (y, u, inl e)) =
          let z : y < x = brk_onward cs y x e in
          let g : m ≤ y = comment_on m y u in
          let h : k ≤ m = t.0 in
          let v : x ≤ p = spans_onward on_l c in
          let w : p ≤ q = r.0 in
          one y (omega (arith, a, h, g)) (omega (arith, z, v, w, b)) (break_stands y x e)
      go (m, t, (y, u, inr (e, z))) =
          let g : p ≡ x = comments_none cs x p (stuck_end cs x (subst (AtEnd cs) (sym e) z)) c in
          end_no_run cs p q (subst (AtEnd cs) (sym e ∙ sym g) z) r f.0

  -- the first character of a node
  abbrev pub Begin : ℕ → Type 0
  Begin q = ((k : ℕ) × Kind cs k q) ⊎ PlainFirst cs flow_out q ⊎ DashHere cs q

  -- the end of a reading that needs no more
  abbrev Ever : End
  Ever j m = Unit {0}

  module _ (Wide : Type 0) (handles : Handles) (Open : Type 0) (inside : Part → Rule (List Event)) (col d : ℕ) (c : Ctx) where
    abbrev pub Flow : Rule (List Event)
    Flow = flow_node cs Wide handles Open inside col flow_out

    -- a key stands at q, on one line
    abbrev pub KeyRead : ℕ → Type 0
    KeyRead q = (o : ℕ) × (v : List Event) × Flow q o v × FollowKey o × OneLine cs q o

    -- an entry's line
    abbrev pub CollAt : ℕ → Type 0
    CollAt x = (k : ℕ) × (q : ℕ) × indent cs k x q × (((col ≤ k) × KeyRead q) ⊎ ((d ≤ k) × DashHere cs q))

    abbrev pub Scalars : Props → Rule (List Event)
    Scalars p = scalar_of cs Wide handles Open inside p style.literal (literal cs col) ∪ scalar_of cs Wide handles Open inside p style.folded (folded cs col)

    abbrev pub ScalarRest : Props → Rule (List Event)
    ScalarRest p = separate cs col c ▸ Scalars p

    abbrev pub ScalarNode : Rule (List Event)
    ScalarNode = Scalars no_props ∪ with_value (properties cs handles col c) ScalarRest

    abbrev pub Colls : Props → Rule (List Event)
    Colls p = block_map cs Wide handles Open inside p col ∪ block_seq cs Wide handles Open inside p d

    abbrev pub CollRest : Props → Rule (List Event)
    CollRest p = s_l_comments cs ▸ Colls p

    abbrev pub CollNode : Rule (List Event)
    CollNode = with_value (properties cs handles col c) CollRest

    abbrev FlowRest : Props → Rule (List Event)
    FlowRest p = YamlRest cs Wide handles Open inside col flow_out p ∪ JsonRest cs Wide handles Open inside col flow_out p

    abbrev Contents : Props → Rule (List Event)
    Contents p = Plains cs Wide handles Open inside col flow_out p ∪ Jsons cs Wide handles Open inside col flow_out p

    -- the same reading with other properties
    jsons_other : (p b : Props) (i j : ℕ) (v : List Event) → Jsons cs Wide handles Open inside col flow_out p i j v → (w : List Event) × Jsons cs Wide handles Open inside col flow_out b i j w
    unfolding flow_seq flow_map
    jsons_other p b i j v (inl (t, r, e)) = (_, inl (t, r, refl))
    jsons_other p b i j v (inr (inl (t, r, e))) = (_, inr (inl (t, r, refl)))
    jsons_other p b i j v (inr (inr (inl (o, (t, r, e))))) = (_, inr (inr (inl (o, (t, r, refl)))))
    jsons_other p b i j v (inr (inr (inr (o, (t, r, e))))) = (_, inr (inr (inr (o, (t, r, refl)))))

    pub rest_other : (p b : Props) (i j : ℕ) (v : List Event) → FlowRest p i j v → (w : List Event) × FlowRest b i j w
    rest_other p b i j v (inl (inl (q, s, (t, r, e)))) = (_, inl (inl (q, s, (t, r, refl))))
    rest_other p b i j v (inl (inr (e, f))) = (_, inl (inr (e, refl)))
    rest_other p b i j v (inr (q, s, r)) = let (w, t) = jsons_other p b q j v r in (w, inr (q, s, t))

    pub scalars_other : (p b : Props) (i j : ℕ) (v : List Event) → Scalars p i j v → (w : List Event) × Scalars b i j w
    scalars_other p b i j v (inl (t, r, e)) = (_, inl (t, r, refl))
    scalars_other p b i j v (inr (t, r, e)) = (_, inr (t, r, refl))

    colls_other : (p b : Props) (i j : ℕ) (v : List Event) → Colls p i j v → (w : List Event) × Colls b i j w
    unfolding block_map block_seq
    colls_other p b i j v (inl (o, (t, r, e))) = (_, inl (o, (t, r, refl)))
    colls_other p b i j v (inr (o, (t, r, e))) = (_, inr (o, (t, r, refl)))

    pub flow_propped : (i j : ℕ) (v : List Event) → with_value (properties cs handles col flow_out) FlowRest i j v → Flow i j v
    unfolding flow_node yaml_node json_node
    flow_propped i j v (k, p, r, inl s) = inl (inr (inr (k, p, r, s)))
    flow_propped i j v (k, p, r, inr (q, s, t)) = inr (q, p, inr (k, r, s), t)

    flow_content : (i j : ℕ) (v : List Event) → Contents no_props i j v → Flow i j v
    unfolding flow_node yaml_node json_node
    flow_content i j v (inl r) = inl (inr (inl r))
    flow_content i j v (inr r) = inr (i, no_props, inl (refl, refl), r)

    pub content_flow : (p : Props) (i j : ℕ) (v : List Event) → Contents p i j v → (w : List Event) × Flow i j w
    content_flow p i j v (inl (t, r, e)) = (_, flow_content i j _ (inl (t, r, refl)))
    content_flow p i j v (inr r) = let (w, t) = jsons_other p no_props i j v r in (w, flow_content i j w (inr t))

    module _ (narrow : col ≤ d + 1)
        (prop_same : (i j k : ℕ) (p q : Props) → prop cs handles i j p → prop cs handles i k q → (j ≡ k) × (p ≡ q))
        (prop_here : (i j : ℕ) (p : Props) → prop cs handles i j p → PropHere cs handles i)
        (prop_inside : (i j : ℕ) (p : Props) → prop cs handles i j p → Inside cs j)
        (alias_same : (i j k : ℕ) (x y : List ℕ) → tags.c-ns-alias-node cs i j x → tags.c-ns-alias-node cs i k y → (j ≡ k) × (x ≡ y))
        (plain_unique : Unique (plain cs col flow_out) (At (F col d)))
        (json_unique : (p : Props) → Unique (Jsons cs Wide handles Open inside col flow_out p) (At (F col d)))
        (flow_inside : (i j : ℕ) (v : List Event) → Flow i j v → Inside cs j)
        (flow_on : (i j : ℕ) (v : List Event) → Flow i j v → i ≤ j)
        (literal_unique : Unique (literal cs col) (Over cs (Follow cs col d)))
        (folded_unique : Unique (folded cs col) (Over cs (Follow cs col d)))
        (map_unique : (p : Props) → Unique (block_map cs Wide handles Open inside p col) (Over cs (Less cs col)))
        (seq_unique : (p : Props) → Unique (block_seq cs Wide handles Open inside p d) (Over cs (Follow cs col d)))
        (map_key : (p : Props) (i j : ℕ) (v : List Event) → block_map cs Wide handles Open inside p col i j v → (k : ℕ) × (q : ℕ) × (col ≤ k) × indent cs k i q × KeyRead q)
        (seq_dash : (p : Props) (i j : ℕ) (v : List Event) → block_seq cs Wide handles Open inside p d i j v → (k : ℕ) × (q : ℕ) × (d ≤ k) × indent cs k i q × DashHere cs q) where
      yaml_u : Unique (yaml_node cs Wide handles Open inside col flow_out) (At (F col d))
      yaml_u = law_one_reading cs Wide handles Open inside col flow_out (F col d) (F col d) prop_same prop_here prop_inside alias_same plain_unique json_unique (next_here handles col d) (content_here col d)

      json_u : Unique (json_node cs Wide handles Open inside col flow_out) (At (F col d))
      json_u = json_node_unique cs Wide handles Open inside col flow_out (F col d) (F col d) prop_same prop_here prop_inside alias_same plain_unique json_unique (next_here handles col d) (content_here col d)

      pub flow_unique : Unique Flow (At (F col d))
      unfolding flow_node
      flow_unique = unique_either yaml_u json_u
          (nodes_apart cs Wide handles Open inside col flow_out (F col d) (F col d) prop_same prop_here prop_inside alias_same plain_unique json_unique (next_here handles col d) (content_here col d))

      flow_next : (p : Props) (k j m : ℕ) (v : List Event) → Inside cs k → FlowRest p k j v → At (F col d) j m → NoMore cs handles col k
      flow_next p k j m v o (inl r) e =
          yaml_next cs Wide handles Open inside col flow_out (F col d) (F col d) prop_same prop_here prop_inside alias_same plain_unique json_unique (next_here handles col d) (content_here col d) p k j m v o r e
      flow_next p k j m v o (inr r) e =
          json_next cs Wide handles Open inside col flow_out (F col d) (F col d) prop_same prop_here prop_inside alias_same plain_unique json_unique (next_here handles col d) (content_here col d) p k j m v o r e

      here : {V : Type 0} (x : Ctx) (S : Props → Rule V) (i j : ℕ) (v : V) → with_value (properties cs handles col x) S i j v → Kind cs 1 i
      here x S i j v (k, p, r, s) = prop_kind cs handles i (props_here cs handles prop_same prop_here prop_inside col x i k p (props_two cs handles col x i k p r))

      -- the forms of a flow node
      data View (i j : ℕ) (v : List Event) : Type 0 where
        named : Kind cs 2 i → View i j v
        bare : Contents no_props i j v → View i j v
        propped : with_value (properties cs handles col flow_out) FlowRest i j v → View i j v

      view : (i j : ℕ) (v : List Event) → Flow i j v → View i j v
      unfolding flow_node yaml_node tags.c-ns-alias-node
      view i j v (inl (inl (x, (k, (h, e), r), f))) = named (42, h, Sign.star 42 refl)
      view i j v (inl (inr (inl r))) = bare (inl r)
      view i j v (inl (inr (inr (k, p, r, s)))) = propped (k, p, r, inl s)
      view i j v (inr r) = go (json_parts cs Wide handles Open inside col flow_out i j v r)
        where
          go : (Jsons cs Wide handles Open inside col flow_out no_props ∪ with_value (properties cs handles col flow_out) (JsonRest cs Wide handles Open inside col flow_out)) i j v → View i j v
          go (inl s) = bare (inr s)
          go (inr (k, p, t, s)) = propped (k, p, t, inr s)

      contents_start : (p : Props) (i j : ℕ) (v : List Event) → Contents p i j v → ContentHere cs flow_out i
      contents_start p i j v (inl (t, r, e)) = let (f, h) = plain_start cs col flow_out i j t r in (f, inr h)
      contents_start p i j v (inr r) = let z = jsons_start cs Wide handles Open inside col flow_out p i j v r in (kind_three cs i z, inl z)

      -- content of another kind
      content_no : (k i : ℕ) → k ≢ 3 → Kind cs k i → ContentHere cs flow_out i → ⊥
      content_no k i n a (f, inl b) = n (kind_same cs k 3 i a b)
      content_no k i n a (f, inr b) = plain_no_kind cs flow_out k i a b

      content_no_dash : (i : ℕ) → DashHere cs i → ContentHere cs flow_out i → ⊥
      content_no_dash i d (f, inl b) = dash_no_kind 3 i d b
      content_no_dash i d (f, inr b) = dash_no_plain i d flow_out b

      pub flow_no_dash : (i j : ℕ) (v : List Event) → Flow i j v → DashHere cs i → ⊥
      flow_no_dash i j v r d = go (view i j v r)
        where
          go : View i j v → ⊥
          go (named a) = dash_no_kind 2 i d a
          go (bare a) = content_no_dash i d (contents_start no_props i j v a)
          go (propped a) = dash_no_kind 1 i d (here flow_out FlowRest i j v a)

      flow_no_bar : (i j : ℕ) (v : List Event) → Flow i j v → Kind cs 4 i → ⊥
      flow_no_bar i j v r d = go (view i j v r)
        where
          go : View i j v → ⊥
          go (named a) = let z : 4 ≡ 2 = kind_same cs 4 2 i d a in omega (arith, z)
          go (bare a) = content_no 4 i (λ z. omega (arith, z)) d (contents_start no_props i j v a)
          go (propped a) = let z : 4 ≡ 1 = kind_same cs 4 1 i d (here flow_out FlowRest i j v a) in omega (arith, z)

      pub flow_fresh : (i j : ℕ) (v : List Event) → Flow i j v → Fresh cs i
      flow_fresh i j v r = go (view i j v r)
        where
          go : View i j v → Fresh cs i
          go (named a) = kind_fresh cs 2 i a
          go (bare a) = (contents_start no_props i j v a).0
          go (propped a) = kind_fresh cs 1 i (here flow_out FlowRest i j v a)

      -- ---- a flow node and a key

      pub key_flow : (q j : ℕ) (v : List Event) → Flow q j v → FollowRest col d j → KeyRead q → ⊥
      key_flow q j v r f (o, w, s, k, one) =
          let h = flow_unique q j o j o v w r (refl, inl f) s (refl, inr k) in
          rest_key col d o (flow_inside q o w s) (subst (FollowRest col d) h.0 f) k

      -- ---- block scalars

      scalars_start : (p : Props) (i j : ℕ) (v : List Event) → Scalars p i j v → Kind cs 4 i
      unfolding literal folded
      scalars_start p i j v (inl (t, (k, (h, e), r), f)) = (124, h, Sign.bar 124 refl)
      scalars_start p i j v (inr (t, (k, (h, e), r), f)) = (62, h, Sign.greater 62 refl)

      scalar_next : (p : Props) (k j m : ℕ) (v : List Event) → Inside cs k → ScalarRest p k j v → Ever j m → NoMore cs handles col k
      scalar_next p k j m v o (q, s, r) e x y t h =
          let z = scalars_start p q j v r in
          let f : q ≡ y = way_same cs k q y (way_of cs col c k q s (kind_fresh cs 4 q z).0) (way_of cs col x k y t (prop_solid cs handles y h).0) in
          let g : 4 ≡ 1 = kind_same cs 4 1 q z (subst (Kind cs 1) (sym f) (prop_kind cs handles y h)) in
          omega (arith, g)

      to_solid : (x : Ctx) → To (separate cs col x) (Solid cs)
      to_solid x i k l r s t u = way_same cs i k l (way_of cs col x i k r s) (way_of cs col x i l t u)

      same_place : (x y : Ctx) (i k l : ℕ) → separate cs col x i k → Solid cs k → separate cs col y i l → Solid cs l → k ≡ l
      same_place x y i k l r s t u = way_same cs i k l (way_of cs col x i k r s) (way_of cs col y i l t u)

      rests_scalar : (p : Props) → Apart (from (Inside cs) (FlowRest p)) (At (F col d)) (from (Inside cs) (ScalarRest p)) Ever
      rests_scalar p i j k m o v w (a, inl (inl (q, s, r))) e (b, (x, t, u)) g =
          let z = scalars_start p x k w u in
          let y = contents_start p q j v (inl r) in
          content_no 4 q (λ n. omega (arith, n)) (subst (Kind cs 4) (sym (same_place flow_out c i q x s y.0.0 t (kind_fresh cs 4 x z).0)) z) y
      rests_scalar p i j k m o v w (a, inr (q, s, r)) e (b, (x, t, u)) g =
          let z = scalars_start p x k w u in
          let y = contents_start p q j v (inr r) in
          content_no 4 q (λ n. omega (arith, n)) (subst (Kind cs 4) (sym (same_place flow_out c i q x s y.0.0 t (kind_fresh cs 4 x z).0)) z) y
      rests_scalar p i j k m o v w (a, inl (inr (f, h))) (l, y) (b, (x, t, u)) g = go (subst (F col d) f y)
        where
          z : Kind cs 4 x
          z = scalars_start p x k w u

          go : F col d i → ⊥
          go (inl y) = rest_no col d c i x a y t (kind_fresh cs 4 x z)
          go (inr (q, r, h, n)) =
              let y : q ≡ x = way_same cs i q x (inl (r, colon_solid q h)) (way_of cs col c i x t (kind_fresh cs 4 x z).0) in
              colon_no_kind 4 q h (subst (Kind cs 4) (sym y) z)

      -- a flow node and a block scalar
      pub flow_scalar : (i j k : ℕ) (v w : List Event) → Flow i j v → F col d j → ScalarNode i k w → ⊥
      flow_scalar i j k v w r f s = go (view i j v r) s
        where
          go : View i j v → ScalarNode i k w → ⊥
          go (named a) (inl b) = let z : 2 ≡ 4 = kind_same cs 2 4 i a (scalars_start no_props i k w b) in omega (arith, z)
          go (named a) (inr b) = let z : 2 ≡ 1 = kind_same cs 2 1 i a (here c ScalarRest i k w b) in omega (arith, z)
          go (bare a) (inl b) = content_no 4 i (λ z. omega (arith, z)) (scalars_start no_props i k w b) (contents_start no_props i j v a)
          go (bare a) (inr b) = content_no 1 i (λ z. omega (arith, z)) (here c ScalarRest i k w b) (contents_start no_props i j v a)
          go (propped a) (inl b) = let z : 1 ≡ 4 = kind_same cs 1 4 i (here flow_out FlowRest i j v a) (scalars_start no_props i k w b) in omega (arith, z)
          go (propped a) (inr b) =
              apart_propped cs handles prop_same prop_here prop_inside col flow_out c FlowRest ScalarRest (At (F col d)) Ever flow_next scalar_next rests_scalar i j k j k v w a (refl, f) b tt

      scalars_unique : (p : Props) → Unique (Scalars p) (Over cs (Follow cs col d))
      unfolding literal folded
      scalars_unique p = unique_either (unique_seen _ literal_unique) (unique_seen _ folded_unique)
          (λ i j k m o v w (t, (a, (h, e), r), f) g (u, (b, (x, y), s), z) l. let n : 124 ≡ 62 = same_char cs i 124 62 h x in omega (arith, n))

      scalar_node_unique : Unique ScalarNode (Over cs (Follow cs col d))
      scalar_node_unique = unique_either (scalars_unique no_props)
          (unique_propped cs handles prop_same prop_here prop_inside col c ScalarRest (Over cs (Follow cs col d)) (λ p k j m v o r e. scalar_next p k j m v o r tt)
          (λ p. unique_from (Inside cs) (unique_before (Solid cs) (to_solid c) (λ i j m v r e. (kind_fresh cs 4 i (scalars_start p i j v r)).0) (scalars_unique p))))
          (λ i j k m o v w r e s g. let z : 4 ≡ 1 = kind_same cs 4 1 i (scalars_start no_props i j v r) (here c ScalarRest i k w s) in omega (arith, z))

      -- ---- collections

      pub coll_at : (p : Props) (i j : ℕ) (v : List Event) → Colls p i j v → CollAt i
      coll_at p i j v (inl r) = let (k, q, l, n, h) = map_key p i j v r in (k, q, n, inl (l, h))
      coll_at p i j v (inr r) = let (k, q, l, n, h) = seq_dash p i j v r in (k, q, n, inr (l, h))

      entry_solid : (k x q : ℕ) → ((col ≤ k) × KeyRead q) ⊎ ((d ≤ k) × DashHere cs q) → Fresh cs q
      entry_solid k x q (inl (l, (o, v, r, f, one))) = flow_fresh q o v r
      entry_solid k x q (inr (l, h)) = dash_fresh cs q h

      coll_stuck : (x : ℕ) → CollAt x → Stuck cs x
      coll_stuck x (k, q, n, h) = stuck_line cs k x q n (entry_solid k x q h).0

      -- the way to the first entry
      coll_way : (i x k q : ℕ) → Past cs i x → indent cs k x q → ((col ≤ k) × KeyRead q) ⊎ ((d ≤ k) × DashHere cs q) → Way cs i q
      coll_way i x k q p n h = inr (x, p, indent_run cs k x q n, (entry_solid k x q h).0)

      follow_coll : (m : ℕ) → Follow cs col d m → CollAt m → ⊥
      follow_coll m (l, f) (k, q, n, inl (le, h)) = less_column cs col k m q l n le (entry_solid k m q (inl (le, h)))
      follow_coll m f (k, q, n, inr (le, h)) = (follow_seq cs col d k m f le narrow).1 (q, n, h)

      -- how a flow node from i may end: a key is on one line
      Ended : ℕ → ℕ → Type 0
      Ended i j = FollowRest col d j ⊎ (FollowKey j × OneLine cs i j)

      ended_f : (i j : ℕ) → Ended i j → F col d j
      unfolding Ended
      ended_f i j (inl f) = inl f
      ended_f i j (inr (f, one)) = inr f

      -- a flow node from o, where a line goes by between i and o, and a key from o
      flow_key_past : (i a x k o j : ℕ) (v : List Event) → i ≤ a → Inside cs a → Past cs a x → indent cs k x o → Solid cs o → Flow o j v → Ended i j → KeyRead o → ⊥
      unfolding Ended
      flow_key_past i a x k o j v le s p n t r (inl f) h = key_flow o j v r f h
      flow_key_past i a x k o j v le s p n t r (inr (f, one)) h = past_crosses i j a x o s p (indent_run cs k x o n) t one le (flow_on o j v r)

      content_coll : (p : Props) (i a j x o : ℕ) (v : List Event) → i ≤ a → Inside cs a → separate cs col flow_out a o → Contents p o j v → Ended i j → Past cs a x →
          (k q : ℕ) → indent cs k x q → ((col ≤ k) × KeyRead q) ⊎ ((d ≤ k) × DashHere cs q) → ⊥
      content_coll p i a j x o v le s sp r f b k q n h = go h
        where
          z : ContentHere cs flow_out o
          z = contents_start p o j v r

          e : o ≡ q
          e = way_same cs a o q (way_of cs col flow_out a o sp z.0.0) (coll_way a x k q b n h)

          go : ((col ≤ k) × KeyRead q) ⊎ ((d ≤ k) × DashHere cs q) → ⊥
          go (inr (l, y)) = content_no_dash o (subst (DashHere cs) (sym e) y) z
          go (inl (l, y)) = let (w, t) = content_flow p o j v r in flow_key_past i a x k o j w le s b (subst (indent cs k x) (sym e) n) z.0.0 t f (subst KeyRead (sym e) y)

      rest_coll : (p : Props) (i a j x : ℕ) (v : List Event) → i ≤ a → Inside cs a → FlowRest p a j v → Ended i j → Past cs a x → CollAt x → ⊥
      unfolding Ended
      rest_coll p i a j x v le s (inl (inr (e, f))) (inl (m, y, g)) b h =
          let z : m ≡ x = past_same cs a m x (subst (λ u. Past cs u m) e y) (less_stuck cs col m g.0) b (coll_stuck x h) in
          follow_coll x (subst (Follow cs col d) z g) h
      rest_coll p i a j x v le s (inl (inr (e, f))) (inr ((q, r, g, n), one)) b h =
          inside_no_line cs a s (past_no_run cs a x q b (subst (λ u. run cs is_space u q) e r) (colon_solid q g)).0
      rest_coll p i a j x v le s (inl (inl (o, sp, r))) f b (k, q, n, h) = content_coll p i a j x o v le s sp (inl r) f b k q n h
      rest_coll p i a j x v le s (inr (o, sp, r)) f b (k, q, n, h) = content_coll p i a j x o v le s sp (inr r) f b k q n h

      props_on : (x : Ctx) (i k : ℕ) (p : Props) → properties cs handles col x i k p → i ≤ k
      props_on x i k p r = fwd_properties cs handles col x i k p r

      -- a flow node and properties before a collection
      flow_coll : (i j k : ℕ) (v w : List Event) → Flow i j v → Ended i j → CollNode i k w → ⊥
      flow_coll i j k v w r f s = go (view i j v r) s
        where
          both2 : (a b : ℕ) (p q : Props) → properties cs handles col flow_out i a p → FlowRest p a j v → properties cs handles col c i b q → CollRest q b k w →
              Compare cs handles prop_same prop_here prop_inside col flow_out c i a b p q → ⊥
          both2 a b p q r s t (x, sl, u) (equal y z) =
              rest_coll p i a j x v (props_on flow_out i a p r) (props_inside cs handles prop_same prop_here prop_inside col flow_out i a p (props_two cs handles col flow_out i a p r)) s f
              (subst (λ l. Past cs l x) (sym y) (past_of cs b x x sl (Spans.done refl))) (coll_at q x k w u)
          both2 a b p q r s t u (less o g y z) =
              flow_next p a j j v (props_inside cs handles prop_same prop_here prop_inside col flow_out i a p (props_two cs handles col flow_out i a p r)) s (refl, ended_f i j f) c o y (prop_here o b g z)
          both2 a b p q r s t (x, sl, u) (more o g y z) = again (coll_at q x k w u)
            where
              past : Past cs b x
              past = past_of cs b x x sl (Spans.done refl)

              stop : PropHere cs handles o
              stop = prop_here o a g z

              again : CollAt x → ⊥
              again (l, e, n, h) = entry h
                where
                  at : o ≡ e
                  at = way_same cs b o e (way_of cs col flow_out b o y (prop_solid cs handles o stop).0) (coll_way b x l e past n h)

                  entry : ((col ≤ l) × KeyRead e) ⊎ ((d ≤ l) × DashHere cs e) → ⊥
                  entry (inr (le, dash)) = dash_no_kind 1 o (subst (DashHere cs) (sym at) dash) (prop_kind cs handles o stop)
                  entry (inl (le, key)) =
                      let (w2, s2) = rest_other p g a j v s in
                      flow_key_past i b x l o j w2 (props_on c i b q t) (props_inside cs handles prop_same prop_here prop_inside col c i b q (props_two cs handles col c i b q t)) past
                      (subst (indent cs l x) (sym at) n) (prop_solid cs handles o stop).0
                      (flow_propped o j w2 (a, g, props_alone cs handles col flow_out o a g z, s2)) f (subst KeyRead (sym at) key)

          go : View i j v → CollNode i k w → ⊥
          go (named a) b = let z : 2 ≡ 1 = kind_same cs 2 1 i a (here c CollRest i k w b) in omega (arith, z)
          go (bare a) b = content_no 1 i (λ z. omega (arith, z)) (here c CollRest i k w b) (contents_start no_props i j v a)
          go (propped (a, p, r, s)) (b, q, t, u) = both2 a b p q r s t u
              (compare cs handles prop_same prop_here prop_inside col flow_out c i a b p q (props_two cs handles col flow_out i a p r) (props_two cs handles col c i b q t))

      -- a further property where an entry begins: the entry is a key
      entry_key : (x y : Ctx) (i b k o j : ℕ) (q g : Props) → properties cs handles col x i b q → separate cs col y b o → prop cs handles o j g → (u : ℕ) → s_l_comments cs b u → CollAt u →
          (l : ℕ) × (col ≤ l) × indent cs l u o × KeyRead o
      entry_key x y i b k o j q g t s z u sl (l, e, n, h) = go h
        where
          stop : PropHere cs handles o
          stop = prop_here o j g z

          at : o ≡ e
          at = way_same cs b o e (way_of cs col y b o s (prop_solid cs handles o stop).0) (coll_way b u l e (past_of cs b u u sl (Spans.done refl)) n h)

          go : ((col ≤ l) × KeyRead e) ⊎ ((d ≤ l) × DashHere cs e) → (m : ℕ) × (col ≤ m) × indent cs m u o × KeyRead o
          go (inr (le, dash)) = absurd (dash_no_kind 1 o (subst (DashHere cs) (sym at) dash) (prop_kind cs handles o stop))
          go (inl (le, key)) = (l, le, subst (indent cs l u) (sym at) n, subst KeyRead (sym at) key)

      -- a block scalar and properties before a collection
      scalar_coll : (i j k : ℕ) (v w : List Event) → ScalarNode i j v → CollNode i k w → ⊥
      scalar_coll i j k v w (inl r) s = let z : 4 ≡ 1 = kind_same cs 4 1 i (scalars_start no_props i j v r) (here c CollRest i k w s) in omega (arith, z)
      scalar_coll i j k v w (inr (a, p, r, s)) (b, q, t, u) =
          go s u (compare cs handles prop_same prop_here prop_inside col c c i a b p q (props_two cs handles col c i a p r) (props_two cs handles col c i b q t))
        where
          inside_a : Inside cs a
          inside_a = props_inside cs handles prop_same prop_here prop_inside col c i a p (props_two cs handles col c i a p r)

          go : ScalarRest p a j v → CollRest q b k w → Compare cs handles prop_same prop_here prop_inside col c c i a b p q → ⊥
          go s (x, sl, u) (less o g y z) = scalar_next p a j j v inside_a s tt c o y (prop_here o b g z)
          go (f, sp, s) (x, sl, u) (more o g y z) =
              let (l, le, n, (e, v2, key, fk, one)) = entry_key c c i b k o a q g t y z x sl (coll_at q x k w u) in
              let (v3, s3) = scalars_other p g f j v s in
              flow_scalar o e j v2 v3 key (inr fk) (inr (a, g, props_alone cs handles col c o a g z, (f, sp, s3)))
          go (f, sp, s) (x, sl, u) (equal y z) = again (coll_at q x k w u)
            where
              bar : Kind cs 4 f
              bar = scalars_start p f j v s

              again : CollAt x → ⊥
              again (l, e, n, h) = entry h
                where
                  at : f ≡ e
                  at = way_same cs a f e (way_of cs col c a f sp (kind_fresh cs 4 f bar).0) (coll_way a x l e (subst (λ m. Past cs m x) (sym y) (past_of cs b x x sl (Spans.done refl))) n h)

                  entry : ((col ≤ l) × KeyRead e) ⊎ ((d ≤ l) × DashHere cs e) → ⊥
                  entry (inr (le, dash)) = dash_no_kind 4 f (subst (DashHere cs) (sym at) dash) bar
                  entry (inl (le, (o, v2, key, fk, one))) = flow_no_bar f o v2 (subst (λ m. Flow m o v2) (sym at) key) bar

      colls_unique : (p : Props) → Unique (Colls p) (Over cs (Follow cs col d))
      colls_unique p = unique_either (unique_until (λ j m (e, f). (e, f.0)) (map_unique p)) (seq_unique p) go
        where
          go : Apart (block_map cs Wide handles Open inside p col) (Over cs (Follow cs col d)) (block_seq cs Wide handles Open inside p d) (Over cs (Follow cs col d))
          go i j k m o v w r e s f = again (map_key p i j v r) (seq_dash p i k w s)
            where
              again : (l : ℕ) × (q : ℕ) × (col ≤ l) × indent cs l i q × KeyRead q → (l : ℕ) × (q : ℕ) × (d ≤ l) × indent cs l i q × DashHere cs q → ⊥
              again (a, x, l1, n1, (y, v2, key, fk, one)) (b, z, l2, n2, dash) =
                  let t = column_same cs a b i x z n1 (flow_fresh x y v2 key).0.0 n2 (dash_fresh cs z dash).0.0 in
                  flow_no_dash z y v2 (subst (λ u. Flow u y v2) t.1 key) dash

      coll_rest_unique : (p : Props) → Unique (CollRest p) (Over cs (Follow cs col d))
      coll_rest_unique p = unique_before (Stuck cs)
          (λ i k l r s t u. past_same cs i k l (past_of cs i k k r (Spans.done refl)) s (past_of cs i l l t (Spans.done refl)) u)
          (λ i j m v r e. coll_stuck i (coll_at p i j v r)) (colls_unique p)

      -- a key, and properties before a collection, from the same place
      pub key_coll : (i k : ℕ) (w : List Event) → KeyRead i → CollNode i k w → ⊥
      unfolding Ended
      key_coll i k w (o, v, r, fk, one) s = flow_coll i o k v w r (inr (fk, one)) s

      -- of other properties before a collection the second is that of the first one's key
      coll_more : (i a b j k : ℕ) (p q : Props) (v w : List Event) → properties cs handles col c i a p → CollRest p a j v → CollRest q b k w →
          (o : ℕ) (g : Props) → separate cs col c a o → prop cs handles o b g → ⊥
      coll_more i a b j k p q v w r (x, sl, s) (y, tl, t) o g sp z =
          let (l, le, n, key) = entry_key c c i a k o b p g r sp z x sl (coll_at p x j v s) in
          let (w2, t2) = colls_other q g y k w t in
          key_coll o k w2 key (b, g, props_alone cs handles col c o b g z, (y, tl, t2))

      -- properties before a collection
      coll_node_unique : Unique CollNode (Over cs (Follow cs col d))
      coll_node_unique i j k m o v w (a, p, r, s) e (b, q, t, u) f =
          go (compare cs handles prop_same prop_here prop_inside col c c i a b p q (props_two cs handles col c i a p r) (props_two cs handles col c i b q t))
        where
          go : Compare cs handles prop_same prop_here prop_inside col c c i a b p q → (m ≡ o) × (v ≡ w)
          go (equal y z) = coll_rest_unique p a j k m o v w s e (subst (λ l. CollRest l a k w) (sym z) (subst (λ l. CollRest q l k w) (sym y) u)) f
          go (less x g y z) = absurd (coll_more i a b j k p q v w r s u x g y z)
          go (more x g y z) = absurd (coll_more i b a k j q p w v t u s x g y z)

      -- ---- a node of block level

      abbrev pub Lines1 : Rule (List Event)
      Lines1 = separate cs col flow_out ▸ (Flow ◂ s_l_comments cs)

      abbrev pub Lines2 : Rule (List Event)
      Lines2 = separate cs col c ▸ ScalarNode

      abbrev pub Lines3 : Rule (List Event)
      Lines3 = CollRest no_props

      abbrev pub Lines4 : Rule (List Event)
      Lines4 = separate cs col c ▸ CollNode

      abbrev pub Nodes : Rule (List Event)
      Nodes = Lines1 ∪ (Lines2 ∪ (Lines3 ∪ Lines4))

      abbrev pub E : End
      E = Over cs (Follow cs col d)

      rest_of : (j a m : ℕ) → s_l_comments cs j a → E a m → FollowRest col d j
      rest_of j a m s (e, f) = (m, past_of cs j a m s e, f)

      whole_flow_unique : Unique (Flow ◂ s_l_comments cs) E
      whole_flow_unique i j k m o v w (a, r, s) e (b, t, u) f =
          let h = flow_unique i a b a b v w r (refl, inl (rest_of a j m s e)) t (refl, inl (rest_of b k o u f)) in
          (past_same cs b m o (subst (λ x. Past cs x m) h.0 (past_of cs a j m s e.0)) (less_stuck cs col m e.1.0) (past_of cs b k o u f.0) (less_stuck cs col o f.1.0), h.1)

      scalar_node_start : (i j : ℕ) (v : List Event) → ScalarNode i j v → Kind cs 4 i ⊎ Kind cs 1 i
      scalar_node_start i j v (inl r) = inl (scalars_start no_props i j v r)
      scalar_node_start i j v (inr r) = inr (here c ScalarRest i j v r)

      scalar_node_fresh : (i j : ℕ) (v : List Event) → ScalarNode i j v → Fresh cs i
      scalar_node_fresh i j v (inl r) = kind_fresh cs 4 i (scalars_start no_props i j v r)
      scalar_node_fresh i j v (inr r) = kind_fresh cs 1 i (here c ScalarRest i j v r)

      coll_node_fresh : (i j : ℕ) (v : List Event) → CollNode i j v → Fresh cs i
      coll_node_fresh i j v r = kind_fresh cs 1 i (here c CollRest i j v r)

      -- where a collection without properties stands, its first entry is at q
      entry_at : (i j q : ℕ) (v : List Event) → Lines3 i j v → Way cs i q → KeyRead q ⊎ DashHere cs q
      entry_at i j q v (x, sl, r) y = go (coll_at no_props x j v r)
        where
          go : CollAt x → KeyRead q ⊎ DashHere cs q
          go (k, e, n, h) = again h
            where
              at : e ≡ q
              at = way_same cs i e q (coll_way i x k e (past_of cs i x x sl (Spans.done refl)) n h) y

              again : ((col ≤ k) × KeyRead e) ⊎ ((d ≤ k) × DashHere cs e) → KeyRead q ⊎ DashHere cs q
              again (inl (l, z)) = inl (subst KeyRead at z)
              again (inr (l, z)) = inr (subst (DashHere cs) at z)

      apart12 : Apart Lines1 E Lines2 E
      apart12 i j k m o v w (q, s, (a, r, t)) e (x, u, y) f =
          let h = same_place flow_out c i q x s (flow_fresh q a v r).0 u (scalar_node_fresh x k w y).0 in
          flow_scalar q a k v w r (inl (rest_of a j m t e)) (subst (λ z. ScalarNode z k w) (sym h) y)

      apart13 : Apart Lines1 E Lines3 E
      apart13 i j k m o v w (q, s, (a, r, t)) e u f = go (entry_at i k q w u (way_of cs col flow_out i q s (flow_fresh q a v r).0))
        where
          go : KeyRead q ⊎ DashHere cs q → ⊥
          go (inl key) = key_flow q a v r (rest_of a j m t e) key
          go (inr dash) = flow_no_dash q a v r dash

      apart14 : Apart Lines1 E Lines4 E
      unfolding Ended
      apart14 i j k m o v w (q, s, (a, r, t)) e (x, u, y) f =
          let h = same_place flow_out c i q x s (flow_fresh q a v r).0 u (coll_node_fresh x k w y).0 in
          flow_coll q a k v w r (inl (rest_of a j m t e)) (subst (λ z. CollNode z k w) (sym h) y)

      apart23 : Apart Lines2 E Lines3 E
      apart23 i j k m o v w (q, s, r) e u f = go (entry_at i k q w u (way_of cs col c i q s (scalar_node_fresh q j v r).0))
        where
          kinds : Kind cs 4 q ⊎ Kind cs 1 q → DashHere cs q → ⊥
          kinds (inl a) b = dash_no_kind 4 q b a
          kinds (inr a) b = dash_no_kind 1 q b a

          go : KeyRead q ⊎ DashHere cs q → ⊥
          go (inl (a, v2, key, fk, one)) = flow_scalar q a j v2 v key (inr fk) r
          go (inr dash) = kinds (scalar_node_start q j v r) dash

      apart24 : Apart Lines2 E Lines4 E
      apart24 i j k m o v w (q, s, r) e (x, u, y) f =
          let h = same_place c c i q x s (scalar_node_fresh q j v r).0 u (coll_node_fresh x k w y).0 in
          scalar_coll q j k v w r (subst (λ z. CollNode z k w) (sym h) y)

      apart34 : Apart Lines3 E Lines4 E
      apart34 i j k m o v w r e (x, u, y) f = go (entry_at i j x v r (way_of cs col c i x u (coll_node_fresh x k w y).0))
        where
          go : KeyRead x ⊎ DashHere cs x → ⊥
          go (inl key) = key_coll x k w key y
          go (inr dash) = dash_no_kind 1 x dash (here c CollRest x k w y)

      pub nodes_unique : Unique Nodes E
      nodes_unique = unique_either (unique_before (Solid cs) (to_solid flow_out) (λ i j m v (a, r, s) e. (flow_fresh i a v r).0) whole_flow_unique)
          (unique_either (unique_before (Solid cs) (to_solid c) (λ i j m v r e. (scalar_node_fresh i j v r).0) scalar_node_unique)
          (unique_either (coll_rest_unique no_props) (unique_before (Solid cs) (to_solid c) (λ i j m v r e. (coll_node_fresh i j v r).0) coll_node_unique) apart34)
          (λ i j k m o v w r e. elim_three i j k m o v w r e))
          (λ i j k m o v w r e. elim_one i j k m o v w r e)
        where
          elim_three : (i j k m o : ℕ) (v w : List Event) → Lines2 i j v → E j m → (Lines3 ∪ Lines4) i k w → E k o → ⊥
          elim_three i j k m o v w r e (inl s) f = apart23 i j k m o v w r e s f
          elim_three i j k m o v w r e (inr s) f = apart24 i j k m o v w r e s f

          elim_one : (i j k m o : ℕ) (v w : List Event) → Lines1 i j v → E j m → (Lines2 ∪ (Lines3 ∪ Lines4)) i k w → E k o → ⊥
          elim_one i j k m o v w r e (inl s) f = apart12 i j k m o v w r e s f
          elim_one i j k m o v w r e (inr (inl s)) f = apart13 i j k m o v w r e s f
          elim_one i j k m o v w r e (inr (inr s)) f = apart14 i j k m o v w r e s f

      -- an entry's node on the line of its dash is no node by itself
      pub compact_node : (i j m q : ℕ) (v : List Event) → Inside cs i → run cs is_space i q → KeyRead q ⊎ DashHere cs q → Nodes i j v → E j m → ⊥
      compact_node i j m q v o r h n e = go h n
        where
          solid : KeyRead q ⊎ DashHere cs q → Solid cs q
          solid (inl (x, w, t, fk, one)) = (flow_fresh q x w t).0
          solid (inr dash) = (dash_fresh cs q dash).0

          at : (x y : ℕ) → separate cs col flow_out i x → Solid cs x → q ≡ x
          at x y s t = way_same cs i q x (inl (r, solid h)) (way_of cs col flow_out i x s t)

          to : (x y : ℕ) → separate cs col c i x → Solid cs x → q ≡ x
          to x y s t = way_same cs i q x (inl (r, solid h)) (way_of cs col c i x s t)

          bars : Kind cs 4 q ⊎ Kind cs 1 q → DashHere cs q → ⊥
          bars (inl a) b = dash_no_kind 4 q b a
          bars (inr a) b = dash_no_kind 1 q b a

          go : KeyRead q ⊎ DashHere cs q → Nodes i j v → ⊥
          go (inl key) (inl (x, s, (a, t, u))) = key_flow x a v t (rest_of a j m u e) (subst KeyRead (at x 0 s (flow_fresh x a v t).0) key)
          go (inr dash) (inl (x, s, (a, t, u))) = flow_no_dash x a v t (subst (DashHere cs) (at x 0 s (flow_fresh x a v t).0) dash)
          go (inl (y, w, t, fk, one)) (inr (inl (x, s, u))) =
              flow_scalar q y j w v t (inr fk) (subst (λ z. ScalarNode z j v) (sym (to x 0 s (scalar_node_fresh x j v u).0)) u)
          go (inr dash) (inr (inl (x, s, u))) = bars (scalar_node_start q j v (subst (λ z. ScalarNode z j v) (sym (to x 0 s (scalar_node_fresh x j v u).0)) u)) dash
          go k (inr (inr (inl (x, s, u)))) = inside_no_line cs i o (past_no_run cs i x q (past_of cs i x x s (Spans.done refl)) r (solid k)).0
          go (inl key) (inr (inr (inr (x, s, u)))) = key_coll q j v key (subst (λ z. CollNode z j v) (sym (to x 0 s (coll_node_fresh x j v u).0)) u)
          go (inr dash) (inr (inr (inr (x, s, u)))) = dash_no_kind 1 q dash (subst (Kind cs 1) (sym (to x 0 s (coll_node_fresh x j v u).0)) (here c CollRest x j v u))

      -- where a node begins
      after_separation : (i q : ℕ) → separate_lines cs col i q → Fresh cs q → NodeStart cs col d i
      unfolding separate_lines sep
      after_separation i q (inl (p, s, (o, t, r))) f =
          let a : o ≡ p + col = indent_place cs col p o t in
          let b : o ≤ q = r.0 in
          inr (inl (p, q, past_of cs i p p s (Spans.done refl), run_join cs is_space p o q (indent_run cs col p o t) r, omega (arith, a, b), f))
      after_separation i q (inr (inl (r, l))) f = inl (q, r, inl l, f)
      after_separation i q (inr (inr (e, s))) f = inl (q, subst (run cs is_space i) (sym e) (run_none cs is_space i), inr s, f)

      pub nodes_start : ((i q : ℕ) → separate cs col c i q → separate_lines cs col i q) → (i j : ℕ) (v : List Event) → Nodes i j v → NodeStart cs col d i
      unfolding separate
      nodes_start g i j v (inl (q, s, (a, r, t))) = after_separation i q s (flow_fresh q a v r)
      nodes_start g i j v (inr (inl (q, s, r))) = after_separation i q (g i q s) (scalar_node_fresh q j v r)
      nodes_start g i j v (inr (inr (inr (q, s, r)))) = after_separation i q (g i q s) (coll_node_fresh q j v r)
      nodes_start g i j v (inr (inr (inl (x, s, r)))) = go (coll_at no_props x j v r)
        where
          past : Past cs i x
          past = past_of cs i x x s (Spans.done refl)

          go : CollAt x → NodeStart cs col d i
          go (k, q, n, inl (le, h)) =
              inr (inl (x, q, past, indent_run cs k x q n, (let a : q ≡ x + k = indent_place cs k x q n in omega (arith, a, le)), entry_solid k x q (inl (le, h))))
          go (k, q, n, inr (le, h)) = again (eq-or-lt_of_le le)
            where
              again : (d ≡ k) ⊎ (d < k) → NodeStart cs col d i
              again (inl e) = inr (inr (x, past, (q, subst (λ y. indent cs y x q) (sym e) n, h)))
              again (inr l) = inr (inl (x, q, past, indent_run cs k x q n, (let a : q ≡ x + k = indent_place cs k x q n in omega (arith, a, l, narrow)), dash_fresh cs q h))

      -- the first content of a node
      flow_begin : (i j : ℕ) (v : List Event) → Flow i j v → Begin i
      flow_begin i j v r = go (view i j v r)
        where
          go : View i j v → Begin i
          go (named a) = inl (2, a)
          go (bare a) = content (contents_start no_props i j v a)
            where
              content : ContentHere cs flow_out i → Begin i
              content (f, inl k) = inl (3, k)
              content (f, inr p) = inr (inl p)
          go (propped a) = inl (1, here flow_out FlowRest i j v a)

      pub nodes_begin : (i j : ℕ) (v : List Event) → Nodes i j v → (q : ℕ) × Way cs i q × Fresh cs q × Begin q
      nodes_begin i j v (inl (q, s, (a, r, t))) = (q, way_of cs col flow_out i q s (flow_fresh q a v r).0, flow_fresh q a v r, flow_begin q a v r)
      nodes_begin i j v (inr (inl (q, s, r))) = (q, way_of cs col c i q s (scalar_node_fresh q j v r).0, scalar_node_fresh q j v r, go (scalar_node_start q j v r))
        where
          go : Kind cs 4 q ⊎ Kind cs 1 q → Begin q
          go (inl a) = inl (4, a)
          go (inr a) = inl (1, a)
      nodes_begin i j v (inr (inr (inl (x, s, r)))) = go (coll_at no_props x j v r)
        where
          go : CollAt x → (q : ℕ) × Way cs i q × Fresh cs q × Begin q
          go (k, q, n, inl (le, (o, w, t, fk, one))) = (q, coll_way i x k q (past_of cs i x x s (Spans.done refl)) n (inl (le, (o, w, t, fk, one))), flow_fresh q o w t, flow_begin q o w t)
          go (k, q, n, inr (le, h)) = (q, coll_way i x k q (past_of cs i x x s (Spans.done refl)) n (inr (le, h)), dash_fresh cs q h, inr (inr h))
      nodes_begin i j v (inr (inr (inr (q, s, r)))) = (q, way_of cs col c i q s (coll_node_fresh q j v r).0, coll_node_fresh q j v r, inl (1, here c CollRest q j v r))

      -- a node that comment lines stand before begins after them too
      module _ (to : (i q : ℕ) → separate cs col c i q → separate_lines cs col i q) (back : (i q : ℕ) → separate_lines cs col i q → separate cs col c i q)
          (i m : ℕ) (si : StartsLine cs i) (sm : StartsLine cs m) (cm : Comments cs i m) (stuck : Stuck cs m) where
        past_here : (x : ℕ) → Past cs i x → Stuck cs x → x ≡ m
        past_here x p s = past_same cs i x m p s (inr (si, cm)) stuck

        still : (q : ℕ) → run cs is_space i q → Solid cs q → m ≡ i
        still q r s = comments_none cs i m (stuck_run cs i q r s) cm

        comments_here : s_l_comments cs m m
        unfolding s_l_comments
        comments_here = (m, inr (refl, sm), Spans.done refl)

        lines_again : (q : ℕ) → separate_lines cs col i q → Solid cs q → separate_lines cs col m q
        unfolding separate_lines sep
        lines_again q (inl (p, s, (o, t, r))) f =
            let e : p ≡ m = past_here p (past_of cs i p p s (Spans.done refl)) (stuck_run cs p q (run_join cs is_space p o q (indent_run cs col p o t) r) f) in
            inl (m, comments_here, (o, subst (λ z. indent cs col z o) e t, r))
        lines_again q (inr (inl (r, l))) f = subst (λ z. separate_lines cs col z q) (sym (still q r f)) (inr (inl (r, l)))
        lines_again q (inr (inr (e, s))) f = subst (λ z. separate_lines cs col z q) (sym (still q (subst (run cs is_space i) (sym e) (run_none cs is_space i)) f)) (inr (inr (e, s)))

        pub nodes_again : (j : ℕ) (v : List Event) → Nodes i j v → Nodes m j v
        unfolding separate
        nodes_again j v (inl (q, s, (a, r, t))) = inl (q, lines_again q s (flow_fresh q a v r).0, (a, r, t))
        nodes_again j v (inr (inl (q, s, r))) = inr (inl (q, back m q (lines_again q (to i q s) (scalar_node_fresh q j v r).0), r))
        nodes_again j v (inr (inr (inl (x, s, r)))) =
            let e : x ≡ m = past_here x (past_of cs i x x s (Spans.done refl)) (coll_stuck x (coll_at no_props x j v r)) in
            inr (inr (inl (m, comments_here, subst (λ z. Colls no_props z j v) e r)))
        nodes_again j v (inr (inr (inr (q, s, r)))) = inr (inr (inr (q, back m q (lines_again q (to i q s) (coll_node_fresh q j v r).0), r)))

      module _ (at : seq_column cs Wide handles Open inside col c ≡ d) where
        colls : (k : ℕ) (p : Props) (j : ℕ) (v : List Event) → (block_map cs Wide handles Open inside p col ∪ block_seq cs Wide handles Open inside p (seq_column cs Wide handles Open inside col c)) k j v → Colls p k j v
        colls k p j v (inl r) = inl r
        colls k p j v (inr r) = inr (subst (λ x. block_seq cs Wide handles Open inside p x k j v) at r)

        pub block_parts : (i j : ℕ) (v : List Event) → block_node cs Wide handles Open inside col c i j v → Nodes i j v
        unfolding block_node
        block_parts i j v (inl (q, s, (a, r, t))) = inl (q, s, (a, r, t))
        block_parts i j v (inr (inl (q, s, (k, p, inl (e, f), r)))) = inr (inl (q, s, inl (subst (λ x. Scalars x q j v) f (subst (λ x. Scalars p x j v) e r))))
        block_parts i j v (inr (inl (q, s, (k, p, inr (a, t, u), r)))) = inr (inl (q, s, inr (a, p, t, (k, u, r))))
        block_parts i j v (inr (inr (k, p, (a, inl (e, f), t), r))) =
            inr (inr (inl (k, subst (λ x. s_l_comments cs x k) e t, subst (λ x. Colls x k j v) f (colls k p j v r))))
        block_parts i j v (inr (inr (k, p, (a, inr (q, s, t), u), r))) = inr (inr (inr (q, s, (a, p, t, (k, u, colls k p j v r)))))

        pub block_node_unique : Unique (block_node cs Wide handles Open inside col c) E
        block_node_unique = unique_within block_parts nodes_unique
