-- A node of block level after its properties: what is left on their line, on a line below, and where nothing follows them.
use Rattle.std.proofs.Common.{◌≡◌, ℕ, ◌+◌, ◌≤◌, ◌⊎◌, inl, inr, List, refl, sym, ◌∙◌, subst, arith}
use Rattle.yaml_definitions.specs.grammar.Rules.{Rule, Spans, ◌▸◌, ◌◂◌, ◌∪◌, with_value, run, Stands}
use Rattle.yaml_definitions.specs.grammar.Characters.{is_space}
use Rattle.yaml_definitions.specs.grammar.Separation.{Ctx, flow_out, block_key, s-separate as separate, s-l-comments as s_l_comments, s-indent as indent, OneLine}
use Rattle.yaml_definitions.specs.grammar.Tags.{Handles, c-ns-properties as properties}
use Rattle.yaml_definitions.specs.grammar.FlowScalars.{PlainFirst}
use Rattle.yaml_definitions.specs.model.Event.{Event}
use Rattle.yaml_definitions.specs.grammar.Events.{Props}
use Rattle.yaml_definitions.specs.grammar.Nodes.{Part, part, ns-flow-node as flow_node, seq-space as seq_column, l+block-mapping as block_map, l+block-sequence as block_seq}
use Rattle.yaml_definitions.proofs.grammar.Forward.{Forward, on_separate, fwd_tag, fwd_anchor, fwd_plain, fwd_single, fwd_double, fwd_flow_seq, fwd_flow_map}
use Rattle.yaml_definitions.proofs.grammar.Widening.{Within}
use Rattle.yaml_text.specs.Lines.{Inside}
use Rattle.yaml_text.proofs.LineRuns.{inside_no_line, indent_run}
use Rattle.law_one_reading.specs.Readings.{End, At}
use Rattle.law_one_reading.specs.Follows.{Solid, Fresh, Stuck, DashHere, Past, Way, Over, Follow, FollowKey, EndsNode as F}
use Rattle.law_one_reading.proofs.Lines.{past_of, past_same, past_no_run, less_stuck, less_column, dash_fresh, comments_none, way_of, way_same, way_any}
use Rattle.law_one_reading.proofs.Properties.{PropHere, NoMore, prop, prop_solid, Two, alone, pair, both, props_two, props_inside, props_alone}
use Rattle.law_one_reading.proofs.TagEnds.{prop_same, prop_here, prop_inside, alias_same}
use Rattle.law_one_reading.proofs.FlowNodes.{Kind, kind_fresh, kind_three, kind_same, plain_start, plain_no_kind, jsons_start, prop_kind, ContentHere, Plains, Jsons, YamlRest, JsonRest, yaml_next, json_next}
use Rattle.law_one_reading.proofs.FlowEntries.{Facts}
use Rattle.law_one_reading.proofs.FlowLevels.{jsons_unique, inner_out}
use Rattle.law_one_reading.proofs.PlainEnds.{plain_block_unique}
use Rattle.law_one_reading.proofs.BlockNodes.{next_here, content_here, past_crosses, colon_solid, KeyRead, dash_no_kind}
use Rattle.law_one_reading.proofs.KeyContexts.{Eased}
use Rattle.law_one_reading.proofs.BlockLevels.{Blocks, entry_key}
use Rattle.law_going_on.specs.GoingOn.{Refused, Rest}
use Rattle.law_going_on.proofs.GoingOn.{rest_rest}
use Rattle.law_going_on.proofs.FlowStarts.{yaml_propped, json_propped, no_node_at_bar}
use Rattle.law_going_on.proofs.PropertyChoices.{Second, Kinds, one_prop, two_props, kinds, rest_propped}
use Rattle.law_going_on.proofs.Separations.{separate_on_next}
use Rattle.law_going_on.proofs.BlockLoops.{SequenceFrom, MappingFrom}
use Rattle.law_going_on.proofs.BlockStarts.{FlowLine, ScalarOf, ProppedScalar, CollectionsOf, ProppedCollection, scalar_kind, mapping_from, sequence_from, map_key, seq_dash}

module _ (cs : List ℕ) (Wide : Type 0) (handles : Handles) (Open : Type 0) (inside : Part → Rule (List Event)) (facts : Facts cs inside) (ease : Eased cs Wide handles inside)
    (wider : (p : Part) → Within (inside p) (part cs Wide handles Open inside p)) (fwd : (p : Part) → Forward (inside p)) (blocks : Blocks cs Wide handles inside) (col d : ℕ) (c : Ctx) where
  abbrev Flow : Rule (List Event)
  Flow = flow_node cs Wide handles Open inside col flow_out

  abbrev FlowRest : Props → Rule (List Event)
  FlowRest p = YamlRest cs Wide handles Open inside col flow_out p ∪ JsonRest cs Wide handles Open inside col flow_out p

  abbrev pub Contents : Props → Rule (List Event)
  Contents p = Plains cs Wide handles Open inside col flow_out p ∪ Jsons cs Wide handles Open inside col flow_out p

  abbrev Line : Rule (List Event)
  Line = FlowLine cs Wide handles Open inside facts ease wider fwd blocks col c

  abbrev Scalar : Props → Rule (List Event)
  Scalar = ScalarOf cs Wide handles Open inside facts ease wider fwd blocks col c

  abbrev Collections : Props → Rule (List Event)
  Collections = CollectionsOf cs Wide handles Open inside facts ease wider fwd blocks col c

  abbrev Mapping : ℕ → Props → Rule (List Event)
  Mapping k = MappingFrom cs Wide handles Open inside k

  abbrev Sequence : ℕ → Props → Rule (List Event)
  Sequence k = SequenceFrom cs Wide handles Open inside k

  abbrev AfterNode : End
  AfterNode = Over cs (Follow cs col d)

  -- ---- flow nodes

  -- a flow node's reading after some of its properties is followed by no further one
  pub rest_next : (p : Props) (k j m : ℕ) (v : List Event) → Inside cs k → FlowRest p k j v → At (F cs col d) j m → NoMore cs handles col k
  rest_next p k j m v o (inl r) e =
      yaml_next cs Wide handles Open inside col flow_out (F cs col d) (F cs col d) (prop_same cs handles) (prop_here cs handles) (prop_inside cs handles) (alias_same cs) (plain_block_unique cs col d)
      (jsons_unique cs Wide handles Open inside facts col flow_out inner_out (F cs col d)) (next_here cs handles col d) (content_here cs col d) p k j m v o r e
  rest_next p k j m v o (inr r) e =
      json_next cs Wide handles Open inside col flow_out (F cs col d) (F cs col d) (prop_same cs handles) (prop_here cs handles) (prop_inside cs handles) (alias_same cs) (plain_block_unique cs col d)
      (jsons_unique cs Wide handles Open inside facts col flow_out inner_out (F cs col d)) (next_here cs handles col d) (content_here cs col d) p k j m v o r e

  abbrev Propped : Rule (List Event)
  Propped = with_value (properties cs handles col flow_out) FlowRest

  pub propped_left : (E : End) (i : ℕ) → Kind cs 1 i → Rest Flow E i Propped E i
  unfolding flow_node
  propped_left E i h = record { rest = go }
    where
      go : (j m : ℕ) (v : List Event) → Flow i j v → E j m → (k : ℕ) × (w : List Event) × Propped i k w × E k m
      go j m v (inl r) e = let (k, w, (l, p, s, t), f) = (yaml_propped cs Wide handles Open inside col flow_out E i h).rest j m v r e in (k, w, (l, p, s, inl t), f)
      go j m v (inr r) e = let (k, w, (l, p, s, t), f) = (json_propped cs Wide handles Open inside col flow_out E i h).rest j m v r e in (k, w, (l, p, s, inr t), f)

  -- after all properties that were read
  pub flow_after : (i e : ℕ) (p : Props) → Kind cs 1 i → properties cs handles col flow_out i e p → (Second cs handles col flow_out i e p → ⊥) → Rest Flow (At (F cs col d)) i (FlowRest p) (At (F cs col d)) e
  flow_after i e p h r none = rest_rest (propped_left (At (F cs col d)) i h) (rest_propped cs handles col flow_out FlowRest (At (F cs col d)) i e p r none rest_next)

  pub line_after : (i e : ℕ) (p : Props) → Kind cs 1 i → properties cs handles col flow_out i e p → (Second cs handles col flow_out i e p → ⊥) → Rest Line AfterNode i (FlowRest p ◂ s_l_comments cs) AfterNode e
  line_after i e p h r none = record { rest = go }
    where
      go : (j m : ℕ) (v : List Event) → Line i j v → AfterNode j m → (k : ℕ) × (w : List Event) × (FlowRest p ◂ s_l_comments cs) e k w × AfterNode k m
      go j m v (k, t, s) (x, y) =
          let (o, w, u, g) = (flow_after i e p h r none).rest k k v t (refl, inl (m, past_of cs k j m s x, y)) in
          (j, w, (k, subst (λ z. FlowRest p e z w) g.0 u, s), (x, y))

  -- ---- block scalars

  pub scalar_next : (p : Props) (k j m : ℕ) (v : List Event) → Inside cs k → (separate cs col c ▸ Scalar p) k j v → AfterNode j m → NoMore cs handles col k
  scalar_next p k j m v o (q, s, r) e x y t h =
      let z = scalar_kind cs Wide handles Open inside facts ease wider fwd blocks col c p q j v r in
      let f : q ≡ y = way_same cs k q y (way_of cs col c k q s (kind_fresh cs 4 q z).0) (way_of cs col x k y t (prop_solid cs handles y h).0) in
      let g : 4 ≡ 1 = kind_same cs 4 1 q z (subst (Kind cs 1) (sym f) (prop_kind cs handles y h)) in
      omega (arith, g)

  pub scalar_after : (i e : ℕ) (p : Props) → properties cs handles col c i e p → (Second cs handles col c i e p → ⊥)
      → Rest (ProppedScalar cs Wide handles Open inside facts ease wider fwd blocks col c) AfterNode i (separate cs col c ▸ Scalar p) AfterNode e
  scalar_after i e p r none = rest_propped cs handles col c (λ q. separate cs col c ▸ Scalar q) AfterNode i e p r none scalar_next

  -- ---- collections

  abbrev CollectionsBelow : Props → Rule (List Event)
  CollectionsBelow p = s_l_comments cs ▸ Collections p

  -- properties of one line: where the line is over, the collection is theirs
  pub collection_after : (i e : ℕ) (p : Props) → properties cs handles col c i e p → (Second cs handles col c i e p → ⊥)
      → ((l o : ℕ) (a b : Props) → prop cs handles i l a → separate cs col c l o → prop cs handles o e b → run cs is_space l o)
      → Rest (ProppedCollection cs Wide handles Open inside facts ease wider fwd blocks col c) AfterNode i (CollectionsBelow p) AfterNode e
  collection_after i e p r none same = record { rest = λ j m v (l, q, s, (x, t, u)) f. go j m v l q x t u f (props_two cs handles col c i e p r) (kinds cs handles col c i l q s) }
    where
      go : (j m : ℕ) (v : List Event) (l : ℕ) (q : Props) (x : ℕ) → s_l_comments cs l x → Collections q x j v → AfterNode j m → Two cs handles col c i e p → Kinds cs handles col c i l q
          → (k : ℕ) × (w : List Event) × CollectionsBelow p e k w × AfterNode k m
      go j m v l q x t u f (alone a) (one_prop b) =
          let h = prop_same cs handles i e l p q a b in
          (j, v, (x, subst (λ z. s_l_comments cs z x) (sym h.0) t, subst (λ z. Collections z x j v) (sym h.1) u), f)
      go j m v l q x t u f (alone a) (two_props y z b g k n w eq df) =
          let h = prop_same cs handles i e y p b a k in
          absurd (none (a, (l, z, g, subst (λ o. separate cs col c o z) (sym h.0) n, w, df)))
      go j m v l q x t u f (pair y z a b k n w eq) (one_prop g) =
          let h = prop_same cs handles i y l a q k g in
          let sp = same y z a b k n w in
          absurd (inside_no_line cs l (prop_inside cs handles i l q g)
          (past_no_run cs l x z (past_of cs l x x t (Spans.done refl)) (subst (λ o. run cs is_space o z) h.0 sp) (prop_solid cs handles z (prop_here cs handles z e b w)).0).0)
      go j m v l q x t u f (pair y z a b k n w eq) (two_props y2 z2 a2 b2 k2 n2 w2 eq2 df) =
          let h = prop_same cs handles i y y2 a a2 k k2 in
          let g : z ≡ z2 = way_same cs y2 z z2 (subst (λ o. Way cs o z) h.0 (way_of cs col c y z n (prop_solid cs handles z (prop_here cs handles z e b w)).0)) (way_of cs col c y2 z2 n2 (prop_solid cs handles z2 (prop_here cs handles z2 l b2 w2)).0) in
          let o = prop_same cs handles z2 e l b b2 (subst (λ s. prop cs handles s e b) g w) w2 in
          let is : p ≡ q = eq ∙ subst (λ s. both a b ≡ both s b) h.1 refl ∙ subst (λ s. both a2 b ≡ both a2 s) o.1 refl ∙ sym eq2 in
          (j, v, (x, subst (λ s. s_l_comments cs s x) (sym o.0) t, subst (λ s. Collections s x j v) (sym is) u), f)

  -- ---- after properties, on their line

  abbrev pub Under : Props → Rule (List Event)
  Under p = (FlowRest p ◂ s_l_comments cs) ∪ (separate cs col c ▸ Scalar p) ∪ CollectionsBelow p

  pub contents_fresh : (p : Props) (i j : ℕ) (v : List Event) → Contents p i j v → ContentHere cs flow_out i
  contents_fresh p i j v (inl (t, r, e)) = let (f, h) = plain_start cs col flow_out i j t r in (f, inr h)
  contents_fresh p i j v (inr r) = let z = jsons_start cs Wide handles Open inside col flow_out p i j v r in (kind_three cs i z, inl z)

  -- the rest of a flow node after its properties: content after separation, or none
  pub data Rested (p : Props) (k j : ℕ) (v : List Event) : Type 0 where
    content : (q : ℕ) → separate cs col flow_out k q → Contents p q j v → Rested p k j v
    lone : j ≡ k → Rested p k j v

  pub rested : (p : Props) (k j : ℕ) (v : List Event) → FlowRest p k j v → Rested p k j v
  rested p k j v (inl (inl (q, s, r))) = content q s (inl r)
  rested p k j v (inl (inr (a, b))) = lone a
  rested p k j v (inr (q, s, r)) = content q s (inr r)

  abbrev OnTheirLine : Props → Rule (List Event)
  OnTheirLine p = (Contents p ◂ s_l_comments cs) ∪ Scalar p

  -- ---- after properties, on a line below

  pub collections_stuck : (p : Props) (x j : ℕ) (v : List Event) → Collections p x j v → (l : ℕ) × (b : ℕ) × indent cs l x b × Fresh cs b
  unfolding block_map block_seq
  collections_stuck p x j v (inl (o, (t, (l, (le, (a, us, vs, (b, s, u), rest, y))), e))) = (l, b, s, (map_key cs Wide handles Open inside facts ease wider fwd blocks col c l b a us u).0)
  collections_stuck p x j v (inr (o, (t, (l, (le, (a, us, vs, (b, s, u), rest, y))), e))) = (l, b, s, dash_fresh cs b (seq_dash cs Wide handles Open inside facts ease wider fwd blocks col c l b a us u))

  pub line_of : (e s x : ℕ) → s_l_comments cs e s → Stuck cs s → s_l_comments cs e x → (l : ℕ) × (b : ℕ) × indent cs l x b × Fresh cs b → x ≡ s
  line_of e s x l st t (n, b, ind, f) = past_same cs e x s (past_of cs e x x t (Spans.done refl)) (Rattle.law_one_reading.proofs.Lines.stuck_line cs n x b ind f.0) (past_of cs e s s l (Spans.done refl)) st

  abbrev pub BelowThem : Props → ℕ → Rule (List Event)
  BelowThem p k = OnTheirLine p ∪ Mapping k p ∪ Sequence k p

  pub under_below : (p : Props) (e s x k : ℕ) → s_l_comments cs e s → Stuck cs s → indent cs k s x → (Stands cs is_space x → ⊥) → (Follow cs col d s → ⊥) → Rest (Under p) AfterNode e (BelowThem p k) AfterNode x
  under_below p e s x k l st ind n other = record { rest = go }
    where
      at : (b : Ctx) (q : ℕ) → separate cs col b e q → Fresh cs q → q ≡ x
      at b q r f = separate_on_next cs col b e s x l st (indent_run cs k s x ind, n) q (inr r) f.0

      flows : (o j m : ℕ) (v : List Event) → Rested p e o v → s_l_comments cs o j → AfterNode j m → (a : ℕ) × (w : List Event) × BelowThem p k x a w × AfterNode a m
      flows o j m v (content q t r) u f = (j, v, inl (inl (o, subst (λ z. Contents p z o v) (at flow_out q t (contents_fresh p q o v r).0) r, u)), f)
      flows o j m v (lone h) u (a, b) =
          let g : m ≡ s = past_same cs e m s (past_of cs e j m (subst (λ z. s_l_comments cs z j) h u) a) (less_stuck cs col m b.0) (past_of cs e s s l (Spans.done refl)) st in
          absurd (other (subst (Follow cs col d) g b))

      below : (j m y : ℕ) (v : List Event) → y ≡ s → Collections p y j v → AfterNode j m → (a : ℕ) × (w : List Event) × BelowThem p k x a w × AfterNode a m
      below j m y v h (inl u) f =
          (j, v, inr (inl (mapping_from cs Wide handles Open inside facts ease wider fwd blocks col c p k y x j v (subst (λ z. indent cs k z x) (sym h) ind) n u).1), f)
      below j m y v h (inr u) f =
          (j, v, inr (inr (sequence_from cs Wide handles Open inside facts ease wider fwd blocks col c p (seq_column cs Wide handles Open inside col c) k y x j v (subst (λ z. indent cs k z x) (sym h) ind) n u).1), f)

      go : (j m : ℕ) (v : List Event) → Under p e j v → AfterNode j m → (a : ℕ) × (w : List Event) × BelowThem p k x a w × AfterNode a m
      go j m v (inl (o, r, t)) f = flows o j m v (rested p e o v r) t f
      go j m v (inr (inl (q, t, r))) f = (j, v, inl (inr (subst (λ z. Scalar p z j v) (at c q t (kind_fresh cs 4 q (scalar_kind cs Wide handles Open inside facts ease wider fwd blocks col c p q j v r))) r)), f)
      go j m v (inr (inr (y, t, r))) f = below j m y v (line_of e s y l st t (collections_stuck p y j v r)) r f

  -- ---- a key that properties begin, and whose line is over after them: there is none

  pub prop_on : (i j : ℕ) (p : Props) → prop cs handles i j p → i ≤ j
  prop_on i j p (inl (t, r, e)) = fwd_tag cs handles i j t r
  prop_on i j p (inr (t, r, e)) = fwd_anchor cs i j t r

  contents_on : (p : Props) (i j : ℕ) (v : List Event) → Contents p i j v → i ≤ j
  contents_on p i j v (inl (t, r, e)) = fwd_plain cs col flow_out i j t r
  contents_on p i j v (inr (inl (t, r, e))) = fwd_single cs col flow_out i j t r
  contents_on p i j v (inr (inr (inl (t, r, e)))) = fwd_double cs col flow_out i j t r
  contents_on p i j v (inr (inr (inr (inl r)))) = fwd_flow_seq cs Wide handles Open inside fwd p col flow_out i j v r
  contents_on p i j v (inr (inr (inr (inr r)))) = fwd_flow_map cs Wide handles Open inside fwd p col flow_out i j v r

  rested_on : (p : Props) (k j : ℕ) (v : List Event) → Rested p k j v → k ≤ j
  rested_on p k j v (content q s r) = let a : k ≤ q = on_separate cs col flow_out k q s in let b : q ≤ j = contents_on p q j v r in omega (arith, a, b)
  rested_on p k j v (lone h) = omega (arith, h)

  -- separation from a place where the line is over crosses to another line
  crossed : (x o l s z : ℕ) → Inside cs l → s_l_comments cs l s → OneLine cs x o → x ≤ l → z ≤ o → separate cs col flow_out l z → Solid cs z → ⊥
  crossed x o l s z ins over one a b t f = go (way_any cs col flow_out l z t f)
    where
      go : (run cs is_space l z × Solid cs z) ⊎ ((p : ℕ) × Past cs l p × run cs is_space p z × (p + col ≤ z) × Solid cs z) → ⊥
      go (inl (r, g)) = inside_no_line cs l ins (past_no_run cs l s z (past_of cs l s s over (Spans.done refl)) r g).0
      go (inr (p, w, r, le, g)) = past_crosses cs x o l p z ins w r g one a b

  -- the node after all of the properties
  over_rest : (x o l s : ℕ) (q : Props) (v : List Event) → Inside cs l → x ≤ l → s_l_comments cs l s → OneLine cs x o → FollowKey cs o → Rested q l o v → ⊥
  over_rest x o l s q v ins a over one fk (content z t r) = crossed x o l s z ins over one a (contents_on q z o v r) t (contents_fresh q z o v r).0.0
  over_rest x o l s q v ins a over one (y, r, g, n) (lone h) =
      inside_no_line cs l ins (past_no_run cs l s y (past_of cs l s s over (Spans.done refl)) (subst (λ u. run cs is_space u y) h r) (colon_solid cs y g)).0

  pub no_key_over : (x e s : ℕ) (p : Props) → Kind cs 1 x → x ≤ e → properties cs handles col block_key x e p → s_l_comments cs e s → KeyRead cs Wide handles Open inside col d c x → ⊥
  no_key_over x e s p h le r over (o, v, f, fk, one) = go ((propped_left (At (F cs col d)) x h).rest o o v f (refl, inr fk))
    where
      compare : (k l : ℕ) (q : Props) (w : List Event) → k ≡ o → Inside cs l → FlowRest q l k w → At (F cs col d) k k → Two cs handles col block_key x e p → Two cs handles col flow_out x l q → ⊥
      compare k l q w g ins t fin (alone a) (alone b) =
          let u = prop_same cs handles x e l p q a b in
          over_rest x o l s q w ins (subst (λ z. x ≤ z) u.0 le) (subst (λ z. s_l_comments cs z s) u.0 over) one fk (subst (λ z. Rested q l z w) g (rested q l k w t))
      compare k l q w g ins t fin (pair y z a b m n w1 eq) (alone b2) =
          let u = prop_same cs handles x y l a q m b2 in
          rest_next q l k k w ins t fin block_key z (subst (λ i. separate cs col block_key i z) u.0 n) (prop_here cs handles z e b w1)
      compare k l q w g ins t fin (alone a) (pair y z b b2 m n w1 eq) =
          let u = prop_same cs handles x e y p b a m in
          let i : z ≤ l = prop_on z l b2 w1 in
          let j : l ≤ k = rested_on q l k w (rested q l k w t) in
          crossed x o y s z (prop_inside cs handles x y b m) (subst (λ i. s_l_comments cs i s) u.0 over) one (subst (λ i. x ≤ i) u.0 le) (omega (arith, g, i, j)) n (prop_solid cs handles z (prop_here cs handles z l b2 w1)).0
      compare k l q w g ins t fin (pair y z a b m n w1 eq) (pair y2 z2 a2 b2 m2 n2 w2 eq2) =
          let u = prop_same cs handles x y y2 a a2 m m2 in
          let z3 : z ≡ z2 = way_same cs y2 z z2 (subst (λ i. Way cs i z) u.0 (way_of cs col block_key y z n (prop_solid cs handles z (prop_here cs handles z e b w1)).0)) (way_of cs col flow_out y2 z2 n2 (prop_solid cs handles z2 (prop_here cs handles z2 l b2 w2)).0) in
          let i = prop_same cs handles z2 e l b b2 (subst (λ j. prop cs handles j e b) z3 w1) w2 in
          over_rest x o l s q w ins (subst (λ j. x ≤ j) i.0 le) (subst (λ j. s_l_comments cs j s) i.0 over) one fk (subst (λ j. Rested q l j w) g (rested q l k w t))

      go : (k : ℕ) × (w : List Event) × Propped x k w × At (F cs col d) k o → ⊥
      go (k, w, (l, q, t, u), (g, fin)) =
          compare k l q w g (props_inside cs handles (prop_same cs handles) (prop_here cs handles) (prop_inside cs handles) col flow_out x l q (props_two cs handles col flow_out x l q t)) u (refl, fin) (props_two cs handles col block_key x e p r) (props_two cs handles col flow_out x l q t)

  -- so no mapping begins with it
  pub no_mapping_over : (o : Props) (E : End) (k x e s : ℕ) (p : Props) → Kind cs 1 x → x ≤ e → properties cs handles col block_key x e p → s_l_comments cs e s → Refused (Mapping k o) E x
  no_mapping_over o E k x e s p h le r over = record {
    none = λ j m v (a, (t, (b, us, vs, u, rest, y), f)) w.
        no_key_over x e s p h le r over (entry_key cs Wide handles Open inside facts ease wider fwd blocks col d c k x b us u);
  }

  -- ---- properties on two lines: the first before the line on which the second stands, in column k

  -- the first alone, and a collection of the second's line; or both, and a collection below
  data Split (l e s z k j : ℕ) (a p : Props) (v : List Event) : Type 0 where
    of_first : Mapping k a z j v → Split l e s z k j a p v
    of_both : CollectionsBelow p e j v → Split l e s z k j a p v

  split : (i l e s z k j : ℕ) (a b : Props) (v : List Event) → prop cs handles i l a → s_l_comments cs l s → Stuck cs s → indent cs k s z → (Stands cs is_space z → ⊥) → separate cs col c l z → prop cs handles z e b
      → ProppedCollection cs Wide handles Open inside facts ease wider fwd blocks col c i j v → Split l e s z k j a (both a b) v
  split i l e s z k j a b v ra over st ind n sp rb (l2, q, ps, (x, t, u)) = go (kinds cs handles col c i l2 q ps)
    where
      place : PropHere cs handles z
      place = prop_here cs handles z e b rb

      first : (y : ℕ) (g : Props) → y ≡ s → Collections g y j v → g ≡ a → Split l e s z k j a (both a b) v
      first y g h (inl w) eq =
          of_first (subst (λ o. Mapping k o z j v) eq (mapping_from cs Wide handles Open inside facts ease wider fwd blocks col c g k y z j v (subst (λ o. indent cs k o z) (sym h) ind) n w).1)
      first y g h (inr w) eq = absurd (sequence_dash (sequence_from cs Wide handles Open inside facts ease wider fwd blocks col c g (seq_column cs Wide handles Open inside col c) k y z j v (subst (λ o. indent cs k o z) (sym h) ind) n w).1)
        where
          sequence_dash : Sequence k g z j v → ⊥
          sequence_dash (o, (t, (m, us, vs, d1, rest, f), y2)) = dash_no_kind cs 1 z (seq_dash cs Wide handles Open inside facts ease wider fwd blocks col c k z m us d1) (prop_kind cs handles z place)

      go : Kinds cs handles col c i l2 q → Split l e s z k j a (both a b) v
      go (one_prop r) =
          let h = prop_same cs handles i l2 l q a r ra in
          let t2 = subst (λ o. s_l_comments cs o x) h.0 t in
          first x q (line_of l s x over st t2 (collections_stuck q x j v u)) u h.1
      go (two_props y z2 a2 b2 r n2 w2 eq df) =
          let h = prop_same cs handles i y l a2 a r ra in
          let g : z2 ≡ z = way_same cs l z2 z (subst (λ o. Way cs o z2) h.0 (way_of cs col c y z2 n2 (prop_solid cs handles z2 (prop_here cs handles z2 l2 b2 w2)).0)) (way_of cs col c l z sp (prop_solid cs handles z place).0) in
          let o = prop_same cs handles z l2 e b2 b (subst (λ m. prop cs handles m l2 b2) g w2) rb in
          let is : q ≡ both a b = eq ∙ subst (λ m. both a2 b2 ≡ both m b2) h.1 refl ∙ subst (λ m. both a b2 ≡ both a m) o.1 refl in
          of_both (x, subst (λ m. s_l_comments cs m x) o.0 t, subst (λ m. Collections m x j v) is u)

  -- text follows the second on its line: the first is a mapping's, whose key begins with the second
  pub mapping_of_first : (i l e s z k : ℕ) (a b : Props) → prop cs handles i l a → s_l_comments cs l s → Stuck cs s → indent cs k s z → (Stands cs is_space z → ⊥) → separate cs col c l z → prop cs handles z e b
      → ((j : ℕ) → s_l_comments cs e j → ⊥) → Rest (ProppedCollection cs Wide handles Open inside facts ease wider fwd blocks col c) AfterNode i (Mapping k a) AfterNode z
  mapping_of_first i l e s z k a b ra over st ind n sp rb none = record { rest = λ j m v r f. go j m v f (split i l e s z k j a b v ra over st ind n sp rb r) }
    where
      go : (j m : ℕ) (v : List Event) → AfterNode j m → Split l e s z k j a (both a b) v → (o : ℕ) × (w : List Event) × Mapping k a z o w × AfterNode o m
      go j m v f (of_first r) = (j, v, r, f)
      go j m v f (of_both (x, t, u)) = absurd (none x t)

  -- its line is over after the second: both are the collection's
  pub collection_of_both : (i l e s z k h : ℕ) (a b : Props) → prop cs handles i l a → s_l_comments cs l s → Stuck cs s → indent cs k s z → (Stands cs is_space z → ⊥) → separate cs col c l z → prop cs handles z e b
      → s_l_comments cs e h → Rest (ProppedCollection cs Wide handles Open inside facts ease wider fwd blocks col c) AfterNode i (CollectionsBelow (both a b)) AfterNode e
  collection_of_both i l e s z k h a b ra over st ind n sp rb end = record { rest = λ j m v r f. go j m v f (split i l e s z k j a b v ra over st ind n sp rb r) }
    where
      go : (j m : ℕ) (v : List Event) → AfterNode j m → Split l e s z k j a (both a b) v → (o : ℕ) × (w : List Event) × CollectionsBelow (both a b) e o w × AfterNode o m
      go j m v f (of_first r) = absurd ((no_mapping_over a AfterNode k z e h b (prop_kind cs handles z (prop_here cs handles z e b rb)) (prop_on z e b rb) (props_alone cs handles col block_key z e b rb) end).none j m v r f)
      go j m v f (of_both r) = (j, v, r, f)

  -- ---- what a line below begins with

  -- a bar or a greater sign: the block scalar alone
  no_key_at_bar : (x : ℕ) → Kind cs 4 x → KeyRead cs Wide handles Open inside col d c x → ⊥
  no_key_at_bar x h (o, v, f, fk, oneline) = (no_node_at_bar cs Wide handles Open inside col flow_out (At (F cs col d)) x h).none o o v f (refl, inr fk)

  pub no_mapping_at_bar : (p : Props) (E : End) (k x : ℕ) → Kind cs 4 x → Refused (Mapping k p) E x
  no_mapping_at_bar p E k x h = record { none = λ j m v (a, (t, (b, us, vs, u, rest, y), f)) w. no_key_at_bar x h (entry_key cs Wide handles Open inside facts ease wider fwd blocks col d c k x b us u) }

  pub scalar_below : (p : Props) (E : End) (k x : ℕ) → Kind cs 4 x → Rest (BelowThem p k) E x (Scalar p) E x
  scalar_below p E k x h = record { rest = go }
    where
      no_content : Kind cs 3 x ⊎ PlainFirst cs flow_out x → ⊥
      no_content (inl q) = let z : 3 ≡ 4 = kind_same cs 3 4 x q h in omega (arith, z)
      no_content (inr q) = plain_no_kind cs flow_out 4 x h q

      go : (j m : ℕ) (v : List Event) → BelowThem p k x j v → E j m → (o : ℕ) × (w : List Event) × Scalar p x o w × E o m
      go j m v (inl (inl (o, r, t))) e = absurd (no_content (contents_fresh p x o v r).1)
      go j m v (inl (inr r)) e = (j, v, r, e)
      go j m v (inr (inl r)) e = absurd ((no_mapping_at_bar p E k x h).none j m v r e)
      go j m v (inr (inr (o, (t, (a, us, vs, d1, rest, f), y)))) e = absurd (dash_no_kind cs 4 x (seq_dash cs Wide handles Open inside facts ease wider fwd blocks col c k x a us d1) h)

  -- anything else: flow content and the rest of its line, or a mapping whose key it begins
  abbrev pub ContentOrKey : Props → ℕ → Rule (List Event)
  ContentOrKey p k = (Contents p ◂ s_l_comments cs) ∪ Mapping k p

  pub content_below : (p : Props) (E : End) (k x : ℕ) → (Kind cs 4 x → ⊥) → (DashHere cs x → ⊥) → Rest (BelowThem p k) E x (ContentOrKey p k) E x
  content_below p E k x f g = record { rest = go }
    where
      go : (j m : ℕ) (v : List Event) → BelowThem p k x j v → E j m → (o : ℕ) × (w : List Event) × ContentOrKey p k x o w × E o m
      go j m v (inl (inl r)) e = (j, v, inl r, e)
      go j m v (inl (inr r)) e = absurd (f (scalar_kind cs Wide handles Open inside facts ease wider fwd blocks col c p x j v r))
      go j m v (inr (inl r)) e = (j, v, inr r, e)
      go j m v (inr (inr (o, (t, (a, us, vs, d1, rest, h), y)))) e = absurd (g (seq_dash cs Wide handles Open inside facts ease wider fwd blocks col c k x a us d1))
