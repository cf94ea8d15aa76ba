-- A node of block level on its line, as a reader finds it: its own properties, and whether a block scalar follows them or else text.
use Rattle.std.proofs.Common.{◌≡◌, ℕ, ◌≤◌, ◌<◌, ◌⊎◌, inl, inr, List, Option, Some, None, refl, sym, ◌∙◌, subst, arith}
use Rattle.std.specs.Prelude.{slice_get}
use Rattle.std.proofs.Math.Nat.{eq-or-lt_of_le}
use Rattle.yaml_definitions.specs.grammar.Rules.{Rule, ◌▸◌, ◌◂◌, ◌∪◌, never, run, Stands}
use Rattle.yaml_definitions.specs.grammar.Characters.{is_space}
use Rattle.yaml_definitions.specs.grammar.Separation.{Ctx, flow_out, block_key, s-separate as separate, s-l-comments as s_l_comments, s-indent as indent}
use Rattle.yaml_definitions.specs.grammar.Tags.{Handles, c-ns-properties as properties}
use Rattle.yaml_definitions.specs.grammar.FlowScalars.{PlainFirst}
use Rattle.yaml_definitions.specs.model.Event.{Event}
use Rattle.yaml_definitions.specs.grammar.Events.{Props, no_props}
use Rattle.yaml_definitions.specs.grammar.Nodes.{Part, part, ns-flow-node as flow_node}
use Rattle.yaml_definitions.proofs.grammar.Forward.{Forward}
use Rattle.yaml_definitions.proofs.grammar.Widening.{Within}
use Rattle.yaml_text.specs.Lines.{Inside}
use Rattle.law_one_reading.specs.Readings.{End, At}
use Rattle.law_one_reading.specs.Follows.{Solid, Stuck, DashHere, Over, Follow, FollowKey, EndsNode as F}
use Rattle.law_one_reading.proofs.Lines.{run_solid}
use Rattle.law_one_reading.proofs.FlowNodes.{Kind, kind_same, kind_fresh, plain_no_kind, prop_kind, YamlRest, JsonRest}
use Rattle.law_one_reading.proofs.FlowEntries.{Facts}
use Rattle.law_one_reading.proofs.BlockNodes.{KeyRead, dash_no_kind, colon_no_kind, colon_solid, content_flow, rest_other, flow_propped}
use Rattle.law_one_reading.proofs.KeyContexts.{Eased}
use Rattle.law_one_reading.proofs.BlockLevels.{Blocks, entry_key}
use Rattle.law_one_reading.proofs.Properties.{PropHere, prop, both, props_two, props_here, props_inside}
use Rattle.law_one_reading.proofs.TagEnds.{prop_same, prop_here, prop_inside}
use Rattle.law_going_on.specs.GoingOn.{Refused, Rest}
use Rattle.law_going_on.proofs.GoingOn.{rest_rest, rest_left, rest_both}
use Rattle.law_going_on.proofs.PropertyChoices.{Differ, Second}
use Rattle.law_going_on.proofs.BlockLoops.{MappingFrom}
use Rattle.law_going_on.proofs.BlockStarts.{FlowLine, ScalarOf, OnLine, scalar_kind, flow_left, scalar_left}
use Rattle.law_going_on.proofs.BlockProperties.{Under, BelowThem, ContentOrKey, Rested, content, lone, rested, contents_fresh, flow_after, line_after, scalar_after, mapping_of_first, no_mapping_over, under_below, content_below, scalar_below}
use Rattle.law_going_on.proofs.FlowStarts.{no_node_at_bar}
use Rattle.law_going_on.proofs.PropertyLines.{separate_line, line_run, line_properties, no_gap, properties_of_both, no_second_of_two, under_after}

rest_same : {V : Type 0} (R : Rule V) (E : End) (i : ℕ) → Rest R E i R E i
rest_same R E i = record { rest = λ j m v r e. (j, v, r, e) }

module _ (cs : List ℕ) (Wide : Type 0) (handles : Handles) (Open : Type 0) (inside : Part → Rule (List Event)) (facts : Facts cs inside) (ease : Eased cs Wide handles inside)
    (wider : (p : Part) → Within (inside p) (part cs Wide handles Open inside p)) (fwd : (p : Part) → Forward (inside p)) (blocks : Blocks cs Wide handles inside) (col d : ℕ) (c : Ctx) where
  abbrev Flow : Rule (List Event)
  Flow = flow_node cs Wide handles Open inside col flow_out

  abbrev FlowRest : Props → Rule (List Event)
  FlowRest p = YamlRest cs Wide handles Open inside col flow_out p ∪ JsonRest cs Wide handles Open inside col flow_out p

  abbrev Line : Rule (List Event)
  Line = FlowLine cs Wide handles Open inside facts ease wider fwd blocks col c

  abbrev Scalar : Props → Rule (List Event)
  Scalar = ScalarOf cs Wide handles Open inside facts ease wider fwd blocks col c

  abbrev Forms : Rule (List Event)
  Forms = OnLine cs Wide handles Open inside facts ease wider fwd blocks col c

  abbrev Mapping : ℕ → Props → Rule (List Event)
  Mapping k = MappingFrom cs Wide handles Open inside k

  abbrev AfterNode : End
  AfterNode = Over cs (Follow cs col d)

  -- a mapping in this column, if in any
  abbrev pub MappingIn : Props → Option ℕ → Rule (List Event)
  MappingIn p None = never
  MappingIn p (Some k) = Mapping k p

  -- what a flow node that begins here decides: itself and the rest of its line, or a mapping whose key it is
  abbrev pub FlowOrKey : Props → Option ℕ → Rule (List Event)
  FlowOrKey p column = Line ∪ MappingIn p column

  no_bar : (x : ℕ) → Kind cs 4 x → Kind cs 3 x ⊎ PlainFirst cs flow_out x → ⊥
  no_bar x h (inl q) = let z : 3 ≡ 4 = kind_same cs 3 4 x q h in omega (arith, z)
  no_bar x h (inr q) = plain_no_kind cs flow_out 4 x h q

  -- a key is a flow node that a colon follows
  pub mapping_refused : (E : End) (i : ℕ) (p : Props) (column : Option ℕ) → (KeyRead cs Wide handles Open inside col d c i → ⊥) → Refused (MappingIn p column) E i
  mapping_refused E i p None n = record { none = λ j m v r e. r }
  mapping_refused E i p (Some k) n = record { none = λ j m v (a, (t, (b, us, vs, u, rest, y), f)) w. n (entry_key cs Wide handles Open inside facts ease wider fwd blocks col d c k i b us u) }

  -- ---- without properties

  pub flow_or_key : (x : ℕ) (column : Option ℕ) → (Kind cs 1 x → ⊥) → (Kind cs 4 x → ⊥) → Rest (Forms ∪ MappingIn no_props column) AfterNode x (FlowOrKey no_props column) AfterNode x
  flow_or_key x column f g = rest_both (flow_left cs Wide handles Open inside facts ease wider fwd blocks col c AfterNode x f g) (rest_same (MappingIn no_props column) AfterNode x)

  no_key_at_bar : (x : ℕ) → Kind cs 4 x → KeyRead cs Wide handles Open inside col d c x → ⊥
  no_key_at_bar x h (o, v, f, fk, oneline) = (no_node_at_bar cs Wide handles Open inside col flow_out (At (F cs col d)) x h).none o o v f (refl, inr fk)

  pub scalar_here : (x : ℕ) (column : Option ℕ) → Kind cs 4 x → Rest (Forms ∪ MappingIn no_props column) AfterNode x (Scalar no_props) AfterNode x
  scalar_here x column h =
      rest_rest (rest_left Forms (mapping_refused AfterNode x no_props column (no_key_at_bar x h))) (scalar_left cs Wide handles Open inside facts ease wider fwd blocks col c AfterNode x h none)
    where
      none : (j : ℕ) (v : List Event) → flow_node cs Wide handles Open inside col flow_out x j v → ⊥
      none j v r = (no_node_at_bar cs Wide handles Open inside col flow_out (λ y z. Unit {0}) x h).none j j v r tt

  -- ---- properties that stand on the node's line

  -- all that stand there, with the line going on after them
  pub record Own (x e : ℕ) (p : Props) : Type 0 where
    pub read : properties cs handles 0 block_key x e p
    pub all : (o : ℕ) → prop cs handles x e p → separate cs 0 block_key e o → Differ cs handles 0 block_key x o → ⊥
    pub goes_on : (j : ℕ) → s_l_comments cs e j → ⊥

  own_inside : (x e : ℕ) (p : Props) → Own x e p → Inside cs e
  own_inside x e p o = props_inside cs handles (prop_same cs handles) (prop_here cs handles) (prop_inside cs handles) 0 block_key x e p (props_two cs handles 0 block_key x e p o.read)

  own_here : (x e : ℕ) (p : Props) → Own x e p → PropHere cs handles x
  own_here x e p o = props_here cs handles (prop_same cs handles) (prop_here cs handles) (prop_inside cs handles) 0 block_key x e p (props_two cs handles 0 block_key x e p o.read)

  own_kind : (x e : ℕ) (p : Props) → Own x e p → Kind cs 1 x
  own_kind x e p o = prop_kind cs handles x (own_here x e p o)

  own_second : (x e : ℕ) (p : Props) → Own x e p → (b : Ctx) → Second cs handles col b x e p → ⊥
  own_second x e p o b (a, (l, z, q, s, r, df)) = o.all z a (separate_line cs col b e z o.goes_on s) df

  -- a block scalar's sign follows them; or none does
  abbrev pub Signed : ℕ → ℕ → Type 0
  Signed e n = run cs is_space e n × (e < n) × Kind cs 4 n

  abbrev pub Unsigned : ℕ → Type 0
  Unsigned e = (n : ℕ) → run cs is_space e n → e < n → Kind cs 4 n → ⊥

  -- ---- what stands after them on the line

  abbrev After : Props → Rule (List Event)
  After = Under cs Wide handles Open inside facts ease wider fwd blocks col d c

  module _ (x e : ℕ) (b : Props) (own : Own x e b) where
    gone : (z : Ctx) (q : ℕ) → separate cs col z e q → Solid cs q → run cs is_space e q × (e < q)
    gone z q s f =
        let r = line_run cs e q (separate_line cs col z e q own.goes_on s) in
        (r, further r.0)
      where
        further : e ≤ q → e < q
        further le = pick (eq-or-lt_of_le le)
          where
            pick : (e ≡ q) ⊎ (e < q) → e < q
            pick (inl h) = absurd (no_gap cs col z e (own_inside x e b own) (subst (separate cs col z e) (sym h) s) (subst (Solid cs) (sym h) f))
            pick (inr lt) = lt

    same_sign : (n q : ℕ) (z : Ctx) → Signed e n → separate cs col z e q → Solid cs q → q ≡ n
    same_sign n q z (r, lt, h) s f = run_solid cs e q n (gone z q s f).0 f.0 r (kind_fresh cs 4 n h).0.0

    -- text: the flow node begins where its own properties do
    flow_back : (p : Props) (j : ℕ) (v : List Event) → (FlowRest p ◂ s_l_comments cs) e j v → (w : List Event) × Line x j w
    flow_back p j v (k, r, t) =
        let (w, u) = rest_other cs Wide handles Open inside col d c p b e k v r in
        (w, (k, flow_propped cs Wide handles Open inside col d c x k w (e, b, line_properties cs handles col flow_out x e b own.read, u), t))

    no_scalar : Unsigned e → (p : Props) (j : ℕ) (v : List Event) → (separate cs col c ▸ Scalar p) e j v → ⊥
    no_scalar none p j v (q, s, r) =
        let h = scalar_kind cs Wide handles Open inside facts ease wider fwd blocks col c p q j v r in
        let g = gone c q s (kind_fresh cs 4 q h).0 in none q g.0 g.1 h

    flow_under : Unsigned e → (p : Props) → Rest (After p) AfterNode e Line AfterNode x
    flow_under none p = record { rest = go }
      where
        go : (j m : ℕ) (v : List Event) → After p e j v → AfterNode j m → (o : ℕ) × (w : List Event) × Line x o w × AfterNode o m
        go j m v (inl r) f = let (w, t) = flow_back p j v r in (j, w, t, f)
        go j m v (inr (inl r)) f = absurd (no_scalar none p j v r)
        go j m v (inr (inr (y, s, r))) f = absurd (own.goes_on y s)

    -- a block scalar
    no_flow : (n : ℕ) → Signed e n → (p : Props) (k j : ℕ) (v : List Event) → s_l_comments cs k j → Rested cs Wide handles Open inside facts ease wider fwd blocks col d c p e k v → ⊥
    no_flow n sign p k j v t (content q s r) =
        let z = contents_fresh cs Wide handles Open inside facts ease wider fwd blocks col d c p q k v r in
        no_bar q (subst (Kind cs 4) (sym (same_sign n q flow_out sign s z.0.0)) sign.2) z.1
    no_flow n sign p k j v t (lone h) = own.goes_on j (subst (λ z. s_l_comments cs z j) h t)

    scalar_next : (n : ℕ) → Signed e n → (p : Props) (j : ℕ) (v : List Event) → (separate cs col c ▸ Scalar p) e j v → Scalar p n j v
    scalar_next n sign p j v (q, s, r) = subst (λ z. Scalar p z j v) (same_sign n q c sign s (kind_fresh cs 4 q (scalar_kind cs Wide handles Open inside facts ease wider fwd blocks col c p q j v r)).0) r

    scalar_under : (n : ℕ) → Signed e n → (p : Props) → Rest (After p) AfterNode e (Scalar p) AfterNode n
    scalar_under n sign p = record { rest = go }
      where
        go : (j m : ℕ) (v : List Event) → After p e j v → AfterNode j m → (o : ℕ) × (w : List Event) × Scalar p n o w × AfterNode o m
        go j m v (inl (k, r, t)) f = absurd (no_flow n sign p k j v t (rested cs Wide handles Open inside facts ease wider fwd blocks col d c p e k v r))
        go j m v (inr (inl r)) f = (j, v, scalar_next n sign p j v r, f)
        go j m v (inr (inr (y, s, r))) f = absurd (own.goes_on y s)

    -- and no key
    pub no_key_signed : (n : ℕ) → Signed e n → KeyRead cs Wide handles Open inside col d c x → ⊥
    no_key_signed n sign (o, v, f, fk, one) = go ((flow_after cs Wide handles Open inside facts ease wider fwd blocks col d c x e b (own_kind x e b own) (line_properties cs handles col flow_out x e b own.read) (own_second x e b own flow_out)).rest o o v f (refl, inr fk))
      where
        on : (k : ℕ) (w : List Event) → k ≡ o → Rested cs Wide handles Open inside facts ease wider fwd blocks col d c b e k w → ⊥
        on k w h (content q s r) =
            let z = contents_fresh cs Wide handles Open inside facts ease wider fwd blocks col d c b q k w r in
            no_bar q (subst (Kind cs 4) (sym (same_sign n q flow_out sign s z.0.0)) sign.2) z.1
        on k w h (lone g) = colon (subst (FollowKey cs) (sym h ∙ g) fk)
          where
            colon : FollowKey cs e → ⊥
            colon (q, r, i, l) =
                let a : q ≡ n = run_solid cs e q n r (colon_solid cs q i).0 sign.0 (kind_fresh cs 4 n sign.2).0.0 in
                colon_no_kind cs 4 n (subst (λ z. slice_get cs z ≡ Some 58) a i) sign.2

        go : (k : ℕ) × (w : List Event) × FlowRest b e k w × At (F cs col d) k o → ⊥
        go (k, w, r, (h, g)) = on k w h (rested cs Wide handles Open inside facts ease wider fwd blocks col d c b e k w r)

  -- ---- no properties above

  own_under : (x e : ℕ) (p : Props) → Own x e p → Rest Forms AfterNode x (After p) AfterNode e
  own_under x e p o = under_after cs Wide handles Open inside facts ease wider fwd blocks col d c x e p (own_kind x e p o) o.read (own_second x e p o flow_out) (own_second x e p o c)

  pub own_flow_or_key : (x e : ℕ) (p : Props) (column : Option ℕ) → Own x e p → Unsigned e → Rest (Forms ∪ MappingIn no_props column) AfterNode x (FlowOrKey no_props column) AfterNode x
  own_flow_or_key x e p column o none = rest_both (rest_rest (own_under x e p o) (flow_under x e p o none p)) (rest_same (MappingIn no_props column) AfterNode x)

  pub own_scalar : (x e n : ℕ) (p : Props) (column : Option ℕ) → Own x e p → Signed e n → Rest (Forms ∪ MappingIn no_props column) AfterNode x (Scalar p) AfterNode n
  own_scalar x e n p column o sign =
      rest_rest (rest_left Forms (mapping_refused AfterNode x no_props column (no_key_signed x e p o n sign))) (rest_rest (own_under x e p o) (scalar_under x e p o n sign p))

  -- the line is over after them: no key begins with them
  pub no_mapping_in : (o : Props) (E : End) (x e s : ℕ) (p : Props) (column : Option ℕ) → x ≤ e → properties cs handles 0 block_key x e p → s_l_comments cs e s → Refused (MappingIn o column) E x
  no_mapping_in o E x e s p None le r over = record { none = λ j m v t f. t }
  no_mapping_in o E x e s p (Some k) le r over =
      no_mapping_over cs Wide handles Open inside facts ease wider fwd blocks col d c o E k x e s p (prop_kind cs handles x (props_here cs handles (prop_same cs handles) (prop_here cs handles) (prop_inside cs handles) 0 block_key x e p (props_two cs handles 0 block_key x e p r))) le (line_properties cs handles col block_key x e p r) over

  -- ---- properties above, from i to f, and a line in column k

  module _ (i f s k x : ℕ) (p : Props) (under : Rest Forms AfterNode i (After p) AfterNode f) (over : s_l_comments cs f s) (st : Stuck cs s) (ind : indent cs k s x) (whole : Stands cs is_space x → ⊥) (other : Follow cs col d s → ⊥) where
    -- no properties of its own
    below : Rest Forms AfterNode i (BelowThem cs Wide handles Open inside facts ease wider fwd blocks col d c p k) AfterNode x
    below = rest_rest under (under_below cs Wide handles Open inside facts ease wider fwd blocks col d c p f s x k over st ind whole other)

    pub above_flow_or_key : (Kind cs 4 x → ⊥) → (DashHere cs x → ⊥) → Rest Forms AfterNode i (FlowOrKey p (Some k)) AfterNode x
    above_flow_or_key bar dash = rest_rest below (rest_rest (content_below cs Wide handles Open inside facts ease wider fwd blocks col d c p AfterNode k x bar dash) text)
      where
        text : Rest (ContentOrKey cs Wide handles Open inside facts ease wider fwd blocks col d c p k) AfterNode x (FlowOrKey p (Some k)) AfterNode x
        text = record { rest = go }
          where
            go : (j m : ℕ) (v : List Event) → ContentOrKey cs Wide handles Open inside facts ease wider fwd blocks col d c p k x j v → AfterNode j m → (o : ℕ) × (w : List Event) × FlowOrKey p (Some k) x o w × AfterNode o m
            go j m v (inl (o, r, t)) e = let (w, u) = content_flow cs Wide handles Open inside col d c p x o v r in (j, w, inl (o, u, t), e)
            go j m v (inr r) e = (j, v, inr r, e)

    pub above_scalar : Kind cs 4 x → Rest Forms AfterNode i (Scalar p) AfterNode x
    above_scalar h = rest_rest below (scalar_below cs Wide handles Open inside facts ease wider fwd blocks col d c p AfterNode k x h)

    -- an alias has no properties
    pub above_alias : Kind cs 2 x → Rest Forms AfterNode i (Mapping k p) AfterNode x
    above_alias h = rest_rest below (rest_rest (content_below cs Wide handles Open inside facts ease wider fwd blocks col d c p AfterNode k x bar (λ g. dash_no_kind cs 2 x g h)) text)
      where
        bar : Kind cs 4 x → ⊥
        bar g = let z : 4 ≡ 2 = kind_same cs 4 2 x g h in omega (arith, z)

        no_content : Kind cs 3 x ⊎ PlainFirst cs flow_out x → ⊥
        no_content (inl q) = let z : 3 ≡ 2 = kind_same cs 3 2 x q h in omega (arith, z)
        no_content (inr q) = plain_no_kind cs flow_out 2 x h q

        text : Rest (ContentOrKey cs Wide handles Open inside facts ease wider fwd blocks col d c p k) AfterNode x (Mapping k p) AfterNode x
        text = record { rest = go }
          where
            go : (j m : ℕ) (v : List Event) → ContentOrKey cs Wide handles Open inside facts ease wider fwd blocks col d c p k x j v → AfterNode j m → (o : ℕ) × (w : List Event) × Mapping k p x o w × AfterNode o m
            go j m v (inl (o, r, t)) e = absurd (no_content (contents_fresh cs Wide handles Open inside facts ease wider fwd blocks col d c p x o v r).1)
            go j m v (inr r) e = (j, v, r, e)

  -- ---- a property above, from i to l, and one of the other kind on the next line

  module _ (i l s k x e : ℕ) (a b : Props) (above : prop cs handles i l a) (over : s_l_comments cs l s) (st : Stuck cs s) (ind : indent cs k s x) (whole : Stands cs is_space x → ⊥)
      (apart_out : separate cs col flow_out l x) (apart : separate cs col c l x) (second : prop cs handles x e b) (differ : Differ cs handles col c i x) (own : Own x e b) where
    first_kind : Kind cs 1 i
    first_kind = prop_kind cs handles i (prop_here cs handles i l a above)

    pub both_flow_or_key : Unsigned e → Rest Forms AfterNode i (FlowOrKey a (Some k)) AfterNode x
    both_flow_or_key none = record { rest = go }
      where
        go : (j m : ℕ) (v : List Event) → Forms i j v → AfterNode j m → (o : ℕ) × (w : List Event) × FlowOrKey a (Some k) x o w × AfterNode o m
        go j m v (inl t) f =
            let r = properties_of_both cs handles col flow_out i l x e a b above apart_out second differ in
            let (o, w, u, g) = (line_after cs Wide handles Open inside facts ease wider fwd blocks col d c i e (both a b) first_kind r (no_second_of_two cs handles col col flow_out flow_out i l x e a b (both a b) above apart_out second)).rest j m v t f in
            let (w2, y) = flow_back x e b own (both a b) o w u in
            (o, w2, inl y, g)
        go j m v (inr (inl t)) f = let z : 4 ≡ 1 = kind_same cs 4 1 i (scalar_kind cs Wide handles Open inside facts ease wider fwd blocks col c no_props i j v t) first_kind in absurd (omega (arith, z))
        go j m v (inr (inr (inl t))) f =
            let r = properties_of_both cs handles col c i l x e a b above apart second differ in
            let (o, w, u, g) = (scalar_after cs Wide handles Open inside facts ease wider fwd blocks col d c i e (both a b) r (no_second_of_two cs handles col col c c i l x e a b (both a b) above apart second)).rest j m v t f in
            absurd (no_scalar x e b own none (both a b) o w u)
        go j m v (inr (inr (inr t))) f =
            let (o, w, u, g) = (mapping_of_first cs Wide handles Open inside facts ease wider fwd blocks col d c i l e s x k a b above over st ind whole apart second own.goes_on).rest j m v t f in (o, w, inr u, g)

    pub both_scalar : (n : ℕ) → Signed e n → Rest Forms AfterNode i (Scalar (both a b)) AfterNode n
    both_scalar n sign = record { rest = go }
      where
        go : (j m : ℕ) (v : List Event) → Forms i j v → AfterNode j m → (o : ℕ) × (w : List Event) × Scalar (both a b) n o w × AfterNode o m
        go j m v (inl t) f =
            let r = properties_of_both cs handles col flow_out i l x e a b above apart_out second differ in
            let (o, w, (q, u, y), g) = (line_after cs Wide handles Open inside facts ease wider fwd blocks col d c i e (both a b) first_kind r (no_second_of_two cs handles col col flow_out flow_out i l x e a b (both a b) above apart_out second)).rest j m v t f in
            absurd (no_flow x e b own n sign (both a b) q o w y (rested cs Wide handles Open inside facts ease wider fwd blocks col d c (both a b) e q w u))
        go j m v (inr (inl t)) f = let z : 4 ≡ 1 = kind_same cs 4 1 i (scalar_kind cs Wide handles Open inside facts ease wider fwd blocks col c no_props i j v t) first_kind in absurd (omega (arith, z))
        go j m v (inr (inr (inl t))) f =
            let r = properties_of_both cs handles col c i l x e a b above apart second differ in
            let (o, w, u, g) = (scalar_after cs Wide handles Open inside facts ease wider fwd blocks col d c i e (both a b) r (no_second_of_two cs handles col col c c i l x e a b (both a b) above apart second)).rest j m v t f in
            (o, w, scalar_next x e b own n sign (both a b) o w u, g)
        go j m v (inr (inr (inr t))) f =
            let (o, w, u, g) = (mapping_of_first cs Wide handles Open inside facts ease wider fwd blocks col d c i l e s x k a b above over st ind whole apart second own.goes_on).rest j m v t f in
            absurd ((mapping_refused AfterNode x a (Some k) (no_key_signed x e b own n sign)).none o m w u g)
