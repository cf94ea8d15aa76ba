-- A node of block level by what a reader sees where it may begin: which of its forms are left, and from which place.
use Rattle.std.proofs.Common.{◌≡◌, ℕ, ◌+◌, ◌≤◌, inl, inr, List, refl, sym, subst, arith}
use Rattle.yaml_definitions.specs.grammar.Rules.{Rule, Spans, ◌▸◌, ◌◂◌, ◌∪◌, with_value, Stands}
use Rattle.yaml_definitions.specs.grammar.Characters.{is_ns, is_space}
use Rattle.yaml_definitions.specs.grammar.Separation.{Ctx, flow_out, s-separate as separate, s-l-comments as s_l_comments, s-indent as indent}
use Rattle.yaml_definitions.specs.grammar.Tags.{Handles, c-ns-properties as properties}
use Rattle.yaml_definitions.specs.grammar.BlockScalars.{c-l+literal as literal, c-l+folded as folded}
use Rattle.yaml_definitions.specs.model.Event.{Event, sequence_end, mapping_end}
use Rattle.yaml_definitions.specs.model.Event as style
use Rattle.yaml_definitions.specs.grammar.Events.{Props, no_props}
use Rattle.yaml_definitions.specs.grammar.Nodes.{Part, part, ns-flow-node as flow_node, scalar_of, l+block-sequence as block_seq, l+block-mapping as block_map, s-l+block-node as block_node, seq-space as seq_column, c-l-block-seq-entry as seq_entry, ns-l-block-map-entry as map_entry}
use Rattle.yaml_definitions.proofs.grammar.Forward.{Forward}
use Rattle.yaml_definitions.proofs.grammar.Widening.{Within}
use Rattle.yaml_text.proofs.Runs.{run_same}
use Rattle.yaml_text.proofs.LineRuns.{indent_run, indent_place}
use Rattle.law_one_reading.specs.Readings.{End}
use Rattle.law_one_reading.proofs.Lines.{dash_fresh, solid_no_space, past_of, past_same, stuck_line}
use Rattle.law_one_reading.specs.Follows.{Fresh, Stuck, DashHere, KeyHere}
use Rattle.law_one_reading.proofs.Properties.{props_here, props_two}
use Rattle.law_one_reading.proofs.TagEnds.{prop_same, prop_here, prop_inside}
use Rattle.law_one_reading.proofs.FlowNodes.{Kind, Sign, kind_same, kind_fresh, prop_kind}
use Rattle.law_one_reading.proofs.FlowEntries.{Facts}
use Rattle.law_one_reading.proofs.BlockNodes.{dash_no_kind}
use Rattle.law_one_reading.proofs.KeyContexts.{Eased}
use Rattle.law_one_reading.proofs.BlockLevels.{Blocks, flow_start, key_start}
use Rattle.law_going_on.specs.GoingOn.{Refused, Rest}
use Rattle.law_going_on.proofs.Separations.{Spaces, separate_on_line, separate_on_next}
use Rattle.law_going_on.proofs.BlockLoops.{SequenceFrom, MappingFrom}

module _ (cs : List ℕ) (Wide : Type 0) (handles : Handles) (Open : Type 0) (inside : Part → Rule (List Event)) (facts : Facts cs inside) (ease : Eased cs Wide handles inside)
    (wider : (p : Part) → Within (inside p) (part cs Wide handles Open inside p)) (fwd : (p : Part) → Forward (inside p)) (blocks : Blocks cs Wide handles inside) (col : ℕ) (c : Ctx) where
  -- a flow node and the rest of its line
  abbrev pub FlowLine : Rule (List Event)
  FlowLine = flow_node cs Wide handles Open inside col flow_out ◂ s_l_comments cs

  abbrev pub ScalarOf : Props → Rule (List Event)
  ScalarOf p = scalar_of cs Wide handles Open inside p style.literal (literal cs col) ∪ scalar_of cs Wide handles Open inside p style.folded (folded cs col)

  abbrev pub ProppedScalar : Rule (List Event)
  ProppedScalar = with_value (properties cs handles col c) (λ p. separate cs col c ▸ ScalarOf p)

  abbrev pub CollectionsOf : Props → Rule (List Event)
  CollectionsOf p = block_map cs Wide handles Open inside p col ∪ block_seq cs Wide handles Open inside p (seq_column cs Wide handles Open inside col c)

  abbrev pub ProppedCollection : Rule (List Event)
  ProppedCollection = with_value (properties cs handles col c) (λ p. s_l_comments cs ▸ CollectionsOf p)

  -- what may begin on the line of what stands before
  abbrev pub OnLine : Rule (List Event)
  OnLine = FlowLine ∪ ScalarOf no_props ∪ ProppedScalar ∪ ProppedCollection

  -- or on a line of its own, in column k
  abbrev pub OnOwnLine : ℕ → Rule (List Event)
  OnOwnLine k = OnLine ∪ MappingFrom cs Wide handles Open inside k no_props ∪ SequenceFrom cs Wide handles Open inside k no_props

  -- ---- the forms of a node

  pub data Form (i j : ℕ) (v : List Event) : Type 0 where
    flow : (q : ℕ) → separate cs col flow_out i q → FlowLine q j v → Form i j v
    scalar : (q : ℕ) → separate cs col c i q → ScalarOf no_props q j v → Form i j v
    propped : (q : ℕ) → separate cs col c i q → ProppedScalar q j v → Form i j v
    collection : (x : ℕ) → s_l_comments cs i x → CollectionsOf no_props x j v → Form i j v
    named : (q : ℕ) → separate cs col c i q → ProppedCollection q j v → Form i j v

  pub form : (i j : ℕ) (v : List Event) → block_node cs Wide handles Open inside col c i j v → Form i j v
  unfolding block_node
  form i j v (inl (q, s, (a, r, t))) = flow q s (a, r, t)
  form i j v (inr (inl (q, s, (k, p, inl (e, f), r)))) = scalar q s (subst (λ x. ScalarOf x q j v) f (subst (λ x. ScalarOf p x j v) e r))
  form i j v (inr (inl (q, s, (k, p, inr (a, t, u), r)))) = propped q s (a, p, t, (k, u, r))
  form i j v (inr (inr (k, p, (a, inl (e, f), t), r))) = collection k (subst (λ x. s_l_comments cs x k) e t) (subst (λ x. CollectionsOf x k j v) f r)
  form i j v (inr (inr (k, p, (a, inr (q, s, t), u), r))) = named q s (a, p, t, (k, u, r))

  -- ---- where they begin

  pub flow_key : (i j : ℕ) (v : List Event) → FlowLine i j v → KeyHere cs i
  flow_key i j v (k, r, s) = flow_start cs Wide handles Open inside facts ease wider fwd blocks col i k v r

  pub scalar_kind : (p : Props) (i j : ℕ) (v : List Event) → ScalarOf p i j v → Kind cs 4 i
  unfolding literal folded
  scalar_kind p i j v (inl (t, (k, (h, e), r), f)) = (124, h, Sign.bar 124 refl)
  scalar_kind p i j v (inr (t, (k, (h, e), r), f)) = (62, h, Sign.greater 62 refl)

  pub propped_kind : {V : Type 0} (S : Props → Rule V) (i j : ℕ) (v : V) → with_value (properties cs handles col c) S i j v → Kind cs 1 i
  propped_kind S i j v (k, p, r, s) = prop_kind cs handles i (props_here cs handles (prop_same cs handles) (prop_here cs handles) (prop_inside cs handles) col c i k p (props_two cs handles col c i k p r))

  pub map_key : (k q a : ℕ) (v : List Event) → map_entry cs Wide handles Open inside k q a v → KeyHere cs q
  unfolding map_entry
  map_key k q a v (b, ks, ws, (m, key, h), val, x) = key_start cs Wide handles Open inside facts ease wider fwd blocks q m ks key

  pub seq_dash : (k q a : ℕ) (v : List Event) → seq_entry cs Wide handles Open inside k q a v → DashHere cs q
  unfolding seq_entry
  seq_dash k q a v (b, (x, (h, e), (f, n)), r) = (h, subst (λ z. Stands cs is_ns z → ⊥) e n)

  -- the column is that of the line
  column_of : (k l x p q : ℕ) → indent cs k x p → (Stands cs is_space p → ⊥) → indent cs l x q → Fresh cs q → (k ≡ l) × (p ≡ q)
  column_of k l x p q r n s f =
      let e : p ≡ q = run_same cs is_space x p q (indent_run cs k x p r) (indent_run cs l x q s) n (solid_no_space cs q f.0.0) in
      let a : p ≡ x + k = indent_place cs k x p r in
      let b : q ≡ x + l = indent_place cs l x q s in
      (omega (arith, e, a, b), e)

  -- a mapping's line, from its first key on
  pub mapping_from : (p : Props) (k x q j : ℕ) (v : List Event) → indent cs k x q → (Stands cs is_space q → ⊥) → block_map cs Wide handles Open inside p col x j v → (col ≤ k) × MappingFrom cs Wide handles Open inside k p q j v
  unfolding block_map
  mapping_from p k x q j v r n (o, (t, (l, (le, (a, us, vs, (b, s, u), rest, y))), e)) =
      let h = column_of k l x q b r n s (map_key l b a us u).0 in
      (subst (λ z. col ≤ z) (sym h.0) le, subst (λ z. MappingFrom cs Wide handles Open inside z p q j v) (sym h.0) (subst (λ z. MappingFrom cs Wide handles Open inside l p z j v) (sym h.1) (o, (t, (a, us, vs, u, rest, y), e))))

  pub sequence_from : (p : Props) (d k x q j : ℕ) (v : List Event) → indent cs k x q → (Stands cs is_space q → ⊥) → block_seq cs Wide handles Open inside p d x j v → (d ≤ k) × SequenceFrom cs Wide handles Open inside k p q j v
  unfolding block_seq
  sequence_from p d k x q j v r n (o, (t, (l, (le, (a, us, vs, (b, s, u), rest, y))), e)) =
      let h = column_of k l x q b r n s (dash_fresh cs b (seq_dash l b a us u)) in
      (subst (λ z. d ≤ z) (sym h.0) le, subst (λ z. SequenceFrom cs Wide handles Open inside z p q j v) (sym h.0) (subst (λ z. SequenceFrom cs Wide handles Open inside l p z j v) (sym h.1) (o, (t, (a, us, vs, u, rest, y), e))))

  -- ---- content on the line of what stands before

  pub node_on_line : (E : End) (i x : ℕ) → ((j : ℕ) → s_l_comments cs i j → ⊥) → Spaces cs i x → Rest (block_node cs Wide handles Open inside col c) E i OnLine E x
  node_on_line E i x none sp = record { rest = λ j m v r e. go j m v e (form i j v r) }
    where
      at : (b : Ctx) (q : ℕ) → separate cs col b i q → Fresh cs q → q ≡ x
      at b q s f = separate_on_line cs col b i x none sp q (inr s) f.0

      go : (j m : ℕ) (v : List Event) → E j m → Form i j v → (k : ℕ) × (w : List Event) × OnLine x k w × E k m
      go j m v e (flow q s r) = (j, v, inl (subst (λ z. FlowLine z j v) (at flow_out q s (flow_key q j v r).0) r), e)
      go j m v e (scalar q s r) = (j, v, inr (inl (subst (λ z. ScalarOf no_props z j v) (at c q s (kind_fresh cs 4 q (scalar_kind no_props q j v r))) r)), e)
      go j m v e (propped q s r) = (j, v, inr (inr (inl (subst (λ z. ProppedScalar z j v) (at c q s (kind_fresh cs 1 q (propped_kind (λ p. separate cs col c ▸ ScalarOf p) q j v r))) r))), e)
      go j m v e (collection y s r) = absurd (none y s)
      go j m v e (named q s r) = (j, v, inr (inr (inr (subst (λ z. ProppedCollection z j v) (at c q s (kind_fresh cs 1 q (propped_kind (λ p. s_l_comments cs ▸ CollectionsOf p) q j v r))) r))), e)

  -- ---- content on a line of its own

  pub lines_to : (i s y : ℕ) → s_l_comments cs i s → Stuck cs s → s_l_comments cs i y → Stuck cs y → y ≡ s
  lines_to i s y l t n u = past_same cs i y s (past_of cs i y y n (Spans.done refl)) u (past_of cs i s s l (Spans.done refl)) t

  pub collection_stuck : (x j : ℕ) (v : List Event) → CollectionsOf no_props x j v → Stuck cs x
  unfolding block_map block_seq
  collection_stuck x j v (inl (o, (t, (l, (le, (a, us, vs, (b, s, u), rest, y))), e))) = stuck_line cs l x b s (map_key l b a us u).0.0
  collection_stuck x j v (inr (o, (t, (l, (le, (a, us, vs, (b, s, u), rest, y))), e))) = stuck_line cs l x b s (dash_fresh cs b (seq_dash l b a us u)).0

  -- far enough to the right for every form
  pub node_below : (E : End) (i s x k : ℕ) → s_l_comments cs i s → Stuck cs s → indent cs k s x → (Stands cs is_space x → ⊥) → Rest (block_node cs Wide handles Open inside col c) E i (OnOwnLine k) E x
  node_below E i s x k l st ind n = record { rest = λ j m v r e. go j m v e (form i j v r) }
    where
      at : (b : Ctx) (q : ℕ) → separate cs col b i q → Fresh cs q → q ≡ x
      at b q r f = separate_on_next cs col b i s x l st (indent_run cs k s x ind, n) q (inr r) f.0

      go : (j m : ℕ) (v : List Event) → E j m → Form i j v → (o : ℕ) × (w : List Event) × OnOwnLine k x o w × E o m
      go j m v e (flow q r t) = (j, v, inl (inl (subst (λ z. FlowLine z j v) (at flow_out q r (flow_key q j v t).0) t)), e)
      go j m v e (scalar q r t) = (j, v, inl (inr (inl (subst (λ z. ScalarOf no_props z j v) (at c q r (kind_fresh cs 4 q (scalar_kind no_props q j v t))) t))), e)
      go j m v e (propped q r t) = (j, v, inl (inr (inr (inl (subst (λ z. ProppedScalar z j v) (at c q r (kind_fresh cs 1 q (propped_kind (λ p. separate cs col c ▸ ScalarOf p) q j v t))) t)))), e)
      go j m v e (named q r t) = (j, v, inl (inr (inr (inr (subst (λ z. ProppedCollection z j v) (at c q r (kind_fresh cs 1 q (propped_kind (λ p. s_l_comments cs ▸ CollectionsOf p) q j v t))) t)))), e)
      go j m v e (collection y r t) = held (lines_to i s y l st r (collection_stuck y j v t)) t
        where
          held : y ≡ s → CollectionsOf no_props y j v → (o : ℕ) × (w : List Event) × OnOwnLine k x o w × E o m
          held h (inl u) = (j, v, inr (inl (mapping_from no_props k s x j v ind n (subst (λ z. block_map cs Wide handles Open inside no_props col z j v) h u)).1), e)
          held h (inr u) = (j, v, inr (inr (sequence_from no_props (seq_column cs Wide handles Open inside col c) k s x j v ind n (subst (λ z. block_seq cs Wide handles Open inside no_props (seq_column cs Wide handles Open inside col c) z j v) h u)).1), e)

  -- ---- by the first character

  pub no_sequence : (p : Props) (E : End) (k x : ℕ) → (DashHere cs x → ⊥) → Refused (SequenceFrom cs Wide handles Open inside k p) E x
  no_sequence p E k x n = record { none = λ j m v (o, (t, (a, us, vs, u, rest, y), f)) e. n (seq_dash k x a us u) }

  -- a bar or a greater sign: a block scalar
  pub scalar_left : (E : End) (x : ℕ) → Kind cs 4 x → ((j : ℕ) (v : List Event) → flow_node cs Wide handles Open inside col flow_out x j v → ⊥) → Rest OnLine E x (ScalarOf no_props) E x
  scalar_left E x h none = record { rest = go }
    where
      go : (j m : ℕ) (v : List Event) → OnLine x j v → E j m → (k : ℕ) × (w : List Event) × ScalarOf no_props x k w × E k m
      go j m v (inl (k, r, s)) e = absurd (none k v r)
      go j m v (inr (inl r)) e = (j, v, r, e)
      go j m v (inr (inr (inl r))) e = let z : 1 ≡ 4 = kind_same cs 1 4 x (propped_kind (λ p. separate cs col c ▸ ScalarOf p) x j v r) h in absurd (omega (arith, z))
      go j m v (inr (inr (inr r))) e = let z : 1 ≡ 4 = kind_same cs 1 4 x (propped_kind (λ p. s_l_comments cs ▸ CollectionsOf p) x j v r) h in absurd (omega (arith, z))

  -- neither a property nor a block scalar: a flow node and the rest of its line
  pub flow_left : (E : End) (x : ℕ) → (Kind cs 1 x → ⊥) → (Kind cs 4 x → ⊥) → Rest OnLine E x FlowLine E x
  flow_left E x f g = record { rest = go }
    where
      go : (j m : ℕ) (v : List Event) → OnLine x j v → E j m → (k : ℕ) × (w : List Event) × FlowLine x k w × E k m
      go j m v (inl r) e = (j, v, r, e)
      go j m v (inr (inl r)) e = absurd (g (scalar_kind no_props x j v r))
      go j m v (inr (inr (inl r))) e = absurd (f (propped_kind (λ p. separate cs col c ▸ ScalarOf p) x j v r))
      go j m v (inr (inr (inr r))) e = absurd (f (propped_kind (λ p. s_l_comments cs ▸ CollectionsOf p) x j v r))
