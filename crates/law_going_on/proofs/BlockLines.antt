-- Where the rest of a line is over, a node of block level, or nothing, is what the next line of content begins with.
use Rattle.std.proofs.Common.{◌≡◌, ℕ, zero, suc, ◌+◌, ◌≤◌, ◌<◌, ◌⊎◌, inl, inr, List, refl, sym, subst, arith}
use Rattle.yaml_definitions.specs.grammar.Rules.{Rule, ◌▸◌, ◌◂◌, ◌∪◌, Spans, Stands}
use Rattle.yaml_definitions.specs.grammar.Characters.{is_space}
use Rattle.yaml_definitions.specs.grammar.Separation.{Ctx, flow_out, s-separate as separate, s-l-comments as s_l_comments, s-indent as indent}
use Rattle.yaml_definitions.specs.grammar.Tags.{Handles}
use Rattle.yaml_definitions.specs.model.Event.{Event}
use Rattle.yaml_definitions.specs.grammar.Events.{Props, no_props, e-scalar as empty}
use Rattle.yaml_definitions.specs.grammar.Nodes.{Part, part, s-l+block-node as block_node, seq-space as seq_column, empty_rest}
use Rattle.yaml_definitions.proofs.grammar.Forward.{Forward}
use Rattle.yaml_definitions.proofs.grammar.Widening.{Within}
use Rattle.yaml_text.specs.Lines.{Inside}
use Rattle.yaml_text.proofs.LineRuns.{indent_run, indent_place}
use Rattle.law_one_reading.specs.Readings.{End}
use Rattle.law_one_reading.specs.Follows.{Fresh, Stuck, Over, Follow}
use Rattle.law_one_reading.proofs.Lines.{past_of, past_same, less_stuck}
use Rattle.law_one_reading.proofs.FlowNodes.{kind_fresh}
use Rattle.law_one_reading.proofs.FlowEntries.{Facts}
use Rattle.law_one_reading.proofs.KeyContexts.{Eased}
use Rattle.law_one_reading.proofs.BlockLevels.{Blocks}
use Rattle.law_going_on.specs.GoingOn.{Rest}
use Rattle.law_going_on.proofs.Separations.{separate_on_next, separate_short}
use Rattle.law_going_on.proofs.BlockLoops.{SequenceFrom, MappingFrom}
use Rattle.law_going_on.proofs.LineChoices.{LineRest}
use Rattle.law_going_on.proofs.BlockStarts.{OnLine, Form, flow, scalar, propped, collection, named, form, flow_key, scalar_kind, propped_kind, ScalarOf, CollectionsOf, collection_stuck, lines_to, mapping_from, sequence_from}
use Rattle.law_going_on.proofs.BlockProperties.{Contents, Under, Rested, content, lone, rested, contents_fresh, collections_stuck, line_of}

or_less : (a b : ℕ) → (a ≤ b) ⊎ (b < a)
or_less zero b = inl (omega arith)
or_less (suc a) zero = inr (omega arith)
or_less (suc a) (suc b) = more (or_less a b)
  where
    more : (a ≤ b) ⊎ (b < a) → (suc a ≤ suc b) ⊎ (suc b < suc a)
    more (inl le) = inl (omega (arith, le))
    more (inr lt) = inr (omega (arith, lt))

module _ (cs : List ℕ) (Wide : Type 0) (handles : Handles) (Open : Type 0) (inside : Part → Rule (List Event)) (facts : Facts cs inside) (ease : Eased cs Wide handles inside)
    (wider : (p : Part) → Within (inside p) (part cs Wide handles Open inside p)) (fwd : (p : Part) → Forward (inside p)) (blocks : Blocks cs Wide handles inside) (col d : ℕ) (c : Ctx) where
  abbrev AfterNode : End
  AfterNode = Over cs (Follow cs col d)

  abbrev Line : Rule (List Event)
  Line = OnLine cs Wide handles Open inside facts ease wider fwd blocks col c

  -- comments lead to the line that starts at s, whose first character stands at x, after k spaces
  module _ (i s k x : ℕ) (over : s_l_comments cs i s) (stuck : Stuck cs s) (ind : indent cs k s x) (whole : Stands cs is_space x → ⊥) (deep : Inside cs i ⊎ (col ≡ 0)) where
    -- and no node is less indented than it has to be
    enough : (b : Ctx) (q : ℕ) → separate cs col b i q → Fresh cs q → (q ≡ x) × (col ≤ k)
    enough b q r f = (separate_on_next cs col b i s x over stuck (indent_run cs k s x ind, whole) q (inr r) f.0, go (or_less col k))
      where
        short : k < col → Inside cs i ⊎ (col ≡ 0) → col ≤ k
        short lt (inl o) = absurd (separate_short cs col b i s x o over stuck (indent_run cs k s x ind, whole) (let a : x ≡ s + k = indent_place cs k s x ind in omega (arith, a, lt)) q (inr r) f.0)
        short lt (inr e) = omega (arith, lt, e)

        go : (col ≤ k) ⊎ (k < col) → col ≤ k
        go (inl le) = le
        go (inr lt) = short lt deep

    at_line : (j m : ℕ) → s_l_comments cs i j → AfterNode j m → m ≡ s
    at_line j m l (c, f) = past_same cs i m s (past_of cs i j m l c) (less_stuck cs col m f.0) (past_of cs i s s over (Spans.done refl)) stuck

    module _ (X S : ℕ → Rule (List Event)) (at : seq_column cs Wide handles Open inside col c ≡ d) where
      -- a value
      module _ (node : (j : ℕ) (v : List Event) → (Line ∪ MappingFrom cs Wide handles Open inside k no_props) x j v → X k x j v) (sequence : (j : ℕ) (v : List Event) → SequenceFrom cs Wide handles Open inside k no_props x j v → S k x j v) where
        abbrev ValueLine : Rule (List Event)
        ValueLine = LineRest cs col d X S (empty no_props)

        line : (q j : ℕ) (v : List Event) → Line q j v → (q ≡ x) × (col ≤ k) → ValueLine s j v
        line q j v r (e, le) = inl (k, (le, (x, ind, node j v (inl (subst (λ z. Line z j v) e r)))))

        node_line : (j : ℕ) (v : List Event) → Form cs Wide handles Open inside facts ease wider fwd blocks col c i j v → ValueLine s j v
        node_line j v (flow q r t) = line q j v (inl t) (enough flow_out q r (flow_key cs Wide handles Open inside facts ease wider fwd blocks col c q j v t).0)
        node_line j v (scalar q r t) = line q j v (inr (inl t)) (enough c q r (kind_fresh cs 4 q (scalar_kind cs Wide handles Open inside facts ease wider fwd blocks col c no_props q j v t)))
        node_line j v (propped q r t) = line q j v (inr (inr (inl t))) (enough c q r (kind_fresh cs 1 q (propped_kind cs Wide handles Open inside facts ease wider fwd blocks col c (λ p. separate cs col c ▸ ScalarOf cs Wide handles Open inside facts ease wider fwd blocks col c p) q j v t)))
        node_line j v (named q r t) = line q j v (inr (inr (inr t))) (enough c q r (kind_fresh cs 1 q (propped_kind cs Wide handles Open inside facts ease wider fwd blocks col c (λ p. s_l_comments cs ▸ CollectionsOf cs Wide handles Open inside facts ease wider fwd blocks col c p) q j v t)))
        node_line j v (collection y r t) = held (lines_to cs Wide handles Open inside facts ease wider fwd blocks col c i s y over stuck r (collection_stuck cs Wide handles Open inside facts ease wider fwd blocks col c y j v t)) t
          where
            held : y ≡ s → CollectionsOf cs Wide handles Open inside facts ease wider fwd blocks col c no_props y j v → ValueLine s j v
            held h (inl u) =
                let f = mapping_from cs Wide handles Open inside facts ease wider fwd blocks col c no_props k y x j v (subst (λ z. indent cs k z x) (sym h) ind) whole u in
                inl (k, (f.0, (x, ind, node j v (inr f.1))))
            held h (inr u) =
                let f = sequence_from cs Wide handles Open inside facts ease wider fwd blocks col c no_props (seq_column cs Wide handles Open inside col c) k y x j v (subst (λ z. indent cs k z x) (sym h) ind) whole u in
                inr (inl (k, (subst (λ z. z ≤ k) at f.0, (x, ind, sequence j v f.1))))

        pub value_line : Rest (block_node cs Wide handles Open inside col c ∪ empty_rest cs Wide handles Open inside) AfterNode i ValueLine AfterNode s
        value_line = record { rest = go }
          where
            go : (j m : ℕ) (v : List Event) → (block_node cs Wide handles Open inside col c ∪ empty_rest cs Wide handles Open inside) i j v → AfterNode j m → (o : ℕ) × (w : List Event) × ValueLine s o w × AfterNode o m
            go j m v (inl r) e = (j, v, node_line j v (form cs Wide handles Open inside facts ease wider fwd blocks col c i j v r), e)
            go j m v (inr (a, (f, g), l)) e =
                let h : m ≡ s = at_line j m (subst (λ z. s_l_comments cs z j) f l) e in
                (s, empty no_props, inr (inr (refl, refl)), (Spans.done h, e.1))

      -- what stands under properties
      module _ (p : Props) (node : (j : ℕ) (v : List Event) → ((Contents cs Wide handles Open inside facts ease wider fwd blocks col d c p ◂ s_l_comments cs) ∪ ScalarOf cs Wide handles Open inside facts ease wider fwd blocks col c p ∪ MappingFrom cs Wide handles Open inside k p) x j v → X k x j v)
          (sequence : (j : ℕ) (v : List Event) → SequenceFrom cs Wide handles Open inside k p x j v → S k x j v) where
        abbrev UnderLine : Rule (List Event)
        UnderLine = LineRest cs col d X S (empty p)

        flows : (o j m : ℕ) (v : List Event) → Rested cs Wide handles Open inside facts ease wider fwd blocks col d c p i o v → s_l_comments cs o j → AfterNode j m → (a : ℕ) × (w : List Event) × UnderLine s a w × AfterNode a m
        flows o j m v (content q t r) u e =
            let h = enough flow_out q t (contents_fresh cs Wide handles Open inside facts ease wider fwd blocks col d c p q o v r).0 in
            (j, v, inl (k, (h.1, (x, ind, node j v (inl (o, subst (λ z. Contents cs Wide handles Open inside facts ease wider fwd blocks col d c p z o v) h.0 r, u))))), e)
        flows o j m v (lone h) u e =
            let f : m ≡ s = at_line j m (subst (λ z. s_l_comments cs z j) h u) e in
            (s, empty p, inr (inr (refl, refl)), (Spans.done f, e.1))

        below : (j m y : ℕ) (v : List Event) → y ≡ s → CollectionsOf cs Wide handles Open inside facts ease wider fwd blocks col c p y j v → AfterNode j m → (a : ℕ) × (w : List Event) × UnderLine s a w × AfterNode a m
        below j m y v h (inl u) e =
            let f = mapping_from cs Wide handles Open inside facts ease wider fwd blocks col c p k y x j v (subst (λ z. indent cs k z x) (sym h) ind) whole u in
            (j, v, inl (k, (f.0, (x, ind, node j v (inr (inr f.1))))), e)
        below j m y v h (inr u) e =
            let f = sequence_from cs Wide handles Open inside facts ease wider fwd blocks col c p (seq_column cs Wide handles Open inside col c) k y x j v (subst (λ z. indent cs k z x) (sym h) ind) whole u in
            (j, v, inr (inl (k, (subst (λ z. z ≤ k) at f.0, (x, ind, sequence j v f.1)))), e)

        pub under_line : Rest (Under cs Wide handles Open inside facts ease wider fwd blocks col d c p) AfterNode i UnderLine AfterNode s
        under_line = record { rest = go }
          where
            go : (j m : ℕ) (v : List Event) → Under cs Wide handles Open inside facts ease wider fwd blocks col d c p i j v → AfterNode j m → (a : ℕ) × (w : List Event) × UnderLine s a w × AfterNode a m
            go j m v (inl (o, r, t)) e = flows o j m v (rested cs Wide handles Open inside facts ease wider fwd blocks col d c p i o v r) t e
            go j m v (inr (inl (q, t, r))) e =
                let h = enough c q t (kind_fresh cs 4 q (scalar_kind cs Wide handles Open inside facts ease wider fwd blocks col c p q j v r)) in
                (j, v, inl (k, (h.1, (x, ind, node j v (inr (inl (subst (λ z. ScalarOf cs Wide handles Open inside facts ease wider fwd blocks col c p z j v) h.0 r)))))), e)
            go j m v (inr (inr (y, t, r))) e =
                below j m y v (line_of cs Wide handles Open inside facts ease wider fwd blocks col d c i s y over stuck t (collections_stuck cs Wide handles Open inside facts ease wider fwd blocks col d c p y j v r)) r e
