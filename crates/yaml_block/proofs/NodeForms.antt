-- The reader's rules of block nodes are those forms of a node that the lemmas on one level speak of.
use Rattle.std.proofs.Common.{◌≡◌, ℕ, ◌+◌, ◌≤◌, ◌⊎◌, List, Option, Some, None, inl, inr, refl, sym, subst, arith}
use Rattle.yaml_definitions.specs.model.Event.{Event}
use Rattle.yaml_definitions.specs.grammar.Rules.{Rule, ◌▸◌, ◌∪◌}
use Rattle.yaml_definitions.specs.grammar.Separation.{Ctx, block_in, block_out, flow_out, s-separate as separate, s-separate-lines as separate_lines, s-l-comments as s_l_comments}
use Rattle.yaml_definitions.specs.grammar.Tags.{Handles, c-ns-properties as properties}
use Rattle.yaml_definitions.specs.grammar.Events.{Props, no_props}
use Rattle.yaml_definitions.specs.grammar.Nodes as nodes
use Rattle.yaml_definitions.specs.grammar.Nodes.{yaml_part, json_part, seq-space as seq_column}
use Rattle.law_one_reading.specs.Readings.{End}
use Rattle.law_one_reading.specs.Follows.{DashHere, KeyHere}
use Rattle.law_one_reading.proofs.FlowNodes.{Kind, kind_fresh}
use Rattle.law_one_reading.proofs.BlockNodes.{dash_no_kind}
use Rattle.law_going_on.specs.GoingOn.{Rest}
use Rattle.law_going_on.proofs.BlockLoops.{SequenceFrom, MappingFrom}
use Rattle.law_going_on.proofs.BlockStarts.{OnLine, FlowLine, ScalarOf, CollectionsOf, flow_key, scalar_kind, propped_kind, map_key, seq_dash}
use Rattle.law_going_on.proofs.OwnLines.{MappingIn}
use Rattle.yaml_layout.specs.NodeRules.{opens, below}
use Rattle.yaml_layout.specs.Lines.{IsBlock}
use Rattle.yaml_layout.proofs.NodeLemmas.{to_reads, from_reads}
use Rattle.yaml_layout.proofs.SpaceLemmas.{flow_separate, block_separate}
use Rattle.yaml_block.specs.BlockRules.{least_dash, node_rest, mapping_in}
use Rattle.yaml_block.proofs.BlockLemmas.{block_properties, separate_flow}
use Rattle.yaml_block.proofs.Levels.{facts_at, eased_at, wider_at, forward_at, blocks_at}

module _ (cs : List ℕ) where
  pub block_lines : (c : Ctx) → IsBlock c → (n i q : ℕ) → separate cs n c i q → separate_lines cs n i q
  unfolding separate
  block_lines block_in b n i q s = s
  block_lines block_out b n i q s = s
  block_lines _ b n i q s = absurd b

  pub block_flow : (c : Ctx) → IsBlock c → (n i q : ℕ) → separate cs n c i q → separate cs n flow_out i q
  block_flow c b n i q s = flow_separate cs n i q (block_lines c b n i q s)

  pub flow_block : (c : Ctx) → IsBlock c → (n i q : ℕ) → separate cs n flow_out i q → separate cs n c i q
  flow_block c b n i q s = block_separate cs n c i q b (separate_flow cs n i q s)

  pub flow_properties : (handles : Handles) (n : ℕ) (c : Ctx) (i j : ℕ) (p : Props) → IsBlock c → properties cs handles n c i j p → properties cs handles n flow_out i j p
  unfolding properties separate
  flow_properties handles n block_in i j p b r = r
  flow_properties handles n block_out i j p b r = r
  flow_properties handles n _ i j p b r = absurd b

-- the column of sequences
pub dash_narrow : (col : ℕ) (c : Ctx) → IsBlock c → col ≤ least_dash col c + 1
dash_narrow col block_in b = omega arith
dash_narrow col block_out b = omega arith
dash_narrow col _ b = absurd b

module _ (cs : List ℕ) (Wide : Type 0) (handles : Handles) (room : ℕ) (col : ℕ) (c : Ctx) where
  abbrev pub Forms : Rule (List Event)
  Forms = OnLine cs Wide handles (opens cs Wide handles room) (below cs Wide handles room) (facts_at cs Wide handles room) (eased_at cs Wide handles room) (wider_at cs Wide handles room) (forward_at cs Wide handles room) (blocks_at cs Wide handles room) col c

  abbrev pub Line : Rule (List Event)
  Line = FlowLine cs Wide handles (opens cs Wide handles room) (below cs Wide handles room) (facts_at cs Wide handles room) (eased_at cs Wide handles room) (wider_at cs Wide handles room) (forward_at cs Wide handles room) (blocks_at cs Wide handles room) col c

  abbrev pub Scalar : Props → Rule (List Event)
  Scalar = ScalarOf cs Wide handles (opens cs Wide handles room) (below cs Wide handles room) (facts_at cs Wide handles room) (eased_at cs Wide handles room) (wider_at cs Wide handles room) (forward_at cs Wide handles room) (blocks_at cs Wide handles room) col c

  abbrev pub MappingAt : Props → Option ℕ → Rule (List Event)
  MappingAt = MappingIn cs Wide handles (opens cs Wide handles room) (below cs Wide handles room) (facts_at cs Wide handles room) (eased_at cs Wide handles room) (wider_at cs Wide handles room) (forward_at cs Wide handles room) (blocks_at cs Wide handles room) col (least_dash col c) c

  pub least_column : IsBlock c → seq_column cs Wide handles (opens cs Wide handles room) (below cs Wide handles room) col c ≡ least_dash col c
  least_column b = go c b
    where
      go : (x : Ctx) → IsBlock x → seq_column cs Wide handles (opens cs Wide handles room) (below cs Wide handles room) col x ≡ least_dash col x
      go block_in b = refl
      go block_out b = refl
      go _ b = absurd b

  pub mapping_at : (p : Props) (column : Option ℕ) (i j : ℕ) (v : List Event) → p ≡ no_props → mapping_in cs Wide handles room column i j v → MappingAt p column i j v
  mapping_at p None i j v e r = r
  mapping_at p (Some k) i j v e r = subst (λ x. MappingFrom cs Wide handles (opens cs Wide handles room) (below cs Wide handles room) k x i j v) (sym e) r

  at_mapping : (column : Option ℕ) (i j : ℕ) (v : List Event) → MappingAt no_props column i j v → mapping_in cs Wide handles room column i j v
  at_mapping None i j v r = r
  at_mapping (Some k) i j v r = r

  pub node_forms : IsBlock c → (column : Option ℕ) (i j : ℕ) (v : List Event) → node_rest cs Wide handles room col c column i j v → (Forms ∪ MappingAt no_props column) i j v
  unfolding nodes.ns-flow-node
  node_forms b column i j v (inl (k, inl y, t)) = inl (inl (k, inl (from_reads cs Wide handles room (yaml_part col flow_out) i k v y), t))
  node_forms b column i j v (inl (k, inr y, t)) = inl (inl (k, inr (from_reads cs Wide handles room (json_part col flow_out) i k v y), t))
  node_forms b column i j v (inr (inl (k, p, inl (e, f), t))) = inl (inr (inl (subst (λ x. Scalar x i j v) f (subst (λ x. Scalar p x j v) e t))))
  node_forms b column i j v (inr (inl (k, p, inr (m, r, d), t))) = inl (inr (inr (inl (m, p, block_properties cs handles col c i m p b r, (k, flow_block cs c b col m k d, t)))))
  node_forms b column i j v (inr (inr (inl (k, p, (m, r, d), t)))) =
      inl (inr (inr (inr (m, p, block_properties cs handles col c i m p b r, (k, d, collections t)))))
    where
      collections : (nodes.l+block-mapping cs Wide handles (opens cs Wide handles room) (below cs Wide handles room) p col k j v ⊎ nodes.l+block-sequence cs Wide handles (opens cs Wide handles room) (below cs Wide handles room) p (least_dash col c) k j v) → CollectionsOf cs Wide handles (opens cs Wide handles room) (below cs Wide handles room) (facts_at cs Wide handles room) (eased_at cs Wide handles room) (wider_at cs Wide handles room) (forward_at cs Wide handles room) (blocks_at cs Wide handles room) col c p k j v
      collections (inl u) = inl u
      collections (inr u) = inr (subst (λ x. nodes.l+block-sequence cs Wide handles (opens cs Wide handles room) (below cs Wide handles room) p x k j v) (sym (least_column b)) u)
  node_forms b column i j v (inr (inr (inr t))) = inr (mapping_at no_props column i j v refl t)

  pub forms_node : IsBlock c → (column : Option ℕ) (i j : ℕ) (v : List Event) → (Forms ∪ MappingAt no_props column) i j v → node_rest cs Wide handles room col c column i j v
  unfolding nodes.ns-flow-node
  forms_node b column i j v (inl (inl (k, inl y, t))) = inl (k, inl (to_reads cs Wide handles room (yaml_part col flow_out) i k v y), t)
  forms_node b column i j v (inl (inl (k, inr y, t))) = inl (k, inr (to_reads cs Wide handles room (json_part col flow_out) i k v y), t)
  forms_node b column i j v (inl (inr (inl t))) = inr (inl (i, no_props, inl (refl, refl), t))
  forms_node b column i j v (inl (inr (inr (inl (m, p, r, (k, d, t)))))) = inr (inl (k, p, inr (m, flow_properties cs handles col c i m p b r, block_flow cs c b col m k d), t))
  forms_node b column i j v (inl (inr (inr (inr (m, p, r, (k, d, t)))))) = inr (inr (inl (k, p, (m, flow_properties cs handles col c i m p b r, d), collections t)))
    where
      collections : CollectionsOf cs Wide handles (opens cs Wide handles room) (below cs Wide handles room) (facts_at cs Wide handles room) (eased_at cs Wide handles room) (wider_at cs Wide handles room) (forward_at cs Wide handles room) (blocks_at cs Wide handles room) col c p k j v → (nodes.l+block-mapping cs Wide handles (opens cs Wide handles room) (below cs Wide handles room) p col k j v ⊎ nodes.l+block-sequence cs Wide handles (opens cs Wide handles room) (below cs Wide handles room) p (least_dash col c) k j v)
      collections (inl u) = inl u
      collections (inr u) = inr (subst (λ x. nodes.l+block-sequence cs Wide handles (opens cs Wide handles room) (below cs Wide handles room) p x k j v) (least_column b) u)
  forms_node b column i j v (inr t) = inr (inr (inr (at_mapping column i j v t)))

  -- what is left of the forms is left of the reader's rule
  pub node_left : (b : IsBlock c) (column : Option ℕ) (E : End) (i : ℕ) → Rest (node_rest cs Wide handles room col c column) E i (Forms ∪ MappingAt no_props column) E i
  node_left b column E i = record { rest = λ j m v r e. (j, v, node_forms b column i j v r, e) }

  -- where no mapping may stand without properties
  pub node_alone : (b : IsBlock c) (E : End) (i : ℕ) → Rest (node_rest cs Wide handles room col c None) E i Forms E i
  node_alone b E i = record { rest = λ j m v r e. (j, v, alone j v (node_forms b None i j v r), e) }
    where
      alone : (j : ℕ) (v : List Event) → (Forms ∪ MappingAt no_props None) i j v → Forms i j v
      alone j v (inl r) = r
      alone j v (inr r) = absurd r

  -- ---- what they begin with

  kind_key : (k i : ℕ) → Kind cs k i → KeyHere cs i
  kind_key k i a = (kind_fresh cs k i a, λ h. dash_no_kind cs k i h a)

  pub forms_key : (i j : ℕ) (v : List Event) → Forms i j v → KeyHere cs i
  forms_key i j v (inl r) = flow_key cs Wide handles (opens cs Wide handles room) (below cs Wide handles room) (facts_at cs Wide handles room) (eased_at cs Wide handles room) (wider_at cs Wide handles room) (forward_at cs Wide handles room) (blocks_at cs Wide handles room) col c i j v r
  forms_key i j v (inr (inl r)) = kind_key 4 i (scalar_kind cs Wide handles (opens cs Wide handles room) (below cs Wide handles room) (facts_at cs Wide handles room) (eased_at cs Wide handles room) (wider_at cs Wide handles room) (forward_at cs Wide handles room) (blocks_at cs Wide handles room) col c no_props i j v r)
  forms_key i j v (inr (inr (inl r))) = kind_key 1 i (propped_kind cs Wide handles (opens cs Wide handles room) (below cs Wide handles room) (facts_at cs Wide handles room) (eased_at cs Wide handles room) (wider_at cs Wide handles room) (forward_at cs Wide handles room) (blocks_at cs Wide handles room) col c (λ p. separate cs col c ▸ Scalar p) i j v r)
  forms_key i j v (inr (inr (inr r))) = kind_key 1 i (propped_kind cs Wide handles (opens cs Wide handles room) (below cs Wide handles room) (facts_at cs Wide handles room) (eased_at cs Wide handles room) (wider_at cs Wide handles room) (forward_at cs Wide handles room) (blocks_at cs Wide handles room) col c (λ p. s_l_comments cs ▸ CollectionsOf cs Wide handles (opens cs Wide handles room) (below cs Wide handles room) (facts_at cs Wide handles room) (eased_at cs Wide handles room) (wider_at cs Wide handles room) (forward_at cs Wide handles room) (blocks_at cs Wide handles room) col c p) i j v r)

  pub mapping_key : (p : Props) (k i j : ℕ) (v : List Event) → MappingFrom cs Wide handles (opens cs Wide handles room) (below cs Wide handles room) k p i j v → KeyHere cs i
  mapping_key p k i j v (o, (t, (a, us, vs, u, rest, y), f)) = map_key cs Wide handles (opens cs Wide handles room) (below cs Wide handles room) (facts_at cs Wide handles room) (eased_at cs Wide handles room) (wider_at cs Wide handles room) (forward_at cs Wide handles room) (blocks_at cs Wide handles room) col c k i a us u

  pub node_key : IsBlock c → (column : Option ℕ) (i j : ℕ) (v : List Event) → node_rest cs Wide handles room col c column i j v → KeyHere cs i
  node_key b column i j v r = go column (node_forms b column i j v r)
    where
      go : (o : Option ℕ) → (Forms ∪ MappingAt no_props o) i j v → KeyHere cs i
      go o (inl r) = forms_key i j v r
      go None (inr r) = absurd r
      go (Some k) (inr r) = mapping_key no_props k i j v r

  pub sequence_dash : (p : Props) (k i j : ℕ) (v : List Event) → SequenceFrom cs Wide handles (opens cs Wide handles room) (below cs Wide handles room) k p i j v → DashHere cs i
  sequence_dash p k i j v (o, (t, (a, us, vs, u, rest, y), f)) = seq_dash cs Wide handles (opens cs Wide handles room) (below cs Wide handles room) (facts_at cs Wide handles room) (eased_at cs Wide handles room) (wider_at cs Wide handles room) (forward_at cs Wide handles room) (blocks_at cs Wide handles room) col c k i a us u
