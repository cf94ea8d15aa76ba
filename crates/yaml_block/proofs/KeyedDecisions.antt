-- A flow node that was read where a node of block level begins, and what follows properties on a line below, by the reader's rules.
use Rattle.std.proofs.Common.{◌≡◌, ℕ, suc, ◌+◌, ◌<◌, ◌≤◌, ◌⊎◌, List, Option, Some, None, inl, inr, refl, sym, subst}
use Rattle.yaml_definitions.specs.model.Event.{Event}
use Rattle.yaml_text.specs.Lines.{Inside}
use Rattle.yaml_definitions.specs.grammar.Rules.{Rule, ◌∪◌, ◌◂◌, Stands}
use Rattle.yaml_definitions.specs.grammar.Characters.{is_space}
use Rattle.yaml_definitions.specs.grammar.Separation.{Ctx, flow_out, s-indent as indent, s-l-comments as s_l_comments}
use Rattle.yaml_definitions.specs.grammar.FlowScalars.{PlainFirst}
use Rattle.yaml_definitions.specs.grammar.Tags.{Handles}
use Rattle.yaml_definitions.specs.grammar.Events.{Props, e-scalar as empty}
use Rattle.yaml_definitions.specs.grammar.Nodes.{yaml_part, json_part, ns-flow-node as flow_node, reads}
use Rattle.law_one_reading.specs.Readings.{End, At}
use Rattle.law_one_reading.specs.Follows.{Fresh, Stuck, DashHere, KeyHere, EndsNode as F}
use Rattle.law_one_reading.proofs.Lines.{less_more}
use Rattle.law_one_reading.proofs.FlowNodes.{Kind as Begins, kind_fresh, prop_kind}
use Rattle.law_one_reading.proofs.BlockNodes.{dash_no_kind, dash_no_plain}
use Rattle.law_one_reading.proofs.BlockLevels.{flow_inside}
use Rattle.law_one_reading.proofs.Properties.{PropHere, prop_solid}
use Rattle.law_going_on.specs.GoingOn.{Refused, Goes, Rest, Here}
use Rattle.law_going_on.proofs.GoingOn.{rest_rest, rest_goes, rest_refused, goes_within, refused_within}
use Rattle.law_going_on.proofs.BlockStarts.{ScalarOf, scalar_kind}
use Rattle.law_going_on.proofs.BlockProperties.{Contents, contents_fresh}
use Rattle.law_going_on.proofs.PropertyChoices.{Second}
use Rattle.law_going_on.proofs.LineChoices.{LineRest, line_over, dash_short, line_short, dash_left}
use Rattle.law_going_on.proofs.BlockLines.{under_line}
use Rattle.law_going_on.proofs.BlockLoops.{MappingFrom}
use Rattle.law_going_on.proofs.KeyChoices.{NoKey, no_flow, no_key_left, no_key_mapping, line_goes, line_not_over, neither, key_left, keyed_left}
use Rattle.yaml_layout.specs.PropertyDecisions.{IsOnly, IsRefused}
use Rattle.yaml_layout.specs.NodeRules.{opens, below, flow_from, part_of}
use Rattle.yaml_layout.specs.Keys.{ColonAfter}
use Rattle.yaml_layout.specs.Lines.{IsBlock}
use Rattle.yaml_layout.specs.declared.flow.Kind.{Kind}
use Rattle.yaml_layout.specs.declared.flow.Kind.TheVariants.{Yaml, Json}
use Rattle.yaml_layout.proofs.NodeLemmas.{to_reads, from_reads}
use Rattle.yaml_block.specs.BlockRules.{least_dash, node_rest, sequence_with, entries_rest}
use Rattle.yaml_block.specs.BlockEnds.{AfterNode, AfterSequence, AfterMapping, ColonStands, IsNoKey}
use Rattle.yaml_block.specs.OuterRules.{Above}
use Rattle.yaml_block.proofs.Levels.{facts_at, eased_at, wider_at, forward_at, blocks_at}
use Rattle.yaml_block.proofs.NodeForms.{least_column, dash_narrow, mapping_key, sequence_dash}
use Rattle.yaml_block.proofs.NodeDecisions.{Kept, Keyed, under_all, upper_inside, no_property, too_short}
use Rattle.yaml_block.proofs.KeyDecisions.{Flows, flows_go, flows_refused}
use Rattle.yaml_block.proofs.ValueDecisions.{rest_onto, node_sequence}

module _ (cs : List ℕ) (handles : Handles) (room : ℕ) (col : ℕ) (c : Ctx) (b : IsBlock c) where
  abbrev Node : Option ℕ → Rule (List Event)
  Node = node_rest cs (Unit {0}) handles room col c

  abbrev E : End
  E = AfterNode cs col c

  abbrev Flow : Rule (List Event)
  Flow = flow_node cs (Unit {0}) handles (opens cs (Unit {0}) handles room) (below cs (Unit {0}) handles room) col flow_out

  abbrev InText : End
  InText = At (F cs col (least_dash col c))

  -- ---- flow nodes

  flow_within : (i j : ℕ) (v : List Event) → Flow i j v → Flows cs handles room col i j v
  unfolding flow_node
  flow_within i j v (inl r) = inl (to_reads cs (Unit {0}) handles room (yaml_part col flow_out) i j v r)
  flow_within i j v (inr r) = inr (to_reads cs (Unit {0}) handles room (json_part col flow_out) i j v r)

  within_flow : (kind : Kind) (i j : ℕ) (v : List Event) → reads cs (Unit {0}) handles room (part_of kind col flow_out) i j v → Flow i j v
  unfolding flow_node
  within_flow Yaml i j v r = inl (from_reads cs (Unit {0}) handles room (yaml_part col flow_out) i j v r)
  within_flow Json i j v r = inr (from_reads cs (Unit {0}) handles room (json_part col flow_out) i j v r)

  pub end_inside : (kind : Kind) (deep i j : ℕ) (v : List Event) → flow_from cs (Unit {0}) handles deep kind col flow_out i j v → deep ≤ room → Inside cs j
  end_inside kind deep i j v r le = flow_inside cs (Unit {0}) handles (opens cs (Unit {0}) handles room) (below cs (Unit {0}) handles room) (facts_at cs (Unit {0}) handles room) (eased_at cs (Unit {0}) handles room) (wider_at cs (Unit {0}) handles room) (forward_at cs (Unit {0}) handles room) (blocks_at cs (Unit {0}) handles room) col i j v (within_flow kind i j v (r room le))

  module _ (x y : ℕ) (kind : Kind) (only : IsOnly cs handles room col flow_out x kind y) where
    node_goes : Goes Flow InText x InText y
    node_goes = goes_within Flow (flow_within x) (flows_go cs handles room col (least_dash col c) x y kind only)

    no_key_of : (column : Option ℕ) → (column ≡ None) ⊎ IsNoKey cs x y → NoKey cs (Unit {0}) handles (opens cs (Unit {0}) handles room) (below cs (Unit {0}) handles room) (facts_at cs (Unit {0}) handles room) (eased_at cs (Unit {0}) handles room) (wider_at cs (Unit {0}) handles room) (forward_at cs (Unit {0}) handles room) (blocks_at cs (Unit {0}) handles room) col (least_dash col c) c x y node_goes column
    no_key_of column (inl e) = inl e
    no_key_of column (inr n) = inr (λ q r h o l. n (q + 1) (q, r, (h, refl), (o, l)))

    pub kept_line : (p : Props) (column : Option ℕ) (s : ℕ) → (column ≡ None) ⊎ IsNoKey cs x y → s_l_comments cs y s → Stuck cs s → Goes (Kept cs handles room col c b p column) E x Here s
    kept_line p column s n over st = rest_goes (no_key_left cs (Unit {0}) handles (opens cs (Unit {0}) handles room) (below cs (Unit {0}) handles room) (facts_at cs (Unit {0}) handles room) (eased_at cs (Unit {0}) handles room) (wider_at cs (Unit {0}) handles room) (forward_at cs (Unit {0}) handles room) (blocks_at cs (Unit {0}) handles room) col (least_dash col c) c x y node_goes p column (no_key_of column n)) (line_goes cs (Unit {0}) handles (opens cs (Unit {0}) handles room) (below cs (Unit {0}) handles room) (facts_at cs (Unit {0}) handles room) (eased_at cs (Unit {0}) handles room) (wider_at cs (Unit {0}) handles room) (forward_at cs (Unit {0}) handles room) (blocks_at cs (Unit {0}) handles room) col (least_dash col c) c x y node_goes s over st)

    pub kept_not_over : (p : Props) (column : Option ℕ) → (column ≡ None) ⊎ IsNoKey cs x y → ((j : ℕ) → s_l_comments cs y j → ⊥) → Refused (Kept cs handles room col c b p column) E x
    kept_not_over p column n none = rest_refused (no_key_left cs (Unit {0}) handles (opens cs (Unit {0}) handles room) (below cs (Unit {0}) handles room) (facts_at cs (Unit {0}) handles room) (eased_at cs (Unit {0}) handles room) (wider_at cs (Unit {0}) handles room) (forward_at cs (Unit {0}) handles room) (blocks_at cs (Unit {0}) handles room) col (least_dash col c) c x y node_goes p column (no_key_of column n)) (line_not_over cs (Unit {0}) handles (opens cs (Unit {0}) handles room) (below cs (Unit {0}) handles room) (facts_at cs (Unit {0}) handles room) (eased_at cs (Unit {0}) handles room) (wider_at cs (Unit {0}) handles room) (forward_at cs (Unit {0}) handles room) (blocks_at cs (Unit {0}) handles room) col (least_dash col c) c x y node_goes none)

    pub keyed_none : (p : Props) (column : Option ℕ) → (column ≡ None) ⊎ IsNoKey cs x y → Refused (Keyed cs handles room col c b p column) E x
    keyed_none p column n = no_key_mapping cs (Unit {0}) handles (opens cs (Unit {0}) handles room) (below cs (Unit {0}) handles room) (facts_at cs (Unit {0}) handles room) (eased_at cs (Unit {0}) handles room) (wider_at cs (Unit {0}) handles room) (forward_at cs (Unit {0}) handles room) (blocks_at cs (Unit {0}) handles room) col (least_dash col c) c x y node_goes E p column (no_key_of column n)

    pub kept_neither : (p : Props) (column : Option ℕ) → Inside cs y → ColonStands cs y → IsNoKey cs x y → Refused (Kept cs handles room col c b p column) E x
    kept_neither p column ins (q, r, h) n = neither cs (Unit {0}) handles (opens cs (Unit {0}) handles room) (below cs (Unit {0}) handles room) (facts_at cs (Unit {0}) handles room) (eased_at cs (Unit {0}) handles room) (wider_at cs (Unit {0}) handles room) (forward_at cs (Unit {0}) handles room) (blocks_at cs (Unit {0}) handles room) col (least_dash col c) c x y node_goes q ins r h p column (no_key_of column (inr n))

    pub kept_keyed : (p : Props) (column : Option ℕ) → Inside cs y → ColonStands cs y → Rest (Kept cs handles room col c b p column) E x (Keyed cs handles room col c b p column) E x
    kept_keyed p column ins (q, r, h) = key_left cs (Unit {0}) handles (opens cs (Unit {0}) handles room) (below cs (Unit {0}) handles room) (facts_at cs (Unit {0}) handles room) (eased_at cs (Unit {0}) handles room) (wider_at cs (Unit {0}) handles room) (forward_at cs (Unit {0}) handles room) (blocks_at cs (Unit {0}) handles room) col (least_dash col c) c x y node_goes q ins r h p column

  pub kept_refused : (x : ℕ) (p : Props) (column : Option ℕ) → IsRefused cs handles room col flow_out x Yaml × IsRefused cs handles room col flow_out x Json → Refused (Kept cs handles room col c b p column) E x
  kept_refused x p column n = no_flow cs (Unit {0}) handles (opens cs (Unit {0}) handles room) (below cs (Unit {0}) handles room) (facts_at cs (Unit {0}) handles room) (eased_at cs (Unit {0}) handles room) (wider_at cs (Unit {0}) handles room) (forward_at cs (Unit {0}) handles room) (blocks_at cs (Unit {0}) handles room) col (least_dash col c) c p column x (refused_within Flow (flow_within x) (flows_refused cs handles room col (least_dash col c) x n))

  -- ---- below properties

  module _ (p : Props) (i f s k x : ℕ) (up : Above cs handles col i f p) (over : s_l_comments cs f s) (st : Stuck cs s) (ind : indent cs k s x) (whole : Stands cs is_space x → ⊥) where
    abbrev UnderX : ℕ → Rule (List Event)
    UnderX l = (Contents cs (Unit {0}) handles (opens cs (Unit {0}) handles room) (below cs (Unit {0}) handles room) (facts_at cs (Unit {0}) handles room) (eased_at cs (Unit {0}) handles room) (wider_at cs (Unit {0}) handles room) (forward_at cs (Unit {0}) handles room) (blocks_at cs (Unit {0}) handles room) col (least_dash col c) c p ◂ s_l_comments cs) ∪ ScalarOf cs (Unit {0}) handles (opens cs (Unit {0}) handles room) (below cs (Unit {0}) handles room) (facts_at cs (Unit {0}) handles room) (eased_at cs (Unit {0}) handles room) (wider_at cs (Unit {0}) handles room) (forward_at cs (Unit {0}) handles room) (blocks_at cs (Unit {0}) handles room) col c p ∪ MappingFrom cs (Unit {0}) handles (opens cs (Unit {0}) handles room) (below cs (Unit {0}) handles room) l p

    abbrev UnderS : ℕ → Rule (List Event)
    UnderS l = sequence_with cs (Unit {0}) handles p room l

    under_starts : (l q j : ℕ) (v : List Event) → UnderX l q j v → KeyHere cs q
    under_starts l q j v (inl (o, r, t)) = let h = contents_fresh cs (Unit {0}) handles (opens cs (Unit {0}) handles room) (below cs (Unit {0}) handles room) (facts_at cs (Unit {0}) handles room) (eased_at cs (Unit {0}) handles room) (wider_at cs (Unit {0}) handles room) (forward_at cs (Unit {0}) handles room) (blocks_at cs (Unit {0}) handles room) col (least_dash col c) c p q o v r in (h.0, λ d. no_dash d h.1)
      where
        no_dash : DashHere cs q → Begins cs 3 q ⊎ PlainFirst cs flow_out q → ⊥
        no_dash d (inl z) = dash_no_kind cs 3 q d z
        no_dash d (inr z) = dash_no_plain cs q d flow_out z
    under_starts l q j v (inr (inl r)) = let h = scalar_kind cs (Unit {0}) handles (opens cs (Unit {0}) handles room) (below cs (Unit {0}) handles room) (facts_at cs (Unit {0}) handles room) (eased_at cs (Unit {0}) handles room) (wider_at cs (Unit {0}) handles room) (forward_at cs (Unit {0}) handles room) (blocks_at cs (Unit {0}) handles room) col c p q j v r in (kind_fresh cs 4 q h, λ d. dash_no_kind cs 4 q d h)
    under_starts l q j v (inr (inr r)) = mapping_key cs (Unit {0}) handles room col c p l q j v r

    under_dashes : (l q j : ℕ) (v : List Event) → UnderS l q j v → DashHere cs q
    under_dashes l q j v r = sequence_dash cs (Unit {0}) handles room col c p l q j v r

    abbrev UnderLines : Rule (List Event)
    UnderLines = LineRest cs col (least_dash col c) UnderX UnderS (empty p)

    lines : (Second cs handles col flow_out i f p → ⊥) → Rest (Node None) E i UnderLines E s
    lines none =
        rest_rest (under_all cs handles room col c b i f s p up over none)
        (under_line cs (Unit {0}) handles (opens cs (Unit {0}) handles room) (below cs (Unit {0}) handles room) (facts_at cs (Unit {0}) handles room) (eased_at cs (Unit {0}) handles room) (wider_at cs (Unit {0}) handles room) (forward_at cs (Unit {0}) handles room) (blocks_at cs (Unit {0}) handles room) col (least_dash col c) c f s k x over st ind whole (inl (upper_inside cs handles room col c b i f p up)) UnderX UnderS (least_column cs (Unit {0}) handles room col c b) p (λ j v r. r) (λ j v r. r))

    property_no_dash : DashHere cs x → PropHere cs handles x → ⊥
    property_no_dash d h = dash_no_kind cs 1 x d (prop_kind cs handles x h)

    pub under_over : (Fresh cs x → ⊥) → Goes (Node None) E i Here s
    under_over n =
        rest_goes (lines (no_property cs handles room col c b i f s k x p up over st ind whole (λ h. n (prop_solid cs handles x h))))
        (line_over cs col (least_dash col c) UnderX UnderS (empty p) under_starts under_dashes s k x ind whole st n)

    pub under_dash_short : DashHere cs x → k < least_dash col c → Goes (Node None) E i Here s
    under_dash_short d lt =
        rest_goes (lines (no_property cs handles room col c b i f s k x p up over st ind whole (property_no_dash d)))
        (dash_short cs col (least_dash col c) UnderX UnderS (empty p) under_starts under_dashes s k x ind whole st d lt)

    pub under_short : (DashHere cs x → ⊥) → k < col → Goes (Node None) E i Here s
    under_short n lt =
        rest_goes (lines (too_short cs handles room col c b i f s k x p up over st ind whole lt))
        (line_short cs col (least_dash col c) UnderX UnderS (empty p) under_starts under_dashes s k x ind whole st n lt)

    pub under_none : (Fresh cs x → ⊥) ⊎ (DashHere cs x × (k < least_dash col c)) ⊎ ((DashHere cs x → ⊥) × (k < col)) → Goes (Node None) E i Here s
    under_none (inl n) = under_over n
    under_none (inr (inl (h, lt))) = under_dash_short h lt
    under_none (inr (inr (n, lt))) = under_short n lt

    pub under_dash : DashHere cs x → least_dash col c ≤ k → Rest (Node None) E i (sequence_with cs (Unit {0}) handles p room k) (AfterSequence cs k) x
    under_dash d le =
        rest_onto (node_sequence cs col k c b le)
        (rest_rest (lines (no_property cs handles room col c b i f s k x p up over st ind whole (property_no_dash d)))
        (dash_left cs col (least_dash col c) UnderX UnderS (empty p) under_starts under_dashes s k x ind whole st d le (dash_narrow col c b)))

-- ---- a mapping from the colon of its first key on

module _ (cs : List ℕ) (handles : Handles) (r : ℕ) (col : ℕ) (c : Ctx) (b : IsBlock c) where
  after_mapping : (k : ℕ) → col ≤ k → (j m : ℕ) → AfterNode cs col c j m → AfterMapping cs k j m
  after_mapping k le j m (u, f) = (u, less_more cs col k m le f.0)

  pub keyed_entries : (x y : ℕ) (kind : Kind) → IsOnly cs handles (suc r) col flow_out x kind y → (p : Props) (k a : ℕ) → col ≤ k → ColonAfter cs x y a
      → Rest (Keyed cs handles (suc r) col c b p (Some k)) (AfterNode cs col c) x (entries_rest cs (Unit {0}) handles r k) (AfterMapping cs k) a
  keyed_entries x y kind only p k a le (q, t, (h, e), sized) =
      rest_onto (after_mapping k le)
      (subst (λ z. Rest (Keyed cs handles (suc r) col c b p (Some k)) (AfterNode cs col c) x (entries_rest cs (Unit {0}) handles r k) (AfterNode cs col c) z) (sym e)
      (keyed_left cs (Unit {0}) handles (opens cs (Unit {0}) handles (suc r)) (below cs (Unit {0}) handles (suc r)) (facts_at cs (Unit {0}) handles (suc r)) (eased_at cs (Unit {0}) handles (suc r)) (wider_at cs (Unit {0}) handles (suc r)) (forward_at cs (Unit {0}) handles (suc r)) (blocks_at cs (Unit {0}) handles (suc r)) col (least_dash col c) c x y (node_goes cs handles (suc r) col c b x y kind only) p k q (AfterNode cs col c) t h))
