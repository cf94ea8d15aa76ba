-- Values and the nodes of entries: what is left of them on their parent's line, and on a line below.
use Rattle.std.proofs.Common.{◌≡◌, ℕ, ◌+◌, ◌<◌, ◌≤◌, ◌⊎◌, List, Option, Some, None, inl, inr, subst, arith}
use Rattle.yaml_definitions.specs.model.Event.{Event}
use Rattle.yaml_text.specs.Lines.{Inside}
use Rattle.yaml_definitions.specs.grammar.Rules.{Rule, ◌▸◌, ◌◂◌, ◌∪◌, given, gives, Stands}
use Rattle.yaml_definitions.specs.grammar.Characters.{is_space}
use Rattle.yaml_definitions.specs.grammar.Separation.{Ctx, block_in, block_key, flow_out, s-indent as indent, s-separate-in-line as sep, s-separate as separate, s-l-comments as s_l_comments, StartsLine, AtEnd, DocumentMark}
use Rattle.yaml_definitions.specs.grammar.Tags.{Handles}
use Rattle.yaml_definitions.specs.grammar.Events.{no_props, e-scalar as empty}
use Rattle.yaml_definitions.specs.grammar.Nodes.{block_part, compact_part, reads, s-l+block-node as block_node, ns-l-compact-sequence as compact_seq, ns-l-compact-mapping as compact_map}
use Rattle.yaml_text.proofs.LineRuns.{indent_run, indent_place}
use Rattle.law_one_reading.specs.Readings.{End}
use Rattle.law_one_reading.specs.Follows.{Fresh, Stuck, DashHere, KeyHere}
use Rattle.law_one_reading.proofs.BlockEntries.{follow_less, follow_seq, less_dash}
use Rattle.law_one_reading.proofs.FlowNodes.{kind_fresh}
use Rattle.law_one_reading.proofs.BlockLevels.{reads_blocks}
use Rattle.law_going_on.specs.GoingOn.{Refused, Goes, Rest, Here}
use Rattle.law_going_on.proofs.GoingOn.{rest_rest, rest_refused, rest_left, rest_right, refused_either}
use Rattle.law_going_on.proofs.Separations.{separate_on_line}
use Rattle.law_going_on.proofs.BlockLoops.{compact_sequence, compact_mapping}
use Rattle.law_going_on.proofs.LineChoices.{line_over, dash_short, line_short, dash_left, node_left as own_left}
use Rattle.law_going_on.proofs.BlockLines.{value_line}
use Rattle.law_going_on.proofs.BlockStarts.{Form, flow, scalar, propped, collection, named, form, flow_key, scalar_kind, propped_kind, ScalarOf, CollectionsOf, node_on_line}
use Rattle.law_going_on.proofs.BlockChoices.{entry_below, entry_on_line, nothing_on_line}
use Rattle.law_going_on.proofs.PropertyLines.{separate_line}
use Rattle.yaml_layout.specs.NodeRules.{opens, below}
use Rattle.yaml_layout.specs.Lines.{IsBlock}
use Rattle.yaml_layout.proofs.NodeLemmas.{from_reads}
use Rattle.yaml_layout.proofs.LineLemmas.{no_lines}
use Rattle.yaml_block.specs.BlockRules.{least_dash, node_rest, line_rest, value_rest, entry_rest, sequence_with}
use Rattle.yaml_block.specs.BlockEnds.{AfterNode, AfterEntry, AfterSequence}
use Rattle.yaml_block.proofs.Levels.{facts_at, eased_at, wider_at, forward_at, blocks_at}
use Rattle.yaml_block.proofs.NodeForms.{Forms, forms_node, node_key, least_column, sequence_dash, dash_narrow}

-- what follows, said with less
pub rest_onto : {V V2 : Type 0} {R : Rule V} {S : Rule V2} {E F G : End} {i x : ℕ} → ((j m : ℕ) → F j m → G j m) → Rest R E i S F x → Rest R E i S G x
rest_onto f r = record { rest = λ j m v a e. let (k, w, s, d) = r.rest j m v a e in (k, w, s, f k m d) }

module _ (cs : List ℕ) where
  -- ---- what follows

  pub entry_node : (k j m : ℕ) → AfterEntry cs k j m → AfterNode cs (k + 1) block_in j m
  entry_node k j m (c, l) = (c, (l, less_dash cs (k + 1) (k + 1) m l (omega arith)))

  pub entry_sequence : (k n j m : ℕ) → k + 1 ≤ n → AfterEntry cs k j m → AfterSequence cs n j m
  entry_sequence k n j m le (c, l) = (c, follow_less cs (k + 1) n m l le)

  pub node_sequence : (col k : ℕ) (c : Ctx) → IsBlock c → least_dash col c ≤ k → (j m : ℕ) → AfterNode cs col c j m → AfterSequence cs k j m
  node_sequence col k c b le j m (u, f) = (u, follow_seq cs col (least_dash col c) k m f le (dash_narrow col c b))

  -- ---- no gap

  apart_line : (i q : ℕ) → separate cs 0 block_key i q → (i < q) ⊎ ((q ≡ i) × StartsLine cs i)
  unfolding separate sep
  apart_line i q (inl (r, l)) = inl l
  apart_line i q (inr (e, s)) = inr (e, s)

  pub no_gap_here : (n : ℕ) (c : Ctx) (i : ℕ) → ((j : ℕ) → s_l_comments cs i j → ⊥) → separate cs n c i i → ⊥
  no_gap_here n c i none s = go (apart_line i i (separate_line cs n c i i none s))
    where
      go : (i < i) ⊎ ((i ≡ i) × StartsLine cs i) → ⊥
      go (inl l) = omega (arith, l)
      go (inr (e, st)) = none i (no_lines cs i st)

module _ (cs : List ℕ) (handles : Handles) (room : ℕ) where
  module _ (col : ℕ) (c : Ctx) (b : IsBlock c) where
    abbrev Node : Option ℕ → Rule (List Event)
    Node = node_rest cs (Unit {0}) handles room col c

    abbrev Value : Rule (List Event)
    Value = value_rest cs (Unit {0}) handles room col c

    abbrev Lines : Rule (List Event)
    Lines = line_rest cs (Unit {0}) handles room col c

    abbrev Part : Rule (List Event)
    Part = block_node cs (Unit {0}) handles (opens cs (Unit {0}) handles room) (below cs (Unit {0}) handles room) col c

    abbrev E : End
    E = AfterNode cs col c

    part_of : (i j : ℕ) (v : List Event) → reads cs (Unit {0}) handles room (block_part col c) i j v → Part i j v
    part_of i j v r = from_reads cs (Unit {0}) handles room (block_part col c) i j v r

    value_part : (F : End) (i : ℕ) → Rest Value F i (Part ∪ (gives (empty no_props) ◂ s_l_comments cs)) F i
    value_part F i = record { rest = go }
      where
        go : (j m : ℕ) (v : List Event) → Value i j v → F j m → (k : ℕ) × (w : List Event) × (Part ∪ (gives (empty no_props) ◂ s_l_comments cs)) i k w × F k m
        go j m v (inl r) e = (j, v, inl (part_of i j v r), e)
        go j m v (inr r) e = (j, v, inr r, e)

    -- ---- on a line below

    pub value_below : (i s k x : ℕ) → s_l_comments cs i s → Stuck cs s → indent cs k s x → (Stands cs is_space x → ⊥) → Inside cs i ⊎ (col ≡ 0) → Rest Value E i Lines E s
    value_below i s k x over st ind whole deep =
        rest_rest (value_part E i)
        (value_line cs (Unit {0}) handles (opens cs (Unit {0}) handles room) (below cs (Unit {0}) handles room) (facts_at cs (Unit {0}) handles room) (eased_at cs (Unit {0}) handles room) (wider_at cs (Unit {0}) handles room) (forward_at cs (Unit {0}) handles room) (blocks_at cs (Unit {0}) handles room) col (least_dash col c) c i s k x over st ind whole deep (λ l. Node (Some l)) (sequence_with cs (Unit {0}) handles no_props room) (least_column cs (Unit {0}) handles room col c b)
        (λ j v r. forms_node cs (Unit {0}) handles room col c b (Some k) x j v r) (λ j v r. r))

    starts : (l i j : ℕ) (v : List Event) → Node (Some l) i j v → KeyHere cs i
    starts l i j v r = node_key cs (Unit {0}) handles room col c b (Some l) i j v r

    dashes : (l i j : ℕ) (v : List Event) → sequence_with cs (Unit {0}) handles no_props room l i j v → DashHere cs i
    dashes l i j v r = sequence_dash cs (Unit {0}) handles room col c no_props l i j v r

    module _ (s k x : ℕ) (ind : indent cs k s x) (whole : Stands cs is_space x → ⊥) (stuck : Stuck cs s) where
      pub lines_over : (Fresh cs x → ⊥) → Goes Lines E s Here s
      lines_over n = line_over cs col (least_dash col c) (λ l. Node (Some l)) (sequence_with cs (Unit {0}) handles no_props room) (empty no_props) starts dashes s k x ind whole stuck n

      pub lines_dash_short : DashHere cs x → k < least_dash col c → Goes Lines E s Here s
      lines_dash_short h lt = dash_short cs col (least_dash col c) (λ l. Node (Some l)) (sequence_with cs (Unit {0}) handles no_props room) (empty no_props) starts dashes s k x ind whole stuck h lt

      pub lines_short : (DashHere cs x → ⊥) → k < col → Goes Lines E s Here s
      lines_short n lt = line_short cs col (least_dash col c) (λ l. Node (Some l)) (sequence_with cs (Unit {0}) handles no_props room) (empty no_props) starts dashes s k x ind whole stuck n lt

      pub lines_none : (Fresh cs x → ⊥) ⊎ (DashHere cs x × (k < least_dash col c)) ⊎ ((DashHere cs x → ⊥) × (k < col)) → Goes Lines E s Here s
      lines_none (inl n) = lines_over n
      lines_none (inr (inl (h, lt))) = lines_dash_short h lt
      lines_none (inr (inr (n, lt))) = lines_short n lt

      pub lines_dash : DashHere cs x → least_dash col c ≤ k → Rest Lines E s (sequence_with cs (Unit {0}) handles no_props room k) (AfterSequence cs k) x
      lines_dash h le =
          rest_onto (node_sequence cs col k c b le)
          (dash_left cs col (least_dash col c) (λ l. Node (Some l)) (sequence_with cs (Unit {0}) handles no_props room) (empty no_props) starts dashes s k x ind whole stuck h le (dash_narrow col c b))

      pub lines_node : (DashHere cs x → ⊥) → col ≤ k → (AtEnd cs s → ⊥) → (DocumentMark cs s → ⊥) → Rest Lines E s (Node (Some k)) E x
      lines_node n le no_end no_mark = own_left cs col (least_dash col c) (λ l. Node (Some l)) (sequence_with cs (Unit {0}) handles no_props room) (empty no_props) starts dashes s k x ind whole stuck n le no_end no_mark

    -- ---- on the parent's line

    part_beside : (F : End) (i n x : ℕ) → ((j : ℕ) → s_l_comments cs i j → ⊥) → indent cs n i x → (Stands cs is_space x → ⊥) → Rest Part F i (Forms cs (Unit {0}) handles room col c) F x
    part_beside F i n x none ind whole = node_on_line cs (Unit {0}) handles (opens cs (Unit {0}) handles room) (below cs (Unit {0}) handles room) (facts_at cs (Unit {0}) handles room) (eased_at cs (Unit {0}) handles room) (wider_at cs (Unit {0}) handles room) (forward_at cs (Unit {0}) handles room) (blocks_at cs (Unit {0}) handles room) col c F i x none (indent_run cs n i x ind, whole)

    forms_left : (o : Option ℕ) (F : End) (x : ℕ) → Rest (Forms cs (Unit {0}) handles room col c) F x (Node o) F x
    forms_left o F x = record { rest = λ j m v r e. (j, v, forms_node cs (Unit {0}) handles room col c b o x j v (inl r), e) }

    pub value_beside : (i n x : ℕ) → ((j : ℕ) → s_l_comments cs i j → ⊥) → indent cs n i x → (Stands cs is_space x → ⊥) → Rest Value E i (Node None) E x
    value_beside i n x none ind whole =
        rest_rest (value_part E i) (rest_rest (rest_left Part (nothing_on_line cs (Unit {0}) handles (opens cs (Unit {0}) handles room) (below cs (Unit {0}) handles room) E i none)) (rest_rest (part_beside E i n x none ind whole) (forms_left None E x)))

    part_gap : (F : End) (i n x : ℕ) → ((j : ℕ) → s_l_comments cs i j → ⊥) → indent cs n i x → (Stands cs is_space x → ⊥) → n ≡ 0 → Refused Part F i
    part_gap F i n x none ind whole zero = record { none = λ j m v r e. go j v (form cs (Unit {0}) handles (opens cs (Unit {0}) handles room) (below cs (Unit {0}) handles room) (facts_at cs (Unit {0}) handles room) (eased_at cs (Unit {0}) handles room) (wider_at cs (Unit {0}) handles room) (forward_at cs (Unit {0}) handles room) (blocks_at cs (Unit {0}) handles room) col c i j v r) }
      where
        same : x ≡ i
        same = let a : x ≡ i + n = indent_place cs n i x ind in omega (arith, a, zero)

        gap : (z : Ctx) (q : ℕ) → separate cs col z i q → Fresh cs q → ⊥
        gap z q s f =
            let e : q ≡ x = separate_on_line cs col z i x none (indent_run cs n i x ind, whole) q (inr s) f.0 in
            no_gap_here cs col z i none (subst (separate cs col z i) same (subst (separate cs col z i) e s))

        go : (j : ℕ) (v : List Event) → Form cs (Unit {0}) handles (opens cs (Unit {0}) handles room) (below cs (Unit {0}) handles room) (facts_at cs (Unit {0}) handles room) (eased_at cs (Unit {0}) handles room) (wider_at cs (Unit {0}) handles room) (forward_at cs (Unit {0}) handles room) (blocks_at cs (Unit {0}) handles room) col c i j v → ⊥
        go j v (flow q s r) = gap flow_out q s (flow_key cs (Unit {0}) handles (opens cs (Unit {0}) handles room) (below cs (Unit {0}) handles room) (facts_at cs (Unit {0}) handles room) (eased_at cs (Unit {0}) handles room) (wider_at cs (Unit {0}) handles room) (forward_at cs (Unit {0}) handles room) (blocks_at cs (Unit {0}) handles room) col c q j v r).0
        go j v (scalar q s r) = gap c q s (kind_fresh cs 4 q (scalar_kind cs (Unit {0}) handles (opens cs (Unit {0}) handles room) (below cs (Unit {0}) handles room) (facts_at cs (Unit {0}) handles room) (eased_at cs (Unit {0}) handles room) (wider_at cs (Unit {0}) handles room) (forward_at cs (Unit {0}) handles room) (blocks_at cs (Unit {0}) handles room) col c no_props q j v r))
        go j v (propped q s r) = gap c q s (kind_fresh cs 1 q (propped_kind cs (Unit {0}) handles (opens cs (Unit {0}) handles room) (below cs (Unit {0}) handles room) (facts_at cs (Unit {0}) handles room) (eased_at cs (Unit {0}) handles room) (wider_at cs (Unit {0}) handles room) (forward_at cs (Unit {0}) handles room) (blocks_at cs (Unit {0}) handles room) col c (λ p. separate cs col c ▸ ScalarOf cs (Unit {0}) handles (opens cs (Unit {0}) handles room) (below cs (Unit {0}) handles room) (facts_at cs (Unit {0}) handles room) (eased_at cs (Unit {0}) handles room) (wider_at cs (Unit {0}) handles room) (forward_at cs (Unit {0}) handles room) (blocks_at cs (Unit {0}) handles room) col c p) q j v r))
        go j v (collection y s r) = none y s
        go j v (named q s r) = gap c q s (kind_fresh cs 1 q (propped_kind cs (Unit {0}) handles (opens cs (Unit {0}) handles room) (below cs (Unit {0}) handles room) (facts_at cs (Unit {0}) handles room) (eased_at cs (Unit {0}) handles room) (wider_at cs (Unit {0}) handles room) (forward_at cs (Unit {0}) handles room) (blocks_at cs (Unit {0}) handles room) col c (λ p. s_l_comments cs ▸ CollectionsOf cs (Unit {0}) handles (opens cs (Unit {0}) handles room) (below cs (Unit {0}) handles room) (facts_at cs (Unit {0}) handles room) (eased_at cs (Unit {0}) handles room) (wider_at cs (Unit {0}) handles room) (forward_at cs (Unit {0}) handles room) (blocks_at cs (Unit {0}) handles room) col c p) q j v r))

    pub value_gap : (i n x : ℕ) → ((j : ℕ) → s_l_comments cs i j → ⊥) → indent cs n i x → (Stands cs is_space x → ⊥) → n ≡ 0 → Refused Value E i
    value_gap i n x none ind whole zero = rest_refused (value_part E i) (refused_either (part_gap E i n x none ind whole zero) (nothing_on_line cs (Unit {0}) handles (opens cs (Unit {0}) handles room) (below cs (Unit {0}) handles room) E i none))

  -- ---- entries of a sequence in column k

  module _ (k : ℕ) where
    abbrev Entry : Rule (List Event)
    Entry = entry_rest cs (Unit {0}) handles room k

    abbrev EntryNode : Option ℕ → Rule (List Event)
    EntryNode = node_rest cs (Unit {0}) handles room (k + 1) block_in

    compact_start : (l i j : ℕ) (es : List Event) → reads cs (Unit {0}) handles room (compact_part l) i j es → Fresh cs i
    compact_start = (reads_blocks cs (Unit {0}) handles room).compact_start

    pub entry_value : (i s : ℕ) → Inside cs i → s_l_comments cs i s → Rest Entry (AfterEntry cs k) i (value_rest cs (Unit {0}) handles room (k + 1) block_in) (AfterNode cs (k + 1) block_in) i
    entry_value i s o l = rest_onto (entry_node cs k) (entry_below cs (Unit {0}) handles (Unit {0}) (reads cs (Unit {0}) handles room) compact_start k (AfterEntry cs k) i s o l)

    abbrev Compact : ℕ → Rule (List Event)
    Compact n = given (1 ≤ n) (indent cs n ▸ reads cs (Unit {0}) handles room (compact_part (k + 1 + n))) ∪ reads cs (Unit {0}) handles room (block_part (k + 1) block_in)

    module _ (i n x : ℕ) (none : (j : ℕ) → s_l_comments cs i j → ⊥) (ind : indent cs n i x) (whole : Stands cs is_space x → ⊥) where
      on_line : Rest Entry (AfterEntry cs k) i (Compact n) (AfterEntry cs k) i
      on_line = entry_on_line cs (Unit {0}) handles (Unit {0}) (reads cs (Unit {0}) handles room) compact_start k (AfterEntry cs k) i x n none ind whole

      compact_at : (j : ℕ) (v : List Event) → (indent cs n ▸ reads cs (Unit {0}) handles room (compact_part (k + 1 + n))) i j v → (EntryNode (Some (k + 1 + n)) ∪ sequence_with cs (Unit {0}) handles no_props room (k + 1 + n)) x j v
      compact_at j v (q, r, t) =
          let e : q ≡ x = let a : q ≡ i + n = indent_place cs n i q r in let b : x ≡ i + n = indent_place cs n i x ind in omega (arith, a, b) in
          which (from_reads cs (Unit {0}) handles room (compact_part (k + 1 + n)) x j v (subst (λ z. reads cs (Unit {0}) handles room (compact_part (k + 1 + n)) z j v) e t))
        where
          which : (compact_seq cs (Unit {0}) handles (opens cs (Unit {0}) handles room) (below cs (Unit {0}) handles room) (k + 1 + n) x j v ⊎ compact_map cs (Unit {0}) handles (opens cs (Unit {0}) handles room) (below cs (Unit {0}) handles room) (k + 1 + n) x j v) → (EntryNode (Some (k + 1 + n)) ∪ sequence_with cs (Unit {0}) handles no_props room (k + 1 + n)) x j v
          which (inl u) = inr (compact_sequence cs (Unit {0}) handles (opens cs (Unit {0}) handles room) (below cs (Unit {0}) handles room) (k + 1 + n) x j v u)
          which (inr u) = inl (forms_node cs (Unit {0}) handles room (k + 1) block_in tt (Some (k + 1 + n)) x j v (inr (compact_mapping cs (Unit {0}) handles (opens cs (Unit {0}) handles room) (below cs (Unit {0}) handles room) (k + 1 + n) x j v u)))

      pub entry_beside : Rest Entry (AfterEntry cs k) i (EntryNode (Some (k + 1 + n)) ∪ sequence_with cs (Unit {0}) handles no_props room (k + 1 + n)) (AfterEntry cs k) x
      entry_beside = rest_rest on_line (record { rest = go })
        where
          go : (j m : ℕ) (v : List Event) → Compact n i j v → AfterEntry cs k j m → (o : ℕ) × (w : List Event) × (EntryNode (Some (k + 1 + n)) ∪ sequence_with cs (Unit {0}) handles no_props room (k + 1 + n)) x o w × AfterEntry cs k o m
          go j m v (inl (le, t)) e = (j, v, compact_at j v t, e)
          go j m v (inr t) e =
              let (o, w, u, f) = (part_beside (k + 1) block_in tt (AfterEntry cs k) i n x none ind whole).rest j m v (part_of (k + 1) block_in tt i j v t) e in
              (o, w, inl (forms_node cs (Unit {0}) handles room (k + 1) block_in tt (Some (k + 1 + n)) x o w (inl u)), f)

      pub entry_dash : DashHere cs x → Rest Entry (AfterEntry cs k) i (sequence_with cs (Unit {0}) handles no_props room (k + 1 + n)) (AfterSequence cs (k + 1 + n)) x
      entry_dash h =
          rest_onto (λ j m e. entry_sequence cs k (k + 1 + n) j m (omega arith) e)
          (rest_rest entry_beside (rest_right (sequence_with cs (Unit {0}) handles no_props room (k + 1 + n)) (record { none = λ j m v r e. (node_key cs (Unit {0}) handles room (k + 1) block_in tt (Some (k + 1 + n)) x j v r).1 h })))

      pub entry_own : (DashHere cs x → ⊥) → Rest Entry (AfterEntry cs k) i (EntryNode (Some (k + 1 + n))) (AfterNode cs (k + 1) block_in) x
      entry_own d =
          rest_onto (entry_node cs k)
          (rest_rest entry_beside (rest_left (EntryNode (Some (k + 1 + n))) (record { none = λ j m v r e. d (sequence_dash cs (Unit {0}) handles room (k + 1) block_in no_props (k + 1 + n) x j v r) })))

      pub entry_gap : n ≡ 0 → Refused Entry (AfterEntry cs k) i
      entry_gap zero = rest_refused on_line (refused_either (record { none = λ j m v (le, t) e. let one : 1 ≤ n = le in omega (arith, one, zero) }) (record { none = λ j m v r e. (part_gap (k + 1) block_in tt (AfterEntry cs k) i n x none ind whole zero).none j m v (part_of (k + 1) block_in tt i j v r) e }))
