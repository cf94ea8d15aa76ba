-- Keys: whether a flow node that was read is one, and whether it fits into its mapping.
use Rattle.std.proofs.Common.{◌≡◌, ℕ, suc, ◌+◌, ◌≤◌, inl, inr, List, [], refl, sym, ◌∙◌, subst, arith}
use Rattle.std.proofs.lemmas.List.{append-nil}
use Rattle.yaml_definitions.specs.model.Event.{Event}
use Rattle.yaml_definitions.specs.grammar.Rules.{Rule, ◌∪◌}
use Rattle.yaml_definitions.specs.grammar.Separation.{flow_out, block_key, s-l-comments as s_l_comments}
use Rattle.yaml_definitions.specs.grammar.Tags.{Handles}
use Rattle.yaml_definitions.specs.grammar.Events.{Props}
use Rattle.yaml_definitions.specs.grammar.Nodes.{yaml_part, json_part, reads}
use Rattle.yaml_definitions.proofs.grammar.Forward.{fwd_reads}
use Rattle.yaml_definitions.proofs.grammar.Widening.{in_reads}
use Rattle.law_one_reading.specs.Readings.{At}
use Rattle.law_one_reading.specs.Follows.{EndsNode as F}
use Rattle.law_one_reading.proofs.FlowNodes.{prop_kind}
use Rattle.law_one_reading.proofs.FlowLevels.{reads_facts}
use Rattle.law_one_reading.proofs.KeyContexts.{reads_eased, at_block}
use Rattle.law_one_reading.proofs.BlockLevels.{one_more, reads_blocks}
use Rattle.law_one_reading.proofs.Properties.{props_here, props_two}
use Rattle.law_one_reading.proofs.TagEnds.{prop_same, prop_here, prop_inside}
use Rattle.law_going_on.specs.GoingOn.{Refused, Goes, Here}
use Rattle.law_going_on.proofs.KeyOrScalar.{key_goes, no_colon, no_node}
use Rattle.law_going_on.proofs.KeyChoices.{keys_refused}
use Rattle.law_going_on.proofs.BlockProperties.{no_key_over}
use Rattle.law_going_on.proofs.PropertyLines.{no_flow_barred}
use Rattle.yaml_layout.specs.PropertyDecisions.{Barred, IsOnly, IsRefused}
use Rattle.yaml_sink.specs.Held.{Counts, Puts, Alters}
use Rattle.yaml_layout.specs.Keys.{ColonAfter}
use Rattle.yaml_sink.specs.PropertyRules.{SomeProperties}
use Rattle.yaml_layout.specs.declared.flow.Kind.{Kind}
use Rattle.yaml_layout.specs.declared.flow.Kind.TheVariants.{Yaml, Json}
use Rattle.yaml_layout.proofs.PropertyDecisions.{barred_line}
use Rattle.yaml_layout.proofs.PropertyLemmas.{marks_props}
use Rattle.yaml_block.specs.BlockEnds.{AfterColon, IsNoKey}
use Rattle.yaml_block.specs.BlockRules.{key_rest}
use Rattle.yaml_block.specs.KeyFits.{NoneBelow, Becomes}

-- events that were put down since a mark, and again
module _ {S : Type 0} {holds : S → List Event → Type 0} where
  pub puts_become : (a b c : S) (start : ℕ) (es fs : List Event) → Counts holds a start → Puts holds a es b → Becomes holds start es fs b c → Puts holds a fs c
  puts_become a b c start es fs m p q = record { is = λ log h. q.is log (m.is log h) (p.is log h) }

  pub puts_again : (a b d : S) (start : ℕ) (es fs : List Event) → Alters holds start (λ _. []) a b → Puts holds b fs d → Becomes holds start es fs a d
  puts_again a b d start es fs q p = record { is = λ log s h. p.is log (subst (holds b) (append-nil log) (q.is log es s h)) }

module _ (cs : List ℕ) (handles : Handles) (room : ℕ) where
  -- flow nodes of either kind
  abbrev pub Flows : ℕ → Rule (List Event)
  Flows col = reads cs (Unit {0}) handles room (yaml_part col flow_out) ∪ reads cs (Unit {0}) handles room (json_part col flow_out)

  pub flows_go : (col d i x : ℕ) (kind : Kind) → IsOnly cs handles room col flow_out i kind x → Goes (Flows col) (At (F cs col d)) i (At (F cs col d)) x
  flows_go col d i x Yaml o = record { goes = go }
    where
      go : (j m : ℕ) (v : List Event) → Flows col i j v → At (F cs col d) j m → At (F cs col d) x m
      go j m v (inl r) e = (o.0 d).goes j m v r e
      go j m v (inr r) e = absurd ((o.1 d).none j m v r e)
  flows_go col d i x Json o = record { goes = go }
    where
      go : (j m : ℕ) (v : List Event) → Flows col i j v → At (F cs col d) j m → At (F cs col d) x m
      go j m v (inl r) e = absurd ((o.1 d).none j m v r e)
      go j m v (inr r) e = (o.0 d).goes j m v r e

  pub flows_refused : (col d i : ℕ) → IsRefused cs handles room col flow_out i Yaml × IsRefused cs handles room col flow_out i Json → Refused (Flows col) (At (F cs col d)) i
  flows_refused col d i (f, g) = record { none = go }
    where
      go : (j m : ℕ) (v : List Event) → Flows col i j v → At (F cs col d) j m → ⊥
      go j m v (inl r) e = (f d).none j m v r e
      go j m v (inr r) e = (g d).none j m v r e

  -- ---- the key of an entry

  abbrev Keys : Rule (List Event)
  Keys = key_rest cs (Unit {0}) handles room

  key_flows : (col i j : ℕ) (v : List Event) → (reads cs (Unit {0}) handles room (yaml_part 0 block_key) ∪ reads cs (Unit {0}) handles room (json_part 0 block_key)) i j v → Flows col i j v
  key_flows col i j v (inl r) = inl ((reads_eased cs (Unit {0}) handles room).yaml block_key flow_out at_block 0 col i j v r)
  key_flows col i j v (inr r) = inr ((reads_eased cs (Unit {0}) handles room).json block_key flow_out at_block 0 col i j v r)

  pub key_ends : (col i y k : ℕ) (kind : Kind) → IsOnly cs handles room col flow_out i kind y → ColonAfter cs i y k → Goes Keys (AfterColon cs) i Here k
  key_ends col i y k kind o (q, r, (h, e), sized) =
      subst (Goes Keys (AfterColon cs) i Here) (sym e) (key_goes cs (Flows col) col 0 (Unit {0}) handles (Unit {0}) (reads cs (Unit {0}) handles room) (key_flows col) i y q (flows_go col 0 i y kind o) r h)

  pub key_none : (col i y : ℕ) (kind : Kind) → IsOnly cs handles room col flow_out i kind y → IsNoKey cs i y → Refused Keys (AfterColon cs) i
  key_none col i y kind o n =
      no_colon cs (Flows col) col 0 (Unit {0}) handles (Unit {0}) (reads cs (Unit {0}) handles room) (key_flows col) i y (flows_go col 0 i y kind o) (λ q r h one l. n (q + 1) (q, r, (h, refl), (one, l)))

  pub key_no_node : (col i : ℕ) → IsRefused cs handles room col flow_out i Yaml × IsRefused cs handles room col flow_out i Json → Refused Keys (AfterColon cs) i
  key_no_node col i f = no_node cs (Flows col) col 0 (Unit {0}) handles (Unit {0}) (reads cs (Unit {0}) handles room) (key_flows col) i (flows_refused col 0 i f)

  pub key_barred : (i : ℕ) → Barred cs handles 0 block_key i → Refused Keys (AfterColon cs) i
  key_barred i b =
      keys_refused cs (Unit {0}) handles (Unit {0}) (reads cs (Unit {0}) handles room) (reads_facts cs (Unit {0}) handles room) (reads_eased cs (Unit {0}) handles room) (one_more cs (Unit {0}) handles room) (fwd_reads cs (Unit {0}) handles room) (reads_blocks cs (Unit {0}) handles room) 0 0 flow_out 0 i (λ (o, v, f, fk, one). (no_flow_barred cs (Unit {0}) handles (Unit {0}) (reads cs (Unit {0}) handles room) (reads_facts cs (Unit {0}) handles room) (reads_eased cs (Unit {0}) handles room) (one_more cs (Unit {0}) handles room) (fwd_reads cs (Unit {0}) handles room) (reads_blocks cs (Unit {0}) handles room) 0 0 flow_out i (barred_line cs handles i b)).none o o v f (refl, inr fk))

  -- the line is over after its properties
  pub key_over : (i e s : ℕ) (p : Props) → i ≤ e → SomeProperties cs handles 0 block_key i e p → s_l_comments cs e s → Refused Keys (AfterColon cs) i
  key_over i e s p le m over =
      let r = marks_props cs handles 0 block_key i e p m in
      keys_refused cs (Unit {0}) handles (Unit {0}) (reads cs (Unit {0}) handles room) (reads_facts cs (Unit {0}) handles room) (reads_eased cs (Unit {0}) handles room) (one_more cs (Unit {0}) handles room) (fwd_reads cs (Unit {0}) handles room) (reads_blocks cs (Unit {0}) handles room) 0 0 flow_out 0 i (no_key_over cs (Unit {0}) handles (Unit {0}) (reads cs (Unit {0}) handles room) (reads_facts cs (Unit {0}) handles room) (reads_eased cs (Unit {0}) handles room) (one_more cs (Unit {0}) handles room) (fwd_reads cs (Unit {0}) handles room) (reads_blocks cs (Unit {0}) handles room) 0 0 flow_out i e s p (prop_kind cs handles i (props_here cs handles (prop_same cs handles) (prop_here cs handles) (prop_inside cs handles) 0 block_key i e p (props_two cs handles 0 block_key i e p r))) le r over)

module _ (cs : List ℕ) (handles : Handles) (room : ℕ) where
  -- ---- the first key of a mapping, in less room

  more_room : (col i j : ℕ) (v : List Event) → Flows cs handles room col i j v → Flows cs handles (suc room) col i j v
  more_room col i j v (inl r) = inl (in_reads cs (Unit {0}) (Unit {0}) (λ w. w) handles room (suc room) (omega arith) (yaml_part col flow_out) i j v r)
  more_room col i j v (inr r) = inr (in_reads cs (Unit {0}) (Unit {0}) (λ w. w) handles room (suc room) (omega arith) (json_part col flow_out) i j v r)

  -- ends that differ are none
  pub none_below : (col i y z : ℕ) (k l : Kind) → IsOnly cs handles (suc room) col flow_out i k y → IsOnly cs handles room col flow_out i l z → (z ≡ y → ⊥) → NoneBelow cs handles (suc room) col i
  none_below col i y z k l o p n = (λ d. record { none = λ j m v r e. both d j m v (inl r) e }, λ d. record { none = λ j m v r e. both d j m v (inr r) e })
    where
      both : (d j m : ℕ) (v : List Event) → Flows cs handles room col i j v → At (F cs col d) j m → ⊥
      both d j m v r e =
          let a = (flows_go cs handles room col d i z l p).goes j m v r e in
          let b = (flows_go cs handles (suc room) col d i y k o).goes j m v (more_room col i j v r) e in
          n (a.0 ∙ sym b.0)
