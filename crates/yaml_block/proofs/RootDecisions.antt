-- Documents' nodes: what is left of them on their first line, and after their mark.
use Rattle.std.proofs.Common.{◌≡◌, ℕ, ◌+◌, List, Some, inl, inr, subst, arith}
use Rattle.yaml_definitions.specs.model.Event.{Event}
use Rattle.yaml_definitions.specs.grammar.Rules.{Rule, ◌◂◌, ◌∪◌, gives, Stands}
use Rattle.yaml_definitions.specs.grammar.Characters.{is_space}
use Rattle.yaml_definitions.specs.grammar.Separation.{block_in, s-indent as indent, s-l-comments as s_l_comments, StartsLine}
use Rattle.yaml_definitions.specs.grammar.Tags.{Handles}
use Rattle.yaml_definitions.specs.grammar.Events.{no_props, e-scalar as empty}
use Rattle.yaml_definitions.specs.grammar.Nodes.{block_part, s-l+block-node as block_node}
use Rattle.yaml_definitions.specs.grammar.Streams.{l-bare-document as bare_document}
use Rattle.yaml_text.proofs.LineRuns.{indent_place}
use Rattle.law_one_reading.specs.Readings.{End}
use Rattle.law_one_reading.specs.Follows.{Stuck, DashHere}
use Rattle.law_going_on.specs.GoingOn.{Rest}
use Rattle.law_going_on.proofs.GoingOn.{rest_rest, rest_left, rest_right}
use Rattle.law_going_on.proofs.BlockStarts.{OnOwnLine, node_below}
use Rattle.yaml_layout.specs.NodeRules.{opens, below}
use Rattle.yaml_layout.proofs.NodeLemmas.{from_reads}
use Rattle.yaml_layout.proofs.LineLemmas.{no_lines}
use Rattle.yaml_block.specs.BlockRules.{root_rest, node_rest, value_rest, sequence_with}
use Rattle.yaml_block.specs.BlockEnds.{AfterNode, AfterSequence}
use Rattle.yaml_block.proofs.Levels.{facts_at, eased_at, wider_at, forward_at, blocks_at}
use Rattle.yaml_block.proofs.NodeForms.{forms_node, node_key, sequence_dash}
use Rattle.yaml_block.proofs.ValueDecisions.{rest_onto, node_sequence}

module _ (cs : List ℕ) (handles : Handles) (room : ℕ) where
  abbrev Root : ℕ → Rule (List Event)
  Root = root_rest cs (Unit {0}) handles room

  abbrev Node : ℕ → Rule (List Event)
  Node k = node_rest cs (Unit {0}) handles room 0 block_in (Some k)

  abbrev Sequence : ℕ → Rule (List Event)
  Sequence = sequence_with cs (Unit {0}) handles no_props room

  abbrev E : End
  E = AfterNode cs 0 block_in

  module _ (s k x : ℕ) (ind : indent cs k s x) where
    root_first : Rest (Root k) E s (Sequence k ∪ Node k) E x
    root_first = record { rest = λ j m v (q, r, t) e. (j, v, subst (λ z. (Sequence k ∪ Node k) z j v) (let a : q ≡ s + k = indent_place cs k s q r in let b : x ≡ s + k = indent_place cs k s x ind in let h : q ≡ x = omega (arith, a, b) in h) t, e) }

    pub root_dash : DashHere cs x → Rest (Root k) E s (Sequence k) (AfterSequence cs k) x
    root_dash d =
        rest_onto (node_sequence cs 0 k block_in tt (omega arith))
        (rest_rest root_first (rest_left (Sequence k) (record { none = λ j m v r e. (node_key cs (Unit {0}) handles room 0 block_in tt (Some k) x j v r).1 d })))

    pub root_node : (DashHere cs x → ⊥) → Rest (Root k) E s (Node k) E x
    root_node n = rest_rest root_first (rest_right (Node k) (record { none = λ j m v r e. n (sequence_dash cs (Unit {0}) handles room 0 block_in no_props k x j v r) }))

    -- a bare document from the start of its first line
    pub document_root : StartsLine cs s → Stuck cs s → (Stands cs is_space x → ⊥) → Rest (bare_document cs (Unit {0}) room handles) E s (Root k) E s
    unfolding bare_document
    document_root start st whole = record { rest = λ j m v (u, r) e. go (node.rest j m v (from_reads cs (Unit {0}) handles room (block_part 0 block_in) s j v r) e) }
      where
        node : Rest (block_node cs (Unit {0}) handles (opens cs (Unit {0}) handles room) (below cs (Unit {0}) handles room) 0 block_in) E s (OnOwnLine cs (Unit {0}) handles (opens cs (Unit {0}) handles room) (below cs (Unit {0}) handles room) (facts_at cs (Unit {0}) handles room) (eased_at cs (Unit {0}) handles room) (wider_at cs (Unit {0}) handles room) (forward_at cs (Unit {0}) handles room) (blocks_at cs (Unit {0}) handles room) 0 block_in k) E x
        node = node_below cs (Unit {0}) handles (opens cs (Unit {0}) handles room) (below cs (Unit {0}) handles room) (facts_at cs (Unit {0}) handles room) (eased_at cs (Unit {0}) handles room) (wider_at cs (Unit {0}) handles room) (forward_at cs (Unit {0}) handles room) (blocks_at cs (Unit {0}) handles room) 0 block_in E s s x k (no_lines cs s start) st ind whole

        own : (j : ℕ) (v : List Event) → OnOwnLine cs (Unit {0}) handles (opens cs (Unit {0}) handles room) (below cs (Unit {0}) handles room) (facts_at cs (Unit {0}) handles room) (eased_at cs (Unit {0}) handles room) (wider_at cs (Unit {0}) handles room) (forward_at cs (Unit {0}) handles room) (blocks_at cs (Unit {0}) handles room) 0 block_in k x j v → Root k s j v
        own j v (inl r) = (x, ind, inr (forms_node cs (Unit {0}) handles room 0 block_in tt (Some k) x j v (inl r)))
        own j v (inr (inl r)) = (x, ind, inr (forms_node cs (Unit {0}) handles room 0 block_in tt (Some k) x j v (inr r)))
        own j v (inr (inr r)) = (x, ind, inl r)

        go : {m : ℕ} → (o : ℕ) × (w : List Event) × OnOwnLine cs (Unit {0}) handles (opens cs (Unit {0}) handles room) (below cs (Unit {0}) handles room) (facts_at cs (Unit {0}) handles room) (eased_at cs (Unit {0}) handles room) (wider_at cs (Unit {0}) handles room) (forward_at cs (Unit {0}) handles room) (blocks_at cs (Unit {0}) handles room) 0 block_in k x o w × E o m → (o : ℕ) × (w : List Event) × Root k s o w × E o m
        go (o, w, r, e) = (o, w, own o w r, e)

  -- what stands after a document's mark
  pub marked_value : (i : ℕ) → Rest (bare_document cs (Unit {0}) room handles ∪ (gives (empty no_props) ◂ s_l_comments cs)) E i (value_rest cs (Unit {0}) handles room 0 block_in) E i
  unfolding bare_document
  marked_value i = record { rest = go }
    where
      go : (j m : ℕ) (v : List Event) → (bare_document cs (Unit {0}) room handles ∪ (gives (empty no_props) ◂ s_l_comments cs)) i j v → E j m → (o : ℕ) × (w : List Event) × value_rest cs (Unit {0}) handles room 0 block_in i o w × E o m
      go j m v (inl (u, r)) e = (j, v, inl r, e)
      go j m v (inr r) e = (j, v, inr r, e)
