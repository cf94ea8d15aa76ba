-- A node of block level that comment lines stand before is one from the line after them too.
use Rattle.std.proofs.Common.{◌≡◌, ℕ, ◌+◌, ◌≤◌, ◌⊎◌, inl, inr, List, refl, sym, subst, arith}
use Rattle.yaml_definitions.specs.grammar.Rules.{Rule, Spans, ◌▸◌, run}
use Rattle.yaml_definitions.specs.grammar.Characters.{is_space}
use Rattle.yaml_definitions.specs.grammar.Separation.{block_in, flow_out, StartsLine, s-separate as separate, s-separate-lines as separate_lines, s-l-comments as s_l_comments, s-indent as indent}
use Rattle.yaml_definitions.specs.grammar.Tags.{Handles}
use Rattle.yaml_definitions.specs.model.Event.{Event}
use Rattle.yaml_definitions.specs.grammar.Events.{no_props}
use Rattle.yaml_definitions.specs.grammar.Nodes.{Part, block_part, part, reads, s-l+block-node as block_node}
use Rattle.yaml_definitions.proofs.grammar.Forward.{Forward}
use Rattle.yaml_definitions.proofs.grammar.Widening.{Within}
use Rattle.law_one_reading.proofs.Lines.{past_of, past_same, past_no_run, stuck_run, way_any}
use Rattle.law_one_reading.specs.Follows.{Solid, Fresh, Stuck, Past}
use Rattle.law_one_reading.proofs.FlowNodes.{kind_fresh}
use Rattle.law_one_reading.proofs.FlowEntries.{Facts}
use Rattle.law_one_reading.proofs.KeyContexts.{Eased}
use Rattle.law_one_reading.proofs.BlockLevels.{Blocks}
use Rattle.law_going_on.proofs.Rooms.{Opens, below, facts_below, eased_below, wider_below, forward_below, blocks_below, of_level, to_level}
use Rattle.law_going_on.proofs.BlockStarts.{Form, flow, scalar, propped, collection, named, form, flow_key, scalar_kind, propped_kind, ScalarOf, CollectionsOf, collection_stuck}

module _ (cs : List ℕ) (i m : ℕ) (past : Past cs i m) (stuck : Stuck cs m) (start : StartsLine cs m) where
  here : s_l_comments cs m m
  unfolding s_l_comments
  here = (m, inr (refl, start), Spans.done refl)

  lines_again : (col q : ℕ) → separate_lines cs col i q → (run cs is_space i q × Solid cs q) ⊎ ((p : ℕ) × Past cs i p × run cs is_space p q × (p + col ≤ q) × Solid cs q) → separate_lines cs col m q
  unfolding separate_lines indent
  lines_again col q s (inl (r, f)) = subst (λ z. separate_lines cs col z q) (sym (past_no_run cs i m q past r f).1) s
  lines_again col q s (inr (p, a, r, le, f)) =
      let e : p ≡ m = past_same cs i p m a (stuck_run cs p q r f) past stuck in
      let r2 : run cs is_space m q = subst (λ z. run cs is_space z q) e r in
      let l : m + col ≤ q = subst (λ z. z + col ≤ q) e le in
      inl (m, here, (m + col, ((omega arith, λ k a b. r2.1 k a (omega (arith, b, l))), refl), (l, λ k a b. r2.1 k (omega (arith, a)) b)))

  again_out : (col q : ℕ) → separate cs col flow_out i q → Fresh cs q → separate cs col flow_out m q
  unfolding separate
  again_out col q s f = lines_again col q s (way_any cs col flow_out i q s f.0)

  again_in : (col q : ℕ) → separate cs col block_in i q → Fresh cs q → separate cs col block_in m q
  unfolding separate
  again_in col q s f = lines_again col q s (way_any cs col block_in i q s f.0)

  module _ (Wide : Type 0) (handles : Handles) (Open : Type 0) (inside : Part → Rule (List Event)) (facts : Facts cs inside) (ease : Eased cs Wide handles inside)
      (wider : (p : Part) → Within (inside p) (part cs Wide handles Open inside p)) (fwd : (p : Part) → Forward (inside p)) (blocks : Blocks cs Wide handles inside) (col : ℕ) where
    abbrev Node : Rule (List Event)
    Node = block_node cs Wide handles Open inside col block_in

    of_form : (j : ℕ) (v : List Event) → Form cs Wide handles Open inside facts ease wider fwd blocks col block_in i j v → Node m j v
    unfolding block_node
    of_form j v (flow q s (a, r, t)) = inl (q, again_out col q s (flow_key cs Wide handles Open inside facts ease wider fwd blocks col block_in q j v (a, r, t)).0, (a, r, t))
    of_form j v (scalar q s r) =
        inr (inl (q, again_in col q s (kind_fresh cs 4 q (scalar_kind cs Wide handles Open inside facts ease wider fwd blocks col block_in no_props q j v r)), (q, no_props, inl (refl, refl), r)))
    of_form j v (propped q s (a, p, t, (k, u, r))) =
        inr (inl (q, again_in col q s (kind_fresh cs 1 q (propped_kind cs Wide handles Open inside facts ease wider fwd blocks col block_in (λ p. separate cs col block_in ▸ ScalarOf cs Wide handles Open inside facts ease wider fwd blocks col block_in p) q j v (a, p, t, (k, u, r)))), (k, p, inr (a, t, u), r)))
    of_form j v (collection x s r) =
        let e : x ≡ m = past_same cs i x m (past_of cs i x x s (Spans.done refl)) (collection_stuck cs Wide handles Open inside facts ease wider fwd blocks col block_in x j v r) past stuck in
        inr (inr (m, no_props, (m, inl (refl, refl), here), subst (λ z. CollectionsOf cs Wide handles Open inside facts ease wider fwd blocks col block_in no_props z j v) e r))
    of_form j v (named q s (a, p, t, (k, u, r))) =
        inr (inr (k, p, (a, inr (q, again_in col q s (kind_fresh cs 1 q (propped_kind cs Wide handles Open inside facts ease wider fwd blocks col block_in (λ p. s_l_comments cs ▸ CollectionsOf cs Wide handles Open inside facts ease wider fwd blocks col block_in p) q j v (a, p, t, (k, u, r)))), t), u), r))

    node_again : (j : ℕ) (v : List Event) → Node i j v → Node m j v
    node_again j v r = of_form j v (form cs Wide handles Open inside facts ease wider fwd blocks col block_in i j v r)

  pub root_again : (Wide : Type 0) (handles : Handles) (room j : ℕ) (v : List Event) → reads cs Wide handles room (block_part 0 block_in) i j v → reads cs Wide handles room (block_part 0 block_in) m j v
  root_again Wide handles room j v r =
      of_level cs Wide handles room (block_part 0 block_in) m j v
      (node_again Wide handles (Opens cs Wide handles room) (below cs Wide handles room) (facts_below cs Wide handles room) (eased_below cs Wide handles room) (wider_below cs Wide handles room) (forward_below cs Wide handles room)
      (blocks_below cs Wide handles room) 0 j v (to_level cs Wide handles room (block_part 0 block_in) i j v r))
