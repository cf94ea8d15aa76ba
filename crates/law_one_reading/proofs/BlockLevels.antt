-- From the nodes in a block collection to those that hold it, and by induction on the room to every node.
use Rattle.std.proofs.Common.{◌≡◌, ℕ, zero, suc, ◌+◌, ◌-◌, ◌≤◌, ◌⊎◌, inl, inr, List, true, false, Some, refl, sym, ◌∙◌, ap, subst, arith}
use Rattle.std.specs.Prelude.{slice_get}
use Rattle.yaml_definitions.specs.grammar.Rules.{Rule, Spans, ◌▸◌, ◌∪◌, chr, given, some, maybe, run, Stands, never, with_value}
use Rattle.yaml_definitions.specs.grammar.Characters.{is_ns, is_space, is_nb, is_break}
use Rattle.yaml_definitions.specs.grammar.Separation.{s-l-comments as s_l_comments, Ctx, block_in, block_out, block_key, flow_out, s-separate as separate, s-separate-lines as separate_lines, s-separate-in-line as sep, s-indent as indent, OneLine, StartsLine}
use Rattle.yaml_definitions.specs.grammar.Tags.{Handles}
use Rattle.yaml_definitions.specs.grammar.Tags as tags
use Rattle.yaml_definitions.specs.grammar.FlowScalars.{c-single-quoted as single, c-double-quoted as double}
use Rattle.yaml_definitions.specs.model.Event.{Event}
use Rattle.yaml_definitions.specs.grammar.Events.{Props, no_props}
use Rattle.yaml_definitions.specs.grammar.Nodes.{Part, yaml_part, json_part, block_part, compact_part, part, reads, ns-flow-yaml-node as yaml_node, ns-flow-node as flow_node, c-flow-sequence as flow_seq, c-flow-mapping as flow_map, s-l+block-node as block_node, l+block-sequence as block_seq, l+block-mapping as block_map, ns-l-compact-sequence as compact_seq, ns-l-compact-mapping as compact_map, ns-l-block-map-entry as map_entry, c-l-block-seq-entry as seq_entry, ns-s-implicit-yaml-key as implicit_yaml_key, c-s-implicit-json-key as implicit_json_key, seq-space as seq_column, empty_rest}
use Rattle.yaml_definitions.proofs.grammar.Forward.{Forward, fwd_flow_node, fwd_reads}
use Rattle.yaml_definitions.proofs.grammar.Widening.{Within, in_reads}
use Rattle.yaml_text.specs.Lines.{Inside}
use Rattle.yaml_text.proofs.LineRuns.{indent_run}
use Rattle.yaml_text.proofs.Runs.{run_none}
use Rattle.law_one_reading.proofs.Unique.{from, unique_either}
use Rattle.law_one_reading.specs.Readings.{At, Then, Unique, Apart}
use Rattle.law_one_reading.proofs.Lines.{past_of, less_stuck, run_solid}
use Rattle.law_one_reading.specs.Follows.{Comments, Way, Stuck, Solid, Fresh, Less, DashHere, Over, Follow, KeyHere, EndsNode as F}
use Rattle.law_one_reading.proofs.BlockEntries.{NodeStart, block_seq_unique, block_map_unique, compact_part_unique, compact_part_start, start_no_ns, past_no_ns}
use Rattle.law_one_reading.proofs.KeyContexts.{at_block, Eased, no_eased, reads_eased, eased}
use Rattle.law_one_reading.proofs.TagEnds.{prop_same, prop_here, prop_inside, alias_same, alias_inside}
use Rattle.law_one_reading.proofs.PlainEnds.{plain_block_unique, plain_inside}
use Rattle.law_one_reading.proofs.BlockScalarEnds.{block_scalar_unique}
use Rattle.law_one_reading.proofs.FlowEntries.{Facts}
use Rattle.law_one_reading.proofs.FlowLevels.{jsons_unique, inner_out, reads_facts, no_facts}
use Rattle.law_one_reading.proofs.FlowNodes.{Kind, Sign, kind_fresh, prop_kind, plain_start, jsons_start, law_one_reading, json_node_unique, nodes_apart, Jsons, YamlRest, JsonRest, json_parts}
use Rattle.law_one_reading.proofs.Properties.{props_here, props_two, props_inside}
use Rattle.law_one_reading.proofs.BlockNodes.{KeyRead, Nodes, block_node_unique, block_parts, compact_node, nodes_start, Begin, nodes_begin, nodes_again, nodes_unique, colon_solid, next_here, content_here, dash_no_kind, dash_no_plain}

nb_quote : is_nb 39 ≡ true
unfolding is_nb is_break
nb_quote = refl

nb_quotes : is_nb 34 ≡ true
unfolding is_nb is_break
nb_quotes = refl

nb_bracket : is_nb 93 ≡ true
unfolding is_nb is_break
nb_bracket = refl

nb_brace : is_nb 125 ≡ true
unfolding is_nb is_break
nb_brace = refl

nb_colon : is_nb 58 ≡ true
unfolding is_nb is_break
nb_colon = refl

module _ (cs : List ℕ) (Wide : Type 0) (handles : Handles) where
  -- what is known of the nodes in a block collection
  pub record Blocks (inside : Part → Rule (List Event)) : Type 0 where
    pub node : (col : ℕ) → Unique (inside (block_part col block_in)) (Over cs (Follow cs col col))
    pub value : (k : ℕ) → Unique (inside (block_part (k + 1) block_out)) (Over cs (Follow cs (k + 1) k))
    pub compact : (k : ℕ) → Unique (inside (compact_part k)) (Over cs (Less cs k))
    pub node_start : (col i j : ℕ) (es : List Event) → inside (block_part col block_in) i j es → NodeStart cs col col i
    pub value_start : (k i j : ℕ) (es : List Event) → inside (block_part (k + 1) block_out) i j es → NodeStart cs (k + 1) k i
    pub compact_start : (k i j : ℕ) (es : List Event) → inside (compact_part k) i j es → Fresh cs i
    pub compact_apart : (l : ℕ) → Apart (from (λ i. Inside cs i) (some (λ m. given (1 ≤ m) (indent cs m ▸ inside (compact_part (l + 1 + m)))))) (Over cs (Less cs (l + 1)))
        (inside (block_part (l + 1) block_in)) (Over cs (Follow cs (l + 1) (l + 1)))

  -- a document's node: where it begins, and that it is one, with or without the comment lines before it
  pub record Whole (R : Rule (List Event)) : Type 0 where
    pub begin : (i j : ℕ) (v : List Event) → R i j v → (q : ℕ) × Way cs i q × Fresh cs q × Begin cs q
    pub again : (i h m j k a b : ℕ) (v w : List Event) → StartsLine cs i → StartsLine cs h → StartsLine cs m → Comments cs i m → Comments cs h m → Stuck cs m →
        R i j v → Over cs (Follow cs 0 0) j a → R h k w → Over cs (Follow cs 0 0) k b → (a ≡ b) × (v ≡ w)

  ends_inside : (i j c : ℕ) → slice_get cs i ≡ Some c → is_nb c ≡ true → j ≡ i + 1 → Inside cs j
  ends_inside i j c h t e = (i, e, (c, h, t))

  module _ (Open : Type 0) (inside : Part → Rule (List Event)) (facts : Facts cs inside) (ease : Eased cs Wide handles inside)
      (wider : (p : Part) → Within (inside p) (part cs Wide handles Open inside p)) (fwd : (p : Part) → Forward (inside p)) (blocks : Blocks inside) where
    abbrev Flow : ℕ → Rule (List Event)
    Flow col = flow_node cs Wide handles Open inside col flow_out

    jsons_inside : (col : ℕ) (p : Props) (i j : ℕ) (v : List Event) → Jsons cs Wide handles Open inside col flow_out p i j v → Inside cs j
    unfolding single double flow_seq flow_map
    jsons_inside col p i j v (inl (t, (u, (k, (h, e), (l, r, (m, (g, f), (a, b))))), x)) = ends_inside l j 39 g nb_quote (a ∙ f)
    jsons_inside col p i j v (inr (inl (t, (u, (k, (h, e), (l, r, (g, f)))), x))) = ends_inside l j 34 g nb_quotes f
    jsons_inside col p i j v (inr (inr (inl (o, (t, (k, s, (b, r, (g, f))), x))))) = ends_inside b j 93 g nb_bracket f
    jsons_inside col p i j v (inr (inr (inr (o, (t, (k, s, (b, r, (g, f))), x))))) = ends_inside b j 125 g nb_brace f

    pub flow_inside : (col i j : ℕ) (v : List Event) → Flow col i j v → Inside cs j
    unfolding flow_node yaml_node
    flow_inside col i j v (inl (inl (x, r, e))) = alias_inside cs i j x r
    flow_inside col i j v (inl (inr (inl (t, r, e)))) = plain_inside cs col flow_out i j t r
    flow_inside col i j v (inl (inr (inr (k, p, r, inl (q, s, (t, u, e)))))) = plain_inside cs col flow_out q j t u
    flow_inside col i j v (inl (inr (inr (k, p, r, inr (e, f))))) =
        subst (Inside cs) (sym e) (props_inside cs handles (prop_same cs handles) (prop_here cs handles) (prop_inside cs handles) col flow_out i k p (props_two cs handles col flow_out i k p r))
    flow_inside col i j v (inr r) = go (json_parts cs Wide handles Open inside col flow_out i j v r)
      where
        go : (Jsons cs Wide handles Open inside col flow_out no_props ∪ with_value (tags.c-ns-properties cs handles col flow_out) (JsonRest cs Wide handles Open inside col flow_out)) i j v → Inside cs j
        go (inl s) = jsons_inside col no_props i j v s
        go (inr (k, p, t, (q, u, s))) = jsons_inside col p q j v s

    -- a key of the nodes inside is a flow node here
    pub key_flow : (col i j : ℕ) (v : List Event) → (inside (yaml_part 0 block_key) ∪ inside (json_part 0 block_key)) i j v → Flow col i j v
    unfolding flow_node
    key_flow col i j v (inl r) = inl ((eased cs Wide handles Open inside ease).yaml block_key flow_out at_block 0 col i j v (wider (yaml_part 0 block_key) i j v r))
    key_flow col i j v (inr r) = inr ((eased cs Wide handles Open inside ease).json block_key flow_out at_block 0 col i j v (wider (json_part 0 block_key) i j v r))

    pub flow_one : (col d : ℕ) → Unique (Flow col) (At (F cs col d))
    unfolding flow_node
    flow_one col d = unique_either
        (law_one_reading cs Wide handles Open inside col flow_out (F cs col d) (F cs col d) (prop_same cs handles) (prop_here cs handles) (prop_inside cs handles) (alias_same cs) (plain_block_unique cs col d)
        (jsons_unique cs Wide handles Open inside facts col flow_out inner_out (F cs col d)) (next_here cs handles col d) (content_here cs col d))
        (json_node_unique cs Wide handles Open inside col flow_out (F cs col d) (F cs col d) (prop_same cs handles) (prop_here cs handles) (prop_inside cs handles) (alias_same cs) (plain_block_unique cs col d)
        (jsons_unique cs Wide handles Open inside facts col flow_out inner_out (F cs col d)) (next_here cs handles col d) (content_here cs col d))
        (nodes_apart cs Wide handles Open inside col flow_out (F cs col d) (F cs col d) (prop_same cs handles) (prop_here cs handles) (prop_inside cs handles) (alias_same cs) (plain_block_unique cs col d)
        (jsons_unique cs Wide handles Open inside facts col flow_out inner_out (F cs col d)) (next_here cs handles col d) (content_here cs col d))

    key_kind : (k i : ℕ) → Kind cs k i → KeyHere cs i
    key_kind k i a = (kind_fresh cs k i a, λ h. dash_no_kind cs k i h a)

    props_key : {V : Type 0} (col : ℕ) (S : Props → Rule V) (i j : ℕ) (v : V) → with_value (tags.c-ns-properties cs handles col flow_out) S i j v → KeyHere cs i
    props_key col S i j v (k, p, r, s) = key_kind 1 i (prop_kind cs handles i (props_here cs handles (prop_same cs handles) (prop_here cs handles) (prop_inside cs handles) col flow_out i k p (props_two cs handles col flow_out i k p r)))

    pub flow_start : (col i j : ℕ) (v : List Event) → Flow col i j v → KeyHere cs i
    unfolding flow_node yaml_node tags.c-ns-alias-node
    flow_start col i j v (inl (inl (x, (k, (h, e), r), f))) = key_kind 2 i (42, h, Sign.star 42 refl)
    flow_start col i j v (inl (inr (inl (t, r, e)))) = let (f, h) = plain_start cs col flow_out i j t r in (f, λ g. dash_no_plain cs i g flow_out h)
    flow_start col i j v (inl (inr (inr (k, p, r, s)))) = props_key col (λ q. YamlRest cs Wide handles Open inside col flow_out q) i j v (k, p, r, s)
    flow_start col i j v (inr r) = go (json_parts cs Wide handles Open inside col flow_out i j v r)
      where
        go : (Jsons cs Wide handles Open inside col flow_out no_props ∪ with_value (tags.c-ns-properties cs handles col flow_out) (JsonRest cs Wide handles Open inside col flow_out)) i j v → KeyHere cs i
        go (inl s) = key_kind 3 i (jsons_start cs Wide handles Open inside col flow_out no_props i j v s)
        go (inr s) = props_key col (JsonRest cs Wide handles Open inside col flow_out) i j v s

    -- ---- keys

    abbrev Keys : Rule (List Event)
    Keys = implicit_yaml_key cs Wide handles Open inside block_key ∪ implicit_json_key cs Wide handles Open inside block_key

    spaces_of : (a j : ℕ) → maybe (sep cs) a j → Solid cs j → run cs is_space a j
    unfolding sep
    spaces_of a j (inl e) s = subst (run cs is_space a) (sym e) (run_none cs is_space a)
    spaces_of a j (inr (inl (r, l))) s = r
    spaces_of a j (inr (inr (e, l))) s = subst (run cs is_space a) (sym e) (run_none cs is_space a)

    pub key_parts : (col i j : ℕ) (v : List Event) → Keys i j v → (a : ℕ) × Flow col i a v × maybe (sep cs) a j × OneLine cs i j
    unfolding implicit_yaml_key implicit_json_key
    key_parts col i j v (inl ((one, l), (a, r, s))) = (a, key_flow col i a v (inl r), s, one)
    key_parts col i j v (inr ((one, l), (a, r, s))) = (a, key_flow col i a v (inr r), s, one)

    key_unique : Unique Keys (Then (chr cs 58) (At (λ i. Stands cs is_ns i → ⊥)))
    key_unique i j k m n v w r (x, (h, e), (f, g)) s (y, (h2, e2), (f2, g2)) =
        let (a, p, t, one) = key_parts 0 i j v r in
        let (b, q, u, two) = key_parts 0 i k w s in
        let c = spaces_of a j t (colon_solid cs j h) in
        let d = spaces_of b k u (colon_solid cs k h2) in
        let z = flow_one 0 0 i a b a b v w p (refl, inr (j, c, h, subst (λ o. Stands cs is_ns o → ⊥) e g)) q (refl, inr (k, d, h2, subst (λ o. Stands cs is_ns o → ⊥) e2 g2)) in
        let l : j ≡ k = run_solid cs b j k (subst (λ o. run cs is_space o j) z.0 c) (colon_solid cs j h).0 d (colon_solid cs k h2).0 in
        (sym f ∙ e ∙ ap (λ o. o + 1) l ∙ sym e2 ∙ f2, z.1)

    pub key_start : (i j : ℕ) (es : List Event) → Keys i j es → KeyHere cs i
    key_start i j es r = let (a, p, t, one) = key_parts 0 i j es r in flow_start 0 i a es p

    -- ---- collections

    seqs : (p : Props) (col d : ℕ) → col ≤ d + 1 → Unique (block_seq cs Wide handles Open inside p d) (Over cs (Follow cs col d))
    seqs p col d l = block_seq_unique cs Wide handles Open inside blocks.node blocks.value blocks.compact blocks.node_start blocks.value_start blocks.compact_start key_unique key_start blocks.compact_apart p col d l

    maps : (p : Props) (col : ℕ) → Unique (block_map cs Wide handles Open inside p col) (Over cs (Less cs col))
    maps p col = block_map_unique cs Wide handles Open inside blocks.node blocks.value blocks.compact blocks.node_start blocks.value_start blocks.compact_start key_unique key_start blocks.compact_apart p col

    -- no text just after a key's colon
    pub value_no_ns : (k b a : ℕ) (v : List Event) → Inside cs b → (inside (block_part (k + 1) block_out) ∪ empty_rest cs Wide handles Open inside) b a v → Stands cs is_ns b → ⊥
    value_no_ns k b a v o (inl r) s = start_no_ns cs (k + 1) k b o (blocks.value_start k b a v r) s
    value_no_ns k b a v o (inr (y, (e, f), r)) s = past_no_ns cs b a o (past_of cs b a a (subst (λ z. s_l_comments cs z a) e r) (Spans.done refl)) s

    pub entry_key : (col d : ℕ) (c : Ctx) (k q a : ℕ) (v : List Event) → map_entry cs Wide handles Open inside k q a v → KeyRead cs Wide handles Open inside col d c q
    unfolding map_entry
    entry_key col d c k q a v (b, ks, ws, (m, key, (h, e)), val, x) =
        let (o, p, t, one) = key_parts col q m ks key in
        let s = spaces_of o m t (colon_solid cs m h) in
        let le : o ≤ m = s.0 in
        (o, ks, p, (m, s, h, λ n. value_no_ns k b a ws (ends_inside m b 58 h nb_colon e) val (subst (Stands cs is_ns) (sym e) n)), λ x l g. one x l (omega (arith, g, le)))

    map_key : (col d : ℕ) (c : Ctx) (p : Props) (i j : ℕ) (v : List Event) → block_map cs Wide handles Open inside p col i j v →
        (k : ℕ) × (q : ℕ) × (col ≤ k) × indent cs k i q × KeyRead cs Wide handles Open inside col d c q
    unfolding block_map
    map_key col d c p i j v (o, (t, (k, (le, (a, us, vs, (q, ind, entry), rest, x))), e)) = (k, q, le, ind, entry_key col d c k q a us entry)

    entry_dash : (k q a : ℕ) (v : List Event) → seq_entry cs Wide handles Open inside k q a v → DashHere cs q
    unfolding seq_entry
    entry_dash k q a v (b, (x, (h, e), (f, n)), r) = (h, subst (λ z. Stands cs is_ns z → ⊥) e n)

    seq_dash : (d : ℕ) (p : Props) (i j : ℕ) (v : List Event) → block_seq cs Wide handles Open inside p d i j v → (k : ℕ) × (q : ℕ) × (d ≤ k) × indent cs k i q × DashHere cs q
    unfolding block_seq
    seq_dash d p i j v (o, (t, (k, (le, (a, us, vs, (q, ind, entry), rest, x))), e)) = (k, q, le, ind, entry_dash k q a us entry)

    follow_stuck : (col d m : ℕ) → Follow cs col d m → Stuck cs m
    follow_stuck col d m f = less_stuck cs col m f.0

    -- ---- nodes of block level, and compact ones

    abbrev Form : (col d : ℕ) (c : Ctx) → col ≤ d + 1 → Rule (List Event)
    Form col d c l = Nodes cs Wide handles Open inside col d c l (prop_same cs handles) (prop_here cs handles) (prop_inside cs handles) (alias_same cs) (plain_block_unique cs col d) (jsons_unique cs Wide handles Open inside facts col flow_out inner_out (F cs col d)) (flow_inside col) (fwd_flow_node cs Wide handles Open inside fwd col flow_out) (block_scalar_unique cs false col (Follow cs col d) (follow_stuck col d)) (block_scalar_unique cs true col (Follow cs col d) (follow_stuck col d)) (λ p. maps p col) (λ p. seqs p col d l) (map_key col d c) (seq_dash d)

    block_unique : (col d : ℕ) (c : Ctx) (l : col ≤ d + 1) → seq_column cs Wide handles Open inside col c ≡ d → Unique (block_node cs Wide handles Open inside col c) (Over cs (Follow cs col d))
    block_unique col d c l at = block_node_unique cs Wide handles Open inside col d c l (prop_same cs handles) (prop_here cs handles) (prop_inside cs handles) (alias_same cs) (plain_block_unique cs col d) (jsons_unique cs Wide handles Open inside facts col flow_out inner_out (F cs col d)) (flow_inside col) (fwd_flow_node cs Wide handles Open inside fwd col flow_out) (block_scalar_unique cs false col (Follow cs col d) (follow_stuck col d)) (block_scalar_unique cs true col (Follow cs col d) (follow_stuck col d)) (λ p. maps p col) (λ p. seqs p col d l) (map_key col d c) (seq_dash d) at

    forms : (col d : ℕ) (c : Ctx) (l : col ≤ d + 1) → seq_column cs Wide handles Open inside col c ≡ d → Within (block_node cs Wide handles Open inside col c) (Form col d c l)
    forms col d c l at = block_parts cs Wide handles Open inside col d c l (prop_same cs handles) (prop_here cs handles) (prop_inside cs handles) (alias_same cs) (plain_block_unique cs col d) (jsons_unique cs Wide handles Open inside facts col flow_out inner_out (F cs col d)) (flow_inside col) (fwd_flow_node cs Wide handles Open inside fwd col flow_out) (block_scalar_unique cs false col (Follow cs col d) (follow_stuck col d)) (block_scalar_unique cs true col (Follow cs col d) (follow_stuck col d)) (λ p. maps p col) (λ p. seqs p col d l) (map_key col d c) (seq_dash d) at

    pub block_start : (col d : ℕ) (c : Ctx) (l : col ≤ d + 1) → seq_column cs Wide handles Open inside col c ≡ d → ((i q : ℕ) → separate cs col c i q → separate_lines cs col i q) →
        (i j : ℕ) (v : List Event) → block_node cs Wide handles Open inside col c i j v → NodeStart cs col d i
    block_start col d c l at g i j v r = nodes_start cs Wide handles Open inside col d c l (prop_same cs handles) (prop_here cs handles) (prop_inside cs handles) (alias_same cs) (plain_block_unique cs col d) (jsons_unique cs Wide handles Open inside facts col flow_out inner_out (F cs col d)) (flow_inside col) (fwd_flow_node cs Wide handles Open inside fwd col flow_out) (block_scalar_unique cs false col (Follow cs col d) (follow_stuck col d)) (block_scalar_unique cs true col (Follow cs col d) (follow_stuck col d)) (λ p. maps p col) (λ p. seqs p col d l) (map_key col d c) (seq_dash d) g i j v (forms col d c l at i j v r)

    compacts : (k : ℕ) → Unique (compact_seq cs Wide handles Open inside k ∪ compact_map cs Wide handles Open inside k) (Over cs (Less cs k))
    compacts k = compact_part_unique cs Wide handles Open inside blocks.node blocks.value blocks.compact blocks.node_start blocks.value_start blocks.compact_start key_unique key_start blocks.compact_apart k

    compacts_start : (k i j : ℕ) (es : List Event) → (compact_seq cs Wide handles Open inside k ∪ compact_map cs Wide handles Open inside k) i j es → Fresh cs i
    compacts_start k = compact_part_start cs Wide handles Open inside blocks.node blocks.value blocks.compact blocks.node_start blocks.value_start blocks.compact_start key_unique key_start blocks.compact_apart k

    compact_form : (col d : ℕ) (c : Ctx) (k q j : ℕ) (v : List Event) → (compact_seq cs Wide handles Open inside k ∪ compact_map cs Wide handles Open inside k) q j v →
        KeyRead cs Wide handles Open inside col d c q ⊎ DashHere cs q
    unfolding compact_seq compact_map
    compact_form col d c k q j v (inl (o, (t, (a, us, vs, r, s, x), e))) = inr (entry_dash k q a us r)
    compact_form col d c k q j v (inr (o, (t, (a, us, vs, r, s, x), e))) = inl (entry_key col d c k q a us r)

    pub in_lines : (col i q : ℕ) → separate cs col block_in i q → separate_lines cs col i q
    unfolding separate
    in_lines col i q r = r

    pub out_lines : (col i q : ℕ) → separate cs col block_out i q → separate_lines cs col i q
    unfolding separate
    out_lines col i q r = r

    lines_in : (col i q : ℕ) → separate_lines cs col i q → separate cs col block_in i q
    unfolding separate
    lines_in col i q r = r

    one_less : (k : ℕ) → k + 1 - 1 ≡ k
    one_less k = omega arith

    compact_no_node : (l : ℕ) → Apart (from (λ i. Inside cs i) (some (λ m. given (1 ≤ m) (indent cs m ▸ (compact_seq cs Wide handles Open inside (l + 1 + m) ∪ compact_map cs Wide handles Open inside (l + 1 + m)))))) (Over cs (Less cs (l + 1)))
        (block_node cs Wide handles Open inside (l + 1) block_in) (Over cs (Follow cs (l + 1) (l + 1)))
    compact_no_node x i j k m o v w (a, (n, (b, (q, r, s)))) e t f =
        compact_node cs Wide handles Open inside (x + 1) (x + 1) block_in (omega arith) (prop_same cs handles) (prop_here cs handles) (prop_inside cs handles) (alias_same cs) (plain_block_unique cs (x + 1) (x + 1)) (jsons_unique cs Wide handles Open inside facts (x + 1) flow_out inner_out (F cs (x + 1) (x + 1))) (flow_inside (x + 1)) (fwd_flow_node cs Wide handles Open inside fwd (x + 1) flow_out) (block_scalar_unique cs false (x + 1) (Follow cs (x + 1) (x + 1)) (follow_stuck (x + 1) (x + 1))) (block_scalar_unique cs true (x + 1) (Follow cs (x + 1) (x + 1)) (follow_stuck (x + 1) (x + 1))) (λ p. maps p (x + 1)) (λ p. seqs p (x + 1) (x + 1) (omega arith)) (map_key (x + 1) (x + 1) block_in) (seq_dash (x + 1))
        i k o q w a (indent_run cs n i q r) (compact_form (x + 1) (x + 1) block_in (x + 1 + n) q j v s) (forms (x + 1) (x + 1) block_in (omega arith) refl i k w t) f

    pub blocks_next : Blocks (part cs Wide handles Open inside)
    blocks_next = record {
      node = λ col. block_unique col col block_in (omega arith) refl;
      value = λ k. block_unique (k + 1) k block_out (omega arith) (one_less k);
      compact = compacts;
      node_start = λ col. block_start col col block_in (omega arith) refl (in_lines col);
      value_start = λ k. block_start (k + 1) k block_out (omega arith) (one_less k) (out_lines (k + 1));
      compact_start = compacts_start;
      compact_apart = compact_no_node;
    }

    pub whole_next : Whole (block_node cs Wide handles Open inside 0 block_in)
    whole_next = record {
      begin = λ i j v r. nodes_begin cs Wide handles Open inside 0 0 block_in (omega arith) (prop_same cs handles) (prop_here cs handles) (prop_inside cs handles) (alias_same cs) (plain_block_unique cs 0 0) (jsons_unique cs Wide handles Open inside facts 0 flow_out inner_out (F cs 0 0)) (flow_inside 0) (fwd_flow_node cs Wide handles Open inside fwd 0 flow_out) (block_scalar_unique cs false 0 (Follow cs 0 0) (follow_stuck 0 0)) (block_scalar_unique cs true 0 (Follow cs 0 0) (follow_stuck 0 0)) (λ p. maps p 0) (λ p. seqs p 0 0 (omega arith)) (map_key 0 0 block_in) (seq_dash 0) i j v (forms 0 0 block_in (omega arith) refl i j v r);
      again = λ i h m j k a b v w si sh sm ci ch stuck r e s f.
          nodes_unique cs Wide handles Open inside 0 0 block_in (omega arith) (prop_same cs handles) (prop_here cs handles) (prop_inside cs handles) (alias_same cs) (plain_block_unique cs 0 0) (jsons_unique cs Wide handles Open inside facts 0 flow_out inner_out (F cs 0 0)) (flow_inside 0) (fwd_flow_node cs Wide handles Open inside fwd 0 flow_out) (block_scalar_unique cs false 0 (Follow cs 0 0) (follow_stuck 0 0)) (block_scalar_unique cs true 0 (Follow cs 0 0) (follow_stuck 0 0)) (λ p. maps p 0) (λ p. seqs p 0 0 (omega arith)) (map_key 0 0 block_in) (seq_dash 0) m j k a b v w
          (nodes_again cs Wide handles Open inside 0 0 block_in (omega arith) (prop_same cs handles) (prop_here cs handles) (prop_inside cs handles) (alias_same cs) (plain_block_unique cs 0 0) (jsons_unique cs Wide handles Open inside facts 0 flow_out inner_out (F cs 0 0)) (flow_inside 0) (fwd_flow_node cs Wide handles Open inside fwd 0 flow_out) (block_scalar_unique cs false 0 (Follow cs 0 0) (follow_stuck 0 0)) (block_scalar_unique cs true 0 (Follow cs 0 0) (follow_stuck 0 0)) (λ p. maps p 0) (λ p. seqs p 0 0 (omega arith)) (map_key 0 0 block_in) (seq_dash 0) (in_lines 0) (lines_in 0) i m si sm ci stuck j v (forms 0 0 block_in (omega arith) refl i j v r)) e
          (nodes_again cs Wide handles Open inside 0 0 block_in (omega arith) (prop_same cs handles) (prop_here cs handles) (prop_inside cs handles) (alias_same cs) (plain_block_unique cs 0 0) (jsons_unique cs Wide handles Open inside facts 0 flow_out inner_out (F cs 0 0)) (flow_inside 0) (fwd_flow_node cs Wide handles Open inside fwd 0 flow_out) (block_scalar_unique cs false 0 (Follow cs 0 0) (follow_stuck 0 0)) (block_scalar_unique cs true 0 (Follow cs 0 0) (follow_stuck 0 0)) (λ p. maps p 0) (λ p. seqs p 0 0 (omega arith)) (map_key 0 0 block_in) (seq_dash 0) (in_lines 0) (lines_in 0) h m sh sm ch stuck k w (forms 0 0 block_in (omega arith) refl h k w s)) f;
    }

  pub no_blocks : Blocks (λ q. never)
  no_blocks = record {
    node = λ col i j k m n v w r. absurd r;
    value = λ col i j k m n v w r. absurd r;
    compact = λ col i j k m n v w r. absurd r;
    node_start = λ col i j v r. absurd r;
    value_start = λ col i j v r. absurd r;
    compact_start = λ col i j v r. absurd r;
    compact_apart = λ l i j k m n v w (a, (x, (b, (q, r, s)))). absurd s;
  }

  pub one_more : (room : ℕ) (p : Part) → Within (reads cs Wide handles room p) (part cs Wide handles (Unit {0}) (reads cs Wide handles room) p)
  unfolding reads
  one_more room p i j v r = in_reads cs Wide Wide (λ h. h) handles room (suc room) (omega arith) p i j v r

  -- every node of block level, and every compact one, has one reading
  pub reads_blocks : (room : ℕ) → Blocks (reads cs Wide handles room)
  unfolding reads
  reads_blocks zero = blocks_next ⊥ (λ q. never) (no_facts cs Wide handles) (no_eased cs Wide handles) (λ p i j v r. absurd r) (λ p i j v r. absurd r) no_blocks
  reads_blocks (suc room) = blocks_next (Unit {0}) (reads cs Wide handles room) (reads_facts cs Wide handles room) (reads_eased cs Wide handles room) (one_more room) (fwd_reads cs Wide handles room) (reads_blocks room)

  pub reads_whole : (room : ℕ) → Whole (reads cs Wide handles room (block_part 0 block_in))
  unfolding reads
  reads_whole zero = whole_next ⊥ (λ q. never) (no_facts cs Wide handles) (no_eased cs Wide handles) (λ p i j v r. absurd r) (λ p i j v r. absurd r) no_blocks
  reads_whole (suc room) = whole_next (Unit {0}) (reads cs Wide handles room) (reads_facts cs Wide handles room) (reads_eased cs Wide handles room) (one_more room) (fwd_reads cs Wide handles room) (reads_blocks room)
