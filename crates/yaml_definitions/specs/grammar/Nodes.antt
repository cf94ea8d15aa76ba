-- Flow nodes (YAML 1.2.2, 7.4 and 7.5) and block nodes (8.2). `inside` reads what stands in a collection that is opened here.
use Rattle.std.specs.Prelude.{ℕ, zero, suc, ◌+◌, ◌-◌, ◌≤◌, List, [], ◌∷◌, true, false}
use Rattle.yaml_definitions.specs.grammar.Rules.{Rule, ◌◆◌, ◌▸◌, ◌◂◌, ◌⨾◌, ◌∪◌, gives, given, never, maybe, optional, some, any, any_one, chr, Stands, where_both, ahead, with_value, seen}
use Rattle.yaml_definitions.specs.grammar.Characters.{is_ns, c-sequence-entry, c-mapping-key, c-mapping-value, c-collect-entry, c-sequence-start, c-sequence-end, c-mapping-start, c-mapping-end}
use Rattle.yaml_definitions.specs.grammar.Separation.{Ctx, block_out, block_in, flow_out, flow_in, block_key, flow_key, inner, s-indent, s-separate-in-line, s-separate, s-l-comments, OneLine}
use Rattle.yaml_definitions.specs.grammar.Tags.{Handles, c-ns-properties}
use Rattle.yaml_definitions.specs.grammar.Tags as tags
use Rattle.yaml_definitions.specs.grammar.FlowScalars.{ns-plain, c-single-quoted, c-double-quoted, plain_safe}
use Rattle.yaml_definitions.specs.grammar.BlockScalars.{c-l+literal, c-l+folded}
use Rattle.yaml_definitions.specs.grammar.Events.{Props, no_props, seq_start, map_start, scalar, alias_node, e-scalar, wrapped}
use Rattle.yaml_definitions.specs.model.Event.{Event, Style, sequence_end, mapping_end}
use Rattle.yaml_definitions.specs.model.Event as style
use Rattle.yaml_definitions.specs.model.Limits.{key_limit}

-- no production: what may stand in a collection; col is the parent's indentation and one more
pub data Part : Type 0 where
  yaml_part json_part pair_part block_part : ℕ → Ctx → Part
  compact_part : ℕ → Part

-- no production: the wide profile, in which `?` keys and empty keys are read in flow collections
abbrev pub wide : Type 0
wide = Unit {0}

-- Wide says whether the profile is the wide one.
module _ (cs : List ℕ) (Wide : Type 0) (handles : Handles) where
  -- Open says whether one more collection may be opened.
  module _ (Open : Type 0) (inside : Part → Rule (List Event)) where
    -- [161] ns-flow-node(n,c) (7.5), inside a collection
    abbrev pub inside_flow : ℕ → Ctx → Rule (List Event)
    inside_flow n c = inside (yaml_part n c) ∪ inside (json_part n c)

    -- ---- flow nodes

    -- [106] e-node (7.2)
    abbrev pub e-node : Rule (List Event)
    e-node = gives (e-scalar no_props)

    -- no production: a scalar's event, of its text
    abbrev pub scalar_of : Props → Style → Rule (List ℕ) → Rule (List Event)
    scalar_of p s R = seen (λ t. scalar p s t ∷ []) R

    -- [159] ns-flow-yaml-node(n,c) (7.5), of [156] ns-flow-yaml-content(n,c)
    unfoldable pub ns-flow-yaml-node : ℕ → Ctx → Rule (List Event)
    ns-flow-yaml-node n c =
        seen (λ x. alias_node x ∷ []) (tags.c-ns-alias-node cs)
        ∪ scalar_of no_props style.plain (ns-plain cs n c)
        ∪ with_value (c-ns-properties cs handles n c) (λ p. (s-separate cs n c ▸ scalar_of p style.plain (ns-plain cs n c)) ∪ gives (e-scalar p))

    -- [138] ns-s-flow-seq-entries(n,c) (7.4.1), [141] ns-s-flow-map-entries(n,c) (7.4.2), or none: parts by commas, after the last of
    -- which one more may stand
    abbrev pub parted : ℕ → Ctx → Rule (List Event) → Rule (List Event)
    parted n c R = any (R ◂ (chr cs c-collect-entry ◆ maybe (s-separate cs n c))) ⨾ optional R

    -- [147] c-ns-flow-map-separate-value(n,c) (7.4.2)
    unfoldable pub c-ns-flow-map-separate-value : ℕ → Ctx → Rule (List Event)
    c-ns-flow-map-separate-value n c = (chr cs c-mapping-value ◆ ahead (λ i. Stands cs (plain_safe c) i → ⊥)) ▸ ((s-separate cs n c ▸ inside_flow n c) ∪ e-node)

    -- [149] c-ns-flow-map-adjacent-value(n,c) (7.4.2)
    unfoldable pub c-ns-flow-map-adjacent-value : ℕ → Ctx → Rule (List Event)
    c-ns-flow-map-adjacent-value n c = chr cs c-mapping-value ▸ ((maybe (s-separate cs n c) ▸ inside_flow n c) ∪ e-node)

    -- [145] ns-flow-map-yaml-key-entry(n,c) (7.4.2)
    unfoldable pub ns-flow-map-yaml-key-entry : ℕ → Ctx → Rule (List Event)
    ns-flow-map-yaml-key-entry n c = inside (yaml_part n c) ⨾ ((maybe (s-separate cs n c) ▸ c-ns-flow-map-separate-value n c) ∪ e-node)

    -- [148] c-ns-flow-map-json-key-entry(n,c) (7.4.2)
    unfoldable pub c-ns-flow-map-json-key-entry : ℕ → Ctx → Rule (List Event)
    c-ns-flow-map-json-key-entry n c = inside (json_part n c) ⨾ ((maybe (s-separate cs n c) ▸ c-ns-flow-map-adjacent-value n c) ∪ e-node)

    -- [144] ns-flow-map-implicit-entry(n,c) (7.4.2), but for [146]: its key is not wholly empty
    unfoldable pub ns-flow-map-implicit-entry : ℕ → Ctx → Rule (List Event)
    ns-flow-map-implicit-entry n c = ns-flow-map-yaml-key-entry n c ∪ c-ns-flow-map-json-key-entry n c

    -- [146] c-ns-flow-map-empty-key-entry(n,c) (7.4.2), in the wide profile
    unfoldable pub c-ns-flow-map-empty-key-entry : ℕ → Ctx → Rule (List Event)
    c-ns-flow-map-empty-key-entry n c = e-node ⨾ c-ns-flow-map-separate-value n c

    -- [143] ns-flow-map-explicit-entry(n,c) (7.4.2) after its `?`, in the wide profile
    unfoldable pub ns-flow-map-explicit-entry : ℕ → Ctx → Rule (List Event)
    ns-flow-map-explicit-entry n c = (chr cs c-mapping-key ◆ s-separate cs n c) ▸ (ns-flow-map-implicit-entry n c ∪ c-ns-flow-map-empty-key-entry n c ∪ (e-node ⨾ e-node))

    -- [142] ns-flow-map-entry(n,c) (7.4.2)
    unfoldable pub ns-flow-map-entry : ℕ → Ctx → Rule (List Event)
    ns-flow-map-entry n c = ns-flow-map-implicit-entry n c ∪ given Wide (c-ns-flow-map-empty-key-entry n c ∪ ns-flow-map-explicit-entry n c)

    -- no production: the bound on [154] and [155]: on one line, with at most `key_limit` characters before its `:` (7.4.2)
    abbrev pub key_sized : Rule (List Event) → Rule (List Event)
    key_sized R = where_both (λ i j. OneLine cs i j × (j ≤ i + key_limit)) (R ◂ maybe (s-separate-in-line cs))

    -- [154] ns-s-implicit-yaml-key(c) (7.4.2)
    unfoldable pub ns-s-implicit-yaml-key : Ctx → Rule (List Event)
    ns-s-implicit-yaml-key c = key_sized (inside (yaml_part 0 c))

    -- [155] c-s-implicit-json-key(c) (7.4.2)
    unfoldable pub c-s-implicit-json-key : Ctx → Rule (List Event)
    c-s-implicit-json-key c = key_sized (inside (json_part 0 c))

    -- [150] ns-flow-pair(n,c) (7.4.2), of [151] ns-flow-pair-entry(n,c): [152] ns-flow-pair-yaml-key-entry(n,c), [153]
    -- c-ns-flow-pair-json-key-entry(n,c), and [146]
    unfoldable pub ns-flow-pair : ℕ → Ctx → Rule (List Event)
    ns-flow-pair n c = given Open (seen (wrapped (map_start true no_props) mapping_end) (
        (ns-s-implicit-yaml-key flow_key ⨾ c-ns-flow-map-separate-value n c)
        ∪ (c-s-implicit-json-key flow_key ⨾ c-ns-flow-map-adjacent-value n c)
        ∪ given Wide (c-ns-flow-map-empty-key-entry n c ∪ ns-flow-map-explicit-entry n c)))

    -- [137] c-flow-sequence(n,c) (7.4.1), of [139] ns-flow-seq-entry(n,c)
    unfoldable pub c-flow-sequence : Props → ℕ → Ctx → Rule (List Event)
    c-flow-sequence p n c = given Open (seen (wrapped (seq_start true p) sequence_end) (
        (chr cs c-sequence-start ◆ maybe (s-separate cs n c))
        ▸ parted n c ((inside (pair_part n (inner c)) ∪ inside_flow n (inner c)) ◂ maybe (s-separate cs n c))
        ◂ chr cs c-sequence-end))

    -- [140] c-flow-mapping(n,c) (7.4.2)
    unfoldable pub c-flow-mapping : Props → ℕ → Ctx → Rule (List Event)
    c-flow-mapping p n c = given Open (seen (wrapped (map_start true p) mapping_end) (
        (chr cs c-mapping-start ◆ maybe (s-separate cs n c))
        ▸ parted n c (ns-flow-map-entry n (inner c) ◂ maybe (s-separate cs n c))
        ◂ chr cs c-mapping-end))

    -- [160] c-flow-json-node(n,c) (7.5), of [157] c-flow-json-content(n,c)
    unfoldable pub c-flow-json-node : ℕ → Ctx → Rule (List Event)
    c-flow-json-node n c = with_value (gives no_props ∪ (c-ns-properties cs handles n c ◂ s-separate cs n c)) (λ p.
        scalar_of p style.single (c-single-quoted cs n c)
        ∪ scalar_of p style.double (c-double-quoted cs n c)
        ∪ c-flow-sequence p n c
        ∪ c-flow-mapping p n c)

    -- [161] ns-flow-node(n,c) (7.5)
    unfoldable pub ns-flow-node : ℕ → Ctx → Rule (List Event)
    ns-flow-node n c = ns-flow-yaml-node n c ∪ c-flow-json-node n c

    -- ---- block nodes

    -- no production: the empty node at the end of a line, in [185] and [194]
    abbrev pub empty_rest : Rule (List Event)
    empty_rest = e-node ◂ s-l-comments cs

    -- [185] s-l+block-indented(n,c) (8.2.1) in block-in
    unfoldable pub s-l+block-indented : ℕ → Rule (List Event)
    s-l+block-indented k =
        some (λ m. given (1 ≤ m) (s-indent cs m ▸ inside (compact_part (k + 1 + m))))
        ∪ inside (block_part (k + 1) block_in)
        ∪ empty_rest

    -- [184] c-l-block-seq-entry(n) (8.2.1)
    unfoldable pub c-l-block-seq-entry : ℕ → Rule (List Event)
    c-l-block-seq-entry k = (chr cs c-sequence-entry ◆ ahead (λ i. Stands cs is_ns i → ⊥)) ▸ s-l+block-indented k

    -- [188] ns-l-block-map-entry(n) (8.2.2), of [192] ns-l-block-map-implicit-entry(n) alone: [193] ns-s-block-map-implicit-key, not
    -- wholly empty, and [194] c-l-block-map-implicit-value(n)
    unfoldable pub ns-l-block-map-entry : ℕ → Rule (List Event)
    ns-l-block-map-entry k = ((ns-s-implicit-yaml-key block_key ∪ c-s-implicit-json-key block_key) ◂ chr cs c-mapping-value)
        ⨾ (inside (block_part (k + 1) block_out) ∪ empty_rest)

    -- [183] l+block-sequence(n) (8.2.1): n + m for some m of at least 1 is some k with col ≤ k
    unfoldable pub l+block-sequence : Props → ℕ → Rule (List Event)
    l+block-sequence p col = given Open (seen (wrapped (seq_start false p) sequence_end)
        (some (λ k. given (col ≤ k) (any_one (s-indent cs k ▸ c-l-block-seq-entry k)))))

    -- [187] l+block-mapping(n) (8.2.2)
    unfoldable pub l+block-mapping : Props → ℕ → Rule (List Event)
    l+block-mapping p col = given Open (seen (wrapped (map_start false p) mapping_end)
        (some (λ k. given (col ≤ k) (any_one (s-indent cs k ▸ ns-l-block-map-entry k)))))

    -- [186] ns-l-compact-sequence(n) (8.2.1): as an entry's node, without properties
    unfoldable pub ns-l-compact-sequence : ℕ → Rule (List Event)
    ns-l-compact-sequence k = given Open (seen (wrapped (seq_start false no_props) sequence_end) (c-l-block-seq-entry k ⨾ any (s-indent cs k ▸ c-l-block-seq-entry k)))

    -- [195] ns-l-compact-mapping(n) (8.2.2): the same
    unfoldable pub ns-l-compact-mapping : ℕ → Rule (List Event)
    ns-l-compact-mapping k = given Open (seen (wrapped (map_start false no_props) mapping_end) (ns-l-block-map-entry k ⨾ any (s-indent cs k ▸ ns-l-block-map-entry k)))

    -- [201] seq-space(n,c) (8.2.3): in block-out a sequence may stand a column further left
    abbrev pub seq-space : ℕ → Ctx → ℕ
    seq-space col block_in = col
    seq-space col block_out = col - 1
    seq-space col flow_out = col
    seq-space col flow_in = col
    seq-space col block_key = col
    seq-space col flow_key = col

    -- [197] s-l+flow-in-block(n) (8.2.3)
    abbrev pub s-l+flow-in-block : ℕ → Rule (List Event)
    s-l+flow-in-block col = s-separate cs col flow_out ▸ ns-flow-node col flow_out ◂ s-l-comments cs

    -- [199] s-l+block-scalar(n,c) (8.2.3)
    abbrev pub s-l+block-scalar : ℕ → Ctx → Rule (List Event)
    s-l+block-scalar col c = s-separate cs col c ▸ with_value (gives no_props ∪ (c-ns-properties cs handles col c ◂ s-separate cs col c)) (λ p.
        scalar_of p style.literal (c-l+literal cs col) ∪ scalar_of p style.folded (c-l+folded cs col))

    -- [200] s-l+block-collection(n,c) (8.2.3)
    abbrev pub s-l+block-collection : ℕ → Ctx → Rule (List Event)
    s-l+block-collection col c = with_value ((gives no_props ∪ (s-separate cs col c ▸ c-ns-properties cs handles col c)) ◂ s-l-comments cs) (λ p.
        l+block-mapping p col ∪ l+block-sequence p (seq-space col c))

    -- [198] s-l+block-in-block(n,c) (8.2.3)
    abbrev pub s-l+block-in-block : ℕ → Ctx → Rule (List Event)
    s-l+block-in-block col c = s-l+block-scalar col c ∪ s-l+block-collection col c

    -- [196] s-l+block-node(n,c) (8.2.3)
    unfoldable pub s-l+block-node : ℕ → Ctx → Rule (List Event)
    s-l+block-node col c = s-l+flow-in-block col ∪ s-l+block-in-block col c

    -- no production: the reading of a part
    abbrev pub part : Part → Rule (List Event)
    part (yaml_part n c) = ns-flow-yaml-node n c
    part (json_part n c) = c-flow-json-node n c
    part (pair_part n c) = ns-flow-pair n c
    part (block_part col c) = s-l+block-node col c
    part (compact_part k) = ns-l-compact-sequence k ∪ ns-l-compact-mapping k

  -- no production: a part in which so many collections may be open, one inside another
  unfoldable pub reads : ℕ → Part → Rule (List Event)
  reads zero p = part ⊥ (λ q. never) p
  reads (suc room) p = part (Unit {0}) (reads room) p
