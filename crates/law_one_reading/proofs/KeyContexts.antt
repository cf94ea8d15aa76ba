-- What is read as a key, on one line, is read outside keys too.
use Rattle.std.proofs.Common.{ℕ, zero, suc, List, inl, inr}
use Rattle.yaml_definitions.specs.model.Event.{Event}
use Rattle.yaml_definitions.specs.grammar.Rules.{Span, Rule, ◌◆◌, ◌▸◌, ◌◂◌, never, maybe, chr, Stands}
use Rattle.yaml_definitions.specs.grammar.Separation.{Ctx, flow_key, flow_in, flow_out, block_key, inner, s-separate as separate, s-separate-lines as separate_lines}
use Rattle.yaml_definitions.specs.grammar.Events.{Props}
use Rattle.yaml_definitions.specs.grammar.Tags as tags
use Rattle.yaml_definitions.specs.grammar.FlowScalars as flow
use Rattle.yaml_definitions.specs.grammar.Nodes as nodes
use Rattle.yaml_definitions.specs.grammar.Nodes.{Part, yaml_part, json_part, pair_part, block_part, compact_part, part, reads}
use Rattle.yaml_definitions.proofs.grammar.Widening.{Within, same, in_before, in_after, in_joined, in_either, in_taking, in_seen, in_given, in_bounded, in_any, in_optional}

-- a key's context and the one outside keys
pub data Eases : Ctx → Ctx → Type 0 where
  at_block : Eases block_key flow_out
  at_flow : Eases flow_key flow_in

inner_eases : (c d : Ctx) → Eases c d → Eases (inner c) (inner d)
unfolding inner
inner_eases _ _ at_block = at_flow
inner_eases _ _ at_flow = at_flow

in_spans : {V : Type 0} {R T : Span} {S U : Rule V} → ((i j : ℕ) → R i j → T i j) → Within S U → Within (R ▸ S) (T ▸ U)
in_spans g f i j v (k, r, s) = (k, g i k r, f k j v s)

in_ending : {V : Type 0} {R T : Rule V} {S U : Span} → Within R T → ((i j : ℕ) → S i j → U i j) → Within (R ◂ S) (T ◂ U)
in_ending f g i j v (k, r, s) = (k, f i k v r, g k j s)

in_nothing : {V : Type 0} (R : Rule V) → Within never R
in_nothing R i j v h = absurd h

module _ (cs : List ℕ) where
  in_separate : (c d : Ctx) → Eases c d → (m n i j : ℕ) → separate cs m c i j → separate cs n d i j
  unfolding separate separate_lines
  in_separate _ _ at_block m n i j r = inr r
  in_separate _ _ at_flow m n i j r = inr r

  in_maybe : (c d : Ctx) → Eases c d → (m n i j : ℕ) → maybe (separate cs m c) i j → maybe (separate cs n d) i j
  in_maybe c d e m n i j (inl h) = inl h
  in_maybe c d e m n i j (inr r) = inr (in_separate c d e m n i j r)

  in_several : (c d : Ctx) → Eases c d → (R S : Rule (List ℕ)) → Within (flow.several cs c R) (flow.several cs d S)
  in_several _ _ at_block R S = in_nothing S
  in_several _ _ at_flow R S = in_nothing S

  in_plain : (c d : Ctx) → Eases c d → (m n : ℕ) → Within (flow.ns-plain cs m c) (flow.ns-plain cs n d)
  unfolding flow.ns-plain flow.plain_line flow.PlainFirst flow.PlainChar flow.plain_safe flow.is_flow
  in_plain _ _ at_block m n = in_bounded _ (in_joined (same _) (in_any (in_joined (in_nothing _) (same _))))
  in_plain _ _ at_flow m n = in_bounded _ (in_joined (same _) (in_any (in_joined (in_nothing _) (same _))))

  module _ (solid loose folded escaped folds breaks : Rule (List ℕ)) (f : Within folded folds) (g : Within escaped breaks) where
    in_broken : Within (flow.broken_line cs solid loose folded escaped) (flow.broken_line cs solid loose folds breaks)
    in_broken = in_either (in_joined (same _) f) (in_joined (same _) g)

    in_quoted : Within (flow.quoted_lines cs solid loose folded escaped) (flow.quoted_lines cs solid loose folds breaks)
    in_quoted = in_either (same _) (in_joined in_broken (in_joined (in_any (in_joined (same _) in_broken)) (same _)))

  pub in_single : (c d : Ctx) → Eases c d → (m n : ℕ) → Within (flow.c-single-quoted cs m c) (flow.c-single-quoted cs n d)
  unfolding flow.c-single-quoted
  in_single c d e m n = in_bounded _ (in_before _ (in_after _ (in_quoted _ _ _ _ _ _ (in_several c d e _ _) (same _))))

  pub in_double : (c d : Ctx) → Eases c d → (m n : ℕ) → Within (flow.c-double-quoted cs m c) (flow.c-double-quoted cs n d)
  unfolding flow.c-double-quoted
  in_double c d e m n = in_bounded _ (in_before _ (in_after _ (in_quoted _ _ _ _ _ _ (in_several c d e _ _) (in_several c d e _ _))))

  in_properties : (c d : Ctx) → Eases c d → (handles : tags.Handles) (m n : ℕ) → Within (tags.c-ns-properties cs handles m c) (tags.c-ns-properties cs handles n d)
  unfolding tags.c-ns-properties
  in_properties c d e handles m n = in_either
      (in_taking (same _) (λ t. in_either (same _) (in_spans (in_separate c d e m n) (same _))))
      (in_taking (same _) (λ a. in_either (same _) (in_spans (in_separate c d e m n) (same _))))

  safe_ahead : (c d : Ctx) → Eases c d → (i : ℕ) → (Stands cs (flow.plain_safe c) i → ⊥) → Stands cs (flow.plain_safe d) i → ⊥
  unfolding flow.plain_safe flow.is_flow
  safe_ahead _ _ at_block i h = h
  safe_ahead _ _ at_flow i h = h

  module _ (Wide : Type 0) (handles : tags.Handles) where
    module _ (Open : Type 0) (inside : Part → Rule (List Event))
        (f : (c d : Ctx) → Eases c d → (m n : ℕ) → Within (inside (yaml_part m c)) (inside (yaml_part n d)))
        (g : (c d : Ctx) → Eases c d → (m n : ℕ) → Within (inside (json_part m c)) (inside (json_part n d)))
        (h : (c d : Ctx) → Eases c d → (m n : ℕ) → Within (inside (pair_part m c)) (inside (pair_part n d)))
        (c d : Ctx) (e : Eases c d) (m n : ℕ) where
      sep1 : (i j : ℕ) → separate cs m c i j → separate cs n d i j
      sep1 = in_separate c d e m n

      may : (i j : ℕ) → maybe (separate cs m c) i j → maybe (separate cs n d) i j
      may = in_maybe c d e m n

      opened : (x i j : ℕ) → (chr cs x ◆ maybe (separate cs m c)) i j → (chr cs x ◆ maybe (separate cs n d)) i j
      opened x i j (k, r, s) = (k, r, may k j s)

      pub in_yaml : Within (nodes.ns-flow-yaml-node cs Wide handles Open inside m c) (nodes.ns-flow-yaml-node cs Wide handles Open inside n d)
      unfolding nodes.ns-flow-yaml-node
      in_yaml = in_either (same _) (in_either (in_seen _ (in_plain c d e m n))
          (in_taking (in_properties c d e handles m n) (λ p. in_either (in_spans sep1 (in_seen _ (in_plain c d e m n))) (same _))))

      inside_flows : Within (nodes.inside_flow cs Wide handles Open inside m c) (nodes.inside_flow cs Wide handles Open inside n d)
      inside_flows = in_either (f c d e m n) (g c d e m n)

      in_value : Within (nodes.c-ns-flow-map-separate-value cs Wide handles Open inside m c) (nodes.c-ns-flow-map-separate-value cs Wide handles Open inside n d)
      unfolding nodes.c-ns-flow-map-separate-value
      in_value = in_spans (λ i j (k, r, (a, b)). (k, r, (a, safe_ahead c d e k b))) (in_either (in_spans sep1 inside_flows) (same _))

      in_adjacent : Within (nodes.c-ns-flow-map-adjacent-value cs Wide handles Open inside m c) (nodes.c-ns-flow-map-adjacent-value cs Wide handles Open inside n d)
      unfolding nodes.c-ns-flow-map-adjacent-value
      in_adjacent = in_before _ (in_either (in_spans may inside_flows) (same _))

      in_implicit : Within (nodes.ns-flow-map-implicit-entry cs Wide handles Open inside m c) (nodes.ns-flow-map-implicit-entry cs Wide handles Open inside n d)
      unfolding nodes.ns-flow-map-implicit-entry nodes.ns-flow-map-yaml-key-entry nodes.c-ns-flow-map-json-key-entry
      in_implicit = in_either (in_joined (f c d e m n) (in_either (in_spans may in_value) (same _))) (in_joined (g c d e m n) (in_either (in_spans may in_adjacent) (same _)))

      in_explicit : Within (nodes.ns-flow-map-explicit-entry cs Wide handles Open inside m c) (nodes.ns-flow-map-explicit-entry cs Wide handles Open inside n d)
      unfolding nodes.ns-flow-map-explicit-entry nodes.c-ns-flow-map-empty-key-entry
      in_explicit = in_spans (λ i j (k, r, s). (k, r, sep1 k j s)) (in_either in_implicit (in_either (in_joined (same _) in_value) (same _)))

      in_entry : Within (nodes.ns-flow-map-entry cs Wide handles Open inside m c) (nodes.ns-flow-map-entry cs Wide handles Open inside n d)
      unfolding nodes.ns-flow-map-entry nodes.c-ns-flow-map-empty-key-entry
      in_entry = in_either in_implicit (in_given (λ w. w) (in_either (in_joined (same _) in_value) in_explicit))

      pub in_pair : Within (nodes.ns-flow-pair cs Wide handles Open inside m c) (nodes.ns-flow-pair cs Wide handles Open inside n d)
      unfolding nodes.ns-flow-pair nodes.c-ns-flow-map-empty-key-entry
      in_pair = in_given (λ o. o) (in_seen _ (in_either (in_joined (same _) in_value) (in_either (in_joined (same _) in_adjacent)
          (in_given (λ w. w) (in_either (in_joined (same _) in_value) in_explicit)))))

      in_parted : {R S : Rule (List Event)} → Within R S → Within (nodes.parted cs Wide handles Open inside m c R) (nodes.parted cs Wide handles Open inside n d S)
      in_parted w = in_joined (in_any (in_ending w (opened 44))) (in_optional w)

    module _ (Open : Type 0) (inside : Part → Rule (List Event))
        (f : (c d : Ctx) → Eases c d → (m n : ℕ) → Within (inside (yaml_part m c)) (inside (yaml_part n d)))
        (g : (c d : Ctx) → Eases c d → (m n : ℕ) → Within (inside (json_part m c)) (inside (json_part n d)))
        (h : (c d : Ctx) → Eases c d → (m n : ℕ) → Within (inside (pair_part m c)) (inside (pair_part n d)))
        (c d : Ctx) (e : Eases c d) (m n : ℕ) where
      pub in_seq : (p : Props) → Within (nodes.c-flow-sequence cs Wide handles Open inside p m c) (nodes.c-flow-sequence cs Wide handles Open inside p n d)
      unfolding nodes.c-flow-sequence
      in_seq p = in_given (λ o. o) (in_seen _ (in_spans (opened Open inside f g h c d e m n 91) (in_after _ (in_parted Open inside f g h c d e m n
          (in_ending (in_either (h _ _ (inner_eases c d e) m n) (in_either (f _ _ (inner_eases c d e) m n) (g _ _ (inner_eases c d e) m n))) (may Open inside f g h c d e m n))))))

      pub in_map : (p : Props) → Within (nodes.c-flow-mapping cs Wide handles Open inside p m c) (nodes.c-flow-mapping cs Wide handles Open inside p n d)
      unfolding nodes.c-flow-mapping
      in_map p = in_given (λ o. o) (in_seen _ (in_spans (opened Open inside f g h c d e m n 123) (in_after _ (in_parted Open inside f g h c d e m n
          (in_ending (in_entry Open inside f g h _ _ (inner_eases c d e) m n) (may Open inside f g h c d e m n))))))

      pub in_json : Within (nodes.c-flow-json-node cs Wide handles Open inside m c) (nodes.c-flow-json-node cs Wide handles Open inside n d)
      unfolding nodes.c-flow-json-node
      in_json = in_taking (in_either (same _) (in_ending (in_properties c d e handles m n) (in_separate c d e m n)))
          (λ p. in_either (in_seen _ (in_single c d e m n)) (in_either (in_seen _ (in_double c d e m n)) (in_either (in_seq p) (in_map p))))

    -- by induction on the room
    pub record Eased (inside : Part → Rule (List Event)) : Type 0 where
      pub yaml : (c d : Ctx) → Eases c d → (m n : ℕ) → Within (inside (yaml_part m c)) (inside (yaml_part n d))
      pub json : (c d : Ctx) → Eases c d → (m n : ℕ) → Within (inside (json_part m c)) (inside (json_part n d))
      pub pair : (c d : Ctx) → Eases c d → (m n : ℕ) → Within (inside (pair_part m c)) (inside (pair_part n d))

    pub eased : (Open : Type 0) (inside : Part → Rule (List Event)) → Eased inside → Eased (part cs Wide handles Open inside)
    eased Open inside r = record {
      yaml = λ c d e m n. in_yaml Open inside r.yaml r.json r.pair c d e m n;
      json = λ c d e m n. in_json Open inside r.yaml r.json r.pair c d e m n;
      pair = λ c d e m n. in_pair Open inside r.yaml r.json r.pair c d e m n;
    }

    pub no_eased : Eased (λ q. never)
    no_eased = record { yaml = λ c d e m n. in_nothing _; json = λ c d e m n. in_nothing _; pair = λ c d e m n. in_nothing _ }

    pub reads_eased : (room : ℕ) → Eased (reads cs Wide handles room)
    unfolding reads
    reads_eased zero = eased ⊥ (λ q. never) (record { yaml = λ c d e m n. in_nothing _; json = λ c d e m n. in_nothing _; pair = λ c d e m n. in_nothing _ })
    reads_eased (suc room) = eased (Unit {0}) (reads cs Wide handles room) (reads_eased room)
