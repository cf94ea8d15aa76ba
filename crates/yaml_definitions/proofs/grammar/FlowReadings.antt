-- Example readings of flow collections (YAML 1.2.2, 7.4 and 7.5). Written by tools/definitions/derive.py.
use Rattle.std.proofs.Common.{ℕ, true, false, List, [], ◌∷◌, Some, None, refl, arith, inl, inr}
use Rattle.std.specs.Prelude.{codes}
use Rattle.std.specs.Str.{is_utf8, chars}
use Rattle.std.proofs.Math.Utf8.{encode}
use Rattle.yaml_definitions.specs.model.Limits.{open_limit}
use Rattle.yaml_definitions.specs.model.Event.{stream_start, stream_end, document_start, document_end, sequence_start, sequence_end, mapping_start, mapping_end, scalar_event, plain, double, untagged, full}
use Rattle.yaml_definitions.specs.grammar.Rules.{done, then, Spans}
use Rattle.yaml_definitions.specs.grammar.Streams.{ReadsText}
use Rattle.yaml_definitions.proofs.grammar.Derive.{not_here, not_behind, none_between, next_between, stands_each, unbroken, unmarked}
use Rattle.yaml_definitions.specs.grammar.Characters as characters
use Rattle.yaml_definitions.specs.grammar.Separation as separation
use Rattle.yaml_definitions.specs.grammar.Tags as tags
use Rattle.yaml_definitions.specs.grammar.FlowScalars as flow
use Rattle.yaml_definitions.specs.grammar.Nodes as nodes
use Rattle.yaml_definitions.specs.grammar.Streams as streams
use Rattle.yaml_definitions.specs.model.Tag as model

abbrev flow_sequence_text : List ℕ
flow_sequence_text = codes "[a, b,]"

-- 7.4.1: a last comma begins no entry
pub flow_sequence : ReadsText flow_sequence_text (Unit {0}) open_limit (
    stream_start
    ∷ document_start false
    ∷ sequence_start true None untagged
    ∷ scalar_event None untagged plain (codes "a")
    ∷ scalar_event None untagged plain (codes "b")
    ∷ sequence_end
    ∷ document_end false
    ∷ stream_end
    ∷ [])
unfolding characters.is_indicator characters.is_flow_indicator characters.is_break characters.is_nb characters.is_space characters.is_white characters.is_ns separation.inner separation.StartsLine separation.s-indent separation.s-separate-in-line separation.b-comment separation.s-b-comment separation.s-l-comments separation.s-separate-lines separation.s-separate separation.DocumentMarkOf separation.DocumentMark flow.is_flow flow.plain_safe flow.PlainFirst flow.PlainChar flow.plain_line flow.ns-plain nodes.ns-flow-yaml-node nodes.c-flow-sequence nodes.c-flow-json-node nodes.ns-flow-node nodes.s-l+block-node nodes.reads streams.ends_explicitly streams.piece_events streams.stream_of_pieces streams.l-bare-document streams.l-any-document streams.l-yaml-stream streams.ReadsText encode
flow_sequence = (((streams.document_piece false ((sequence_start true None untagged) ∷ (scalar_event None untagged plain (codes "a")) ∷ (scalar_event None untagged plain (codes "b")) ∷ sequence_end ∷ [])) ∷ []), (7, ((streams.document_piece false ((sequence_start true None untagged) ∷ (scalar_event None untagged plain (codes "a")) ∷ (scalar_event None untagged plain (codes "b")) ∷ sequence_end ∷ [])) ∷ []), [], (0, (Spans.done refl), (inr (inl (((sequence_start true None untagged) ∷ (scalar_event None untagged plain (codes "a")) ∷ (scalar_event None untagged plain (codes "b")) ∷ sequence_end ∷ []), ((unmarked flow_sequence_text 0 7 refl), (inl (0, (inl (0, (0, (inr (refl, (inl refl))), (Spans.done refl)), (0, ((stands_each flow_sequence_text _ 0 0 refl), refl), (stands_each flow_sequence_text _ 0 0 refl)))), (7, (inr (0, (record { anchor = None; tag = untagged }), (inl (refl, refl)), (inr (inr (inl (tt, (((scalar_event None untagged plain (codes "a")) ∷ (scalar_event None untagged plain (codes "b")) ∷ []), (1, (1, (refl, refl), (inl refl)), (6, (6, ((scalar_event None untagged plain (codes "a")) ∷ (scalar_event None untagged plain (codes "b")) ∷ []), [], (then 4 ((scalar_event None untagged plain (codes "a")) ∷ []) ((scalar_event None untagged plain (codes "b")) ∷ []) (2, (2, (inr (inl (inr (inl ((codes "a"), ((unmarked flow_sequence_text 1 1 refl), (2, (codes "a"), [], (((λ h. (not_behind flow_sequence_text _ 1 refl h)), (2, ((inl (97, refl, refl)), refl), ((omega arith), (none_between _ 2)))), refl), (done refl refl), refl)), refl))))), (inl refl)), (3, (refl, refl), (inr (inr (inl ((stands_each flow_sequence_text _ 3 1 refl), (omega arith))))))) (then 6 ((scalar_event None untagged plain (codes "b")) ∷ []) [] (5, (5, (inr (inl (inr (inl ((codes "b"), ((unmarked flow_sequence_text 4 1 refl), (5, (codes "b"), [], (((λ h. (not_behind flow_sequence_text _ 4 refl h)), (5, ((inl (98, refl, refl)), refl), ((omega arith), (none_between _ 5)))), refl), (done refl refl), refl)), refl))))), (inl refl)), (6, (refl, refl), (inl refl))) (done refl refl) refl) refl), (inl (refl, refl)), refl), (refl, refl))), refl))))))), (7, (inl (7, (inl refl), (inr (refl, refl)))), (Spans.done refl)))))), refl)))), (done refl refl), refl), refl)

abbrev flow_mapping_text : List ℕ
flow_mapping_text = codes "{a: b, c}"

-- 7.4.2: a key without a value has an empty one
pub flow_mapping : ReadsText flow_mapping_text (Unit {0}) open_limit (
    stream_start
    ∷ document_start false
    ∷ mapping_start true None untagged
    ∷ scalar_event None untagged plain (codes "a")
    ∷ scalar_event None untagged plain (codes "b")
    ∷ scalar_event None untagged plain (codes "c")
    ∷ scalar_event None untagged plain []
    ∷ mapping_end
    ∷ document_end false
    ∷ stream_end
    ∷ [])
unfolding characters.is_indicator characters.is_flow_indicator characters.is_break characters.is_nb characters.is_space characters.is_white characters.is_ns separation.inner separation.StartsLine separation.s-indent separation.s-separate-in-line separation.b-comment separation.s-b-comment separation.s-l-comments separation.s-separate-lines separation.s-separate separation.DocumentMarkOf separation.DocumentMark flow.is_flow flow.plain_safe flow.PlainFirst flow.PlainChar flow.plain_line flow.ns-plain nodes.ns-flow-yaml-node nodes.c-ns-flow-map-separate-value nodes.ns-flow-map-yaml-key-entry nodes.ns-flow-map-implicit-entry nodes.ns-flow-map-entry nodes.c-flow-mapping nodes.c-flow-json-node nodes.ns-flow-node nodes.s-l+block-node nodes.reads streams.ends_explicitly streams.piece_events streams.stream_of_pieces streams.l-bare-document streams.l-any-document streams.l-yaml-stream streams.ReadsText encode
flow_mapping = (((streams.document_piece false ((mapping_start true None untagged) ∷ (scalar_event None untagged plain (codes "a")) ∷ (scalar_event None untagged plain (codes "b")) ∷ (scalar_event None untagged plain (codes "c")) ∷ (scalar_event None untagged plain []) ∷ mapping_end ∷ [])) ∷ []), (9, ((streams.document_piece false ((mapping_start true None untagged) ∷ (scalar_event None untagged plain (codes "a")) ∷ (scalar_event None untagged plain (codes "b")) ∷ (scalar_event None untagged plain (codes "c")) ∷ (scalar_event None untagged plain []) ∷ mapping_end ∷ [])) ∷ []), [], (0, (Spans.done refl), (inr (inl (((mapping_start true None untagged) ∷ (scalar_event None untagged plain (codes "a")) ∷ (scalar_event None untagged plain (codes "b")) ∷ (scalar_event None untagged plain (codes "c")) ∷ (scalar_event None untagged plain []) ∷ mapping_end ∷ []), ((unmarked flow_mapping_text 0 9 refl), (inl (0, (inl (0, (0, (inr (refl, (inl refl))), (Spans.done refl)), (0, ((stands_each flow_mapping_text _ 0 0 refl), refl), (stands_each flow_mapping_text _ 0 0 refl)))), (9, (inr (0, (record { anchor = None; tag = untagged }), (inl (refl, refl)), (inr (inr (inr (tt, (((scalar_event None untagged plain (codes "a")) ∷ (scalar_event None untagged plain (codes "b")) ∷ (scalar_event None untagged plain (codes "c")) ∷ (scalar_event None untagged plain []) ∷ []), (1, (1, (refl, refl), (inl refl)), (8, (7, ((scalar_event None untagged plain (codes "a")) ∷ (scalar_event None untagged plain (codes "b")) ∷ []), ((scalar_event None untagged plain (codes "c")) ∷ (scalar_event None untagged plain []) ∷ []), (then 7 ((scalar_event None untagged plain (codes "a")) ∷ (scalar_event None untagged plain (codes "b")) ∷ []) [] (5, (5, (inl (inl (2, ((scalar_event None untagged plain (codes "a")) ∷ []), ((scalar_event None untagged plain (codes "b")) ∷ []), (inr (inl ((codes "a"), ((unmarked flow_mapping_text 1 1 refl), (2, (codes "a"), [], (((λ h. (not_behind flow_mapping_text _ 1 refl h)), (2, ((inl (97, refl, refl)), refl), ((omega arith), (none_between _ 2)))), refl), (done refl refl), refl)), refl))), (inl (2, (inl refl), (3, (3, (refl, refl), (refl, (λ h. (not_here flow_mapping_text _ 3 refl h)))), (inl (4, (inr (inl ((stands_each flow_mapping_text _ 3 1 refl), (omega arith)))), (inl (inr (inl ((codes "b"), ((unmarked flow_mapping_text 4 1 refl), (5, (codes "b"), [], (((λ h. (not_behind flow_mapping_text _ 4 refl h)), (5, ((inl (98, refl, refl)), refl), ((omega arith), (none_between _ 5)))), refl), (done refl refl), refl)), refl))))))))), refl))), (inl refl)), (6, (refl, refl), (inr (inr (inl ((stands_each flow_mapping_text _ 6 1 refl), (omega arith))))))) (done refl refl) refl), (inr (8, (inl (inl (8, ((scalar_event None untagged plain (codes "c")) ∷ []), ((scalar_event None untagged plain []) ∷ []), (inr (inl ((codes "c"), ((unmarked flow_mapping_text 7 1 refl), (8, (codes "c"), [], (((λ h. (not_behind flow_mapping_text _ 7 refl h)), (8, ((inl (99, refl, refl)), refl), ((omega arith), (none_between _ 8)))), refl), (done refl refl), refl)), refl))), (inr (refl, refl)), refl))), (inl refl))), refl), (refl, refl))), refl))))))), (9, (inl (9, (inl refl), (inr (refl, refl)))), (Spans.done refl)))))), refl)))), (done refl refl), refl), refl)

abbrev single_pair_text : List ℕ
single_pair_text = codes "[a: b]"

-- 7.4.2: a pair in a sequence is a mapping of one entry
pub single_pair : ReadsText single_pair_text (Unit {0}) open_limit (
    stream_start
    ∷ document_start false
    ∷ sequence_start true None untagged
    ∷ mapping_start true None untagged
    ∷ scalar_event None untagged plain (codes "a")
    ∷ scalar_event None untagged plain (codes "b")
    ∷ mapping_end
    ∷ sequence_end
    ∷ document_end false
    ∷ stream_end
    ∷ [])
unfolding characters.is_indicator characters.is_flow_indicator characters.is_break characters.is_nb characters.is_space characters.is_white characters.is_ns separation.inner separation.StartsLine separation.s-indent separation.s-separate-in-line separation.b-comment separation.s-b-comment separation.s-l-comments separation.s-separate-lines separation.s-separate separation.DocumentMarkOf separation.DocumentMark flow.is_flow flow.plain_safe flow.PlainFirst flow.PlainChar flow.plain_line flow.ns-plain nodes.ns-flow-yaml-node nodes.c-ns-flow-map-separate-value nodes.ns-s-implicit-yaml-key nodes.ns-flow-pair nodes.c-flow-sequence nodes.c-flow-json-node nodes.ns-flow-node nodes.s-l+block-node nodes.reads streams.ends_explicitly streams.piece_events streams.stream_of_pieces streams.l-bare-document streams.l-any-document streams.l-yaml-stream streams.ReadsText encode
single_pair = (((streams.document_piece false ((sequence_start true None untagged) ∷ (mapping_start true None untagged) ∷ (scalar_event None untagged plain (codes "a")) ∷ (scalar_event None untagged plain (codes "b")) ∷ mapping_end ∷ sequence_end ∷ [])) ∷ []), (6, ((streams.document_piece false ((sequence_start true None untagged) ∷ (mapping_start true None untagged) ∷ (scalar_event None untagged plain (codes "a")) ∷ (scalar_event None untagged plain (codes "b")) ∷ mapping_end ∷ sequence_end ∷ [])) ∷ []), [], (0, (Spans.done refl), (inr (inl (((sequence_start true None untagged) ∷ (mapping_start true None untagged) ∷ (scalar_event None untagged plain (codes "a")) ∷ (scalar_event None untagged plain (codes "b")) ∷ mapping_end ∷ sequence_end ∷ []), ((unmarked single_pair_text 0 6 refl), (inl (0, (inl (0, (0, (inr (refl, (inl refl))), (Spans.done refl)), (0, ((stands_each single_pair_text _ 0 0 refl), refl), (stands_each single_pair_text _ 0 0 refl)))), (6, (inr (0, (record { anchor = None; tag = untagged }), (inl (refl, refl)), (inr (inr (inl (tt, (((mapping_start true None untagged) ∷ (scalar_event None untagged plain (codes "a")) ∷ (scalar_event None untagged plain (codes "b")) ∷ mapping_end ∷ []), (1, (1, (refl, refl), (inl refl)), (5, (1, [], ((mapping_start true None untagged) ∷ (scalar_event None untagged plain (codes "a")) ∷ (scalar_event None untagged plain (codes "b")) ∷ mapping_end ∷ []), (done refl refl), (inr (5, (inl (tt, (((scalar_event None untagged plain (codes "a")) ∷ (scalar_event None untagged plain (codes "b")) ∷ []), (inl (2, ((scalar_event None untagged plain (codes "a")) ∷ []), ((scalar_event None untagged plain (codes "b")) ∷ []), (((unbroken single_pair_text 1 1 refl), (omega arith)), (2, (inr (inl ((codes "a"), ((unmarked single_pair_text 1 1 refl), (2, (codes "a"), [], (((λ h. (not_behind single_pair_text _ 1 refl h)), (2, ((inl (97, refl, refl)), refl), ((omega arith), (none_between _ 2)))), refl), (done refl refl), refl)), refl))), (inl refl))), (3, (3, (refl, refl), (refl, (λ h. (not_here single_pair_text _ 3 refl h)))), (inl (4, (inr (inl ((stands_each single_pair_text _ 3 1 refl), (omega arith)))), (inl (inr (inl ((codes "b"), ((unmarked single_pair_text 4 1 refl), (5, (codes "b"), [], (((λ h. (not_behind single_pair_text _ 4 refl h)), (5, ((inl (98, refl, refl)), refl), ((omega arith), (none_between _ 5)))), refl), (done refl refl), refl)), refl))))))), refl)), refl))), (inl refl))), refl), (refl, refl))), refl))))))), (6, (inl (6, (inl refl), (inr (refl, refl)))), (Spans.done refl)))))), refl)))), (done refl refl), refl), refl)

abbrev adjacent_value_text : List ℕ
adjacent_value_text = codes "{\"a\":b}"

-- 7.4.2: a value may stand right after the `:` of a JSON-like key
pub adjacent_value : ReadsText adjacent_value_text (Unit {0}) open_limit (
    stream_start
    ∷ document_start false
    ∷ mapping_start true None untagged
    ∷ scalar_event None untagged double (codes "a")
    ∷ scalar_event None untagged plain (codes "b")
    ∷ mapping_end
    ∷ document_end false
    ∷ stream_end
    ∷ [])
unfolding characters.is_indicator characters.is_flow_indicator characters.is_break characters.is_nb characters.is_space characters.is_white characters.is_ns separation.inner separation.StartsLine separation.s-indent separation.b-comment separation.s-b-comment separation.s-l-comments separation.s-separate-lines separation.s-separate separation.DocumentMarkOf separation.DocumentMark flow.is_flow flow.plain_safe flow.ns-double-char flow.c-double-quoted flow.PlainFirst flow.PlainChar flow.plain_line flow.ns-plain nodes.ns-flow-yaml-node nodes.c-ns-flow-map-adjacent-value nodes.c-ns-flow-map-json-key-entry nodes.ns-flow-map-implicit-entry nodes.ns-flow-map-entry nodes.c-flow-mapping nodes.c-flow-json-node nodes.ns-flow-node nodes.s-l+block-node nodes.reads streams.ends_explicitly streams.piece_events streams.stream_of_pieces streams.l-bare-document streams.l-any-document streams.l-yaml-stream streams.ReadsText encode
adjacent_value = (((streams.document_piece false ((mapping_start true None untagged) ∷ (scalar_event None untagged double (codes "a")) ∷ (scalar_event None untagged plain (codes "b")) ∷ mapping_end ∷ [])) ∷ []), (7, ((streams.document_piece false ((mapping_start true None untagged) ∷ (scalar_event None untagged double (codes "a")) ∷ (scalar_event None untagged plain (codes "b")) ∷ mapping_end ∷ [])) ∷ []), [], (0, (Spans.done refl), (inr (inl (((mapping_start true None untagged) ∷ (scalar_event None untagged double (codes "a")) ∷ (scalar_event None untagged plain (codes "b")) ∷ mapping_end ∷ []), ((unmarked adjacent_value_text 0 7 refl), (inl (0, (inl (0, (0, (inr (refl, (inl refl))), (Spans.done refl)), (0, ((stands_each adjacent_value_text _ 0 0 refl), refl), (stands_each adjacent_value_text _ 0 0 refl)))), (7, (inr (0, (record { anchor = None; tag = untagged }), (inl (refl, refl)), (inr (inr (inr (tt, (((scalar_event None untagged double (codes "a")) ∷ (scalar_event None untagged plain (codes "b")) ∷ []), (1, (1, (refl, refl), (inl refl)), (6, (1, [], ((scalar_event None untagged double (codes "a")) ∷ (scalar_event None untagged plain (codes "b")) ∷ []), (done refl refl), (inr (6, (inl (inr (4, ((scalar_event None untagged double (codes "a")) ∷ []), ((scalar_event None untagged plain (codes "b")) ∷ []), (1, (record { anchor = None; tag = untagged }), (inl (refl, refl)), (inr (inl ((codes "a"), ((unmarked adjacent_value_text 1 3 refl), (2, (refl, refl), (3, (inl (then 3 (codes "a") [] (inl (97, (inl (refl, refl, refl)), refl)) (done refl refl) refl)), (refl, refl)))), refl)))), (inl (4, (inl refl), (5, (refl, refl), (inl (5, (inl refl), (inl (inr (inl ((codes "b"), ((unmarked adjacent_value_text 5 1 refl), (6, (codes "b"), [], (((λ h. (not_behind adjacent_value_text _ 5 refl h)), (6, ((inl (98, refl, refl)), refl), ((omega arith), (none_between _ 6)))), refl), (done refl refl), refl)), refl))))))))), refl))), (inl refl))), refl), (refl, refl))), refl))))))), (7, (inl (7, (inl refl), (inr (refl, refl)))), (Spans.done refl)))))), refl)))), (done refl refl), refl), refl)

abbrev sequence_in_flow_mapping_text : List ℕ
sequence_in_flow_mapping_text = codes "{a: [1, 0x1]}"

-- 7.4: a sequence in a mapping
pub sequence_in_flow_mapping : ReadsText sequence_in_flow_mapping_text (Unit {0}) open_limit (
    stream_start
    ∷ document_start false
    ∷ mapping_start true None untagged
    ∷ scalar_event None untagged plain (codes "a")
    ∷ sequence_start true None untagged
    ∷ scalar_event None untagged plain (codes "1")
    ∷ scalar_event None untagged plain (codes "0x1")
    ∷ sequence_end
    ∷ mapping_end
    ∷ document_end false
    ∷ stream_end
    ∷ [])
unfolding characters.is_indicator characters.is_flow_indicator characters.is_break characters.is_nb characters.is_space characters.is_white characters.is_ns separation.inner separation.StartsLine separation.s-indent separation.s-separate-in-line separation.b-comment separation.s-b-comment separation.s-l-comments separation.s-separate-lines separation.s-separate separation.DocumentMarkOf separation.DocumentMark flow.is_flow flow.plain_safe flow.PlainFirst flow.PlainChar flow.plain_line flow.ns-plain nodes.ns-flow-yaml-node nodes.c-ns-flow-map-separate-value nodes.ns-flow-map-yaml-key-entry nodes.ns-flow-map-implicit-entry nodes.ns-flow-map-entry nodes.c-flow-sequence nodes.c-flow-mapping nodes.c-flow-json-node nodes.ns-flow-node nodes.s-l+block-node nodes.reads streams.ends_explicitly streams.piece_events streams.stream_of_pieces streams.l-bare-document streams.l-any-document streams.l-yaml-stream streams.ReadsText encode
sequence_in_flow_mapping = (((streams.document_piece false ((mapping_start true None untagged) ∷ (scalar_event None untagged plain (codes "a")) ∷ (sequence_start true None untagged) ∷ (scalar_event None untagged plain (codes "1")) ∷ (scalar_event None untagged plain (codes "0x1")) ∷ sequence_end ∷ mapping_end ∷ [])) ∷ []), (13, ((streams.document_piece false ((mapping_start true None untagged) ∷ (scalar_event None untagged plain (codes "a")) ∷ (sequence_start true None untagged) ∷ (scalar_event None untagged plain (codes "1")) ∷ (scalar_event None untagged plain (codes "0x1")) ∷ sequence_end ∷ mapping_end ∷ [])) ∷ []), [], (0, (Spans.done refl), (inr (inl (((mapping_start true None untagged) ∷ (scalar_event None untagged plain (codes "a")) ∷ (sequence_start true None untagged) ∷ (scalar_event None untagged plain (codes "1")) ∷ (scalar_event None untagged plain (codes "0x1")) ∷ sequence_end ∷ mapping_end ∷ []), ((unmarked sequence_in_flow_mapping_text 0 13 refl), (inl (0, (inl (0, (0, (inr (refl, (inl refl))), (Spans.done refl)), (0, ((stands_each sequence_in_flow_mapping_text _ 0 0 refl), refl), (stands_each sequence_in_flow_mapping_text _ 0 0 refl)))), (13, (inr (0, (record { anchor = None; tag = untagged }), (inl (refl, refl)), (inr (inr (inr (tt, (((scalar_event None untagged plain (codes "a")) ∷ (sequence_start true None untagged) ∷ (scalar_event None untagged plain (codes "1")) ∷ (scalar_event None untagged plain (codes "0x1")) ∷ sequence_end ∷ []), (1, (1, (refl, refl), (inl refl)), (12, (1, [], ((scalar_event None untagged plain (codes "a")) ∷ (sequence_start true None untagged) ∷ (scalar_event None untagged plain (codes "1")) ∷ (scalar_event None untagged plain (codes "0x1")) ∷ sequence_end ∷ []), (done refl refl), (inr (12, (inl (inl (2, ((scalar_event None untagged plain (codes "a")) ∷ []), ((sequence_start true None untagged) ∷ (scalar_event None untagged plain (codes "1")) ∷ (scalar_event None untagged plain (codes "0x1")) ∷ sequence_end ∷ []), (inr (inl ((codes "a"), ((unmarked sequence_in_flow_mapping_text 1 1 refl), (2, (codes "a"), [], (((λ h. (not_behind sequence_in_flow_mapping_text _ 1 refl h)), (2, ((inl (97, refl, refl)), refl), ((omega arith), (none_between _ 2)))), refl), (done refl refl), refl)), refl))), (inl (2, (inl refl), (3, (3, (refl, refl), (refl, (λ h. (not_here sequence_in_flow_mapping_text _ 3 refl h)))), (inl (4, (inr (inl ((stands_each sequence_in_flow_mapping_text _ 3 1 refl), (omega arith)))), (inr (4, (record { anchor = None; tag = untagged }), (inl (refl, refl)), (inr (inr (inl (tt, (((scalar_event None untagged plain (codes "1")) ∷ (scalar_event None untagged plain (codes "0x1")) ∷ []), (5, (5, (refl, refl), (inl refl)), (11, (8, ((scalar_event None untagged plain (codes "1")) ∷ []), ((scalar_event None untagged plain (codes "0x1")) ∷ []), (then 8 ((scalar_event None untagged plain (codes "1")) ∷ []) [] (6, (6, (inr (inl (inr (inl ((codes "1"), ((unmarked sequence_in_flow_mapping_text 5 1 refl), (6, (codes "1"), [], (((λ h. (not_behind sequence_in_flow_mapping_text _ 5 refl h)), (6, ((inl (49, refl, refl)), refl), ((omega arith), (none_between _ 6)))), refl), (done refl refl), refl)), refl))))), (inl refl)), (7, (refl, refl), (inr (inr (inl ((stands_each sequence_in_flow_mapping_text _ 7 1 refl), (omega arith))))))) (done refl refl) refl), (inr (11, (inr (inl (inr (inl ((codes "0x1"), ((unmarked sequence_in_flow_mapping_text 8 3 refl), (11, (codes "0x1"), [], (((λ h. (not_behind sequence_in_flow_mapping_text _ 10 refl h)), (9, ((inl (48, refl, refl)), refl), ((omega arith), (next_between _ 9 11 (inl (inl (120, refl, refl))) (next_between _ 10 11 (inl (inl (49, refl, refl))) (none_between _ 11)))))), refl), (done refl refl), refl)), refl))))), (inl refl))), refl), (refl, refl))), refl)))))))))))), refl))), (inl refl))), refl), (refl, refl))), refl))))))), (13, (inl (13, (inl refl), (inr (refl, refl)))), (Spans.done refl)))))), refl)))), (done refl refl), refl), refl)

abbrev nested_lines_text : List ℕ
nested_lines_text = codes "{k: [a, # c\n  b ]}"

-- 7.4: flow collections over lines, with a comment
pub nested_lines : ReadsText nested_lines_text (Unit {0}) open_limit (
    stream_start
    ∷ document_start false
    ∷ mapping_start true None untagged
    ∷ scalar_event None untagged plain (codes "k")
    ∷ sequence_start true None untagged
    ∷ scalar_event None untagged plain (codes "a")
    ∷ scalar_event None untagged plain (codes "b")
    ∷ sequence_end
    ∷ mapping_end
    ∷ document_end false
    ∷ stream_end
    ∷ [])
unfolding characters.is_indicator characters.is_flow_indicator characters.is_break characters.is_nb characters.is_space characters.is_white characters.is_ns characters.b-break separation.inner separation.StartsLine separation.s-indent separation.s-separate-in-line separation.c-nb-comment-text separation.b-comment separation.s-b-comment separation.s-l-comments separation.s-separate-lines separation.s-separate separation.DocumentMarkOf separation.DocumentMark flow.is_flow flow.plain_safe flow.PlainFirst flow.PlainChar flow.plain_line flow.ns-plain nodes.ns-flow-yaml-node nodes.c-ns-flow-map-separate-value nodes.ns-flow-map-yaml-key-entry nodes.ns-flow-map-implicit-entry nodes.ns-flow-map-entry nodes.c-flow-sequence nodes.c-flow-mapping nodes.c-flow-json-node nodes.ns-flow-node nodes.s-l+block-node nodes.reads streams.ends_explicitly streams.piece_events streams.stream_of_pieces streams.l-bare-document streams.l-any-document streams.l-yaml-stream streams.ReadsText encode
nested_lines = (((streams.document_piece false ((mapping_start true None untagged) ∷ (scalar_event None untagged plain (codes "k")) ∷ (sequence_start true None untagged) ∷ (scalar_event None untagged plain (codes "a")) ∷ (scalar_event None untagged plain (codes "b")) ∷ sequence_end ∷ mapping_end ∷ [])) ∷ []), (18, ((streams.document_piece false ((mapping_start true None untagged) ∷ (scalar_event None untagged plain (codes "k")) ∷ (sequence_start true None untagged) ∷ (scalar_event None untagged plain (codes "a")) ∷ (scalar_event None untagged plain (codes "b")) ∷ sequence_end ∷ mapping_end ∷ [])) ∷ []), [], (0, (Spans.done refl), (inr (inl (((mapping_start true None untagged) ∷ (scalar_event None untagged plain (codes "k")) ∷ (sequence_start true None untagged) ∷ (scalar_event None untagged plain (codes "a")) ∷ (scalar_event None untagged plain (codes "b")) ∷ sequence_end ∷ mapping_end ∷ []), ((unmarked nested_lines_text 0 18 refl), (inl (0, (inl (0, (0, (inr (refl, (inl refl))), (Spans.done refl)), (0, ((stands_each nested_lines_text _ 0 0 refl), refl), (stands_each nested_lines_text _ 0 0 refl)))), (18, (inr (0, (record { anchor = None; tag = untagged }), (inl (refl, refl)), (inr (inr (inr (tt, (((scalar_event None untagged plain (codes "k")) ∷ (sequence_start true None untagged) ∷ (scalar_event None untagged plain (codes "a")) ∷ (scalar_event None untagged plain (codes "b")) ∷ sequence_end ∷ []), (1, (1, (refl, refl), (inl refl)), (17, (1, [], ((scalar_event None untagged plain (codes "k")) ∷ (sequence_start true None untagged) ∷ (scalar_event None untagged plain (codes "a")) ∷ (scalar_event None untagged plain (codes "b")) ∷ sequence_end ∷ []), (done refl refl), (inr (17, (inl (inl (2, ((scalar_event None untagged plain (codes "k")) ∷ []), ((sequence_start true None untagged) ∷ (scalar_event None untagged plain (codes "a")) ∷ (scalar_event None untagged plain (codes "b")) ∷ sequence_end ∷ []), (inr (inl ((codes "k"), ((unmarked nested_lines_text 1 1 refl), (2, (codes "k"), [], (((λ h. (not_behind nested_lines_text _ 1 refl h)), (2, ((inl (107, refl, refl)), refl), ((omega arith), (none_between _ 2)))), refl), (done refl refl), refl)), refl))), (inl (2, (inl refl), (3, (3, (refl, refl), (refl, (λ h. (not_here nested_lines_text _ 3 refl h)))), (inl (4, (inr (inl ((stands_each nested_lines_text _ 3 1 refl), (omega arith)))), (inr (4, (record { anchor = None; tag = untagged }), (inl (refl, refl)), (inr (inr (inl (tt, (((scalar_event None untagged plain (codes "a")) ∷ (scalar_event None untagged plain (codes "b")) ∷ []), (5, (5, (refl, refl), (inl refl)), (16, (14, ((scalar_event None untagged plain (codes "a")) ∷ []), ((scalar_event None untagged plain (codes "b")) ∷ []), (then 14 ((scalar_event None untagged plain (codes "a")) ∷ []) [] (6, (6, (inr (inl (inr (inl ((codes "a"), ((unmarked nested_lines_text 5 1 refl), (6, (codes "a"), [], (((λ h. (not_behind nested_lines_text _ 5 refl h)), (6, ((inl (97, refl, refl)), refl), ((omega arith), (none_between _ 6)))), refl), (done refl refl), refl)), refl))))), (inl refl)), (7, (refl, refl), (inr (inl (12, (12, (inl (11, (inr (8, (inl ((stands_each nested_lines_text _ 7 1 refl), (omega arith))), (inr (9, (refl, refl), (stands_each nested_lines_text _ 9 2 refl))))), (inl (inr (inr (11, (refl, (λ h. (not_behind nested_lines_text _ 10 refl h))), (refl, refl))))))), (Spans.done refl)), (12, ((stands_each nested_lines_text _ 12 0 refl), refl), (stands_each nested_lines_text _ 12 2 refl))))))) (done refl refl) refl), (inr (15, (inr (inl (inr (inl ((codes "b"), ((unmarked nested_lines_text 14 1 refl), (15, (codes "b"), [], (((λ h. (not_behind nested_lines_text _ 14 refl h)), (15, ((inl (98, refl, refl)), refl), ((omega arith), (none_between _ 15)))), refl), (done refl refl), refl)), refl))))), (inr (inr (inl ((stands_each nested_lines_text _ 15 1 refl), (omega arith))))))), refl), (refl, refl))), refl)))))))))))), refl))), (inl refl))), refl), (refl, refl))), refl))))))), (18, (inl (18, (inl refl), (inr (refl, refl)))), (Spans.done refl)))))), refl)))), (done refl refl), refl), refl)

abbrev empty_values_text : List ℕ
empty_values_text = codes "[!!str , &a : ]"

-- 7.2: nodes of properties alone, and a value that is empty
pub empty_values : ReadsText empty_values_text (Unit {0}) open_limit (
    stream_start
    ∷ document_start false
    ∷ sequence_start true None untagged
    ∷ scalar_event None (full (codes "tag:yaml.org,2002:str")) plain []
    ∷ mapping_start true None untagged
    ∷ scalar_event (Some (codes "a")) untagged plain []
    ∷ scalar_event None untagged plain []
    ∷ mapping_end
    ∷ sequence_end
    ∷ document_end false
    ∷ stream_end
    ∷ [])
unfolding characters.is_flow_indicator characters.is_break characters.is_nb characters.is_space characters.is_white characters.is_ns characters.is_word characters.is_uri characters.is_tag separation.inner separation.StartsLine separation.s-indent separation.s-separate-in-line separation.b-comment separation.s-b-comment separation.s-l-comments separation.s-separate-lines separation.s-separate separation.DocumentMarkOf separation.DocumentMark tags.percent_decode tags.decoded tags.default_handles tags.prefix_of tags.joined tags.is_name tags.tag_char tags.c-tag-handle tags.c-ns-shorthand-tag tags.c-ns-tag-property tags.ns-anchor-name tags.c-ns-anchor-property tags.c-ns-properties flow.is_flow flow.plain_safe nodes.ns-flow-yaml-node nodes.c-ns-flow-map-separate-value nodes.ns-s-implicit-yaml-key nodes.ns-flow-pair nodes.c-flow-sequence nodes.c-flow-json-node nodes.ns-flow-node nodes.s-l+block-node nodes.reads streams.ends_explicitly streams.piece_events streams.stream_of_pieces streams.l-bare-document streams.l-any-document streams.l-yaml-stream model.is_full streams.ReadsText encode is_utf8 chars
empty_values = (((streams.document_piece false ((sequence_start true None untagged) ∷ (scalar_event None (full (codes "tag:yaml.org,2002:str")) plain []) ∷ (mapping_start true None untagged) ∷ (scalar_event (Some (codes "a")) untagged plain []) ∷ (scalar_event None untagged plain []) ∷ mapping_end ∷ sequence_end ∷ [])) ∷ []), (15, ((streams.document_piece false ((sequence_start true None untagged) ∷ (scalar_event None (full (codes "tag:yaml.org,2002:str")) plain []) ∷ (mapping_start true None untagged) ∷ (scalar_event (Some (codes "a")) untagged plain []) ∷ (scalar_event None untagged plain []) ∷ mapping_end ∷ sequence_end ∷ [])) ∷ []), [], (0, (Spans.done refl), (inr (inl (((sequence_start true None untagged) ∷ (scalar_event None (full (codes "tag:yaml.org,2002:str")) plain []) ∷ (mapping_start true None untagged) ∷ (scalar_event (Some (codes "a")) untagged plain []) ∷ (scalar_event None untagged plain []) ∷ mapping_end ∷ sequence_end ∷ []), ((unmarked empty_values_text 0 15 refl), (inl (0, (inl (0, (0, (inr (refl, (inl refl))), (Spans.done refl)), (0, ((stands_each empty_values_text _ 0 0 refl), refl), (stands_each empty_values_text _ 0 0 refl)))), (15, (inr (0, (record { anchor = None; tag = untagged }), (inl (refl, refl)), (inr (inr (inl (tt, (((scalar_event None (full (codes "tag:yaml.org,2002:str")) plain []) ∷ (mapping_start true None untagged) ∷ (scalar_event (Some (codes "a")) untagged plain []) ∷ (scalar_event None untagged plain []) ∷ mapping_end ∷ []), (1, (1, (refl, refl), (inl refl)), (14, (9, ((scalar_event None (full (codes "tag:yaml.org,2002:str")) plain []) ∷ []), ((mapping_start true None untagged) ∷ (scalar_event (Some (codes "a")) untagged plain []) ∷ (scalar_event None untagged plain []) ∷ mapping_end ∷ []), (then 9 ((scalar_event None (full (codes "tag:yaml.org,2002:str")) plain []) ∷ []) [] (7, (6, (inr (inl (inr (inr (6, (record { anchor = None; tag = (full (codes "tag:yaml.org,2002:str")) }), (inl (6, (full (codes "tag:yaml.org,2002:str")), (6, (inr (inl (3, (codes "!!"), ((inr (inl (2, (refl, refl), (refl, refl)))), refl), ((codes "str"), ((4, (inl ((115, refl, refl), refl)), (Spans.then 5 (inl ((116, refl, refl), refl)) (Spans.then 6 (inl ((114, refl, refl), refl)) (Spans.done refl)))), refl), refl)))), (refl, (λ h. (not_here empty_values_text _ 6 refl h)))), (inl (refl, refl)))), (inr (refl, refl))))))), (inr (inr (inl ((stands_each empty_values_text _ 6 1 refl), (omega arith)))))), (8, (refl, refl), (inr (inr (inl ((stands_each empty_values_text _ 8 1 refl), (omega arith))))))) (done refl refl) refl), (inr (13, (inl (tt, (((scalar_event (Some (codes "a")) untagged plain []) ∷ (scalar_event None untagged plain []) ∷ []), (inl (12, ((scalar_event (Some (codes "a")) untagged plain []) ∷ []), ((scalar_event None untagged plain []) ∷ []), (((unbroken empty_values_text 9 3 refl), (omega arith)), (11, (inr (inr (11, (record { anchor = (Some (codes "a")); tag = untagged }), (inr (11, (codes "a"), (10, (refl, refl), (((stands_each empty_values_text _ 10 1 refl), (omega arith), (λ h. (not_here empty_values_text _ 11 refl h))), refl)), (inl (refl, refl)))), (inr (refl, refl))))), (inr (inl ((stands_each empty_values_text _ 11 1 refl), (omega arith)))))), (13, (13, (refl, refl), (refl, (λ h. (not_here empty_values_text _ 13 refl h)))), (inr (refl, refl))), refl)), refl))), (inr (inr (inl ((stands_each empty_values_text _ 13 1 refl), (omega arith))))))), refl), (refl, refl))), refl))))))), (15, (inl (15, (inl refl), (inr (refl, refl)))), (Spans.done refl)))))), refl)))), (done refl refl), refl), refl)

abbrev explicit_key_text : List ℕ
explicit_key_text = codes "{? a : b}"

-- 7.4.2, in the wide profile: a key after `?`
pub explicit_key : ReadsText explicit_key_text (Unit {0}) open_limit (
    stream_start
    ∷ document_start false
    ∷ mapping_start true None untagged
    ∷ scalar_event None untagged plain (codes "a")
    ∷ scalar_event None untagged plain (codes "b")
    ∷ mapping_end
    ∷ document_end false
    ∷ stream_end
    ∷ [])
unfolding characters.is_indicator characters.is_flow_indicator characters.is_break characters.is_nb characters.is_space characters.is_white characters.is_ns separation.inner separation.StartsLine separation.s-indent separation.s-separate-in-line separation.b-comment separation.s-b-comment separation.s-l-comments separation.s-separate-lines separation.s-separate separation.DocumentMarkOf separation.DocumentMark flow.is_flow flow.plain_safe flow.PlainFirst flow.PlainChar flow.plain_line flow.ns-plain nodes.ns-flow-yaml-node nodes.c-ns-flow-map-separate-value nodes.ns-flow-map-yaml-key-entry nodes.ns-flow-map-implicit-entry nodes.ns-flow-map-explicit-entry nodes.ns-flow-map-entry nodes.c-flow-mapping nodes.c-flow-json-node nodes.ns-flow-node nodes.s-l+block-node nodes.reads streams.ends_explicitly streams.piece_events streams.stream_of_pieces streams.l-bare-document streams.l-any-document streams.l-yaml-stream streams.ReadsText encode
explicit_key = (((streams.document_piece false ((mapping_start true None untagged) ∷ (scalar_event None untagged plain (codes "a")) ∷ (scalar_event None untagged plain (codes "b")) ∷ mapping_end ∷ [])) ∷ []), (9, ((streams.document_piece false ((mapping_start true None untagged) ∷ (scalar_event None untagged plain (codes "a")) ∷ (scalar_event None untagged plain (codes "b")) ∷ mapping_end ∷ [])) ∷ []), [], (0, (Spans.done refl), (inr (inl (((mapping_start true None untagged) ∷ (scalar_event None untagged plain (codes "a")) ∷ (scalar_event None untagged plain (codes "b")) ∷ mapping_end ∷ []), ((unmarked explicit_key_text 0 9 refl), (inl (0, (inl (0, (0, (inr (refl, (inl refl))), (Spans.done refl)), (0, ((stands_each explicit_key_text _ 0 0 refl), refl), (stands_each explicit_key_text _ 0 0 refl)))), (9, (inr (0, (record { anchor = None; tag = untagged }), (inl (refl, refl)), (inr (inr (inr (tt, (((scalar_event None untagged plain (codes "a")) ∷ (scalar_event None untagged plain (codes "b")) ∷ []), (1, (1, (refl, refl), (inl refl)), (8, (1, [], ((scalar_event None untagged plain (codes "a")) ∷ (scalar_event None untagged plain (codes "b")) ∷ []), (done refl refl), (inr (8, (inr (tt, (inr (3, (2, (refl, refl), (inr (inl ((stands_each explicit_key_text _ 2 1 refl), (omega arith))))), (inl (inl (4, ((scalar_event None untagged plain (codes "a")) ∷ []), ((scalar_event None untagged plain (codes "b")) ∷ []), (inr (inl ((codes "a"), ((unmarked explicit_key_text 3 1 refl), (4, (codes "a"), [], (((λ h. (not_behind explicit_key_text _ 3 refl h)), (4, ((inl (97, refl, refl)), refl), ((omega arith), (none_between _ 4)))), refl), (done refl refl), refl)), refl))), (inl (5, (inr (inr (inl ((stands_each explicit_key_text _ 4 1 refl), (omega arith))))), (6, (6, (refl, refl), (refl, (λ h. (not_here explicit_key_text _ 6 refl h)))), (inl (7, (inr (inl ((stands_each explicit_key_text _ 6 1 refl), (omega arith)))), (inl (inr (inl ((codes "b"), ((unmarked explicit_key_text 7 1 refl), (8, (codes "b"), [], (((λ h. (not_behind explicit_key_text _ 7 refl h)), (8, ((inl (98, refl, refl)), refl), ((omega arith), (none_between _ 8)))), refl), (done refl refl), refl)), refl))))))))), refl))))))), (inl refl))), refl), (refl, refl))), refl))))))), (9, (inl (9, (inl refl), (inr (refl, refl)))), (Spans.done refl)))))), refl)))), (done refl refl), refl), refl)

abbrev empty_keys_text : List ℕ
empty_keys_text = codes "[: a]"

-- 7.4.2, in the wide profile: an empty key
pub empty_keys : ReadsText empty_keys_text (Unit {0}) open_limit (
    stream_start
    ∷ document_start false
    ∷ sequence_start true None untagged
    ∷ mapping_start true None untagged
    ∷ scalar_event None untagged plain []
    ∷ scalar_event None untagged plain (codes "a")
    ∷ mapping_end
    ∷ sequence_end
    ∷ document_end false
    ∷ stream_end
    ∷ [])
unfolding characters.is_indicator characters.is_flow_indicator characters.is_break characters.is_nb characters.is_space characters.is_white characters.is_ns separation.inner separation.StartsLine separation.s-indent separation.s-separate-in-line separation.b-comment separation.s-b-comment separation.s-l-comments separation.s-separate-lines separation.s-separate separation.DocumentMarkOf separation.DocumentMark flow.is_flow flow.plain_safe flow.PlainFirst flow.PlainChar flow.plain_line flow.ns-plain nodes.ns-flow-yaml-node nodes.c-ns-flow-map-separate-value nodes.c-ns-flow-map-empty-key-entry nodes.ns-flow-pair nodes.c-flow-sequence nodes.c-flow-json-node nodes.ns-flow-node nodes.s-l+block-node nodes.reads streams.ends_explicitly streams.piece_events streams.stream_of_pieces streams.l-bare-document streams.l-any-document streams.l-yaml-stream streams.ReadsText encode
empty_keys = (((streams.document_piece false ((sequence_start true None untagged) ∷ (mapping_start true None untagged) ∷ (scalar_event None untagged plain []) ∷ (scalar_event None untagged plain (codes "a")) ∷ mapping_end ∷ sequence_end ∷ [])) ∷ []), (5, ((streams.document_piece false ((sequence_start true None untagged) ∷ (mapping_start true None untagged) ∷ (scalar_event None untagged plain []) ∷ (scalar_event None untagged plain (codes "a")) ∷ mapping_end ∷ sequence_end ∷ [])) ∷ []), [], (0, (Spans.done refl), (inr (inl (((sequence_start true None untagged) ∷ (mapping_start true None untagged) ∷ (scalar_event None untagged plain []) ∷ (scalar_event None untagged plain (codes "a")) ∷ mapping_end ∷ sequence_end ∷ []), ((unmarked empty_keys_text 0 5 refl), (inl (0, (inl (0, (0, (inr (refl, (inl refl))), (Spans.done refl)), (0, ((stands_each empty_keys_text _ 0 0 refl), refl), (stands_each empty_keys_text _ 0 0 refl)))), (5, (inr (0, (record { anchor = None; tag = untagged }), (inl (refl, refl)), (inr (inr (inl (tt, (((mapping_start true None untagged) ∷ (scalar_event None untagged plain []) ∷ (scalar_event None untagged plain (codes "a")) ∷ mapping_end ∷ []), (1, (1, (refl, refl), (inl refl)), (4, (1, [], ((mapping_start true None untagged) ∷ (scalar_event None untagged plain []) ∷ (scalar_event None untagged plain (codes "a")) ∷ mapping_end ∷ []), (done refl refl), (inr (4, (inl (tt, (((scalar_event None untagged plain []) ∷ (scalar_event None untagged plain (codes "a")) ∷ []), (inr (inr (tt, (inl (1, ((scalar_event None untagged plain []) ∷ []), ((scalar_event None untagged plain (codes "a")) ∷ []), (refl, refl), (2, (2, (refl, refl), (refl, (λ h. (not_here empty_keys_text _ 2 refl h)))), (inl (3, (inr (inl ((stands_each empty_keys_text _ 2 1 refl), (omega arith)))), (inl (inr (inl ((codes "a"), ((unmarked empty_keys_text 3 1 refl), (4, (codes "a"), [], (((λ h. (not_behind empty_keys_text _ 3 refl h)), (4, ((inl (97, refl, refl)), refl), ((omega arith), (none_between _ 4)))), refl), (done refl refl), refl)), refl))))))), refl))))), refl))), (inl refl))), refl), (refl, refl))), refl))))))), (5, (inl (5, (inl refl), (inr (refl, refl)))), (Spans.done refl)))))), refl)))), (done refl refl), refl), refl)
