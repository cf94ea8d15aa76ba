-- Example readings of block collections, properties and comments (YAML 1.2.2, 6 and 8.2). Written by tools/definitions/derive.py.
use Rattle.std.proofs.Common.{ℕ, false, List, [], ◌∷◌, Some, None, refl, arith, inl, inr}
use Rattle.std.specs.Prelude.{codes}
use Rattle.std.specs.Str.{is_utf8, chars}
use Rattle.std.proofs.Math.Utf8.{encode}
use Rattle.yaml_definitions.specs.model.Limits.{open_limit}
use Rattle.yaml_definitions.specs.model.Event.{stream_start, stream_end, document_start, document_end, sequence_start, sequence_end, mapping_start, mapping_end, scalar_event, alias_event, plain, untagged, full}
use Rattle.yaml_definitions.specs.grammar.Rules.{done, then, Spans}
use Rattle.yaml_definitions.specs.grammar.Streams.{ReadsText}
use Rattle.yaml_definitions.proofs.grammar.Derive.{not_here, not_behind, none_between, next_between, stands_each, unbroken, unmarked}
use Rattle.yaml_definitions.specs.grammar.Characters as characters
use Rattle.yaml_definitions.specs.grammar.Separation as separation
use Rattle.yaml_definitions.specs.grammar.Tags as tags
use Rattle.yaml_definitions.specs.grammar.FlowScalars as flow
use Rattle.yaml_definitions.specs.grammar.Nodes as nodes
use Rattle.yaml_definitions.specs.grammar.Streams as streams
use Rattle.yaml_definitions.specs.model.Tag as model

abbrev sequence_in_mapping_text : List ℕ
sequence_in_mapping_text = codes "k:\n- x\nl: y\n"

-- 8.2.1: a block sequence at its mapping's own column
pub sequence_in_mapping : ReadsText sequence_in_mapping_text (Unit {0}) open_limit (
    stream_start
    ∷ document_start false
    ∷ mapping_start false None untagged
    ∷ scalar_event None untagged plain (codes "k")
    ∷ sequence_start false None untagged
    ∷ scalar_event None untagged plain (codes "x")
    ∷ sequence_end
    ∷ scalar_event None untagged plain (codes "l")
    ∷ scalar_event None untagged plain (codes "y")
    ∷ mapping_end
    ∷ document_end false
    ∷ stream_end
    ∷ [])
unfolding characters.is_indicator characters.is_flow_indicator characters.is_break characters.is_nb characters.is_space characters.is_white characters.is_ns characters.b-break separation.StartsLine separation.s-indent separation.s-separate-in-line separation.b-comment separation.s-b-comment separation.s-l-comments separation.s-separate-lines separation.s-separate separation.DocumentMarkOf separation.DocumentMark flow.is_flow flow.plain_safe flow.PlainFirst flow.PlainChar flow.plain_line flow.ns-plain nodes.ns-flow-yaml-node nodes.ns-s-implicit-yaml-key nodes.ns-flow-node nodes.s-l+block-indented nodes.c-l-block-seq-entry nodes.ns-l-block-map-entry nodes.l+block-sequence nodes.l+block-mapping nodes.s-l+block-node nodes.reads streams.ends_explicitly streams.piece_events streams.stream_of_pieces streams.l-bare-document streams.l-any-document streams.l-yaml-stream streams.ReadsText encode
sequence_in_mapping = (((streams.document_piece false ((mapping_start false None untagged) ∷ (scalar_event None untagged plain (codes "k")) ∷ (sequence_start false None untagged) ∷ (scalar_event None untagged plain (codes "x")) ∷ sequence_end ∷ (scalar_event None untagged plain (codes "l")) ∷ (scalar_event None untagged plain (codes "y")) ∷ mapping_end ∷ [])) ∷ []), (12, ((streams.document_piece false ((mapping_start false None untagged) ∷ (scalar_event None untagged plain (codes "k")) ∷ (sequence_start false None untagged) ∷ (scalar_event None untagged plain (codes "x")) ∷ sequence_end ∷ (scalar_event None untagged plain (codes "l")) ∷ (scalar_event None untagged plain (codes "y")) ∷ mapping_end ∷ [])) ∷ []), [], (0, (Spans.done refl), (inr (inl (((mapping_start false None untagged) ∷ (scalar_event None untagged plain (codes "k")) ∷ (sequence_start false None untagged) ∷ (scalar_event None untagged plain (codes "x")) ∷ sequence_end ∷ (scalar_event None untagged plain (codes "l")) ∷ (scalar_event None untagged plain (codes "y")) ∷ mapping_end ∷ []), ((unmarked sequence_in_mapping_text 0 12 refl), (inr (inr (0, (record { anchor = None; tag = untagged }), (0, (inl (refl, refl)), (0, (inr (refl, (inl refl))), (Spans.done refl))), (inl (tt, (((scalar_event None untagged plain (codes "k")) ∷ (sequence_start false None untagged) ∷ (scalar_event None untagged plain (codes "x")) ∷ sequence_end ∷ (scalar_event None untagged plain (codes "l")) ∷ (scalar_event None untagged plain (codes "y")) ∷ []), (0, ((omega arith), (7, ((scalar_event None untagged plain (codes "k")) ∷ (sequence_start false None untagged) ∷ (scalar_event None untagged plain (codes "x")) ∷ sequence_end ∷ []), ((scalar_event None untagged plain (codes "l")) ∷ (scalar_event None untagged plain (codes "y")) ∷ []), (0, ((stands_each sequence_in_mapping_text _ 0 0 refl), refl), (2, ((scalar_event None untagged plain (codes "k")) ∷ []), ((sequence_start false None untagged) ∷ (scalar_event None untagged plain (codes "x")) ∷ sequence_end ∷ []), (1, (inl (((unbroken sequence_in_mapping_text 0 1 refl), (omega arith)), (1, (inr (inl ((codes "k"), ((unmarked sequence_in_mapping_text 0 1 refl), (1, (codes "k"), [], (((λ h. (not_behind sequence_in_mapping_text _ 0 refl h)), (1, ((inl (107, refl, refl)), refl), ((omega arith), (none_between _ 1)))), refl), (done refl refl), refl)), refl))), (inl refl)))), (refl, refl)), (inl (inr (inr (3, (record { anchor = None; tag = untagged }), (2, (inl (refl, refl)), (3, (inl (2, (inl refl), (inl (inr (inr (2, (refl, (λ h. (not_behind sequence_in_mapping_text _ 1 refl h))), (refl, refl))))))), (Spans.done refl))), (inr (tt, (((scalar_event None untagged plain (codes "x")) ∷ []), (0, ((omega arith), (7, ((scalar_event None untagged plain (codes "x")) ∷ []), [], (3, ((stands_each sequence_in_mapping_text _ 3 0 refl), refl), (4, (4, (refl, refl), (refl, (λ h. (not_here sequence_in_mapping_text _ 4 refl h)))), (inr (inl (inl (5, (inr (inl ((stands_each sequence_in_mapping_text _ 4 1 refl), (omega arith)))), (6, (inl (inr (inl ((codes "x"), ((unmarked sequence_in_mapping_text 5 1 refl), (6, (codes "x"), [], (((λ h. (not_behind sequence_in_mapping_text _ 5 refl h)), (6, ((inl (120, refl, refl)), refl), ((omega arith), (none_between _ 6)))), refl), (done refl refl), refl)), refl)))), (7, (inl (6, (inl refl), (inl (inr (inr (6, (refl, (λ h. (not_behind sequence_in_mapping_text _ 5 refl h))), (refl, refl))))))), (Spans.done refl))))))))), (done refl refl), refl))), refl))))))), refl)), (then 12 ((scalar_event None untagged plain (codes "l")) ∷ (scalar_event None untagged plain (codes "y")) ∷ []) [] (7, ((stands_each sequence_in_mapping_text _ 7 0 refl), refl), (9, ((scalar_event None untagged plain (codes "l")) ∷ []), ((scalar_event None untagged plain (codes "y")) ∷ []), (8, (inl (((unbroken sequence_in_mapping_text 7 1 refl), (omega arith)), (8, (inr (inl ((codes "l"), ((unmarked sequence_in_mapping_text 7 1 refl), (8, (codes "l"), [], (((λ h. (not_behind sequence_in_mapping_text _ 7 refl h)), (8, ((inl (108, refl, refl)), refl), ((omega arith), (none_between _ 8)))), refl), (done refl refl), refl)), refl))), (inl refl)))), (refl, refl)), (inl (inl (10, (inr (inl ((stands_each sequence_in_mapping_text _ 9 1 refl), (omega arith)))), (11, (inl (inr (inl ((codes "y"), ((unmarked sequence_in_mapping_text 10 1 refl), (11, (codes "y"), [], (((λ h. (not_behind sequence_in_mapping_text _ 10 refl h)), (11, ((inl (121, refl, refl)), refl), ((omega arith), (none_between _ 11)))), refl), (done refl refl), refl)), refl)))), (12, (inl (11, (inl refl), (inl (inr (inr (11, (refl, (λ h. (not_behind sequence_in_mapping_text _ 10 refl h))), (refl, refl))))))), (Spans.done refl)))))), refl)) (done refl refl) refl), refl))), refl))))))), refl)))), (done refl refl), refl), refl)

abbrev compact_sequence_text : List ℕ
compact_sequence_text = codes "- - a\n  - b\n"

-- 8.2.1: a compact sequence in a sequence
pub compact_sequence : ReadsText compact_sequence_text (Unit {0}) open_limit (
    stream_start
    ∷ document_start false
    ∷ sequence_start false None untagged
    ∷ sequence_start false None untagged
    ∷ scalar_event None untagged plain (codes "a")
    ∷ scalar_event None untagged plain (codes "b")
    ∷ sequence_end
    ∷ sequence_end
    ∷ document_end false
    ∷ stream_end
    ∷ [])
unfolding characters.is_indicator characters.is_flow_indicator characters.is_break characters.is_nb characters.is_space characters.is_white characters.is_ns characters.b-break separation.StartsLine separation.s-indent separation.s-separate-in-line separation.b-comment separation.s-b-comment separation.s-l-comments separation.s-separate-lines separation.s-separate separation.DocumentMarkOf separation.DocumentMark flow.is_flow flow.plain_safe flow.PlainFirst flow.PlainChar flow.plain_line flow.ns-plain nodes.ns-flow-yaml-node nodes.ns-flow-node nodes.s-l+block-indented nodes.c-l-block-seq-entry nodes.l+block-sequence nodes.ns-l-compact-sequence nodes.s-l+block-node nodes.reads streams.ends_explicitly streams.piece_events streams.stream_of_pieces streams.l-bare-document streams.l-any-document streams.l-yaml-stream streams.ReadsText encode
compact_sequence = (((streams.document_piece false ((sequence_start false None untagged) ∷ (sequence_start false None untagged) ∷ (scalar_event None untagged plain (codes "a")) ∷ (scalar_event None untagged plain (codes "b")) ∷ sequence_end ∷ sequence_end ∷ [])) ∷ []), (12, ((streams.document_piece false ((sequence_start false None untagged) ∷ (sequence_start false None untagged) ∷ (scalar_event None untagged plain (codes "a")) ∷ (scalar_event None untagged plain (codes "b")) ∷ sequence_end ∷ sequence_end ∷ [])) ∷ []), [], (0, (Spans.done refl), (inr (inl (((sequence_start false None untagged) ∷ (sequence_start false None untagged) ∷ (scalar_event None untagged plain (codes "a")) ∷ (scalar_event None untagged plain (codes "b")) ∷ sequence_end ∷ sequence_end ∷ []), ((unmarked compact_sequence_text 0 12 refl), (inr (inr (0, (record { anchor = None; tag = untagged }), (0, (inl (refl, refl)), (0, (inr (refl, (inl refl))), (Spans.done refl))), (inr (tt, (((sequence_start false None untagged) ∷ (scalar_event None untagged plain (codes "a")) ∷ (scalar_event None untagged plain (codes "b")) ∷ sequence_end ∷ []), (0, ((omega arith), (12, ((sequence_start false None untagged) ∷ (scalar_event None untagged plain (codes "a")) ∷ (scalar_event None untagged plain (codes "b")) ∷ sequence_end ∷ []), [], (0, ((stands_each compact_sequence_text _ 0 0 refl), refl), (1, (1, (refl, refl), (refl, (λ h. (not_here compact_sequence_text _ 1 refl h)))), (inl (1, ((omega arith), (2, ((stands_each compact_sequence_text _ 1 1 refl), refl), (inl (tt, (((scalar_event None untagged plain (codes "a")) ∷ (scalar_event None untagged plain (codes "b")) ∷ []), (6, ((scalar_event None untagged plain (codes "a")) ∷ []), ((scalar_event None untagged plain (codes "b")) ∷ []), (3, (3, (refl, refl), (refl, (λ h. (not_here compact_sequence_text _ 3 refl h)))), (inr (inl (inl (4, (inr (inl ((stands_each compact_sequence_text _ 3 1 refl), (omega arith)))), (5, (inl (inr (inl ((codes "a"), ((unmarked compact_sequence_text 4 1 refl), (5, (codes "a"), [], (((λ h. (not_behind compact_sequence_text _ 4 refl h)), (5, ((inl (97, refl, refl)), refl), ((omega arith), (none_between _ 5)))), refl), (done refl refl), refl)), refl)))), (6, (inl (5, (inl refl), (inl (inr (inr (5, (refl, (λ h. (not_behind compact_sequence_text _ 4 refl h))), (refl, refl))))))), (Spans.done refl)))))))), (then 12 ((scalar_event None untagged plain (codes "b")) ∷ []) [] (8, ((stands_each compact_sequence_text _ 6 2 refl), refl), (9, (9, (refl, refl), (refl, (λ h. (not_here compact_sequence_text _ 9 refl h)))), (inr (inl (inl (10, (inr (inl ((stands_each compact_sequence_text _ 9 1 refl), (omega arith)))), (11, (inl (inr (inl ((codes "b"), ((unmarked compact_sequence_text 10 1 refl), (11, (codes "b"), [], (((λ h. (not_behind compact_sequence_text _ 10 refl h)), (11, ((inl (98, refl, refl)), refl), ((omega arith), (none_between _ 11)))), refl), (done refl refl), refl)), refl)))), (12, (inl (11, (inl refl), (inl (inr (inr (11, (refl, (λ h. (not_behind compact_sequence_text _ 10 refl h))), (refl, refl))))))), (Spans.done refl))))))))) (done refl refl) refl), refl), refl))))))))), (done refl refl), refl))), refl))))))), refl)))), (done refl refl), refl), refl)

abbrev compact_mapping_text : List ℕ
compact_mapping_text = codes "- a: b\n  c: d\n"

-- 8.2.2: a compact mapping in a sequence
pub compact_mapping : ReadsText compact_mapping_text (Unit {0}) open_limit (
    stream_start
    ∷ document_start false
    ∷ sequence_start false None untagged
    ∷ mapping_start false None untagged
    ∷ scalar_event None untagged plain (codes "a")
    ∷ scalar_event None untagged plain (codes "b")
    ∷ scalar_event None untagged plain (codes "c")
    ∷ scalar_event None untagged plain (codes "d")
    ∷ mapping_end
    ∷ sequence_end
    ∷ document_end false
    ∷ stream_end
    ∷ [])
unfolding characters.is_indicator characters.is_flow_indicator characters.is_break characters.is_nb characters.is_space characters.is_white characters.is_ns characters.b-break separation.StartsLine separation.s-indent separation.s-separate-in-line separation.b-comment separation.s-b-comment separation.s-l-comments separation.s-separate-lines separation.s-separate separation.DocumentMarkOf separation.DocumentMark flow.is_flow flow.plain_safe flow.PlainFirst flow.PlainChar flow.plain_line flow.ns-plain nodes.ns-flow-yaml-node nodes.ns-s-implicit-yaml-key nodes.ns-flow-node nodes.s-l+block-indented nodes.c-l-block-seq-entry nodes.ns-l-block-map-entry nodes.l+block-sequence nodes.ns-l-compact-mapping nodes.s-l+block-node nodes.reads streams.ends_explicitly streams.piece_events streams.stream_of_pieces streams.l-bare-document streams.l-any-document streams.l-yaml-stream streams.ReadsText encode
compact_mapping = (((streams.document_piece false ((sequence_start false None untagged) ∷ (mapping_start false None untagged) ∷ (scalar_event None untagged plain (codes "a")) ∷ (scalar_event None untagged plain (codes "b")) ∷ (scalar_event None untagged plain (codes "c")) ∷ (scalar_event None untagged plain (codes "d")) ∷ mapping_end ∷ sequence_end ∷ [])) ∷ []), (14, ((streams.document_piece false ((sequence_start false None untagged) ∷ (mapping_start false None untagged) ∷ (scalar_event None untagged plain (codes "a")) ∷ (scalar_event None untagged plain (codes "b")) ∷ (scalar_event None untagged plain (codes "c")) ∷ (scalar_event None untagged plain (codes "d")) ∷ mapping_end ∷ sequence_end ∷ [])) ∷ []), [], (0, (Spans.done refl), (inr (inl (((sequence_start false None untagged) ∷ (mapping_start false None untagged) ∷ (scalar_event None untagged plain (codes "a")) ∷ (scalar_event None untagged plain (codes "b")) ∷ (scalar_event None untagged plain (codes "c")) ∷ (scalar_event None untagged plain (codes "d")) ∷ mapping_end ∷ sequence_end ∷ []), ((unmarked compact_mapping_text 0 14 refl), (inr (inr (0, (record { anchor = None; tag = untagged }), (0, (inl (refl, refl)), (0, (inr (refl, (inl refl))), (Spans.done refl))), (inr (tt, (((mapping_start false None untagged) ∷ (scalar_event None untagged plain (codes "a")) ∷ (scalar_event None untagged plain (codes "b")) ∷ (scalar_event None untagged plain (codes "c")) ∷ (scalar_event None untagged plain (codes "d")) ∷ mapping_end ∷ []), (0, ((omega arith), (14, ((mapping_start false None untagged) ∷ (scalar_event None untagged plain (codes "a")) ∷ (scalar_event None untagged plain (codes "b")) ∷ (scalar_event None untagged plain (codes "c")) ∷ (scalar_event None untagged plain (codes "d")) ∷ mapping_end ∷ []), [], (0, ((stands_each compact_mapping_text _ 0 0 refl), refl), (1, (1, (refl, refl), (refl, (λ h. (not_here compact_mapping_text _ 1 refl h)))), (inl (1, ((omega arith), (2, ((stands_each compact_mapping_text _ 1 1 refl), refl), (inr (tt, (((scalar_event None untagged plain (codes "a")) ∷ (scalar_event None untagged plain (codes "b")) ∷ (scalar_event None untagged plain (codes "c")) ∷ (scalar_event None untagged plain (codes "d")) ∷ []), (7, ((scalar_event None untagged plain (codes "a")) ∷ (scalar_event None untagged plain (codes "b")) ∷ []), ((scalar_event None untagged plain (codes "c")) ∷ (scalar_event None untagged plain (codes "d")) ∷ []), (4, ((scalar_event None untagged plain (codes "a")) ∷ []), ((scalar_event None untagged plain (codes "b")) ∷ []), (3, (inl (((unbroken compact_mapping_text 2 1 refl), (omega arith)), (3, (inr (inl ((codes "a"), ((unmarked compact_mapping_text 2 1 refl), (3, (codes "a"), [], (((λ h. (not_behind compact_mapping_text _ 2 refl h)), (3, ((inl (97, refl, refl)), refl), ((omega arith), (none_between _ 3)))), refl), (done refl refl), refl)), refl))), (inl refl)))), (refl, refl)), (inl (inl (5, (inr (inl ((stands_each compact_mapping_text _ 4 1 refl), (omega arith)))), (6, (inl (inr (inl ((codes "b"), ((unmarked compact_mapping_text 5 1 refl), (6, (codes "b"), [], (((λ h. (not_behind compact_mapping_text _ 5 refl h)), (6, ((inl (98, refl, refl)), refl), ((omega arith), (none_between _ 6)))), refl), (done refl refl), refl)), refl)))), (7, (inl (6, (inl refl), (inl (inr (inr (6, (refl, (λ h. (not_behind compact_mapping_text _ 5 refl h))), (refl, refl))))))), (Spans.done refl)))))), refl), (then 14 ((scalar_event None untagged plain (codes "c")) ∷ (scalar_event None untagged plain (codes "d")) ∷ []) [] (9, ((stands_each compact_mapping_text _ 7 2 refl), refl), (11, ((scalar_event None untagged plain (codes "c")) ∷ []), ((scalar_event None untagged plain (codes "d")) ∷ []), (10, (inl (((unbroken compact_mapping_text 9 1 refl), (omega arith)), (10, (inr (inl ((codes "c"), ((unmarked compact_mapping_text 9 1 refl), (10, (codes "c"), [], (((λ h. (not_behind compact_mapping_text _ 9 refl h)), (10, ((inl (99, refl, refl)), refl), ((omega arith), (none_between _ 10)))), refl), (done refl refl), refl)), refl))), (inl refl)))), (refl, refl)), (inl (inl (12, (inr (inl ((stands_each compact_mapping_text _ 11 1 refl), (omega arith)))), (13, (inl (inr (inl ((codes "d"), ((unmarked compact_mapping_text 12 1 refl), (13, (codes "d"), [], (((λ h. (not_behind compact_mapping_text _ 12 refl h)), (13, ((inl (100, refl, refl)), refl), ((omega arith), (none_between _ 13)))), refl), (done refl refl), refl)), refl)))), (14, (inl (13, (inl refl), (inl (inr (inr (13, (refl, (λ h. (not_behind compact_mapping_text _ 12 refl h))), (refl, refl))))))), (Spans.done refl)))))), refl)) (done refl refl) refl), refl), refl))))))))), (done refl refl), refl))), refl))))))), refl)))), (done refl refl), refl), refl)

abbrev block_mapping_text : List ℕ
block_mapping_text = codes "a:\n b: c\nd: e"

-- 8.2.2: a block mapping in another
pub block_mapping : ReadsText block_mapping_text (Unit {0}) open_limit (
    stream_start
    ∷ document_start false
    ∷ mapping_start false None untagged
    ∷ scalar_event None untagged plain (codes "a")
    ∷ mapping_start false None untagged
    ∷ scalar_event None untagged plain (codes "b")
    ∷ scalar_event None untagged plain (codes "c")
    ∷ mapping_end
    ∷ scalar_event None untagged plain (codes "d")
    ∷ scalar_event None untagged plain (codes "e")
    ∷ mapping_end
    ∷ document_end false
    ∷ stream_end
    ∷ [])
unfolding characters.is_indicator characters.is_flow_indicator characters.is_break characters.is_nb characters.is_space characters.is_white characters.is_ns characters.b-break separation.StartsLine separation.s-indent separation.s-separate-in-line separation.b-comment separation.s-b-comment separation.s-l-comments separation.s-separate-lines separation.s-separate separation.DocumentMarkOf separation.DocumentMark flow.is_flow flow.plain_safe flow.PlainFirst flow.PlainChar flow.plain_line flow.ns-plain nodes.ns-flow-yaml-node nodes.ns-s-implicit-yaml-key nodes.ns-flow-node nodes.ns-l-block-map-entry nodes.l+block-mapping nodes.s-l+block-node nodes.reads streams.ends_explicitly streams.piece_events streams.stream_of_pieces streams.l-bare-document streams.l-any-document streams.l-yaml-stream streams.ReadsText encode
block_mapping = (((streams.document_piece false ((mapping_start false None untagged) ∷ (scalar_event None untagged plain (codes "a")) ∷ (mapping_start false None untagged) ∷ (scalar_event None untagged plain (codes "b")) ∷ (scalar_event None untagged plain (codes "c")) ∷ mapping_end ∷ (scalar_event None untagged plain (codes "d")) ∷ (scalar_event None untagged plain (codes "e")) ∷ mapping_end ∷ [])) ∷ []), (13, ((streams.document_piece false ((mapping_start false None untagged) ∷ (scalar_event None untagged plain (codes "a")) ∷ (mapping_start false None untagged) ∷ (scalar_event None untagged plain (codes "b")) ∷ (scalar_event None untagged plain (codes "c")) ∷ mapping_end ∷ (scalar_event None untagged plain (codes "d")) ∷ (scalar_event None untagged plain (codes "e")) ∷ mapping_end ∷ [])) ∷ []), [], (0, (Spans.done refl), (inr (inl (((mapping_start false None untagged) ∷ (scalar_event None untagged plain (codes "a")) ∷ (mapping_start false None untagged) ∷ (scalar_event None untagged plain (codes "b")) ∷ (scalar_event None untagged plain (codes "c")) ∷ mapping_end ∷ (scalar_event None untagged plain (codes "d")) ∷ (scalar_event None untagged plain (codes "e")) ∷ mapping_end ∷ []), ((unmarked block_mapping_text 0 13 refl), (inr (inr (0, (record { anchor = None; tag = untagged }), (0, (inl (refl, refl)), (0, (inr (refl, (inl refl))), (Spans.done refl))), (inl (tt, (((scalar_event None untagged plain (codes "a")) ∷ (mapping_start false None untagged) ∷ (scalar_event None untagged plain (codes "b")) ∷ (scalar_event None untagged plain (codes "c")) ∷ mapping_end ∷ (scalar_event None untagged plain (codes "d")) ∷ (scalar_event None untagged plain (codes "e")) ∷ []), (0, ((omega arith), (9, ((scalar_event None untagged plain (codes "a")) ∷ (mapping_start false None untagged) ∷ (scalar_event None untagged plain (codes "b")) ∷ (scalar_event None untagged plain (codes "c")) ∷ mapping_end ∷ []), ((scalar_event None untagged plain (codes "d")) ∷ (scalar_event None untagged plain (codes "e")) ∷ []), (0, ((stands_each block_mapping_text _ 0 0 refl), refl), (2, ((scalar_event None untagged plain (codes "a")) ∷ []), ((mapping_start false None untagged) ∷ (scalar_event None untagged plain (codes "b")) ∷ (scalar_event None untagged plain (codes "c")) ∷ mapping_end ∷ []), (1, (inl (((unbroken block_mapping_text 0 1 refl), (omega arith)), (1, (inr (inl ((codes "a"), ((unmarked block_mapping_text 0 1 refl), (1, (codes "a"), [], (((λ h. (not_behind block_mapping_text _ 0 refl h)), (1, ((inl (97, refl, refl)), refl), ((omega arith), (none_between _ 1)))), refl), (done refl refl), refl)), refl))), (inl refl)))), (refl, refl)), (inl (inr (inr (3, (record { anchor = None; tag = untagged }), (2, (inl (refl, refl)), (3, (inl (2, (inl refl), (inl (inr (inr (2, (refl, (λ h. (not_behind block_mapping_text _ 1 refl h))), (refl, refl))))))), (Spans.done refl))), (inl (tt, (((scalar_event None untagged plain (codes "b")) ∷ (scalar_event None untagged plain (codes "c")) ∷ []), (1, ((omega arith), (9, ((scalar_event None untagged plain (codes "b")) ∷ (scalar_event None untagged plain (codes "c")) ∷ []), [], (4, ((stands_each block_mapping_text _ 3 1 refl), refl), (6, ((scalar_event None untagged plain (codes "b")) ∷ []), ((scalar_event None untagged plain (codes "c")) ∷ []), (5, (inl (((unbroken block_mapping_text 4 1 refl), (omega arith)), (5, (inr (inl ((codes "b"), ((unmarked block_mapping_text 4 1 refl), (5, (codes "b"), [], (((λ h. (not_behind block_mapping_text _ 4 refl h)), (5, ((inl (98, refl, refl)), refl), ((omega arith), (none_between _ 5)))), refl), (done refl refl), refl)), refl))), (inl refl)))), (refl, refl)), (inl (inl (7, (inr (inl ((stands_each block_mapping_text _ 6 1 refl), (omega arith)))), (8, (inl (inr (inl ((codes "c"), ((unmarked block_mapping_text 7 1 refl), (8, (codes "c"), [], (((λ h. (not_behind block_mapping_text _ 7 refl h)), (8, ((inl (99, refl, refl)), refl), ((omega arith), (none_between _ 8)))), refl), (done refl refl), refl)), refl)))), (9, (inl (8, (inl refl), (inl (inr (inr (8, (refl, (λ h. (not_behind block_mapping_text _ 7 refl h))), (refl, refl))))))), (Spans.done refl)))))), refl)), (done refl refl), refl))), refl))))))), refl)), (then 13 ((scalar_event None untagged plain (codes "d")) ∷ (scalar_event None untagged plain (codes "e")) ∷ []) [] (9, ((stands_each block_mapping_text _ 9 0 refl), refl), (11, ((scalar_event None untagged plain (codes "d")) ∷ []), ((scalar_event None untagged plain (codes "e")) ∷ []), (10, (inl (((unbroken block_mapping_text 9 1 refl), (omega arith)), (10, (inr (inl ((codes "d"), ((unmarked block_mapping_text 9 1 refl), (10, (codes "d"), [], (((λ h. (not_behind block_mapping_text _ 9 refl h)), (10, ((inl (100, refl, refl)), refl), ((omega arith), (none_between _ 10)))), refl), (done refl refl), refl)), refl))), (inl refl)))), (refl, refl)), (inl (inl (12, (inr (inl ((stands_each block_mapping_text _ 11 1 refl), (omega arith)))), (13, (inl (inr (inl ((codes "e"), ((unmarked block_mapping_text 12 1 refl), (13, (codes "e"), [], (((λ h. (not_behind block_mapping_text _ 12 refl h)), (13, ((inl (101, refl, refl)), refl), ((omega arith), (none_between _ 13)))), refl), (done refl refl), refl)), refl)))), (13, (inl (13, (inl refl), (inr (refl, refl)))), (Spans.done refl)))))), refl)) (done refl refl) refl), refl))), refl))))))), refl)))), (done refl refl), refl), refl)

abbrev properties_over_lines_text : List ℕ
properties_over_lines_text = codes "!!map\n&a\nb: c\n"

-- 6.9, 8.2.3: the properties of a block collection, over lines
pub properties_over_lines : ReadsText properties_over_lines_text (Unit {0}) open_limit (
    stream_start
    ∷ document_start false
    ∷ mapping_start false (Some (codes "a")) (full (codes "tag:yaml.org,2002:map"))
    ∷ scalar_event None untagged plain (codes "b")
    ∷ scalar_event None untagged plain (codes "c")
    ∷ mapping_end
    ∷ document_end false
    ∷ stream_end
    ∷ [])
unfolding characters.is_indicator characters.is_flow_indicator characters.is_break characters.is_nb characters.is_space characters.is_white characters.is_ns characters.is_word characters.is_uri characters.is_tag characters.b-break separation.StartsLine separation.s-indent separation.s-separate-in-line separation.b-comment separation.s-b-comment separation.s-l-comments separation.s-separate-lines separation.s-separate separation.DocumentMarkOf separation.DocumentMark tags.percent_decode tags.decoded tags.default_handles tags.prefix_of tags.joined tags.is_name tags.tag_char tags.c-tag-handle tags.c-ns-shorthand-tag tags.c-ns-tag-property tags.ns-anchor-name tags.c-ns-anchor-property tags.c-ns-properties flow.is_flow flow.plain_safe flow.PlainFirst flow.PlainChar flow.plain_line flow.ns-plain nodes.ns-flow-yaml-node nodes.ns-s-implicit-yaml-key nodes.ns-flow-node nodes.ns-l-block-map-entry nodes.l+block-mapping nodes.s-l+block-node nodes.reads streams.ends_explicitly streams.piece_events streams.stream_of_pieces streams.l-bare-document streams.l-any-document streams.l-yaml-stream model.is_full streams.ReadsText encode is_utf8 chars
properties_over_lines = (((streams.document_piece false ((mapping_start false (Some (codes "a")) (full (codes "tag:yaml.org,2002:map"))) ∷ (scalar_event None untagged plain (codes "b")) ∷ (scalar_event None untagged plain (codes "c")) ∷ mapping_end ∷ [])) ∷ []), (14, ((streams.document_piece false ((mapping_start false (Some (codes "a")) (full (codes "tag:yaml.org,2002:map"))) ∷ (scalar_event None untagged plain (codes "b")) ∷ (scalar_event None untagged plain (codes "c")) ∷ mapping_end ∷ [])) ∷ []), [], (0, (Spans.done refl), (inr (inl (((mapping_start false (Some (codes "a")) (full (codes "tag:yaml.org,2002:map"))) ∷ (scalar_event None untagged plain (codes "b")) ∷ (scalar_event None untagged plain (codes "c")) ∷ mapping_end ∷ []), ((unmarked properties_over_lines_text 0 14 refl), (inr (inr (9, (record { anchor = (Some (codes "a")); tag = (full (codes "tag:yaml.org,2002:map")) }), (8, (inr (0, (inl (0, (0, (inr (refl, (inl refl))), (Spans.done refl)), (0, ((stands_each properties_over_lines_text _ 0 0 refl), refl), (stands_each properties_over_lines_text _ 0 0 refl)))), (inl (5, (full (codes "tag:yaml.org,2002:map")), (5, (inr (inl (2, (codes "!!"), ((inr (inl (1, (refl, refl), (refl, refl)))), refl), ((codes "map"), ((3, (inl ((109, refl, refl), refl)), (Spans.then 4 (inl ((97, refl, refl), refl)) (Spans.then 5 (inl ((112, refl, refl), refl)) (Spans.done refl)))), refl), refl)))), (refl, (λ h. (not_here properties_over_lines_text _ 5 refl h)))), (inr (6, (inl (6, (6, (inl (5, (inl refl), (inl (inr (inr (5, (refl, (λ h. (not_behind properties_over_lines_text _ 4 refl h))), (refl, refl))))))), (Spans.done refl)), (6, ((stands_each properties_over_lines_text _ 6 0 refl), refl), (stands_each properties_over_lines_text _ 6 0 refl)))), ((codes "a"), (7, (refl, refl), (((stands_each properties_over_lines_text _ 7 1 refl), (omega arith), (λ h. (not_here properties_over_lines_text _ 8 refl h))), refl)), refl))))))), (9, (inl (8, (inl refl), (inl (inr (inr (8, (refl, (λ h. (not_behind properties_over_lines_text _ 7 refl h))), (refl, refl))))))), (Spans.done refl))), (inl (tt, (((scalar_event None untagged plain (codes "b")) ∷ (scalar_event None untagged plain (codes "c")) ∷ []), (0, ((omega arith), (14, ((scalar_event None untagged plain (codes "b")) ∷ (scalar_event None untagged plain (codes "c")) ∷ []), [], (9, ((stands_each properties_over_lines_text _ 9 0 refl), refl), (11, ((scalar_event None untagged plain (codes "b")) ∷ []), ((scalar_event None untagged plain (codes "c")) ∷ []), (10, (inl (((unbroken properties_over_lines_text 9 1 refl), (omega arith)), (10, (inr (inl ((codes "b"), ((unmarked properties_over_lines_text 9 1 refl), (10, (codes "b"), [], (((λ h. (not_behind properties_over_lines_text _ 9 refl h)), (10, ((inl (98, refl, refl)), refl), ((omega arith), (none_between _ 10)))), refl), (done refl refl), refl)), refl))), (inl refl)))), (refl, refl)), (inl (inl (12, (inr (inl ((stands_each properties_over_lines_text _ 11 1 refl), (omega arith)))), (13, (inl (inr (inl ((codes "c"), ((unmarked properties_over_lines_text 12 1 refl), (13, (codes "c"), [], (((λ h. (not_behind properties_over_lines_text _ 12 refl h)), (13, ((inl (99, refl, refl)), refl), ((omega arith), (none_between _ 13)))), refl), (done refl refl), refl)), refl)))), (14, (inl (13, (inl refl), (inl (inr (inr (13, (refl, (λ h. (not_behind properties_over_lines_text _ 12 refl h))), (refl, refl))))))), (Spans.done refl)))))), refl)), (done refl refl), refl))), refl))))))), refl)))), (done refl refl), refl), refl)

abbrev aliases_text : List ℕ
aliases_text = codes "- &a b\n- *a\n"

-- 6.9.2, 7.1: an anchor and its alias
pub aliases : ReadsText aliases_text (Unit {0}) open_limit (
    stream_start
    ∷ document_start false
    ∷ sequence_start false None untagged
    ∷ scalar_event (Some (codes "a")) untagged plain (codes "b")
    ∷ alias_event (codes "a")
    ∷ sequence_end
    ∷ document_end false
    ∷ stream_end
    ∷ [])
unfolding characters.is_indicator characters.is_flow_indicator characters.is_break characters.is_nb characters.is_space characters.is_white characters.is_ns characters.b-break separation.StartsLine separation.s-indent separation.s-separate-in-line separation.b-comment separation.s-b-comment separation.s-l-comments separation.s-separate-lines separation.s-separate separation.DocumentMarkOf separation.DocumentMark tags.is_name tags.ns-anchor-name tags.c-ns-anchor-property tags.c-ns-alias-node tags.c-ns-properties flow.is_flow flow.plain_safe flow.PlainFirst flow.PlainChar flow.plain_line flow.ns-plain nodes.ns-flow-yaml-node nodes.ns-flow-node nodes.s-l+block-indented nodes.c-l-block-seq-entry nodes.l+block-sequence nodes.s-l+block-node nodes.reads streams.ends_explicitly streams.piece_events streams.stream_of_pieces streams.l-bare-document streams.l-any-document streams.l-yaml-stream streams.ReadsText encode
aliases = (((streams.document_piece false ((sequence_start false None untagged) ∷ (scalar_event (Some (codes "a")) untagged plain (codes "b")) ∷ (alias_event (codes "a")) ∷ sequence_end ∷ [])) ∷ []), (12, ((streams.document_piece false ((sequence_start false None untagged) ∷ (scalar_event (Some (codes "a")) untagged plain (codes "b")) ∷ (alias_event (codes "a")) ∷ sequence_end ∷ [])) ∷ []), [], (0, (Spans.done refl), (inr (inl (((sequence_start false None untagged) ∷ (scalar_event (Some (codes "a")) untagged plain (codes "b")) ∷ (alias_event (codes "a")) ∷ sequence_end ∷ []), ((unmarked aliases_text 0 12 refl), (inr (inr (0, (record { anchor = None; tag = untagged }), (0, (inl (refl, refl)), (0, (inr (refl, (inl refl))), (Spans.done refl))), (inr (tt, (((scalar_event (Some (codes "a")) untagged plain (codes "b")) ∷ (alias_event (codes "a")) ∷ []), (0, ((omega arith), (7, ((scalar_event (Some (codes "a")) untagged plain (codes "b")) ∷ []), ((alias_event (codes "a")) ∷ []), (0, ((stands_each aliases_text _ 0 0 refl), refl), (1, (1, (refl, refl), (refl, (λ h. (not_here aliases_text _ 1 refl h)))), (inr (inl (inl (2, (inr (inl ((stands_each aliases_text _ 1 1 refl), (omega arith)))), (6, (inl (inr (inr (4, (record { anchor = (Some (codes "a")); tag = untagged }), (inr (4, (codes "a"), (3, (refl, refl), (((stands_each aliases_text _ 3 1 refl), (omega arith), (λ h. (not_here aliases_text _ 4 refl h))), refl)), (inl (refl, refl)))), (inl (5, (inr (inl ((stands_each aliases_text _ 4 1 refl), (omega arith)))), ((codes "b"), ((unmarked aliases_text 5 1 refl), (6, (codes "b"), [], (((λ h. (not_behind aliases_text _ 5 refl h)), (6, ((inl (98, refl, refl)), refl), ((omega arith), (none_between _ 6)))), refl), (done refl refl), refl)), refl))))))), (7, (inl (6, (inl refl), (inl (inr (inr (6, (refl, (λ h. (not_behind aliases_text _ 5 refl h))), (refl, refl))))))), (Spans.done refl))))))))), (then 12 ((alias_event (codes "a")) ∷ []) [] (7, ((stands_each aliases_text _ 7 0 refl), refl), (8, (8, (refl, refl), (refl, (λ h. (not_here aliases_text _ 8 refl h)))), (inr (inl (inl (9, (inr (inl ((stands_each aliases_text _ 8 1 refl), (omega arith)))), (11, (inl (inl ((codes "a"), (10, (refl, refl), (((stands_each aliases_text _ 10 1 refl), (omega arith), (λ h. (not_here aliases_text _ 11 refl h))), refl)), refl))), (12, (inl (11, (inl refl), (inl (inr (inr (11, (refl, (λ h. (not_behind aliases_text _ 10 refl h))), (refl, refl))))))), (Spans.done refl))))))))) (done refl refl) refl), refl))), refl))))))), refl)))), (done refl refl), refl), refl)

abbrev empty_nodes_text : List ℕ
empty_nodes_text = codes "a:\nb:\n -\n - &c\n"

-- 7.2: empty nodes in block collections
pub empty_nodes : ReadsText empty_nodes_text (Unit {0}) open_limit (
    stream_start
    ∷ document_start false
    ∷ mapping_start false None untagged
    ∷ scalar_event None untagged plain (codes "a")
    ∷ scalar_event None untagged plain []
    ∷ scalar_event None untagged plain (codes "b")
    ∷ sequence_start false None untagged
    ∷ scalar_event None untagged plain []
    ∷ scalar_event (Some (codes "c")) untagged plain []
    ∷ sequence_end
    ∷ mapping_end
    ∷ document_end false
    ∷ stream_end
    ∷ [])
unfolding characters.is_indicator characters.is_flow_indicator characters.is_break characters.is_nb characters.is_space characters.is_white characters.is_ns characters.b-break separation.StartsLine separation.s-indent separation.s-separate-in-line separation.b-comment separation.s-b-comment separation.s-l-comments separation.s-separate-lines separation.s-separate separation.DocumentMarkOf separation.DocumentMark tags.is_name tags.ns-anchor-name tags.c-ns-anchor-property tags.c-ns-properties flow.is_flow flow.plain_safe flow.PlainFirst flow.PlainChar flow.plain_line flow.ns-plain nodes.ns-flow-yaml-node nodes.ns-s-implicit-yaml-key nodes.ns-flow-node nodes.s-l+block-indented nodes.c-l-block-seq-entry nodes.ns-l-block-map-entry nodes.l+block-sequence nodes.l+block-mapping nodes.s-l+block-node nodes.reads streams.ends_explicitly streams.piece_events streams.stream_of_pieces streams.l-bare-document streams.l-any-document streams.l-yaml-stream streams.ReadsText encode
empty_nodes = (((streams.document_piece false ((mapping_start false None untagged) ∷ (scalar_event None untagged plain (codes "a")) ∷ (scalar_event None untagged plain []) ∷ (scalar_event None untagged plain (codes "b")) ∷ (sequence_start false None untagged) ∷ (scalar_event None untagged plain []) ∷ (scalar_event (Some (codes "c")) untagged plain []) ∷ sequence_end ∷ mapping_end ∷ [])) ∷ []), (15, ((streams.document_piece false ((mapping_start false None untagged) ∷ (scalar_event None untagged plain (codes "a")) ∷ (scalar_event None untagged plain []) ∷ (scalar_event None untagged plain (codes "b")) ∷ (sequence_start false None untagged) ∷ (scalar_event None untagged plain []) ∷ (scalar_event (Some (codes "c")) untagged plain []) ∷ sequence_end ∷ mapping_end ∷ [])) ∷ []), [], (0, (Spans.done refl), (inr (inl (((mapping_start false None untagged) ∷ (scalar_event None untagged plain (codes "a")) ∷ (scalar_event None untagged plain []) ∷ (scalar_event None untagged plain (codes "b")) ∷ (sequence_start false None untagged) ∷ (scalar_event None untagged plain []) ∷ (scalar_event (Some (codes "c")) untagged plain []) ∷ sequence_end ∷ mapping_end ∷ []), ((unmarked empty_nodes_text 0 15 refl), (inr (inr (0, (record { anchor = None; tag = untagged }), (0, (inl (refl, refl)), (0, (inr (refl, (inl refl))), (Spans.done refl))), (inl (tt, (((scalar_event None untagged plain (codes "a")) ∷ (scalar_event None untagged plain []) ∷ (scalar_event None untagged plain (codes "b")) ∷ (sequence_start false None untagged) ∷ (scalar_event None untagged plain []) ∷ (scalar_event (Some (codes "c")) untagged plain []) ∷ sequence_end ∷ []), (0, ((omega arith), (3, ((scalar_event None untagged plain (codes "a")) ∷ (scalar_event None untagged plain []) ∷ []), ((scalar_event None untagged plain (codes "b")) ∷ (sequence_start false None untagged) ∷ (scalar_event None untagged plain []) ∷ (scalar_event (Some (codes "c")) untagged plain []) ∷ sequence_end ∷ []), (0, ((stands_each empty_nodes_text _ 0 0 refl), refl), (2, ((scalar_event None untagged plain (codes "a")) ∷ []), ((scalar_event None untagged plain []) ∷ []), (1, (inl (((unbroken empty_nodes_text 0 1 refl), (omega arith)), (1, (inr (inl ((codes "a"), ((unmarked empty_nodes_text 0 1 refl), (1, (codes "a"), [], (((λ h. (not_behind empty_nodes_text _ 0 refl h)), (1, ((inl (97, refl, refl)), refl), ((omega arith), (none_between _ 1)))), refl), (done refl refl), refl)), refl))), (inl refl)))), (refl, refl)), (inr (2, (refl, refl), (3, (inl (2, (inl refl), (inl (inr (inr (2, (refl, (λ h. (not_behind empty_nodes_text _ 1 refl h))), (refl, refl))))))), (Spans.done refl)))), refl)), (then 15 ((scalar_event None untagged plain (codes "b")) ∷ (sequence_start false None untagged) ∷ (scalar_event None untagged plain []) ∷ (scalar_event (Some (codes "c")) untagged plain []) ∷ sequence_end ∷ []) [] (3, ((stands_each empty_nodes_text _ 3 0 refl), refl), (5, ((scalar_event None untagged plain (codes "b")) ∷ []), ((sequence_start false None untagged) ∷ (scalar_event None untagged plain []) ∷ (scalar_event (Some (codes "c")) untagged plain []) ∷ sequence_end ∷ []), (4, (inl (((unbroken empty_nodes_text 3 1 refl), (omega arith)), (4, (inr (inl ((codes "b"), ((unmarked empty_nodes_text 3 1 refl), (4, (codes "b"), [], (((λ h. (not_behind empty_nodes_text _ 3 refl h)), (4, ((inl (98, refl, refl)), refl), ((omega arith), (none_between _ 4)))), refl), (done refl refl), refl)), refl))), (inl refl)))), (refl, refl)), (inl (inr (inr (6, (record { anchor = None; tag = untagged }), (5, (inl (refl, refl)), (6, (inl (5, (inl refl), (inl (inr (inr (5, (refl, (λ h. (not_behind empty_nodes_text _ 4 refl h))), (refl, refl))))))), (Spans.done refl))), (inr (tt, (((scalar_event None untagged plain []) ∷ (scalar_event (Some (codes "c")) untagged plain []) ∷ []), (1, ((omega arith), (9, ((scalar_event None untagged plain []) ∷ []), ((scalar_event (Some (codes "c")) untagged plain []) ∷ []), (7, ((stands_each empty_nodes_text _ 6 1 refl), refl), (8, (8, (refl, refl), (refl, (λ h. (not_here empty_nodes_text _ 8 refl h)))), (inr (inr (8, (refl, refl), (9, (inl (8, (inl refl), (inl (inr (inr (8, (refl, (λ h. (not_behind empty_nodes_text _ 7 refl h))), (refl, refl))))))), (Spans.done refl))))))), (then 15 ((scalar_event (Some (codes "c")) untagged plain []) ∷ []) [] (10, ((stands_each empty_nodes_text _ 9 1 refl), refl), (11, (11, (refl, refl), (refl, (λ h. (not_here empty_nodes_text _ 11 refl h)))), (inr (inl (inl (12, (inr (inl ((stands_each empty_nodes_text _ 11 1 refl), (omega arith)))), (14, (inl (inr (inr (14, (record { anchor = (Some (codes "c")); tag = untagged }), (inr (14, (codes "c"), (13, (refl, refl), (((stands_each empty_nodes_text _ 13 1 refl), (omega arith), (λ h. (not_here empty_nodes_text _ 14 refl h))), refl)), (inl (refl, refl)))), (inr (refl, refl)))))), (15, (inl (14, (inl refl), (inl (inr (inr (14, (refl, (λ h. (not_behind empty_nodes_text _ 13 refl h))), (refl, refl))))))), (Spans.done refl))))))))) (done refl refl) refl), refl))), refl))))))), refl)) (done refl refl) refl), refl))), refl))))))), refl)))), (done refl refl), refl), refl)

abbrev comments_text : List ℕ
comments_text = codes "# c\na#b # d\n # e\n"

-- 6.6: comments on lines of their own, after a node, and none without a space before its `#`
pub comments : ReadsText comments_text (Unit {0}) open_limit (
    stream_start
    ∷ document_start false
    ∷ scalar_event None untagged plain (codes "a#b")
    ∷ document_end false
    ∷ stream_end
    ∷ [])
unfolding characters.is_indicator characters.is_flow_indicator characters.is_break characters.is_nb characters.is_space characters.is_white characters.is_ns characters.b-break separation.StartsLine separation.s-indent separation.s-separate-in-line separation.c-nb-comment-text separation.b-comment separation.s-b-comment separation.l-comment separation.s-l-comments separation.s-separate-lines separation.s-separate separation.DocumentMarkOf separation.DocumentMark flow.is_flow flow.plain_safe flow.PlainFirst flow.PlainChar flow.plain_line flow.ns-plain nodes.ns-flow-yaml-node nodes.ns-flow-node nodes.s-l+block-node nodes.reads streams.ends_explicitly streams.piece_events streams.stream_of_pieces streams.l-bare-document streams.l-any-document streams.l-yaml-stream streams.ReadsText encode
comments = (((streams.document_piece false ((scalar_event None untagged plain (codes "a#b")) ∷ [])) ∷ []), (12, ((streams.document_piece false ((scalar_event None untagged plain (codes "a#b")) ∷ [])) ∷ []), [], (0, (Spans.done refl), (inr (inl (((scalar_event None untagged plain (codes "a#b")) ∷ []), ((unmarked comments_text 0 12 refl), (inl (4, (inl (4, (0, (inr (refl, (inl refl))), (Spans.then 4 ((omega arith), (0, (inr (refl, (inl refl))), (3, (inr (1, (refl, refl), (stands_each comments_text _ 1 2 refl))), (inl (inr (inr (3, (refl, (λ h. (not_behind comments_text _ 2 refl h))), (refl, refl)))))))) (Spans.done refl))), (4, ((stands_each comments_text _ 4 0 refl), refl), (stands_each comments_text _ 4 0 refl)))), (7, (inl (inr (inl ((codes "a#b"), ((unmarked comments_text 4 3 refl), (7, (codes "a#b"), [], (((λ h. (not_behind comments_text _ 6 refl h)), (5, ((inl (97, refl, refl)), refl), ((omega arith), (next_between _ 5 7 (inl (inr (inl ((35, refl, refl), ((omega arith), (97, refl, refl)))))) (next_between _ 6 7 (inl (inl (98, refl, refl))) (none_between _ 7)))))), refl), (done refl refl), refl)), refl)))), (12, (inl (11, (inr (8, (inl ((stands_each comments_text _ 7 1 refl), (omega arith))), (inr (9, (refl, refl), (stands_each comments_text _ 9 2 refl))))), (inl (inr (inr (11, (refl, (λ h. (not_behind comments_text _ 10 refl h))), (refl, refl))))))), (Spans.done refl)))))), refl)))), (then 17 [] [] (inr (inr (17, ((omega arith), (13, (inl ((stands_each comments_text _ 12 1 refl), (omega arith))), (16, (inr (14, (refl, refl), (stands_each comments_text _ 14 2 refl))), (inl (inr (inr (16, (refl, (λ h. (not_behind comments_text _ 15 refl h))), (refl, refl)))))))), (refl, refl)))) (done refl refl) refl), refl), refl)
