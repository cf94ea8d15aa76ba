-- Example readings of directives, tags, documents and streams (YAML 1.2.2, 5, 6.8, 6.9 and 9). Written by tools/definitions/derive.py.
use Rattle.std.proofs.Common.{ℕ, true, false, List, [], ◌∷◌, None, refl, arith, inl, inr}
use Rattle.std.specs.Prelude.{codes}
use Rattle.std.specs.Str.{is_utf8, chars}
use Rattle.std.proofs.lemmas.List.Sums.{AllPass-from_list_all}
use Rattle.std.proofs.Math.Utf8.{encode}
use Rattle.yaml_definitions.specs.model.Limits.{open_limit}
use Rattle.yaml_definitions.specs.model.Event.{stream_start, stream_end, document_start, document_end, sequence_start, sequence_end, mapping_start, mapping_end, scalar_event, plain, literal, untagged, non_specific, full}
use Rattle.yaml_definitions.specs.model.Text.{is_text}
use Rattle.yaml_definitions.specs.grammar.Rules.{done, then, Spans}
use Rattle.yaml_definitions.specs.grammar.Streams.{ReadsText}
use Rattle.yaml_definitions.specs.grammar.Reading.{Reads}
use Rattle.yaml_definitions.proofs.grammar.Derive.{not_here, not_behind, none_between, stands_each, unbroken, no_mark, unmarked}
use Rattle.yaml_definitions.specs.grammar.Characters as characters
use Rattle.yaml_definitions.specs.grammar.Separation as separation
use Rattle.yaml_definitions.specs.grammar.Tags as tags
use Rattle.yaml_definitions.specs.grammar.FlowScalars as flow
use Rattle.yaml_definitions.specs.grammar.BlockScalars as block
use Rattle.yaml_definitions.specs.grammar.Nodes as nodes
use Rattle.yaml_definitions.specs.grammar.Directives as directives
use Rattle.yaml_definitions.specs.grammar.Streams as streams
use Rattle.yaml_definitions.specs.model.Tag as model

abbrev tag_of_directive_text : List ℕ
tag_of_directive_text = codes "%TAG !e! a%c3\n---\n!e!%a9 v\n"

-- 6.8.2, 6.9.1: a prefix and a suffix, joined before they are decoded
pub tag_of_directive : ReadsText tag_of_directive_text (Unit {0}) open_limit (
    stream_start
    ∷ document_start true
    ∷ scalar_event None (full (97 ∷ 195 ∷ 169 ∷ [])) plain (codes "v")
    ∷ document_end false
    ∷ stream_end
    ∷ [])
unfolding characters.is_indicator characters.is_flow_indicator characters.is_break characters.is_nb characters.is_space characters.is_white characters.is_ns characters.is_word characters.is_uri characters.is_tag characters.b-break separation.StartsLine separation.s-indent separation.s-separate-in-line separation.b-comment separation.s-b-comment separation.s-l-comments separation.s-separate-lines separation.s-separate separation.DocumentMarkOf separation.DocumentMark tags.percent_decode tags.decoded tags.default_handles tags.prefix_of tags.joined tags.is_name tags.uri_char tags.tag_char tags.c-tag-handle tags.ns-tag-prefix tags.c-ns-shorthand-tag tags.c-ns-tag-property tags.c-ns-properties flow.is_flow flow.plain_safe flow.PlainFirst flow.PlainChar flow.plain_line flow.ns-plain nodes.ns-flow-yaml-node nodes.ns-flow-node nodes.s-l+block-node nodes.reads directives.bindings directives.excludes directives.is_consistent directives.ns-tag-directive directives.l-directive directives.directives streams.ends_explicitly streams.piece_events streams.stream_of_pieces streams.document_mark streams.l-bare-document streams.l-explicit-document streams.l-directive-document streams.l-any-document streams.l-yaml-stream model.is_full streams.ReadsText encode is_utf8 chars
tag_of_directive = (((streams.document_piece true ((scalar_event None (full (97 ∷ 195 ∷ 169 ∷ [])) plain (codes "v")) ∷ [])) ∷ []), (27, ((streams.document_piece true ((scalar_event None (full (97 ∷ 195 ∷ 169 ∷ [])) plain (codes "v")) ∷ [])) ∷ []), [], (0, (Spans.done refl), (inr (inr (inr (((scalar_event None (full (97 ∷ 195 ∷ 169 ∷ [])) plain (codes "v")) ∷ []), (14, (((codes "!e!"), (codes "a%c3")) ∷ []), (((directives.binding (codes "!e!") (codes "a%c3")) ∷ []), (refl, (14, ((directives.binding (codes "!e!") (codes "a%c3")) ∷ []), [], (0, (refl, (inl refl)), (13, ((directives.binding (codes "!e!") (codes "a%c3")), (inr (inl (5, (4, (1, (refl, refl), (2, (refl, refl), (3, (refl, refl), (4, (refl, refl), refl)))), ((stands_each tag_of_directive_text _ 4 1 refl), (omega arith))), (8, (codes "!e!"), ((inl (6, (refl, refl), (7, ((stands_each tag_of_directive_text _ 6 1 refl), (omega arith)), (refl, refl)))), refl), (9, ((stands_each tag_of_directive_text _ 8 1 refl), (omega arith)), ((codes "a%c3"), ((10, (inr (inl ((97, refl, refl), refl))), (Spans.then 13 (inr (11, (refl, refl), (12, ((99, refl, refl), refl), ((51, refl, refl), refl)))) (Spans.done refl))), refl), refl)))))), refl), (14, (inl (13, (inl refl), (inl (inr (inr (13, (refl, (λ h. (not_behind tag_of_directive_text _ 12 refl h))), (refl, refl))))))), (Spans.done refl)))), (done refl refl), refl)), refl), (17, (14, (refl, ((inr (13, (inr (inr (13, (refl, (λ h. (not_behind tag_of_directive_text _ 12 refl h))), (refl, refl)))))), (17, (15, (refl, refl), (16, (refl, refl), (17, (refl, refl), refl)))), (inr (inl (10, refl, refl))))), (15, (refl, refl), (16, (refl, refl), (17, (refl, refl), refl)))), (inl ((unmarked tag_of_directive_text 17 10 refl), (inl (18, (inl (18, (18, (inl (17, (inl refl), (inl (inr (inr (17, (refl, (λ h. (not_behind tag_of_directive_text _ 16 refl h))), (refl, refl))))))), (Spans.done refl)), (18, ((stands_each tag_of_directive_text _ 18 0 refl), refl), (stands_each tag_of_directive_text _ 18 0 refl)))), (26, (inl (inr (inr (24, (record { anchor = None; tag = (full (97 ∷ 195 ∷ 169 ∷ [])) }), (inl (24, (full (97 ∷ 195 ∷ 169 ∷ [])), (24, (inr (inl (21, (codes "!e!"), ((inl (19, (refl, refl), (20, ((stands_each tag_of_directive_text _ 19 1 refl), (omega arith)), (refl, refl)))), refl), ((codes "%a9"), ((24, (inr (22, (refl, refl), (23, ((97, refl, refl), refl), ((57, refl, refl), refl)))), (Spans.done refl)), refl), refl)))), (refl, (λ h. (not_here tag_of_directive_text _ 24 refl h)))), (inl (refl, refl)))), (inl (25, (inr (inl ((stands_each tag_of_directive_text _ 24 1 refl), (omega arith)))), ((codes "v"), ((unmarked tag_of_directive_text 25 1 refl), (26, (codes "v"), [], (((λ h. (not_behind tag_of_directive_text _ 25 refl h)), (26, ((inl (118, refl, refl)), refl), ((omega arith), (none_between _ 26)))), refl), (done refl refl), refl)), refl))))))), (27, (inl (26, (inl refl), (inl (inr (inr (26, (refl, (λ h. (not_behind tag_of_directive_text _ 25 refl h))), (refl, refl))))))), (Spans.done refl))))))))), refl))))), (done refl refl), refl), refl)

abbrev tag_forms_text : List ℕ
tag_forms_text = codes "[!<b> a, !!int 1, !c d, ! e]"

-- 6.9.1: a verbatim tag, the secondary handle, the primary one, and the non-specific tag
pub tag_forms : ReadsText tag_forms_text (Unit {0}) open_limit (
    stream_start
    ∷ document_start false
    ∷ sequence_start true None untagged
    ∷ scalar_event None (full (codes "b")) plain (codes "a")
    ∷ scalar_event None (full (codes "tag:yaml.org,2002:int")) plain (codes "1")
    ∷ scalar_event None (full (codes "!c")) plain (codes "d")
    ∷ scalar_event None non_specific plain (codes "e")
    ∷ sequence_end
    ∷ document_end false
    ∷ stream_end
    ∷ [])
unfolding characters.is_indicator characters.is_flow_indicator characters.is_break characters.is_nb characters.is_space characters.is_white characters.is_ns characters.is_word characters.is_uri characters.is_tag separation.inner separation.StartsLine separation.s-indent separation.s-separate-in-line separation.b-comment separation.s-b-comment separation.s-l-comments separation.s-separate-lines separation.s-separate separation.DocumentMarkOf separation.DocumentMark tags.percent_decode tags.decoded tags.default_handles tags.prefix_of tags.joined tags.is_name tags.uri_char tags.tag_char tags.c-tag-handle tags.c-verbatim-tag tags.c-ns-shorthand-tag tags.c-non-specific-tag tags.c-ns-tag-property tags.c-ns-properties flow.is_flow flow.plain_safe flow.PlainFirst flow.PlainChar flow.plain_line flow.ns-plain nodes.ns-flow-yaml-node nodes.c-flow-sequence nodes.c-flow-json-node nodes.ns-flow-node nodes.s-l+block-node nodes.reads streams.ends_explicitly streams.piece_events streams.stream_of_pieces streams.l-bare-document streams.l-any-document streams.l-yaml-stream model.is_full streams.ReadsText encode is_utf8 chars
tag_forms = (((streams.document_piece false ((sequence_start true None untagged) ∷ (scalar_event None (full (codes "b")) plain (codes "a")) ∷ (scalar_event None (full (codes "tag:yaml.org,2002:int")) plain (codes "1")) ∷ (scalar_event None (full (codes "!c")) plain (codes "d")) ∷ (scalar_event None non_specific plain (codes "e")) ∷ sequence_end ∷ [])) ∷ []), (28, ((streams.document_piece false ((sequence_start true None untagged) ∷ (scalar_event None (full (codes "b")) plain (codes "a")) ∷ (scalar_event None (full (codes "tag:yaml.org,2002:int")) plain (codes "1")) ∷ (scalar_event None (full (codes "!c")) plain (codes "d")) ∷ (scalar_event None non_specific plain (codes "e")) ∷ sequence_end ∷ [])) ∷ []), [], (0, (Spans.done refl), (inr (inl (((sequence_start true None untagged) ∷ (scalar_event None (full (codes "b")) plain (codes "a")) ∷ (scalar_event None (full (codes "tag:yaml.org,2002:int")) plain (codes "1")) ∷ (scalar_event None (full (codes "!c")) plain (codes "d")) ∷ (scalar_event None non_specific plain (codes "e")) ∷ sequence_end ∷ []), ((unmarked tag_forms_text 0 28 refl), (inl (0, (inl (0, (0, (inr (refl, (inl refl))), (Spans.done refl)), (0, ((stands_each tag_forms_text _ 0 0 refl), refl), (stands_each tag_forms_text _ 0 0 refl)))), (28, (inr (0, (record { anchor = None; tag = untagged }), (inl (refl, refl)), (inr (inr (inl (tt, (((scalar_event None (full (codes "b")) plain (codes "a")) ∷ (scalar_event None (full (codes "tag:yaml.org,2002:int")) plain (codes "1")) ∷ (scalar_event None (full (codes "!c")) plain (codes "d")) ∷ (scalar_event None non_specific plain (codes "e")) ∷ []), (1, (1, (refl, refl), (inl refl)), (27, (24, ((scalar_event None (full (codes "b")) plain (codes "a")) ∷ (scalar_event None (full (codes "tag:yaml.org,2002:int")) plain (codes "1")) ∷ (scalar_event None (full (codes "!c")) plain (codes "d")) ∷ []), ((scalar_event None non_specific plain (codes "e")) ∷ []), (then 9 ((scalar_event None (full (codes "b")) plain (codes "a")) ∷ []) ((scalar_event None (full (codes "tag:yaml.org,2002:int")) plain (codes "1")) ∷ (scalar_event None (full (codes "!c")) plain (codes "d")) ∷ []) (7, (7, (inr (inl (inr (inr (5, (record { anchor = None; tag = (full (codes "b")) }), (inl (5, (full (codes "b")), (5, (inl (3, (2, (refl, refl), (3, (refl, refl), refl)), (4, ((codes "b"), ((4, (inl ((98, refl, refl), refl)), (Spans.done refl)), refl), refl), (refl, refl)))), (refl, (λ h. (not_here tag_forms_text _ 5 refl h)))), (inl (refl, refl)))), (inl (6, (inr (inl ((stands_each tag_forms_text _ 5 1 refl), (omega arith)))), ((codes "a"), ((unmarked tag_forms_text 6 1 refl), (7, (codes "a"), [], (((λ h. (not_behind tag_forms_text _ 6 refl h)), (7, ((inl (97, refl, refl)), refl), ((omega arith), (none_between _ 7)))), refl), (done refl refl), refl)), refl)))))))), (inl refl)), (8, (refl, refl), (inr (inr (inl ((stands_each tag_forms_text _ 8 1 refl), (omega arith))))))) (then 18 ((scalar_event None (full (codes "tag:yaml.org,2002:int")) plain (codes "1")) ∷ []) ((scalar_event None (full (codes "!c")) plain (codes "d")) ∷ []) (16, (16, (inr (inl (inr (inr (14, (record { anchor = None; tag = (full (codes "tag:yaml.org,2002:int")) }), (inl (14, (full (codes "tag:yaml.org,2002:int")), (14, (inr (inl (11, (codes "!!"), ((inr (inl (10, (refl, refl), (refl, refl)))), refl), ((codes "int"), ((12, (inl ((105, refl, refl), refl)), (Spans.then 13 (inl ((110, refl, refl), refl)) (Spans.then 14 (inl ((116, refl, refl), refl)) (Spans.done refl)))), refl), refl)))), (refl, (λ h. (not_here tag_forms_text _ 14 refl h)))), (inl (refl, refl)))), (inl (15, (inr (inl ((stands_each tag_forms_text _ 14 1 refl), (omega arith)))), ((codes "1"), ((unmarked tag_forms_text 15 1 refl), (16, (codes "1"), [], (((λ h. (not_behind tag_forms_text _ 15 refl h)), (16, ((inl (49, refl, refl)), refl), ((omega arith), (none_between _ 16)))), refl), (done refl refl), refl)), refl)))))))), (inl refl)), (17, (refl, refl), (inr (inr (inl ((stands_each tag_forms_text _ 17 1 refl), (omega arith))))))) (then 24 ((scalar_event None (full (codes "!c")) plain (codes "d")) ∷ []) [] (22, (22, (inr (inl (inr (inr (20, (record { anchor = None; tag = (full (codes "!c")) }), (inl (20, (full (codes "!c")), (20, (inr (inl (19, (codes "!"), ((inr (inr (refl, refl))), refl), ((codes "c"), ((20, (inl ((99, refl, refl), refl)), (Spans.done refl)), refl), refl)))), (refl, (λ h. (not_here tag_forms_text _ 20 refl h)))), (inl (refl, refl)))), (inl (21, (inr (inl ((stands_each tag_forms_text _ 20 1 refl), (omega arith)))), ((codes "d"), ((unmarked tag_forms_text 21 1 refl), (22, (codes "d"), [], (((λ h. (not_behind tag_forms_text _ 21 refl h)), (22, ((inl (100, refl, refl)), refl), ((omega arith), (none_between _ 22)))), refl), (done refl refl), refl)), refl)))))))), (inl refl)), (23, (refl, refl), (inr (inr (inl ((stands_each tag_forms_text _ 23 1 refl), (omega arith))))))) (done refl refl) refl) refl) refl), (inr (27, (inr (inl (inr (inr (25, (record { anchor = None; tag = non_specific }), (inl (25, non_specific, (25, (inr (inr (25, (refl, refl), (refl, refl)))), (refl, (λ h. (not_here tag_forms_text _ 25 refl h)))), (inl (refl, refl)))), (inl (26, (inr (inl ((stands_each tag_forms_text _ 25 1 refl), (omega arith)))), ((codes "e"), ((unmarked tag_forms_text 26 1 refl), (27, (codes "e"), [], (((λ h. (not_behind tag_forms_text _ 26 refl h)), (27, ((inl (101, refl, refl)), refl), ((omega arith), (none_between _ 27)))), refl), (done refl refl), refl)), refl)))))))), (inl refl))), refl), (refl, refl))), refl))))))), (28, (inl (28, (inl refl), (inr (refl, refl)))), (Spans.done refl)))))), refl)))), (done refl refl), refl), refl)

abbrev other_directives_text : List ℕ
other_directives_text = codes "%YAML 1.2\n%x y # c\n--- a"

-- 6.8: a version, and a reserved directive, which is ignored
pub other_directives : ReadsText other_directives_text (Unit {0}) open_limit (
    stream_start
    ∷ document_start true
    ∷ scalar_event None untagged plain (codes "a")
    ∷ document_end false
    ∷ stream_end
    ∷ [])
unfolding characters.is_indicator characters.is_flow_indicator characters.is_break characters.is_nb characters.is_space characters.is_white characters.is_ns characters.b-break separation.StartsLine separation.s-separate-in-line separation.c-nb-comment-text separation.b-comment separation.s-b-comment separation.s-l-comments separation.s-separate-lines separation.s-separate separation.DocumentMarkOf separation.DocumentMark flow.is_flow flow.plain_safe flow.PlainFirst flow.PlainChar flow.plain_line flow.ns-plain nodes.ns-flow-yaml-node nodes.ns-flow-node nodes.s-l+block-node nodes.reads directives.bindings directives.excludes directives.is_consistent directives.is_known directives.ns-yaml-directive directives.ns-reserved-directive directives.l-directive directives.directives streams.ends_explicitly streams.piece_events streams.stream_of_pieces streams.document_mark streams.l-bare-document streams.l-explicit-document streams.l-directive-document streams.l-any-document streams.l-yaml-stream streams.ReadsText encode
other_directives = (((streams.document_piece true ((scalar_event None untagged plain (codes "a")) ∷ [])) ∷ []), (24, ((streams.document_piece true ((scalar_event None untagged plain (codes "a")) ∷ [])) ∷ []), [], (0, (Spans.done refl), (inr (inr (inr (((scalar_event None untagged plain (codes "a")) ∷ []), (19, [], ((directives.version ∷ directives.reserved ∷ []), (refl, (10, (directives.version ∷ []), (directives.reserved ∷ []), (0, (refl, (inl refl)), (9, (directives.version, (inl (9, (5, (1, (refl, refl), (2, (refl, refl), (3, (refl, refl), (4, (refl, refl), (5, (refl, refl), refl))))), (6, ((stands_each other_directives_text _ 5 1 refl), (omega arith)), (7, (refl, refl), (8, (refl, refl), (9, (refl, refl), refl))))), (refl, refl))), refl), (10, (inl (9, (inl refl), (inl (inr (inr (9, (refl, (λ h. (not_behind other_directives_text _ 8 refl h))), (refl, refl))))))), (Spans.done refl)))), (then 19 (directives.reserved ∷ []) [] (10, (refl, (inr (9, (inr (inr (9, (refl, (λ h. (not_behind other_directives_text _ 8 refl h))), (refl, refl))))))), (14, (directives.reserved, (inr (inr (11, (refl, refl), (12, ((codes "x"), (refl, (((stands_each other_directives_text _ 11 1 refl), (omega arith), (λ h. (not_here other_directives_text _ 12 refl h))), refl)), refl), (Spans.then 14 (13, ((stands_each other_directives_text _ 12 1 refl), (omega arith)), ((stands_each other_directives_text _ 13 1 refl), (omega arith))) (Spans.done refl)))))), refl), (19, (inl (18, (inr (15, (inl ((stands_each other_directives_text _ 14 1 refl), (omega arith))), (inr (16, (refl, refl), (stands_each other_directives_text _ 16 2 refl))))), (inl (inr (inr (18, (refl, (λ h. (not_behind other_directives_text _ 17 refl h))), (refl, refl))))))), (Spans.done refl)))) (done refl refl) refl), refl)), refl), (22, (19, (refl, ((inr (18, (inr (inr (18, (refl, (λ h. (not_behind other_directives_text _ 17 refl h))), (refl, refl)))))), (22, (20, (refl, refl), (21, (refl, refl), (22, (refl, refl), refl)))), (inl (32, refl, refl)))), (20, (refl, refl), (21, (refl, refl), (22, (refl, refl), refl)))), (inl ((unmarked other_directives_text 22 2 refl), (inl (23, (inr (inl ((stands_each other_directives_text _ 22 1 refl), (omega arith)))), (24, (inl (inr (inl ((codes "a"), ((unmarked other_directives_text 23 1 refl), (24, (codes "a"), [], (((λ h. (not_behind other_directives_text _ 23 refl h)), (24, ((inl (97, refl, refl)), refl), ((omega arith), (none_between _ 24)))), refl), (done refl refl), refl)), refl)))), (24, (inl (24, (inl refl), (inr (refl, refl)))), (Spans.done refl))))))))), refl))))), (done refl refl), refl), refl)

abbrev two_documents_text : List ℕ
two_documents_text = codes "a\n...\nb\n"

-- 9.2: a suffix between two bare documents
pub two_documents : ReadsText two_documents_text (Unit {0}) open_limit (
    stream_start
    ∷ document_start false
    ∷ scalar_event None untagged plain (codes "a")
    ∷ document_end true
    ∷ document_start false
    ∷ scalar_event None untagged plain (codes "b")
    ∷ document_end false
    ∷ stream_end
    ∷ [])
unfolding characters.is_indicator characters.is_flow_indicator characters.is_break characters.is_nb characters.is_space characters.is_white characters.is_ns characters.b-break separation.StartsLine separation.s-indent separation.b-comment separation.s-b-comment separation.s-l-comments separation.s-separate-lines separation.s-separate separation.DocumentMarkOf separation.DocumentMark flow.is_flow flow.plain_safe flow.PlainFirst flow.PlainChar flow.plain_line flow.ns-plain nodes.ns-flow-yaml-node nodes.ns-flow-node nodes.s-l+block-node nodes.reads streams.ends_explicitly streams.piece_events streams.stream_of_pieces streams.document_mark streams.l-bare-document streams.l-any-document streams.l-document-suffix streams.l-yaml-stream streams.ReadsText encode
two_documents = (((streams.document_piece false ((scalar_event None untagged plain (codes "a")) ∷ [])) ∷ streams.suffix_piece ∷ (streams.document_piece false ((scalar_event None untagged plain (codes "b")) ∷ [])) ∷ []), (2, ((streams.document_piece false ((scalar_event None untagged plain (codes "a")) ∷ [])) ∷ []), (streams.suffix_piece ∷ (streams.document_piece false ((scalar_event None untagged plain (codes "b")) ∷ [])) ∷ []), (0, (Spans.done refl), (inr (inl (((scalar_event None untagged plain (codes "a")) ∷ []), ((unmarked two_documents_text 0 2 refl), (inl (0, (inl (0, (0, (inr (refl, (inl refl))), (Spans.done refl)), (0, ((stands_each two_documents_text _ 0 0 refl), refl), (stands_each two_documents_text _ 0 0 refl)))), (1, (inl (inr (inl ((codes "a"), ((unmarked two_documents_text 0 1 refl), (1, (codes "a"), [], (((λ h. (not_behind two_documents_text _ 0 refl h)), (1, ((inl (97, refl, refl)), refl), ((omega arith), (none_between _ 1)))), refl), (done refl refl), refl)), refl)))), (2, (inl (1, (inl refl), (inl (inr (inr (1, (refl, (λ h. (not_behind two_documents_text _ 0 refl h))), (refl, refl))))))), (Spans.done refl)))))), refl)))), (then 8 (streams.suffix_piece ∷ (streams.document_piece false ((scalar_event None untagged plain (codes "b")) ∷ [])) ∷ []) [] (inl (6, (streams.suffix_piece ∷ []), ((streams.document_piece false ((scalar_event None untagged plain (codes "b")) ∷ [])) ∷ []), (6, (streams.suffix_piece ∷ []), [], (5, (2, (refl, ((inr (1, (inr (inr (1, (refl, (λ h. (not_behind two_documents_text _ 0 refl h))), (refl, refl)))))), (5, (3, (refl, refl), (4, (refl, refl), (5, (refl, refl), refl)))), (inr (inl (10, refl, refl))))), (3, (refl, refl), (4, (refl, refl), (5, (refl, refl), refl)))), (5, (refl, refl), (6, (inl (5, (inl refl), (inl (inr (inr (5, (refl, (λ h. (not_behind two_documents_text _ 4 refl h))), (refl, refl))))))), (Spans.done refl)))), (done refl refl), refl), (6, (Spans.done refl), (inr (inl (((scalar_event None untagged plain (codes "b")) ∷ []), ((unmarked two_documents_text 6 2 refl), (inl (6, (inl (6, (6, (inr (refl, (inr (5, (inr (inr (5, (refl, (λ h. (not_behind two_documents_text _ 4 refl h))), (refl, refl)))))))), (Spans.done refl)), (6, ((stands_each two_documents_text _ 6 0 refl), refl), (stands_each two_documents_text _ 6 0 refl)))), (7, (inl (inr (inl ((codes "b"), ((unmarked two_documents_text 6 1 refl), (7, (codes "b"), [], (((λ h. (not_behind two_documents_text _ 6 refl h)), (7, ((inl (98, refl, refl)), refl), ((omega arith), (none_between _ 7)))), refl), (done refl refl), refl)), refl)))), (8, (inl (7, (inl refl), (inl (inr (inr (7, (refl, (λ h. (not_behind two_documents_text _ 6 refl h))), (refl, refl))))))), (Spans.done refl)))))), refl)))), refl)) (done refl refl) refl), refl), refl)

abbrev document_marks_text : List ℕ
document_marks_text = codes "--- a\n---\n# c\n--- |\n b\n...\n"

-- 9.1.4, 9.2: explicit documents need no suffix
pub document_marks : ReadsText document_marks_text (Unit {0}) open_limit (
    stream_start
    ∷ document_start true
    ∷ scalar_event None untagged plain (codes "a")
    ∷ document_end false
    ∷ document_start true
    ∷ scalar_event None untagged plain []
    ∷ document_end false
    ∷ document_start true
    ∷ scalar_event None untagged literal (codes "b\n")
    ∷ document_end true
    ∷ stream_end
    ∷ [])
unfolding characters.is_indicator characters.is_flow_indicator characters.is_break characters.is_nb characters.is_space characters.is_white characters.is_ns characters.b-break separation.StartsLine separation.s-indent separation.s-separate-in-line separation.c-nb-comment-text separation.b-comment separation.s-b-comment separation.l-comment separation.s-l-comments separation.s-separate-lines separation.s-separate separation.DocumentMarkOf separation.DocumentMark flow.is_flow flow.plain_safe flow.PlainFirst flow.PlainChar flow.plain_line flow.ns-plain block.is_spaced block.joint block.chomped block.after_line block.kept_breaks block.content_after block.content block.c-indentation-indicator block.c-chomping-indicator block.c-b-block-header block.found_indentation block.indentation block.text_line block.lines block.block_content block.c-l+literal nodes.ns-flow-yaml-node nodes.ns-flow-node nodes.s-l+block-node nodes.reads streams.ends_explicitly streams.piece_events streams.stream_of_pieces streams.document_mark streams.l-bare-document streams.l-explicit-document streams.l-document-suffix streams.l-yaml-stream streams.ReadsText encode
document_marks = (((streams.document_piece true ((scalar_event None untagged plain (codes "a")) ∷ [])) ∷ (streams.document_piece true ((scalar_event None untagged plain []) ∷ [])) ∷ (streams.document_piece true ((scalar_event None untagged literal (codes "b\n")) ∷ [])) ∷ streams.suffix_piece ∷ []), (0, [], ((streams.document_piece true ((scalar_event None untagged plain (codes "a")) ∷ [])) ∷ (streams.document_piece true ((scalar_event None untagged plain []) ∷ [])) ∷ (streams.document_piece true ((scalar_event None untagged literal (codes "b\n")) ∷ [])) ∷ streams.suffix_piece ∷ []), (0, (Spans.done refl), (inl (refl, refl))), (then 6 ((streams.document_piece true ((scalar_event None untagged plain (codes "a")) ∷ [])) ∷ []) ((streams.document_piece true ((scalar_event None untagged plain []) ∷ [])) ∷ (streams.document_piece true ((scalar_event None untagged literal (codes "b\n")) ∷ [])) ∷ streams.suffix_piece ∷ []) (inr (inl (((scalar_event None untagged plain (codes "a")) ∷ []), (3, (0, (refl, ((inl refl), (3, (1, (refl, refl), (2, (refl, refl), (3, (refl, refl), refl)))), (inl (32, refl, refl)))), (1, (refl, refl), (2, (refl, refl), (3, (refl, refl), refl)))), (inl ((unmarked document_marks_text 3 3 refl), (inl (4, (inr (inl ((stands_each document_marks_text _ 3 1 refl), (omega arith)))), (5, (inl (inr (inl ((codes "a"), ((unmarked document_marks_text 4 1 refl), (5, (codes "a"), [], (((λ h. (not_behind document_marks_text _ 4 refl h)), (5, ((inl (97, refl, refl)), refl), ((omega arith), (none_between _ 5)))), refl), (done refl refl), refl)), refl)))), (6, (inl (5, (inl refl), (inl (inr (inr (5, (refl, (λ h. (not_behind document_marks_text _ 4 refl h))), (refl, refl))))))), (Spans.done refl)))))))), refl))) (then 14 ((streams.document_piece true ((scalar_event None untagged plain []) ∷ [])) ∷ []) ((streams.document_piece true ((scalar_event None untagged literal (codes "b\n")) ∷ [])) ∷ streams.suffix_piece ∷ []) (inr (inl (((scalar_event None untagged plain []) ∷ []), (9, (6, (refl, ((inr (5, (inr (inr (5, (refl, (λ h. (not_behind document_marks_text _ 4 refl h))), (refl, refl)))))), (9, (7, (refl, refl), (8, (refl, refl), (9, (refl, refl), refl)))), (inr (inl (10, refl, refl))))), (7, (refl, refl), (8, (refl, refl), (9, (refl, refl), refl)))), (inr (9, (refl, refl), (10, (inl (9, (inl refl), (inl (inr (inr (9, (refl, (λ h. (not_behind document_marks_text _ 8 refl h))), (refl, refl))))))), (Spans.then 14 ((omega arith), (10, (inr (refl, (inr (9, (inr (inr (9, (refl, (λ h. (not_behind document_marks_text _ 8 refl h))), (refl, refl)))))))), (13, (inr (11, (refl, refl), (stands_each document_marks_text _ 11 2 refl))), (inl (inr (inr (13, (refl, (λ h. (not_behind document_marks_text _ 12 refl h))), (refl, refl)))))))) (Spans.done refl)))))), refl))) (then 23 ((streams.document_piece true ((scalar_event None untagged literal (codes "b\n")) ∷ [])) ∷ []) (streams.suffix_piece ∷ []) (inr (inl (((scalar_event None untagged literal (codes "b\n")) ∷ []), (17, (14, (refl, ((inr (13, (inr (inr (13, (refl, (λ h. (not_behind document_marks_text _ 12 refl h))), (refl, refl)))))), (17, (15, (refl, refl), (16, (refl, refl), (17, (refl, refl), refl)))), (inl (32, refl, refl)))), (15, (refl, refl), (16, (refl, refl), (17, (refl, refl), refl)))), (inl ((unmarked document_marks_text 17 6 refl), (inr (inl (18, (inr (inl ((stands_each document_marks_text _ 17 1 refl), (omega arith)))), (18, (record { anchor = None; tag = untagged }), (inl (refl, refl)), (inl ((codes "b\n"), (19, (refl, refl), (20, (record { digit = None; chomp = block.clip }), (19, (inl (19, None, (inl (refl, refl)), (block.clip, (inl (refl, refl)), refl))), (19, (inl refl), (inl (inr (inr (19, (refl, (λ h. (not_behind document_marks_text _ 18 refl h))), (refl, refl))))))), (20, 1, (refl, 21, (inl (20, [], (done refl refl), (((omega arith), (omega arith)), (20, (refl, (λ h. (no_mark document_marks_text 20 refl h))), (21, ((stands_each document_marks_text _ 20 1 refl), refl), (refl, (98, refl, refl)))))))), (23, (((block.content_line true (codes "b")) ∷ []), (20, [], ((block.content_line true (codes "b")) ∷ []), (done refl refl), (23, (inr (23, ((block.content_line true (codes "b")) ∷ []), [], (21, (20, (refl, (λ h. (no_mark document_marks_text 20 refl h))), ((stands_each document_marks_text _ 20 1 refl), refl)), (22, (codes "b"), (((inr (λ h. (not_here document_marks_text _ 21 refl (h.1 21 (omega arith) (omega arith))))), ((stands_each document_marks_text _ 21 1 refl), (omega arith))), refl), (inl (23, (inr (inr (22, (refl, (λ h. (not_behind document_marks_text _ 21 refl h))), (refl, refl)))), (refl, refl))))), (done refl refl), refl)), (inl refl)), refl), refl), (23, (refl, (inr (inl (inr ((inr (22, (inr (inr (22, (refl, (λ h. (not_behind document_marks_text _ 21 refl h))), (refl, refl)))))), (26, (24, (refl, refl), (25, (refl, refl), (26, (refl, refl), refl)))), (inr (inl (10, refl, refl)))))))), (inl refl)))))), refl))))))))), refl))) (then 27 (streams.suffix_piece ∷ []) [] (inl (27, (streams.suffix_piece ∷ []), [], (27, (streams.suffix_piece ∷ []), [], (26, (23, (refl, ((inr (22, (inr (inr (22, (refl, (λ h. (not_behind document_marks_text _ 21 refl h))), (refl, refl)))))), (26, (24, (refl, refl), (25, (refl, refl), (26, (refl, refl), refl)))), (inr (inl (10, refl, refl))))), (24, (refl, refl), (25, (refl, refl), (26, (refl, refl), refl)))), (26, (refl, refl), (27, (inl (26, (inl refl), (inl (inr (inr (26, (refl, (λ h. (not_behind document_marks_text _ 25 refl h))), (refl, refl))))))), (Spans.done refl)))), (done refl refl), refl), (27, (Spans.done refl), (inl (refl, refl))), refl)) (done refl refl) refl) refl) refl) refl), refl), refl)

abbrev breaks_text : List ℕ
breaks_text = codes "a:\r\n- b\r- c\n"

-- 5.4: CR LF, CR and LF are each one break
pub breaks : ReadsText breaks_text (Unit {0}) open_limit (
    stream_start
    ∷ document_start false
    ∷ mapping_start false None untagged
    ∷ scalar_event None untagged plain (codes "a")
    ∷ sequence_start false None untagged
    ∷ scalar_event None untagged plain (codes "b")
    ∷ scalar_event None untagged plain (codes "c")
    ∷ sequence_end
    ∷ mapping_end
    ∷ document_end false
    ∷ stream_end
    ∷ [])
unfolding characters.is_indicator characters.is_flow_indicator characters.is_break characters.is_nb characters.is_space characters.is_white characters.is_ns characters.b-break separation.StartsLine separation.s-indent separation.s-separate-in-line separation.b-comment separation.s-b-comment separation.s-l-comments separation.s-separate-lines separation.s-separate separation.DocumentMarkOf separation.DocumentMark flow.is_flow flow.plain_safe flow.PlainFirst flow.PlainChar flow.plain_line flow.ns-plain nodes.ns-flow-yaml-node nodes.ns-s-implicit-yaml-key nodes.ns-flow-node nodes.s-l+block-indented nodes.c-l-block-seq-entry nodes.ns-l-block-map-entry nodes.l+block-sequence nodes.l+block-mapping nodes.s-l+block-node nodes.reads streams.ends_explicitly streams.piece_events streams.stream_of_pieces streams.l-bare-document streams.l-any-document streams.l-yaml-stream streams.ReadsText encode
breaks = (((streams.document_piece false ((mapping_start false None untagged) ∷ (scalar_event None untagged plain (codes "a")) ∷ (sequence_start false None untagged) ∷ (scalar_event None untagged plain (codes "b")) ∷ (scalar_event None untagged plain (codes "c")) ∷ sequence_end ∷ mapping_end ∷ [])) ∷ []), (12, ((streams.document_piece false ((mapping_start false None untagged) ∷ (scalar_event None untagged plain (codes "a")) ∷ (sequence_start false None untagged) ∷ (scalar_event None untagged plain (codes "b")) ∷ (scalar_event None untagged plain (codes "c")) ∷ sequence_end ∷ mapping_end ∷ [])) ∷ []), [], (0, (Spans.done refl), (inr (inl (((mapping_start false None untagged) ∷ (scalar_event None untagged plain (codes "a")) ∷ (sequence_start false None untagged) ∷ (scalar_event None untagged plain (codes "b")) ∷ (scalar_event None untagged plain (codes "c")) ∷ sequence_end ∷ mapping_end ∷ []), ((unmarked breaks_text 0 12 refl), (inr (inr (0, (record { anchor = None; tag = untagged }), (0, (inl (refl, refl)), (0, (inr (refl, (inl refl))), (Spans.done refl))), (inl (tt, (((scalar_event None untagged plain (codes "a")) ∷ (sequence_start false None untagged) ∷ (scalar_event None untagged plain (codes "b")) ∷ (scalar_event None untagged plain (codes "c")) ∷ sequence_end ∷ []), (0, ((omega arith), (12, ((scalar_event None untagged plain (codes "a")) ∷ (sequence_start false None untagged) ∷ (scalar_event None untagged plain (codes "b")) ∷ (scalar_event None untagged plain (codes "c")) ∷ sequence_end ∷ []), [], (0, ((stands_each breaks_text _ 0 0 refl), refl), (2, ((scalar_event None untagged plain (codes "a")) ∷ []), ((sequence_start false None untagged) ∷ (scalar_event None untagged plain (codes "b")) ∷ (scalar_event None untagged plain (codes "c")) ∷ sequence_end ∷ []), (1, (inl (((unbroken breaks_text 0 1 refl), (omega arith)), (1, (inr (inl ((codes "a"), ((unmarked breaks_text 0 1 refl), (1, (codes "a"), [], (((λ h. (not_behind breaks_text _ 0 refl h)), (1, ((inl (97, refl, refl)), refl), ((omega arith), (none_between _ 1)))), refl), (done refl refl), refl)), refl))), (inl refl)))), (refl, refl)), (inl (inr (inr (4, (record { anchor = None; tag = untagged }), (2, (inl (refl, refl)), (4, (inl (2, (inl refl), (inl (inl (3, (refl, refl), (refl, refl)))))), (Spans.done refl))), (inr (tt, (((scalar_event None untagged plain (codes "b")) ∷ (scalar_event None untagged plain (codes "c")) ∷ []), (0, ((omega arith), (8, ((scalar_event None untagged plain (codes "b")) ∷ []), ((scalar_event None untagged plain (codes "c")) ∷ []), (4, ((stands_each breaks_text _ 4 0 refl), refl), (5, (5, (refl, refl), (refl, (λ h. (not_here breaks_text _ 5 refl h)))), (inr (inl (inl (6, (inr (inl ((stands_each breaks_text _ 5 1 refl), (omega arith)))), (7, (inl (inr (inl ((codes "b"), ((unmarked breaks_text 6 1 refl), (7, (codes "b"), [], (((λ h. (not_behind breaks_text _ 6 refl h)), (7, ((inl (98, refl, refl)), refl), ((omega arith), (none_between _ 7)))), refl), (done refl refl), refl)), refl)))), (8, (inl (7, (inl refl), (inl (inr (inl (8, (refl, refl), (refl, (λ h. (not_here breaks_text _ 8 refl h))))))))), (Spans.done refl))))))))), (then 12 ((scalar_event None untagged plain (codes "c")) ∷ []) [] (8, ((stands_each breaks_text _ 8 0 refl), refl), (9, (9, (refl, refl), (refl, (λ h. (not_here breaks_text _ 9 refl h)))), (inr (inl (inl (10, (inr (inl ((stands_each breaks_text _ 9 1 refl), (omega arith)))), (11, (inl (inr (inl ((codes "c"), ((unmarked breaks_text 10 1 refl), (11, (codes "c"), [], (((λ h. (not_behind breaks_text _ 10 refl h)), (11, ((inl (99, refl, refl)), refl), ((omega arith), (none_between _ 11)))), refl), (done refl refl), refl)), refl)))), (12, (inl (11, (inl refl), (inl (inr (inr (11, (refl, (λ h. (not_behind breaks_text _ 10 refl h))), (refl, refl))))))), (Spans.done refl))))))))) (done refl refl) refl), refl))), refl))))))), refl)), (done refl refl), refl))), refl))))))), refl)))), (done refl refl), refl), refl)

abbrev no_document_text : List ℕ
no_document_text = codes "# c\n"

-- 9.2: a stream of comments has no document
pub no_document : ReadsText no_document_text (Unit {0}) open_limit (
    stream_start
    ∷ stream_end
    ∷ [])
unfolding characters.is_break characters.is_nb characters.is_space characters.b-break separation.StartsLine separation.s-separate-in-line separation.c-nb-comment-text separation.b-comment separation.l-comment streams.ends_explicitly streams.piece_events streams.stream_of_pieces streams.l-yaml-stream streams.ReadsText encode
no_document = ([], (0, [], [], (0, (Spans.done refl), (inl (refl, refl))), (then 4 [] [] (inr (inr (4, ((omega arith), (0, (inr (refl, (inl refl))), (3, (inr (1, (refl, refl), (stands_each no_document_text _ 1 2 refl))), (inl (inr (inr (3, (refl, (λ h. (not_behind no_document_text _ 2 refl h))), (refl, refl)))))))), (refl, refl)))) (done refl refl) refl), refl), refl)

abbrev letter_text : List ℕ
letter_text = codes "a"

-- 9.1.3: a bare document
pub letter : ReadsText letter_text (Unit {0}) open_limit (
    stream_start
    ∷ document_start false
    ∷ scalar_event None untagged plain (codes "a")
    ∷ document_end false
    ∷ stream_end
    ∷ [])
unfolding characters.is_indicator characters.is_flow_indicator characters.is_break characters.is_nb characters.is_space characters.is_white characters.is_ns separation.StartsLine separation.s-indent separation.b-comment separation.s-b-comment separation.s-l-comments separation.s-separate-lines separation.s-separate separation.DocumentMarkOf separation.DocumentMark flow.is_flow flow.plain_safe flow.PlainFirst flow.PlainChar flow.plain_line flow.ns-plain nodes.ns-flow-yaml-node nodes.ns-flow-node nodes.s-l+block-node nodes.reads streams.ends_explicitly streams.piece_events streams.stream_of_pieces streams.l-bare-document streams.l-any-document streams.l-yaml-stream streams.ReadsText encode
letter = (((streams.document_piece false ((scalar_event None untagged plain (codes "a")) ∷ [])) ∷ []), (1, ((streams.document_piece false ((scalar_event None untagged plain (codes "a")) ∷ [])) ∷ []), [], (0, (Spans.done refl), (inr (inl (((scalar_event None untagged plain (codes "a")) ∷ []), ((unmarked letter_text 0 1 refl), (inl (0, (inl (0, (0, (inr (refl, (inl refl))), (Spans.done refl)), (0, ((stands_each letter_text _ 0 0 refl), refl), (stands_each letter_text _ 0 0 refl)))), (1, (inl (inr (inl ((codes "a"), ((unmarked letter_text 0 1 refl), (1, (codes "a"), [], (((λ h. (not_behind letter_text _ 0 refl h)), (1, ((inl (97, refl, refl)), refl), ((omega arith), (none_between _ 1)))), refl), (done refl refl), refl)), refl)))), (1, (inl (1, (inl refl), (inr (refl, refl)))), (Spans.done refl)))))), refl)))), (done refl refl), refl), refl)

-- 5.2: the same from its bytes, after a byte order mark
pub letter_bytes : Reads (239 ∷ 187 ∷ 191 ∷ 97 ∷ []) (
    stream_start
    ∷ document_start false
    ∷ scalar_event None untagged plain (codes "a")
    ∷ document_end false
    ∷ stream_end
    ∷ [])
unfolding Reads characters.is_printable encode
letter_bytes = (letter_text, record { short = omega arith; decodes = refl; scalars = refl; permitted = AllPass-from_list_all is_text letter_text refl }, letter)
