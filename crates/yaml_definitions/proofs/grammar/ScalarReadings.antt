-- Example readings of scalars (YAML 1.2.2, 7.3 and 8.1). Written by tools/definitions/derive.py.
use Rattle.std.proofs.Common.{ℕ, true, false, List, [], ◌∷◌, Some, None, refl, arith, inl, inr}
use Rattle.std.specs.Prelude.{codes}
use Rattle.std.proofs.Math.Utf8.{encode}
use Rattle.yaml_definitions.specs.model.Limits.{open_limit}
use Rattle.yaml_definitions.specs.model.Event.{stream_start, stream_end, document_start, document_end, sequence_start, sequence_end, mapping_start, mapping_end, scalar_event, plain, single, double, literal, folded, untagged}
use Rattle.yaml_definitions.specs.grammar.Rules.{done, then, Spans}
use Rattle.yaml_definitions.specs.grammar.Streams.{ReadsText}
use Rattle.yaml_definitions.proofs.grammar.Derive.{not_here, not_behind, none_between, next_between, stands_each, unbroken, no_mark, unmarked}
use Rattle.yaml_definitions.specs.grammar.Characters as characters
use Rattle.yaml_definitions.specs.grammar.Separation as separation
use Rattle.yaml_definitions.specs.grammar.FlowScalars as flow
use Rattle.yaml_definitions.specs.grammar.BlockScalars as block
use Rattle.yaml_definitions.specs.grammar.Nodes as nodes
use Rattle.yaml_definitions.specs.grammar.Streams as streams

abbrev plain_lines_text : List ℕ
plain_lines_text = codes "a b\n  c"

-- 7.3.3, 6.5: a plain scalar over two lines; the break between them is folded into a space
pub plain_lines : ReadsText plain_lines_text (Unit {0}) open_limit (
    stream_start
    ∷ document_start false
    ∷ scalar_event None untagged plain (codes "a b c")
    ∷ document_end false
    ∷ stream_end
    ∷ [])
unfolding characters.is_indicator characters.is_flow_indicator characters.is_break characters.is_nb characters.is_space characters.is_white characters.is_ns characters.b-break separation.StartsLine separation.s-indent separation.b-comment separation.s-b-comment separation.s-l-comments separation.s-separate-lines separation.s-separate separation.DocumentMarkOf separation.DocumentMark flow.fold_text flow.is_flow flow.plain_safe flow.s-flow-folded flow.PlainFirst flow.PlainChar flow.plain_line flow.ns-plain nodes.ns-flow-yaml-node nodes.ns-flow-node nodes.s-l+block-node nodes.reads streams.ends_explicitly streams.piece_events streams.stream_of_pieces streams.l-bare-document streams.l-any-document streams.l-yaml-stream streams.ReadsText encode
plain_lines = (((streams.document_piece false ((scalar_event None untagged plain (codes "a b c")) ∷ [])) ∷ []), (7, ((streams.document_piece false ((scalar_event None untagged plain (codes "a b c")) ∷ [])) ∷ []), [], (0, (Spans.done refl), (inr (inl (((scalar_event None untagged plain (codes "a b c")) ∷ []), ((unmarked plain_lines_text 0 7 refl), (inl (0, (inl (0, (0, (inr (refl, (inl refl))), (Spans.done refl)), (0, ((stands_each plain_lines_text _ 0 0 refl), refl), (stands_each plain_lines_text _ 0 0 refl)))), (7, (inl (inr (inl ((codes "a b c"), ((unmarked plain_lines_text 0 7 refl), (3, (codes "a b"), (codes " c"), (((λ h. (not_behind plain_lines_text _ 2 refl h)), (1, ((inl (97, refl, refl)), refl), ((omega arith), (next_between _ 1 3 (inr (32, refl, refl)) (next_between _ 2 3 (inl (inl (98, refl, refl))) (none_between _ 3)))))), refl), (then 7 (codes " c") [] (6, (codes " "), (codes "c"), (4, (3, (stands_each plain_lines_text _ 3 0 refl), (inr (inr (3, (refl, (λ h. (not_behind plain_lines_text _ 2 refl h))), (refl, refl))))), (4, (0, refl, refl), (4, ((stands_each plain_lines_text _ 4 0 refl), refl), (stands_each plain_lines_text _ 4 2 refl)))), (((λ h. (not_behind plain_lines_text _ 6 refl h)), (7, ((inl (99, refl, refl)), refl), ((omega arith), (none_between _ 7)))), refl), refl) (done refl refl) refl), refl)), refl)))), (7, (inl (7, (inl refl), (inr (refl, refl)))), (Spans.done refl)))))), refl)))), (done refl refl), refl), refl)

abbrev plain_empty_lines_text : List ℕ
plain_empty_lines_text = codes "a\n\n\nb"

-- 6.5: the first break of a fold is dropped, and each empty line is a line feed
pub plain_empty_lines : ReadsText plain_empty_lines_text (Unit {0}) open_limit (
    stream_start
    ∷ document_start false
    ∷ scalar_event None untagged plain (codes "a\n\nb")
    ∷ document_end false
    ∷ stream_end
    ∷ [])
unfolding characters.is_indicator characters.is_flow_indicator characters.is_break characters.is_nb characters.is_space characters.is_white characters.is_ns characters.b-break separation.StartsLine separation.s-indent separation.b-comment separation.s-b-comment separation.s-l-comments separation.s-separate-lines separation.s-separate separation.DocumentMarkOf separation.DocumentMark flow.fold_text flow.is_flow flow.plain_safe flow.empty_line flow.s-flow-folded flow.PlainFirst flow.PlainChar flow.plain_line flow.ns-plain nodes.ns-flow-yaml-node nodes.ns-flow-node nodes.s-l+block-node nodes.reads streams.ends_explicitly streams.piece_events streams.stream_of_pieces streams.l-bare-document streams.l-any-document streams.l-yaml-stream streams.ReadsText encode
plain_empty_lines = (((streams.document_piece false ((scalar_event None untagged plain (codes "a\n\nb")) ∷ [])) ∷ []), (5, ((streams.document_piece false ((scalar_event None untagged plain (codes "a\n\nb")) ∷ [])) ∷ []), [], (0, (Spans.done refl), (inr (inl (((scalar_event None untagged plain (codes "a\n\nb")) ∷ []), ((unmarked plain_empty_lines_text 0 5 refl), (inl (0, (inl (0, (0, (inr (refl, (inl refl))), (Spans.done refl)), (0, ((stands_each plain_empty_lines_text _ 0 0 refl), refl), (stands_each plain_empty_lines_text _ 0 0 refl)))), (5, (inl (inr (inl ((codes "a\n\nb"), ((unmarked plain_empty_lines_text 0 5 refl), (1, (codes "a"), (codes "\n\nb"), (((λ h. (not_behind plain_empty_lines_text _ 0 refl h)), (1, ((inl (97, refl, refl)), refl), ((omega arith), (none_between _ 1)))), refl), (then 5 (codes "\n\nb") [] (4, (codes "\n\n"), (codes "b"), (2, (1, (stands_each plain_empty_lines_text _ 1 0 refl), (inr (inr (1, (refl, (λ h. (not_behind plain_empty_lines_text _ 0 refl h))), (refl, refl))))), (4, (2, (3, (2, (inl (2, ((stands_each plain_empty_lines_text _ 2 0 refl), refl), (stands_each plain_empty_lines_text _ 2 0 refl))), (inr (inr (2, (refl, (λ h. (not_behind plain_empty_lines_text _ 1 refl h))), (refl, refl))))), (4, (3, (inl (3, ((stands_each plain_empty_lines_text _ 3 0 refl), refl), (stands_each plain_empty_lines_text _ 3 0 refl))), (inr (inr (3, (refl, (λ h. (not_behind plain_empty_lines_text _ 2 refl h))), (refl, refl))))), refl)), refl), (4, ((stands_each plain_empty_lines_text _ 4 0 refl), refl), (stands_each plain_empty_lines_text _ 4 0 refl)))), (((λ h. (not_behind plain_empty_lines_text _ 4 refl h)), (5, ((inl (98, refl, refl)), refl), ((omega arith), (none_between _ 5)))), refl), refl) (done refl refl) refl), refl)), refl)))), (5, (inl (5, (inl refl), (inr (refl, refl)))), (Spans.done refl)))))), refl)))), (done refl refl), refl), refl)

abbrev plain_signs_text : List ℕ
plain_signs_text = codes "-a#b:c"

-- 7.3.3: `#` after an ns-char, and `:` and `-` before a plain-safe character, are text
pub plain_signs : ReadsText plain_signs_text (Unit {0}) open_limit (
    stream_start
    ∷ document_start false
    ∷ scalar_event None untagged plain (codes "-a#b:c")
    ∷ document_end false
    ∷ stream_end
    ∷ [])
unfolding characters.is_indicator characters.is_flow_indicator characters.is_break characters.is_nb characters.is_space characters.is_white characters.is_ns separation.StartsLine separation.s-indent separation.b-comment separation.s-b-comment separation.s-l-comments separation.s-separate-lines separation.s-separate separation.DocumentMarkOf separation.DocumentMark flow.is_flow flow.plain_safe flow.PlainFirst flow.PlainChar flow.plain_line flow.ns-plain nodes.ns-flow-yaml-node nodes.ns-flow-node nodes.s-l+block-node nodes.reads streams.ends_explicitly streams.piece_events streams.stream_of_pieces streams.l-bare-document streams.l-any-document streams.l-yaml-stream streams.ReadsText encode
plain_signs = (((streams.document_piece false ((scalar_event None untagged plain (codes "-a#b:c")) ∷ [])) ∷ []), (6, ((streams.document_piece false ((scalar_event None untagged plain (codes "-a#b:c")) ∷ [])) ∷ []), [], (0, (Spans.done refl), (inr (inl (((scalar_event None untagged plain (codes "-a#b:c")) ∷ []), ((unmarked plain_signs_text 0 6 refl), (inl (0, (inl (0, (0, (inr (refl, (inl refl))), (Spans.done refl)), (0, ((stands_each plain_signs_text _ 0 0 refl), refl), (stands_each plain_signs_text _ 0 0 refl)))), (6, (inl (inr (inl ((codes "-a#b:c"), ((unmarked plain_signs_text 0 6 refl), (6, (codes "-a#b:c"), [], (((λ h. (not_behind plain_signs_text _ 5 refl h)), (1, ((inr ((45, refl, refl), (97, refl, refl))), refl), ((omega arith), (next_between _ 1 6 (inl (inl (97, refl, refl))) (next_between _ 2 6 (inl (inr (inl ((35, refl, refl), ((omega arith), (97, refl, refl)))))) (next_between _ 3 6 (inl (inl (98, refl, refl))) (next_between _ 4 6 (inl (inr (inr ((58, refl, refl), (99, refl, refl))))) (next_between _ 5 6 (inl (inl (99, refl, refl))) (none_between _ 6))))))))), refl), (done refl refl), refl)), refl)))), (6, (inl (6, (inl refl), (inr (refl, refl)))), (Spans.done refl)))))), refl)))), (done refl refl), refl), refl)

abbrev single_quotes_text : List ℕ
single_quotes_text = codes "'it''s'"

-- 7.3.2: two quotes stand for one
pub single_quotes : ReadsText single_quotes_text (Unit {0}) open_limit (
    stream_start
    ∷ document_start false
    ∷ scalar_event None untagged single (codes "it's")
    ∷ document_end false
    ∷ stream_end
    ∷ [])
unfolding characters.is_break characters.is_nb characters.is_space characters.is_white characters.is_ns separation.StartsLine separation.s-indent separation.b-comment separation.s-b-comment separation.s-l-comments separation.s-separate-lines separation.s-separate separation.DocumentMarkOf separation.DocumentMark flow.ns-single-char flow.c-single-quoted nodes.c-flow-json-node nodes.ns-flow-node nodes.s-l+block-node nodes.reads streams.ends_explicitly streams.piece_events streams.stream_of_pieces streams.l-bare-document streams.l-any-document streams.l-yaml-stream streams.ReadsText encode
single_quotes = (((streams.document_piece false ((scalar_event None untagged single (codes "it's")) ∷ [])) ∷ []), (7, ((streams.document_piece false ((scalar_event None untagged single (codes "it's")) ∷ [])) ∷ []), [], (0, (Spans.done refl), (inr (inl (((scalar_event None untagged single (codes "it's")) ∷ []), ((unmarked single_quotes_text 0 7 refl), (inl (0, (inl (0, (0, (inr (refl, (inl refl))), (Spans.done refl)), (0, ((stands_each single_quotes_text _ 0 0 refl), refl), (stands_each single_quotes_text _ 0 0 refl)))), (7, (inr (0, (record { anchor = None; tag = untagged }), (inl (refl, refl)), (inl ((codes "it's"), ((unmarked single_quotes_text 0 7 refl), (1, (refl, refl), (6, (inl (then 2 (codes "i") (codes "t's") (inl (105, (inl (refl, refl, refl)), refl)) (then 3 (codes "t") (codes "'s") (inl (116, (inl (refl, refl, refl)), refl)) (then 5 (codes "'") (codes "s") (inl (39, (inr (5, (4, (refl, refl), (refl, refl)), (refl, refl))), refl)) (then 6 (codes "s") [] (inl (115, (inl (refl, refl, refl)), refl)) (done refl refl) refl) refl) refl) refl)), (7, (refl, refl), (refl, (λ h. (not_here single_quotes_text _ 7 refl h))))))), refl)))), (7, (inl (7, (inl refl), (inr (refl, refl)))), (Spans.done refl)))))), refl)))), (done refl refl), refl), refl)

abbrev escaped_break_text : List ℕ
escaped_break_text = codes "\"a \\\n  b\""

-- 7.3.1: an escaped break is dropped, and the white before it stays
pub escaped_break : ReadsText escaped_break_text (Unit {0}) open_limit (
    stream_start
    ∷ document_start false
    ∷ scalar_event None untagged double (codes "a b")
    ∷ document_end false
    ∷ stream_end
    ∷ [])
unfolding characters.is_break characters.is_nb characters.is_space characters.is_white characters.is_ns characters.b-break separation.StartsLine separation.s-indent separation.b-comment separation.s-b-comment separation.s-l-comments separation.s-separate-lines separation.s-separate separation.DocumentMarkOf separation.DocumentMark flow.s-double-escaped flow.ns-double-char flow.c-double-quoted nodes.c-flow-json-node nodes.ns-flow-node nodes.s-l+block-node nodes.reads streams.ends_explicitly streams.piece_events streams.stream_of_pieces streams.l-bare-document streams.l-any-document streams.l-yaml-stream streams.ReadsText encode
escaped_break = (((streams.document_piece false ((scalar_event None untagged double (codes "a b")) ∷ [])) ∷ []), (9, ((streams.document_piece false ((scalar_event None untagged double (codes "a b")) ∷ [])) ∷ []), [], (0, (Spans.done refl), (inr (inl (((scalar_event None untagged double (codes "a b")) ∷ []), ((unmarked escaped_break_text 0 9 refl), (inl (0, (inl (0, (0, (inr (refl, (inl refl))), (Spans.done refl)), (0, ((stands_each escaped_break_text _ 0 0 refl), refl), (stands_each escaped_break_text _ 0 0 refl)))), (9, (inr (0, (record { anchor = None; tag = untagged }), (inl (refl, refl)), (inr (inl ((codes "a b"), ((unmarked escaped_break_text 0 9 refl), (1, (refl, refl), (8, (inr (7, (codes "a "), (codes "b"), (inr (3, (codes "a "), [], (then 2 (codes "a") (codes " ") (inl (97, (inl (refl, refl, refl)), refl)) (then 3 (codes " ") [] (inr (32, (refl, refl, refl), refl)) (done refl refl) refl) refl), (5, (4, (refl, refl), (inr (inr (4, (refl, (λ h. (not_behind escaped_break_text _ 3 refl h))), (refl, refl))))), (5, (0, refl, refl), (5, ((stands_each escaped_break_text _ 5 0 refl), refl), (stands_each escaped_break_text _ 5 2 refl)))), refl)), (7, [], (codes "b"), (done refl refl), (inr (8, (codes "b"), [], (98, (inl (refl, refl, refl)), refl), (done refl refl), refl)), refl), refl)), (refl, refl)))), refl))))), (9, (inl (9, (inl refl), (inr (refl, refl)))), (Spans.done refl)))))), refl)))), (done refl refl), refl), refl)

abbrev numbered_escapes_text : List ℕ
numbered_escapes_text = codes "\"\\x41\\u00e9\\U0001F600\\/\""

-- 5.7: two, four and eight hexadecimal digits
pub numbered_escapes : ReadsText numbered_escapes_text (Unit {0}) open_limit (
    stream_start
    ∷ document_start false
    ∷ scalar_event None untagged double (65 ∷ 195 ∷ 169 ∷ 240 ∷ 159 ∷ 152 ∷ 128 ∷ 47 ∷ [])
    ∷ document_end false
    ∷ stream_end
    ∷ [])
unfolding characters.is_break characters.is_nb characters.is_space characters.is_white characters.is_ns characters.short_escape characters.numbered characters.c-ns-esc-char separation.StartsLine separation.s-indent separation.b-comment separation.s-b-comment separation.s-l-comments separation.s-separate-lines separation.s-separate separation.DocumentMarkOf separation.DocumentMark flow.ns-double-char flow.c-double-quoted nodes.c-flow-json-node nodes.ns-flow-node nodes.s-l+block-node nodes.reads streams.ends_explicitly streams.piece_events streams.stream_of_pieces streams.l-bare-document streams.l-any-document streams.l-yaml-stream streams.ReadsText encode
numbered_escapes = (((streams.document_piece false ((scalar_event None untagged double (65 ∷ 195 ∷ 169 ∷ 240 ∷ 159 ∷ 152 ∷ 128 ∷ 47 ∷ [])) ∷ [])) ∷ []), (24, ((streams.document_piece false ((scalar_event None untagged double (65 ∷ 195 ∷ 169 ∷ 240 ∷ 159 ∷ 152 ∷ 128 ∷ 47 ∷ [])) ∷ [])) ∷ []), [], (0, (Spans.done refl), (inr (inl (((scalar_event None untagged double (65 ∷ 195 ∷ 169 ∷ 240 ∷ 159 ∷ 152 ∷ 128 ∷ 47 ∷ [])) ∷ []), ((unmarked numbered_escapes_text 0 24 refl), (inl (0, (inl (0, (0, (inr (refl, (inl refl))), (Spans.done refl)), (0, ((stands_each numbered_escapes_text _ 0 0 refl), refl), (stands_each numbered_escapes_text _ 0 0 refl)))), (24, (inr (0, (record { anchor = None; tag = untagged }), (inl (refl, refl)), (inr (inl ((65 ∷ 233 ∷ 128512 ∷ 47 ∷ []), ((unmarked numbered_escapes_text 0 24 refl), (1, (refl, refl), (23, (inl (then 5 (codes "A") (233 ∷ 128512 ∷ 47 ∷ []) (inl (65, (inr (2, (refl, refl), (inr (inl (3, (refl, refl), (refl, ((codes "41"), (((stands_each numbered_escapes_text _ 3 2 refl), refl), refl), refl))))))), refl)) (then 11 (233 ∷ []) (128512 ∷ 47 ∷ []) (inl (233, (inr (6, (refl, refl), (inr (inr (inl (7, (refl, refl), (refl, ((codes "00e9"), (((stands_each numbered_escapes_text _ 7 4 refl), refl), refl), refl)))))))), refl)) (then 21 (128512 ∷ []) (codes "/") (inl (128512, (inr (12, (refl, refl), (inr (inr (inr (13, (refl, refl), (refl, ((codes "0001F600"), (((stands_each numbered_escapes_text _ 13 8 refl), refl), refl), refl)))))))), refl)) (then 23 (codes "/") [] (inl (47, (inr (22, (refl, refl), (inl (47, (refl, refl, refl), refl)))), refl)) (done refl refl) refl) refl) refl) refl)), (refl, refl)))), refl))))), (24, (inl (24, (inl refl), (inr (refl, refl)))), (Spans.done refl)))))), refl)))), (done refl refl), refl), refl)

abbrev double_fold_text : List ℕ
double_fold_text = codes "\"a \n\t\n b\""

-- 7.3.1, 6.5: a fold drops the whites around it
pub double_fold : ReadsText double_fold_text (Unit {0}) open_limit (
    stream_start
    ∷ document_start false
    ∷ scalar_event None untagged double (codes "a\nb")
    ∷ document_end false
    ∷ stream_end
    ∷ [])
unfolding characters.is_break characters.is_nb characters.is_space characters.is_white characters.is_ns characters.b-break separation.StartsLine separation.s-indent separation.b-comment separation.s-b-comment separation.s-l-comments separation.s-separate-lines separation.s-separate separation.DocumentMarkOf separation.DocumentMark flow.fold_text flow.empty_line flow.s-flow-folded flow.ns-double-char flow.c-double-quoted nodes.c-flow-json-node nodes.ns-flow-node nodes.s-l+block-node nodes.reads streams.ends_explicitly streams.piece_events streams.stream_of_pieces streams.l-bare-document streams.l-any-document streams.l-yaml-stream streams.ReadsText encode
double_fold = (((streams.document_piece false ((scalar_event None untagged double (codes "a\nb")) ∷ [])) ∷ []), (9, ((streams.document_piece false ((scalar_event None untagged double (codes "a\nb")) ∷ [])) ∷ []), [], (0, (Spans.done refl), (inr (inl (((scalar_event None untagged double (codes "a\nb")) ∷ []), ((unmarked double_fold_text 0 9 refl), (inl (0, (inl (0, (0, (inr (refl, (inl refl))), (Spans.done refl)), (0, ((stands_each double_fold_text _ 0 0 refl), refl), (stands_each double_fold_text _ 0 0 refl)))), (9, (inr (0, (record { anchor = None; tag = untagged }), (inl (refl, refl)), (inr (inl ((codes "a\nb"), ((unmarked double_fold_text 0 9 refl), (1, (refl, refl), (8, (inr (7, (codes "a\n"), (codes "b"), (inl (2, (codes "a"), (codes "\n"), (then 2 (codes "a") [] (1, [], (codes "a"), (done refl refl), (97, (inl (refl, refl, refl)), refl), refl) (done refl refl) refl), (4, (3, (stands_each double_fold_text _ 2 1 refl), (inr (inr (3, (refl, (λ h. (not_behind double_fold_text _ 2 refl h))), (refl, refl))))), (6, (1, (6, (5, (inl (4, ((stands_each double_fold_text _ 4 0 refl), refl), (stands_each double_fold_text _ 4 1 refl))), (inr (inr (5, (refl, (λ h. (not_behind double_fold_text _ 4 refl h))), (refl, refl))))), refl), refl), (6, ((stands_each double_fold_text _ 6 0 refl), refl), (stands_each double_fold_text _ 6 1 refl)))), refl)), (7, [], (codes "b"), (done refl refl), (inr (8, (codes "b"), [], (98, (inl (refl, refl, refl)), refl), (done refl refl), refl)), refl), refl)), (refl, refl)))), refl))))), (9, (inl (9, (inl refl), (inr (refl, refl)))), (Spans.done refl)))))), refl)))), (done refl refl), refl), refl)

abbrev literal_spaced_text : List ℕ
literal_spaced_text = codes "|\n a\n  b\n"

-- 8.1.2: a literal scalar keeps a line that begins with a space
pub literal_spaced : ReadsText literal_spaced_text (Unit {0}) open_limit (
    stream_start
    ∷ document_start false
    ∷ scalar_event None untagged literal (codes "a\n b\n")
    ∷ document_end false
    ∷ stream_end
    ∷ [])
unfolding characters.is_break characters.is_nb characters.is_space characters.is_white characters.b-break separation.StartsLine separation.s-indent separation.b-comment separation.s-b-comment separation.s-l-comments separation.s-separate-lines separation.s-separate separation.DocumentMarkOf separation.DocumentMark block.is_spaced block.joint block.chomped block.after_line block.kept_breaks block.content_after block.content block.c-indentation-indicator block.c-chomping-indicator block.c-b-block-header block.found_indentation block.indentation block.text_line block.lines block.block_content block.c-l+literal nodes.s-l+block-node nodes.reads streams.ends_explicitly streams.piece_events streams.stream_of_pieces streams.l-bare-document streams.l-any-document streams.l-yaml-stream streams.ReadsText encode
literal_spaced = (((streams.document_piece false ((scalar_event None untagged literal (codes "a\n b\n")) ∷ [])) ∷ []), (9, ((streams.document_piece false ((scalar_event None untagged literal (codes "a\n b\n")) ∷ [])) ∷ []), [], (0, (Spans.done refl), (inr (inl (((scalar_event None untagged literal (codes "a\n b\n")) ∷ []), ((unmarked literal_spaced_text 0 9 refl), (inr (inl (0, (inl (0, (0, (inr (refl, (inl refl))), (Spans.done refl)), (0, ((stands_each literal_spaced_text _ 0 0 refl), refl), (stands_each literal_spaced_text _ 0 0 refl)))), (0, (record { anchor = None; tag = untagged }), (inl (refl, refl)), (inl ((codes "a\n b\n"), (1, (refl, refl), (2, (record { digit = None; chomp = block.clip }), (1, (inl (1, None, (inl (refl, refl)), (block.clip, (inl (refl, refl)), refl))), (1, (inl refl), (inl (inr (inr (1, (refl, (λ h. (not_behind literal_spaced_text _ 0 refl h))), (refl, refl))))))), (2, 1, (refl, 3, (inl (2, [], (done refl refl), (((omega arith), (omega arith)), (2, (refl, (λ h. (no_mark literal_spaced_text 2 refl h))), (3, ((stands_each literal_spaced_text _ 2 1 refl), refl), (refl, (97, refl, refl)))))))), (9, (((block.content_line true (codes "a")) ∷ (block.content_line true (codes " b")) ∷ []), (2, [], ((block.content_line true (codes "a")) ∷ (block.content_line true (codes " b")) ∷ []), (done refl refl), (9, (inr (5, ((block.content_line true (codes "a")) ∷ []), ((block.content_line true (codes " b")) ∷ []), (3, (2, (refl, (λ h. (no_mark literal_spaced_text 2 refl h))), ((stands_each literal_spaced_text _ 2 1 refl), refl)), (4, (codes "a"), (((inr (λ h. (not_here literal_spaced_text _ 3 refl (h.1 3 (omega arith) (omega arith))))), ((stands_each literal_spaced_text _ 3 1 refl), (omega arith))), refl), (inl (5, (inr (inr (4, (refl, (λ h. (not_behind literal_spaced_text _ 3 refl h))), (refl, refl)))), (refl, refl))))), (then 9 ((block.content_line true (codes " b")) ∷ []) [] (inr (6, (5, (refl, (λ h. (no_mark literal_spaced_text 5 refl h))), ((stands_each literal_spaced_text _ 5 1 refl), refl)), (8, (codes " b"), (((inl refl), ((stands_each literal_spaced_text _ 6 2 refl), (omega arith))), refl), (inl (9, (inr (inr (8, (refl, (λ h. (not_behind literal_spaced_text _ 7 refl h))), (refl, refl)))), (refl, refl)))))) (done refl refl) refl), refl)), (inl refl)), refl), refl), (9, (refl, (inr (inr refl))), (inl refl)))))), refl))))))), refl)))), (done refl refl), refl), refl)

abbrev folded_spaced_text : List ℕ
folded_spaced_text = codes ">\n a\n b\n  c\n d\n"

-- 8.1.3: no break is folded beside a line that begins with a space
pub folded_spaced : ReadsText folded_spaced_text (Unit {0}) open_limit (
    stream_start
    ∷ document_start false
    ∷ scalar_event None untagged folded (codes "a b\n c\nd\n")
    ∷ document_end false
    ∷ stream_end
    ∷ [])
unfolding characters.is_break characters.is_nb characters.is_space characters.is_white characters.b-break separation.StartsLine separation.s-indent separation.b-comment separation.s-b-comment separation.s-l-comments separation.s-separate-lines separation.s-separate separation.DocumentMarkOf separation.DocumentMark block.is_spaced block.joint block.chomped block.after_line block.kept_breaks block.content_after block.content block.c-indentation-indicator block.c-chomping-indicator block.c-b-block-header block.found_indentation block.indentation block.text_line block.lines block.block_content block.c-l+folded nodes.s-l+block-node nodes.reads streams.ends_explicitly streams.piece_events streams.stream_of_pieces streams.l-bare-document streams.l-any-document streams.l-yaml-stream streams.ReadsText encode
folded_spaced = (((streams.document_piece false ((scalar_event None untagged folded (codes "a b\n c\nd\n")) ∷ [])) ∷ []), (15, ((streams.document_piece false ((scalar_event None untagged folded (codes "a b\n c\nd\n")) ∷ [])) ∷ []), [], (0, (Spans.done refl), (inr (inl (((scalar_event None untagged folded (codes "a b\n c\nd\n")) ∷ []), ((unmarked folded_spaced_text 0 15 refl), (inr (inl (0, (inl (0, (0, (inr (refl, (inl refl))), (Spans.done refl)), (0, ((stands_each folded_spaced_text _ 0 0 refl), refl), (stands_each folded_spaced_text _ 0 0 refl)))), (0, (record { anchor = None; tag = untagged }), (inl (refl, refl)), (inr ((codes "a b\n c\nd\n"), (1, (refl, refl), (2, (record { digit = None; chomp = block.clip }), (1, (inl (1, None, (inl (refl, refl)), (block.clip, (inl (refl, refl)), refl))), (1, (inl refl), (inl (inr (inr (1, (refl, (λ h. (not_behind folded_spaced_text _ 0 refl h))), (refl, refl))))))), (2, 1, (refl, 3, (inl (2, [], (done refl refl), (((omega arith), (omega arith)), (2, (refl, (λ h. (no_mark folded_spaced_text 2 refl h))), (3, ((stands_each folded_spaced_text _ 2 1 refl), refl), (refl, (97, refl, refl)))))))), (15, (((block.content_line true (codes "a")) ∷ (block.content_line true (codes "b")) ∷ (block.content_line true (codes " c")) ∷ (block.content_line true (codes "d")) ∷ []), (2, [], ((block.content_line true (codes "a")) ∷ (block.content_line true (codes "b")) ∷ (block.content_line true (codes " c")) ∷ (block.content_line true (codes "d")) ∷ []), (done refl refl), (15, (inr (5, ((block.content_line true (codes "a")) ∷ []), ((block.content_line true (codes "b")) ∷ (block.content_line true (codes " c")) ∷ (block.content_line true (codes "d")) ∷ []), (3, (2, (refl, (λ h. (no_mark folded_spaced_text 2 refl h))), ((stands_each folded_spaced_text _ 2 1 refl), refl)), (4, (codes "a"), (((inr (λ h. (not_here folded_spaced_text _ 3 refl (h.1 3 (omega arith) (omega arith))))), ((stands_each folded_spaced_text _ 3 1 refl), (omega arith))), refl), (inl (5, (inr (inr (4, (refl, (λ h. (not_behind folded_spaced_text _ 3 refl h))), (refl, refl)))), (refl, refl))))), (then 8 ((block.content_line true (codes "b")) ∷ []) ((block.content_line true (codes " c")) ∷ (block.content_line true (codes "d")) ∷ []) (inr (6, (5, (refl, (λ h. (no_mark folded_spaced_text 5 refl h))), ((stands_each folded_spaced_text _ 5 1 refl), refl)), (7, (codes "b"), (((inl refl), ((stands_each folded_spaced_text _ 6 1 refl), (omega arith))), refl), (inl (8, (inr (inr (7, (refl, (λ h. (not_behind folded_spaced_text _ 6 refl h))), (refl, refl)))), (refl, refl)))))) (then 12 ((block.content_line true (codes " c")) ∷ []) ((block.content_line true (codes "d")) ∷ []) (inr (9, (8, (refl, (λ h. (no_mark folded_spaced_text 8 refl h))), ((stands_each folded_spaced_text _ 8 1 refl), refl)), (11, (codes " c"), (((inl refl), ((stands_each folded_spaced_text _ 9 2 refl), (omega arith))), refl), (inl (12, (inr (inr (11, (refl, (λ h. (not_behind folded_spaced_text _ 10 refl h))), (refl, refl)))), (refl, refl)))))) (then 15 ((block.content_line true (codes "d")) ∷ []) [] (inr (13, (12, (refl, (λ h. (no_mark folded_spaced_text 12 refl h))), ((stands_each folded_spaced_text _ 12 1 refl), refl)), (14, (codes "d"), (((inl refl), ((stands_each folded_spaced_text _ 13 1 refl), (omega arith))), refl), (inl (15, (inr (inr (14, (refl, (λ h. (not_behind folded_spaced_text _ 13 refl h))), (refl, refl)))), (refl, refl)))))) (done refl refl) refl) refl) refl), refl)), (inl refl)), refl), refl), (15, (refl, (inr (inr refl))), (inl refl)))))), refl))))))), refl)))), (done refl refl), refl), refl)

abbrev kept_breaks_text : List ℕ
kept_breaks_text = codes "|+\n a\n\n"

-- 8.1.1.2: `+` keeps the final break and the empty lines after it
pub kept_breaks : ReadsText kept_breaks_text (Unit {0}) open_limit (
    stream_start
    ∷ document_start false
    ∷ scalar_event None untagged literal (codes "a\n\n")
    ∷ document_end false
    ∷ stream_end
    ∷ [])
unfolding characters.is_break characters.is_nb characters.is_space characters.is_white characters.b-break separation.StartsLine separation.s-indent separation.b-comment separation.s-b-comment separation.s-l-comments separation.s-separate-lines separation.s-separate separation.DocumentMarkOf separation.DocumentMark block.is_spaced block.joint block.chomped block.after_line block.kept_breaks block.content_after block.content block.c-indentation-indicator block.c-chomping-indicator block.c-b-block-header block.found_indentation block.indentation block.blank_line block.text_line block.lines block.block_content block.c-l+literal nodes.s-l+block-node nodes.reads streams.ends_explicitly streams.piece_events streams.stream_of_pieces streams.l-bare-document streams.l-any-document streams.l-yaml-stream streams.ReadsText encode
kept_breaks = (((streams.document_piece false ((scalar_event None untagged literal (codes "a\n\n")) ∷ [])) ∷ []), (7, ((streams.document_piece false ((scalar_event None untagged literal (codes "a\n\n")) ∷ [])) ∷ []), [], (0, (Spans.done refl), (inr (inl (((scalar_event None untagged literal (codes "a\n\n")) ∷ []), ((unmarked kept_breaks_text 0 7 refl), (inr (inl (0, (inl (0, (0, (inr (refl, (inl refl))), (Spans.done refl)), (0, ((stands_each kept_breaks_text _ 0 0 refl), refl), (stands_each kept_breaks_text _ 0 0 refl)))), (0, (record { anchor = None; tag = untagged }), (inl (refl, refl)), (inl ((codes "a\n\n"), (1, (refl, refl), (3, (record { digit = None; chomp = block.keep }), (2, (inl (1, None, (inl (refl, refl)), (block.keep, (inr (inr (2, (refl, refl), (refl, refl)))), refl))), (2, (inl refl), (inl (inr (inr (2, (refl, (λ h. (not_behind kept_breaks_text _ 1 refl h))), (refl, refl))))))), (3, 1, (refl, 4, (inl (3, [], (done refl refl), (((omega arith), (omega arith)), (3, (refl, (λ h. (no_mark kept_breaks_text 3 refl h))), (4, ((stands_each kept_breaks_text _ 3 1 refl), refl), (refl, (97, refl, refl)))))))), (7, (((block.content_line true (codes "a")) ∷ block.blank ∷ []), (3, [], ((block.content_line true (codes "a")) ∷ block.blank ∷ []), (done refl refl), (7, (inr (6, ((block.content_line true (codes "a")) ∷ []), (block.blank ∷ []), (4, (3, (refl, (λ h. (no_mark kept_breaks_text 3 refl h))), ((stands_each kept_breaks_text _ 3 1 refl), refl)), (5, (codes "a"), (((inr (λ h. (not_here kept_breaks_text _ 4 refl (h.1 4 (omega arith) (omega arith))))), ((stands_each kept_breaks_text _ 4 1 refl), (omega arith))), refl), (inl (6, (inr (inr (5, (refl, (λ h. (not_behind kept_breaks_text _ 4 refl h))), (refl, refl)))), (refl, refl))))), (then 7 (block.blank ∷ []) [] (inl (7, (6, ((omega arith), (stands_each kept_breaks_text _ 6 0 refl)), (inr (inr (6, (refl, (λ h. (not_behind kept_breaks_text _ 5 refl h))), (refl, refl))))), (refl, refl))) (done refl refl) refl), refl)), (inl refl)), refl), refl), (7, (refl, (inr (inr refl))), (inl refl)))))), refl))))))), refl)))), (done refl refl), refl), refl)

abbrev stripped_break_text : List ℕ
stripped_break_text = codes "k: >-\n  a\n"

-- 8.1.1.2: `-` drops the final break
pub stripped_break : ReadsText stripped_break_text (Unit {0}) open_limit (
    stream_start
    ∷ document_start false
    ∷ mapping_start false None untagged
    ∷ scalar_event None untagged plain (codes "k")
    ∷ scalar_event None untagged folded (codes "a")
    ∷ mapping_end
    ∷ document_end false
    ∷ stream_end
    ∷ [])
unfolding characters.is_indicator characters.is_flow_indicator characters.is_break characters.is_nb characters.is_space characters.is_white characters.is_ns characters.b-break separation.StartsLine separation.s-indent separation.s-separate-in-line separation.b-comment separation.s-b-comment separation.s-l-comments separation.s-separate-lines separation.s-separate separation.DocumentMarkOf separation.DocumentMark flow.is_flow flow.plain_safe flow.PlainFirst flow.PlainChar flow.plain_line flow.ns-plain block.is_spaced block.joint block.chomped block.after_line block.kept_breaks block.content_after block.content block.c-indentation-indicator block.c-chomping-indicator block.c-b-block-header block.found_indentation block.indentation block.text_line block.lines block.block_content block.c-l+folded nodes.ns-flow-yaml-node nodes.ns-s-implicit-yaml-key nodes.ns-l-block-map-entry nodes.l+block-mapping nodes.s-l+block-node nodes.reads streams.ends_explicitly streams.piece_events streams.stream_of_pieces streams.l-bare-document streams.l-any-document streams.l-yaml-stream streams.ReadsText encode
stripped_break = (((streams.document_piece false ((mapping_start false None untagged) ∷ (scalar_event None untagged plain (codes "k")) ∷ (scalar_event None untagged folded (codes "a")) ∷ mapping_end ∷ [])) ∷ []), (10, ((streams.document_piece false ((mapping_start false None untagged) ∷ (scalar_event None untagged plain (codes "k")) ∷ (scalar_event None untagged folded (codes "a")) ∷ mapping_end ∷ [])) ∷ []), [], (0, (Spans.done refl), (inr (inl (((mapping_start false None untagged) ∷ (scalar_event None untagged plain (codes "k")) ∷ (scalar_event None untagged folded (codes "a")) ∷ mapping_end ∷ []), ((unmarked stripped_break_text 0 10 refl), (inr (inr (0, (record { anchor = None; tag = untagged }), (0, (inl (refl, refl)), (0, (inr (refl, (inl refl))), (Spans.done refl))), (inl (tt, (((scalar_event None untagged plain (codes "k")) ∷ (scalar_event None untagged folded (codes "a")) ∷ []), (0, ((omega arith), (10, ((scalar_event None untagged plain (codes "k")) ∷ (scalar_event None untagged folded (codes "a")) ∷ []), [], (0, ((stands_each stripped_break_text _ 0 0 refl), refl), (2, ((scalar_event None untagged plain (codes "k")) ∷ []), ((scalar_event None untagged folded (codes "a")) ∷ []), (1, (inl (((unbroken stripped_break_text 0 1 refl), (omega arith)), (1, (inr (inl ((codes "k"), ((unmarked stripped_break_text 0 1 refl), (1, (codes "k"), [], (((λ h. (not_behind stripped_break_text _ 0 refl h)), (1, ((inl (107, refl, refl)), refl), ((omega arith), (none_between _ 1)))), refl), (done refl refl), refl)), refl))), (inl refl)))), (refl, refl)), (inl (inr (inl (3, (inr (inl ((stands_each stripped_break_text _ 2 1 refl), (omega arith)))), (3, (record { anchor = None; tag = untagged }), (inl (refl, refl)), (inr ((codes "a"), (4, (refl, refl), (6, (record { digit = None; chomp = block.strip }), (5, (inl (4, None, (inl (refl, refl)), (block.strip, (inr (inl (5, (refl, refl), (refl, refl)))), refl))), (5, (inl refl), (inl (inr (inr (5, (refl, (λ h. (not_behind stripped_break_text _ 4 refl h))), (refl, refl))))))), (6, 2, (refl, 8, (inl (6, [], (done refl refl), (((omega arith), (omega arith)), (6, (refl, (λ h. (no_mark stripped_break_text 6 refl h))), (8, ((stands_each stripped_break_text _ 6 2 refl), refl), (refl, (97, refl, refl)))))))), (10, (((block.content_line true (codes "a")) ∷ []), (6, [], ((block.content_line true (codes "a")) ∷ []), (done refl refl), (10, (inr (10, ((block.content_line true (codes "a")) ∷ []), [], (8, (6, (refl, (λ h. (no_mark stripped_break_text 6 refl h))), ((stands_each stripped_break_text _ 6 2 refl), refl)), (9, (codes "a"), (((inr (λ h. (not_here stripped_break_text _ 8 refl (h.1 8 (omega arith) (omega arith))))), ((stands_each stripped_break_text _ 8 1 refl), (omega arith))), refl), (inl (10, (inr (inr (9, (refl, (λ h. (not_behind stripped_break_text _ 8 refl h))), (refl, refl)))), (refl, refl))))), (done refl refl), refl)), (inl refl)), refl), refl), (10, (refl, (inr (inr refl))), (inl refl)))))), refl))))))), refl)), (done refl refl), refl))), refl))))))), refl)))), (done refl refl), refl), refl)

abbrev given_indentation_text : List ℕ
given_indentation_text = codes "- |1\n  a\n"

-- 8.1.1.1: a digit says how far the content is indented
pub given_indentation : ReadsText given_indentation_text (Unit {0}) open_limit (
    stream_start
    ∷ document_start false
    ∷ sequence_start false None untagged
    ∷ scalar_event None untagged literal (codes " a\n")
    ∷ sequence_end
    ∷ document_end false
    ∷ stream_end
    ∷ [])
unfolding characters.is_break characters.is_nb characters.is_space characters.is_white characters.is_ns characters.b-break separation.StartsLine separation.s-indent separation.s-separate-in-line separation.b-comment separation.s-b-comment separation.s-l-comments separation.s-separate-lines separation.s-separate separation.DocumentMarkOf separation.DocumentMark block.is_spaced block.joint block.chomped block.after_line block.kept_breaks block.content_after block.content block.c-indentation-indicator block.c-chomping-indicator block.c-b-block-header block.indentation block.text_line block.lines block.block_content block.c-l+literal nodes.s-l+block-indented nodes.c-l-block-seq-entry nodes.l+block-sequence nodes.s-l+block-node nodes.reads streams.ends_explicitly streams.piece_events streams.stream_of_pieces streams.l-bare-document streams.l-any-document streams.l-yaml-stream streams.ReadsText encode
given_indentation = (((streams.document_piece false ((sequence_start false None untagged) ∷ (scalar_event None untagged literal (codes " a\n")) ∷ sequence_end ∷ [])) ∷ []), (9, ((streams.document_piece false ((sequence_start false None untagged) ∷ (scalar_event None untagged literal (codes " a\n")) ∷ sequence_end ∷ [])) ∷ []), [], (0, (Spans.done refl), (inr (inl (((sequence_start false None untagged) ∷ (scalar_event None untagged literal (codes " a\n")) ∷ sequence_end ∷ []), ((unmarked given_indentation_text 0 9 refl), (inr (inr (0, (record { anchor = None; tag = untagged }), (0, (inl (refl, refl)), (0, (inr (refl, (inl refl))), (Spans.done refl))), (inr (tt, (((scalar_event None untagged literal (codes " a\n")) ∷ []), (0, ((omega arith), (9, ((scalar_event None untagged literal (codes " a\n")) ∷ []), [], (0, ((stands_each given_indentation_text _ 0 0 refl), refl), (1, (1, (refl, refl), (refl, (λ h. (not_here given_indentation_text _ 1 refl h)))), (inr (inl (inr (inl (2, (inr (inl ((stands_each given_indentation_text _ 1 1 refl), (omega arith)))), (2, (record { anchor = None; tag = untagged }), (inl (refl, refl)), (inl ((codes " a\n"), (3, (refl, refl), (5, (record { digit = (Some 1); chomp = block.clip }), (4, (inl (4, (Some 1), (inr (49, (refl, refl, refl), refl)), (block.clip, (inl (refl, refl)), refl))), (4, (inl refl), (inl (inr (inr (4, (refl, (λ h. (not_behind given_indentation_text _ 3 refl h))), (refl, refl))))))), (5, 1, (5, (refl, (omega arith)), (refl, refl)), (9, (((block.content_line true (codes " a")) ∷ []), (5, [], ((block.content_line true (codes " a")) ∷ []), (done refl refl), (9, (inr (9, ((block.content_line true (codes " a")) ∷ []), [], (6, (5, (refl, (λ h. (no_mark given_indentation_text 5 refl h))), ((stands_each given_indentation_text _ 5 1 refl), refl)), (8, (codes " a"), (((inl refl), ((stands_each given_indentation_text _ 6 2 refl), (omega arith))), refl), (inl (9, (inr (inr (8, (refl, (λ h. (not_behind given_indentation_text _ 7 refl h))), (refl, refl)))), (refl, refl))))), (done refl refl), refl)), (inl refl)), refl), refl), (9, (refl, (inr (inr refl))), (inl refl)))))), refl)))))))))), (done refl refl), refl))), refl))))))), refl)))), (done refl refl), refl), refl)
