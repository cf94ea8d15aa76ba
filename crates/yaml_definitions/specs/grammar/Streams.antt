-- Documents and streams (YAML 1.2.2, chapter 9).
use Rattle.std.specs.Prelude.{ℕ, List, [], ◌∷◌, ◌++◌, Bool, true, false, length}
use Rattle.yaml_definitions.specs.grammar.Rules.{Span, Rule, ◌◆◌, ◌▸◌, ◌◂◌, ◌⨾◌, ◌∪◌, gives, optional, any, any_one, any_span, word, where_both, ahead, with_value, seen}
use Rattle.yaml_definitions.specs.grammar.Separation.{block_in, l-comment, s-l-comments, DocumentMarkOf, Unmarked}
use Rattle.yaml_definitions.specs.grammar.Tags.{Handles}
use Rattle.yaml_definitions.specs.grammar.Directives.{directives}
use Rattle.yaml_definitions.specs.grammar.Events.{no_props, e-scalar}
use Rattle.yaml_definitions.specs.model.Event.{Event, stream_start, stream_end, document_start, document_end}
use Rattle.yaml_definitions.specs.grammar.Nodes.{block_part, reads}

-- no production: a document, explicit or not, or a suffix
pub data Piece : Type 0 where
  document_piece : Bool → List Event → Piece
  suffix_piece : Piece

-- no production: whether a suffix comes before the next document and the end
unfoldable pub ends_explicitly : List Piece → Bool
ends_explicitly [] = false
ends_explicitly (suffix_piece ∷ ps) = true
ends_explicitly (document_piece explicit es ∷ ps) = false

-- no production: the events of documents (3.1)
unfoldable pub piece_events : List Piece → List Event
piece_events [] = []
piece_events (suffix_piece ∷ ps) = piece_events ps
piece_events (document_piece explicit es ∷ ps) = document_start explicit ∷ (es ++ (document_end (ends_explicitly ps) ∷ piece_events ps))

-- no production: the events of a stream (3.1)
unfoldable pub stream_of_pieces : List Piece → List Event
stream_of_pieces ps = stream_start ∷ (piece_events ps ++ (stream_end ∷ []))

-- Wide is as in `Nodes`; room says how many collections may be open.
module _ (cs : List ℕ) (Wide : Type 0) (room : ℕ) where
  -- [203] c-directives-end, [204] c-document-end (9.1.2): three of these characters, at column 0
  unfoldable pub document_mark : ℕ → Span
  document_mark c = ahead (DocumentMarkOf cs c) ◆ word cs (c ∷ c ∷ c ∷ [])

  -- [207] l-bare-document (9.1.3)
  unfoldable pub l-bare-document : Handles → Rule (List Event)
  l-bare-document handles = where_both (Unmarked cs) (reads cs Wide handles room (block_part 0 block_in))

  -- [208] l-explicit-document (9.1.4)
  unfoldable pub l-explicit-document : Handles → Rule (List Event)
  l-explicit-document handles = document_mark 45 ▸ (l-bare-document handles ∪ (gives (e-scalar no_props) ◂ s-l-comments cs))

  -- [209] l-directive-document (9.1.5)
  unfoldable pub l-directive-document : Rule (List Event)
  l-directive-document = with_value (directives cs) (λ handles. l-explicit-document handles)

  -- no production: a bare document as a part of the stream
  abbrev pub bare_piece : Rule (List Piece)
  bare_piece = seen (λ es. document_piece false es ∷ []) (l-bare-document [])

  -- no production: an explicit document without directives, likewise
  abbrev pub explicit_piece : Rule (List Piece)
  explicit_piece = seen (λ es. document_piece true es ∷ []) (l-explicit-document [])

  -- no production: an explicit document after directives, likewise
  abbrev pub directive_piece : Rule (List Piece)
  directive_piece = seen (λ es. document_piece true es ∷ []) l-directive-document

  -- [210] l-any-document (9.2)
  unfoldable pub l-any-document : Rule (List Piece)
  l-any-document = bare_piece ∪ explicit_piece ∪ directive_piece

  -- [205] l-document-suffix (9.1.2)
  unfoldable pub l-document-suffix : Rule (List Piece)
  l-document-suffix = document_mark 46 ▸ gives (suffix_piece ∷ []) ◂ s-l-comments cs

  -- [211] l-yaml-stream (9.2); [202] l-document-prefix is comment lines alone, since the byte order mark stands at the start alone
  unfoldable pub l-yaml-stream : Rule (List Piece)
  l-yaml-stream = (any_span (l-comment cs) ▸ optional l-any-document)
      ⨾ any ((any_one l-document-suffix ⨾ (any_span (l-comment cs) ▸ optional l-any-document))
      ∪ explicit_piece
      ∪ (l-comment cs ▸ gives []))

  -- no production: the whole text is a stream with these events
  unfoldable pub ReadsText : List Event → Type 0
  ReadsText es = seen stream_of_pieces l-yaml-stream 0 (length cs) es
