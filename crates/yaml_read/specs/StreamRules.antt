-- Documents and streams, from where a reader stands (YAML 1.2.2, chapter 9).
use Rattle.std.specs.Prelude.{ℕ, ◌<◌, List, [], ◌∷◌, true, false}
use Rattle.yaml_definitions.specs.model.Limits.{open_limit}
use Rattle.yaml_text.specs.Source.{text_of, place_of, IsBorder}
use Rattle.yaml_definitions.specs.model.Event.{Event, document_start}
use Rattle.yaml_text.specs.declared.chars.Chars.{Chars}
use Rattle.yaml_definitions.specs.grammar.Rules.{Rule, seen}
use Rattle.yaml_definitions.specs.grammar.Separation.{AtEnd, DocumentMark}
use Rattle.yaml_definitions.specs.grammar.Tags.{Handles}
use Rattle.yaml_definitions.specs.grammar.Streams.{document_mark, l-bare-document as bare_document, l-directive-document as directive_document}
use Rattle.yaml_definitions.specs.grammar.Nodes.{wide}
use Rattle.yaml_layout.specs.declared.line.Line.{Line}
use Rattle.yaml_block.specs.DocumentCalls.{after_mark}
use Rattle.yaml_read.specs.declared.stream.Next.{Next}
use Rattle.yaml_read.specs.declared.stream.Next.TheVariants.{End, Suffix, Explicit, Content}

-- a mark of three of these characters from one border to another
pub record IsMarkOf (source : Chars) (c at to : ℕ) : Type 0 where
  pub border : IsBorder source to
  pub onward : at < to
  pub mark : document_mark (text_of source) wide open_limit c (place_of source at) (place_of source to)

-- how a stream goes on at a line that is no comment
abbrev pub NextIs : Chars → Line → Next → Type 0
NextIs source line End = AtEnd (text_of source) (place_of source line.start)
NextIs source line (Suffix after) = IsMarkOf source 46 line.start after
NextIs source line (Explicit after) = IsMarkOf source 45 line.start after
NextIs source line Content = (AtEnd (text_of source) (place_of source line.start) → ⊥) × (DocumentMark (text_of source) (place_of source line.start) → ⊥)

module _ (cs : List ℕ) where
  -- a document's events with its start, as it opens
  abbrev pub opened_by_mark : Handles → Rule (List Event)
  opened_by_mark handles = seen (λ es. document_start true ∷ es) (after_mark cs handles)

  abbrev pub opened_bare : Rule (List Event)
  opened_bare = seen (λ es. document_start false ∷ es) (bare_document cs wide open_limit [])

  abbrev pub opened_by_directives : Rule (List Event)
  opened_by_directives = seen (λ es. document_start true ∷ es) (directive_document cs wide open_limit)
