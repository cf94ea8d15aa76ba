-- The nodes of documents: by which rule they are read, where they end, and what is decided of them (YAML 1.2.2, 9.1).
use Rattle.std.specs.Prelude.{ℕ, List, Result}
use Rattle.yaml_definitions.specs.model.Limits.{open_limit}
use Rattle.yaml_definitions.specs.model.Event.{Event}
use Rattle.yaml_definitions.specs.grammar.Rules.{Rule, ◌◂◌, ◌∪◌, gives}
use Rattle.yaml_definitions.specs.grammar.Separation.{s-l-comments as s_l_comments}
use Rattle.yaml_definitions.specs.grammar.Tags.{Handles}
use Rattle.yaml_definitions.specs.grammar.Events.{no_props, e-scalar as empty}
use Rattle.yaml_definitions.specs.grammar.Streams.{l-bare-document as bare_document}
use Rattle.yaml_definitions.specs.grammar.Nodes.{wide}
use Rattle.yaml_text.specs.Source.{text_of, place_of}
use Rattle.yaml_text.specs.declared.chars.Chars.{Chars}
use Rattle.yaml_text.specs.declared.fault.Fault.{Fault}
use Rattle.law_one_reading.specs.Readings.{End}
use Rattle.law_one_reading.specs.Follows.{Over, Follow}
use Rattle.law_going_on.specs.GoingOn.{Here}
use Rattle.yaml_layout.specs.NodeAnswer.{Appends, Decides}
use Rattle.yaml_layout.specs.declared.line.Line.{Line}

module _ (cs : List ℕ) where
  -- how the text goes on after a document: comment lines, and then a mark or the end
  abbrev pub DocumentEnd : End
  DocumentEnd = Over cs (Follow cs 0 0)

  -- what stands after a document's mark: a bare document, or nothing
  abbrev pub after_mark : Handles → Rule (List Event)
  after_mark handles = bare_document cs wide open_limit handles ∪ (gives (empty no_props) ◂ s_l_comments cs)

-- what is read from `at` on, up to the line behind it
abbrev pub ReadsDocument : {S : Type 0} → Rule (List Event) → Chars → ℕ → (S → List Event → Type 0) → S → S → Result Line Fault → Type 0
ReadsDocument R source at holds old new result = Appends (λ _. R) (place_of source at) (λ line. place_of source line.start) holds old new result

-- what is decided of it, as the reading that a document's end follows
abbrev pub DecidesDocument : Rule (List Event) → Chars → ℕ → Result Line Fault → Type 0
DecidesDocument R source at result = Decides R (DocumentEnd (text_of source)) (place_of source at) Here (λ line. place_of source line.start) result
