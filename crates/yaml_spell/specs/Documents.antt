-- The text of documents, before more text.
use Rattle.std.specs.Prelude.{◌<◌, List, [], ◌∷◌, ℕ, length, encode_utf8_all}
use Rattle.yaml_definitions.specs.model.Limits.{text_limit}
use Rattle.yaml_definitions.specs.model.Tree.{Tree}
use Rattle.yaml_definitions.specs.canonical.NodeText.{node_text}
use Rattle.yaml_definitions.specs.canonical.Spell.{serial_of, serial_of_arranged, spell_bytes}
use Rattle.yaml_text.specs.declared.fault.Fault.{Fault}
use Rattle.yaml_text.specs.declared.fault.Fault.TheVariants.{TextTooLong, OutOfMemory}

-- a document's start, its root and the end of the line
abbrev pub document_text : Tree → List ℕ → List ℕ
document_text t more = 45 ∷ 45 ∷ 45 ∷ 32 ∷ node_text (serial_of t) (10 ∷ more)

abbrev pub spell_more : List Tree → List ℕ → List ℕ
spell_more [] more = more
spell_more (t ∷ f) more = document_text t (spell_more f more)

-- the same of trees that are arranged
abbrev pub arranged_text : Tree → List ℕ → List ℕ
arranged_text t more = 45 ∷ 45 ∷ 45 ∷ 32 ∷ node_text (serial_of_arranged t) (10 ∷ more)

abbrev pub arranged_more : List Tree → List ℕ → List ℕ
arranged_more [] more = more
arranged_more (t ∷ f) more = arranged_text t (arranged_more f more)

-- and their text as bytes
abbrev pub arranged_bytes : List Tree → List ℕ
arranged_bytes f = encode_utf8_all (arranged_more f [])

-- the text is too long, or memory was refused
abbrev pub RefusesLength : List Tree → Fault → Type 0
RefusesLength f TextTooLong = text_limit < length (spell_bytes f)
RefusesLength f OutOfMemory = Unit {0}
RefusesLength f _ = ⊥

-- the same of trees that are arranged
abbrev pub RefusesArranged : List Tree → Fault → Type 0
RefusesArranged f TextTooLong = text_limit < length (arranged_bytes f)
RefusesArranged f OutOfMemory = Unit {0}
RefusesArranged f _ = ⊥
