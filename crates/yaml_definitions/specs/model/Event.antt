-- Events as plain values (YAML 1.2.2, chapter 3). Names, tags and texts are UTF-8 bytes.
use Rattle.std.specs.Prelude.{ℕ, Bool, List}
use Rattle.std.specs.declared.option.Option.{Option}

pub data Style : Type 0 where
  plain single double literal folded : Style

-- A tag as it is written: not at all, as the lone `!`, or in full. A full one is decoded.
pub data WrittenTag : Type 0 where
  untagged non_specific : WrittenTag
  full : List ℕ → WrittenTag

abbrev pub Anchor : Type 0
Anchor = Option (List ℕ)

-- A document's flag says whether `---` or `...` stands there, a collection's whether it is flow.
pub data Event : Type 0 where
  stream_start stream_end sequence_end mapping_end : Event
  document_start document_end : Bool → Event
  sequence_start mapping_start : Bool → Anchor → WrittenTag → Event
  scalar_event : Anchor → WrittenTag → Style → List ℕ → Event
  alias_event : List ℕ → Event
