-- Documents as the reader gives them: written tags are tags, names are of anchor characters, and texts are UTF-8.
use Rattle.std.specs.Prelude.{◌≡◌, ℕ, Bool, true, ◌&&◌, nat_le, List, [], ◌∷◌, length}
use Rattle.std.specs.declared.option.Option.TheVariants.{None, Some}
use Rattle.std.specs.List.{list_all}
use Rattle.std.specs.Str.{chars, is_utf8}
use Rattle.yaml_definitions.specs.grammar.Tags.{is_name}
use Rattle.yaml_definitions.specs.model.Text.{is_text}
use Rattle.yaml_definitions.specs.model.Tree.{Tree}
use Rattle.yaml_definitions.specs.model.Event.{WrittenTag, full, Anchor}
use Rattle.yaml_definitions.specs.model.Serial.{SerialNode, SerialNodes, SerialPairs, alias_at, scalar_at, sequence_at, mapping_at, end_serial, item_serial, done_serial, entry_serial, Document}
use Rattle.yaml_definitions.specs.model.Proper.{IsProper}
use Rattle.yaml_definitions.specs.model.Tag.{IsTag}

-- a tag that is written out is a tag, and a text is UTF-8
abbrev pub SoundTag : WrittenTag → Type 0
SoundTag (full g) = IsTag g
SoundTag _ = Unit {0}

-- a character of names (6.9.2)
abbrev pub is_anchor_char : ℕ → Bool
is_anchor_char c = is_text c && is_name c

-- UTF-8 of one or more of these
unfoldable pub is_anchor : List ℕ → Bool
is_anchor name = is_utf8 name && (nat_le 1 (length name) && list_all is_anchor_char (chars name))

abbrev pub IsAnchor : List ℕ → Type 0
IsAnchor name = is_anchor name ≡ true

abbrev pub SoundAnchor : Anchor → Type 0
SoundAnchor None = Unit {0}
SoundAnchor (Some name) = IsAnchor name

abbrev mutual
  pub Sound : SerialNode → Type 0
  Sound (alias_at name) = IsAnchor name
  Sound (scalar_at a g y x) = SoundAnchor a × SoundTag g × (is_utf8 x ≡ true)
  Sound (sequence_at a g b ts) = SoundAnchor a × SoundTag g × AllSound ts
  Sound (mapping_at a g b ps) = SoundAnchor a × SoundTag g × PairsSound ps

  pub AllSound : SerialNodes → Type 0
  AllSound end_serial = Unit {0}
  AllSound (item_serial t ts) = Sound t × AllSound ts

  pub PairsSound : SerialPairs → Type 0
  PairsSound done_serial = Unit {0}
  PairsSound (entry_serial k v ps) = Sound k × Sound v × PairsSound ps

abbrev pub DocumentsSound : List Document → Type 0
DocumentsSound [] = Unit {0}
DocumentsSound (d ∷ ds) = Sound d.root × DocumentsSound ds

abbrev pub AllProper : List Tree → Type 0
AllProper [] = Unit {0}
AllProper (t ∷ f) = IsProper t × AllProper f
