-- Tags as parts of one text.
use Rattle.std.specs.Prelude.{ℕ, ◌≤◌, List, length, map}
use Rattle.std.specs.List.{slice_range, All}
use Rattle.std.specs.Str.{IsUtf8}
use Rattle.std.specs.String.{string_bytes}
use Rattle.yaml_store.specs.declared.tags.Part.{Part}
use Rattle.yaml_store.specs.declared.tags.Tags.TheInside.{Inside}

-- what stands there
abbrev pub part_of : List ℕ → Part → List ℕ
part_of text s = slice_range text s.start s.end

-- the places lie in the text, and a text stands there
abbrev pub IsPart : List ℕ → Part → Type 0
IsPart text s = ((s.start ≤ s.end) × (s.end ≤ length text)) × IsUtf8 (part_of text s)

abbrev pub texts_of : Inside → List (List ℕ)
texts_of t = map (part_of (string_bytes t.text)) t.parts.items

abbrev pub AreTexts : Inside → Type 0
AreTexts t = All (IsPart (string_bytes t.text)) t.parts.items
