-- What a checked text is: its bytes after the byte order mark, the mark's length, and the places of its characters.
use Rattle.std.specs.Prelude.{ℕ, List}
use Rattle.std.specs.Str.{chars, IsCharBoundary}
use Rattle.yaml_text.specs.Place.{place}
use Rattle.yaml_text.specs.declared.chars.Chars.{Chars}

abbrev pub bytes_of : Chars → List ℕ
bytes_of source = source.text.now

abbrev pub mark_of : Chars → ℕ
mark_of source = source.mark_len

abbrev pub text_of : Chars → List ℕ
text_of source = chars source.text.now

-- the place of a byte offset
abbrev pub place_of : Chars → ℕ → ℕ
place_of source at = place source.text.now at

abbrev pub IsBorder : Chars → ℕ → Type 0
IsBorder source at = IsCharBoundary source.text.now at
