-- What the code's prefixes are as plain values.
use Rattle.std.specs.Prelude.{ℕ, List}
use Rattle.std.specs.String.{string_bytes}
use Rattle.std.specs.Cow.{cow_slice_items}
use Rattle.yaml_mark.specs.declared.decoded.Prefix.{Prefix}
use Rattle.yaml_mark.specs.declared.decoded.Prefix.TheVariants as prefix
use Rattle.yaml_mark.specs.declared.decoded.Decoded.{Decoded}
use Rattle.yaml_mark.specs.declared.decoded.Decoded.TheVariants as kept
use Rattle.yaml_mark.specs.declared.decoded.Made.{Made}
use Rattle.yaml_mark.specs.declared.decoded.Made.TheVariants as made

-- the bytes of a decoded prefix
abbrev pub bytes_of : Prefix → List ℕ
bytes_of (prefix.Text text) = text.now
bytes_of (prefix.Bytes bytes) = bytes.now

-- the same of one that was made
abbrev pub made_of : Made → List ℕ
made_of (made.Text text) = string_bytes text
made_of (made.Bytes bytes) = cow_slice_items bytes

-- and of one that is kept
abbrev pub decoded_of : Decoded → List ℕ
decoded_of (kept.Text text) = text.now
decoded_of (kept.Made prefix) = made_of prefix.value
