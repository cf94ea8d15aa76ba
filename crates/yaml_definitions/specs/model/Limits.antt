-- The limits of the profile, each in one place.
use Rattle.std.specs.Prelude.{ℕ}

-- bytes of an input, and of a canonical text
abbrev pub text_limit : ℕ
text_limit = 67108864

-- collections that are open at one place
abbrev pub open_limit : ℕ
open_limit = 1024

-- the height of a document's tree, one below `open_limit`, so that each canonical text reads back
abbrev pub height_limit : ℕ
height_limit = 1023

-- characters before the `:` of an implicit key
abbrev pub key_limit : ℕ
key_limit = 1024

-- bytes of a decoded tag
abbrev pub tag_limit : ℕ
tag_limit = 1024

-- bytes of a scalar or an empty collection that is always written out
abbrev pub short_limit : ℕ
short_limit = 64

-- an int is at least `- 2 ^ int_bits` and below `2 ^ int_bits`
abbrev pub int_bits : ℕ
int_bits = 127

-- the greatest exponent of a float's canonical content, and the least is its negative
abbrev pub exponent_limit : ℕ
exponent_limit = 1000000
