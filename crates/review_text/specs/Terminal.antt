-- Texts with `?` for what a terminal would not print.
use Rattle.std.specs.Prelude.{ℕ, Bool, cond, not, ◌&&◌, ◌||◌, ◌==◌, nat_le, List, map}
use Rattle.std.specs.Char.{is_control}
use Rattle.std.specs.Str.{encode_utf8_all, chars}

-- the soft hyphen, an Arabic letter mark, a Mongolian vowel separator, spaces without width, marks and controls of direction, separators of lines and paragraphs, invisible operators, the byte order mark, marks of annotations and what stands for an unknown character, tags
unfoldable pub is_unprinted : ℕ → Bool
is_unprinted c =
    ((c == 0xad || (c == 0x61c || c == 0x180e)) || ((nat_le 0x200b c && nat_le c 0x200f) || (nat_le 0x2028 c && nat_le c 0x202e)))
    || (((nat_le 0x2060 c && nat_le c 0x206f) || c == 0xfeff) || ((nat_le 0xfff0 c && nat_le c 0xfffd) || (nat_le 0xe0000 c && nat_le c 0xe007f)))

-- a character that a terminal shows as itself, but for a tab
abbrev pub is_printed : ℕ → Bool
is_printed c = not (is_control c) && not (is_unprinted c)

-- the character that stands for one: a tab or a printed one for itself, and `?` for every other
abbrev pub terminal_char : ℕ → ℕ
terminal_char c = cond ((c == 9) || is_printed c) c 63

abbrev pub terminal : List ℕ → List ℕ
terminal text = encode_utf8_all (map terminal_char (chars text))
