-- Texts in which a terminal shows each character.
use Rattle.std.specs.Prelude.{ℕ, Bool, cond, ◌+◌, ◌-◌, ◌/◌, ◌%◌, ◌&&◌, ◌||◌, ◌==◌, nat_le, nat_lt, List, [], ◌∷◌, ◌++◌}
use Rattle.std.specs.List.{flat_map}
use Rattle.std.specs.Str.{encode_utf8_all, chars}
use Rattle.yaml_definitions.specs.canonical.CharText.{hex_digit}
use Rattle.review_text.specs.declared.hidden.Kind.{Kind}
use Rattle.review_text.specs.declared.hidden.Kind.TheVariants.{Node, Ascii, Json}

-- Below U+3000: the soft hyphen, joiners, fillers, vowel signs without a sign, Mongolian selectors, spaces without width, marks and controls of direction, separators of lines and paragraphs, invisible operators.
unfoldable pub is_hidden_low : ℕ → Bool
is_hidden_low c =
    (c == 0xad || (c == 0x34f || c == 0x61c)) || (((nat_le 0x115f c && nat_le c 0x1160) || (nat_le 0x17b4 c && nat_le c 0x17b5)) || ((nat_le 0x180b c && nat_le c 0x180f)
    || ((nat_le 0x200b c && nat_le c 0x200f) || ((nat_le 0x2028 c && nat_le c 0x202e) || (nat_le 0x2060 c && nat_le c 0x206f)))))

-- From there on: fillers, selectors of a character's form, the byte order mark, marks of annotations, controls of shorthand and of music, and tags.
unfoldable pub is_hidden_high : ℕ → Bool
is_hidden_high c =
    ((c == 0x3164 || (c == 0xfeff || c == 0xffa0)) || (nat_le 0xfe00 c && nat_le c 0xfe0f)) || ((nat_le 0xfff0 c && nat_le c 0xfffb)
    || ((nat_le 0x1bca0 c && nat_le c 0x1bca3) || ((nat_le 0x1d173 c && nat_le c 0x1d17a) || (nat_le 0xe0000 c && nat_le c 0xe0fff))))

-- a character that a terminal shows nothing for, or that turns or hides the text around it
abbrev pub is_hidden : ℕ → Bool
is_hidden c = is_hidden_low c || is_hidden_high c

-- a number below 256 in two digits of base 16
abbrev pub two_digits : ℕ → List ℕ
two_digits b = hex_digit (b / 16) ∷ hex_digit (b % 16) ∷ []

-- the escape of a character between double quotes (YAML 1.2.2, 5.7): `\u` and four digits, or `\U` and eight
abbrev pub escape_text : ℕ → List ℕ
escape_text c =
    cond (nat_lt c 65536) (92 ∷ 117 ∷ hex_digit (c / 256 / 16) ∷ hex_digit (c / 256 % 16) ∷ two_digits (c % 256))
    (92 ∷ 85 ∷ 48 ∷ 48 ∷ hex_digit (c / 65536 / 16) ∷ hex_digit (c / 65536 % 16) ∷ hex_digit (c / 256 % 256 / 16) ∷ hex_digit (c / 256 % 256 % 16) ∷ two_digits (c % 256))

abbrev pub visible_char : ℕ → List ℕ
visible_char c = cond (is_hidden c) (escape_text c) (c ∷ [])

-- DEL, and the controls above it
abbrev pub is_control_high : ℕ → Bool
is_control_high c = nat_le 0x7f c && nat_le c 0x9f

-- the escape of a character in JSON (RFC 8259, 7): two escapes for one above U+FFFF
abbrev pub json_escape : ℕ → List ℕ
json_escape c = cond (nat_lt c 65536) (escape_text c) (escape_text (55296 + (c - 65536) / 1024) ++ escape_text (56320 + c % 1024))

abbrev pub json_char : ℕ → List ℕ
json_char c = cond (is_control_high c || is_hidden c) (json_escape c) (c ∷ [])

abbrev pub ascii_char : ℕ → List ℕ
ascii_char c = cond (nat_lt c 128) (c ∷ []) (escape_text c)

abbrev pub escaped_char : Kind → ℕ → List ℕ
escaped_char Node c = visible_char c
escaped_char Ascii c = ascii_char c
escaped_char Json c = json_char c

-- the text with these characters in place of each of its own
abbrev pub spelled : (ℕ → List ℕ) → List ℕ → List ℕ
spelled f text = encode_utf8_all (flat_map f (chars text))

abbrev pub escaped : Kind → List ℕ → List ℕ
escaped kind text = spelled (escaped_char kind) text

-- A text of JSON with an escape for each character that a terminal does not show. Such a character stands in strings alone.
abbrev pub json_visible : List ℕ → List ℕ
json_visible text = escaped Json text

-- The text with an escape for each hidden character. In the text of a node such a character stands between double quotes alone.
abbrev pub visible : List ℕ → List ℕ
visible text = escaped Node text

-- The text of a node with an escape for each character outside ASCII. Such a character stands between double quotes alone.
abbrev pub ascii : List ℕ → List ℕ
ascii text = escaped Ascii text
