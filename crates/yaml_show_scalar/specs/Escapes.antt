-- Characters between double quotes as they are shown, in YAML (YAML 1.2.2, 5.7) and in JSON (RFC 8259, 7).
use Rattle.std.specs.Prelude.{ℕ, Bool, ◌||◌, ◌&&◌, ◌==◌, ◌/◌, ◌%◌, cond, nat_le, nat_lt, List, [], ◌∷◌, ◌++◌, flat_map}
use Rattle.std.specs.Str.{encode_utf8_all, chars}
use Rattle.yaml_definitions.specs.canonical.CharText.{hex_digit}
use Rattle.yaml_show_scalar.specs.declared.escapes.Language.{Language}
use Rattle.yaml_show_scalar.specs.declared.escapes.Language.TheVariants.{Yaml, Json}

-- Nobody sees the character, or some reader takes it for the end of a line: controls, spaces other than U+0020, marks of direction, fillers, tags, and the last two characters of each plane.
unfoldable pub is_unseen : ℕ → Bool
is_unseen c =
    nat_le c 0x1F || ((nat_le 0x7F c && nat_le c 0xA0) || ((c == 0xAD) || ((c == 0x61C) || ((c == 0x1680) || ((c == 0x180E) || ((nat_le 0x2000 c && nat_le c 0x200F) || ((nat_le 0x2028 c && nat_le c 0x202F)
    || ((nat_le 0x205F c && nat_le c 0x206F) || ((c == 0x2800) || ((c == 0x3000) || ((c == 0x3164) || ((c == 0xFEFF) || ((c == 0xFFA0) || ((nat_le 0xFFF0 c && nat_le c 0xFFFB) || ((nat_le 0xE0000 c && nat_le c 0xE0FFF)
    || nat_le 0xFFFE (c % 0x10000))))))))))))))))

-- the last four digits of a number in base 16
abbrev pub four_digits : ℕ → List ℕ
four_digits n = hex_digit (n / 4096 % 16) ∷ hex_digit (n / 256 % 16) ∷ hex_digit (n / 16 % 16) ∷ hex_digit (n % 16) ∷ []

-- `\x`, `\u` or `\U`, and two, four or eight digits; JSON has `\u` alone
abbrev pub code_escape : Language → ℕ → List ℕ
code_escape Yaml c =
    cond (nat_lt c 256) (92 ∷ 120 ∷ hex_digit (c / 16 % 16) ∷ hex_digit (c % 16) ∷ []) (cond (nat_lt c 65536) (92 ∷ 117 ∷ four_digits c) (92 ∷ 85 ∷ (four_digits (c / 65536) ++ four_digits c)))
code_escape Json c = 92 ∷ 117 ∷ four_digits c

-- An escape is written for the quote, the backslash and what is unseen. JSON has none of one code past U+FFFF, so such a character is written as it is.
unfoldable pub is_escaped : Language → ℕ → Bool
is_escaped Yaml c = (c == 34) || ((c == 92) || is_unseen c)
is_escaped Json c = (c == 34) || ((c == 92) || (is_unseen c && nat_lt c 65536))

-- the further escapes of two characters that JSON has, and those by a code
unfoldable pub json_escape : ℕ → List ℕ
json_escape c = cond (c == 13) (92 ∷ 114 ∷ []) (cond (c == 8) (92 ∷ 98 ∷ []) (cond (c == 12) (92 ∷ 102 ∷ []) (code_escape Json c)))

-- the escape of a character: of two characters, where the language has one, else by its code
unfoldable pub escape_text : Language → ℕ → List ℕ
escape_text Yaml c = cond (c == 34) (92 ∷ 34 ∷ []) (cond (c == 92) (92 ∷ 92 ∷ []) (cond (c == 10) (92 ∷ 110 ∷ []) (cond (c == 9) (92 ∷ 116 ∷ []) (code_escape Yaml c))))
escape_text Json c = cond (c == 34) (92 ∷ 34 ∷ []) (cond (c == 92) (92 ∷ 92 ∷ []) (cond (c == 10) (92 ∷ 110 ∷ []) (cond (c == 9) (92 ∷ 116 ∷ []) (json_escape c))))

-- a character as it stands between double quotes
abbrev pub shown_char : Language → ℕ → List ℕ
shown_char l c = cond (is_escaped l c) (escape_text l c) (c ∷ [])

-- the bytes of what stands for a text between double quotes
abbrev pub escaped : Language → List ℕ → List ℕ
escaped l text = encode_utf8_all (flat_map (shown_char l) (chars text))

-- and with the quotes
abbrev pub quoted : Language → List ℕ → List ℕ
quoted l text = 34 ∷ (escaped l text ++ (34 ∷ []))
