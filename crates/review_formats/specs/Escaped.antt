-- Texts of files in pages, tables and commands.
use Rattle.std.specs.Prelude.{◌≡◌, ◌<◌, ℕ, Bool, false, cond, not, ◌/◌, ◌%◌, ◌&&◌, ◌||◌, ◌==◌, nat_le, nat_lt, List, [], ◌∷◌, length, get_or}
use Rattle.std.specs.List.{flat_map}
use Rattle.std.specs.Str.{encode_utf8_all, chars}
use Rattle.yaml_definitions.specs.canonical.CharText.{hex_digit}
use Rattle.review_formats.specs.declared.escape.Escape.{Escape}
use Rattle.review_formats.specs.declared.escape.Escape.TheVariants.{Html, Markdown, Message, Property}

-- `[A-Za-z0-9 ]`
abbrev pub is_plain : ℕ → Bool
is_plain c = (nat_le 48 c && nat_le c 57) || ((nat_le 65 c && nat_le c 90) || ((nat_le 97 c && nat_le c 122) || (c == 32)))

-- what a reference to a character is made of, beside letters and digits: `&`, `#`, `;`
abbrev pub is_of_reference : ℕ → Bool
is_of_reference c = (c == 38) || ((c == 35) || (c == 59))

-- What would be markup. In HTML: quotes, `<`, `>` and the backtick. In Markdown: each character of ASCII but letters, digits, the space and what a reference is made of. In a command of GitHub: line breaks, and in its properties also `,` and `:`.
unfoldable pub is_markup : Escape → ℕ → Bool
is_markup Html c = (c == 34) || ((c == 39) || ((c == 60) || ((c == 62) || (c == 96))))
is_markup Markdown c = nat_lt c 128 && not (is_plain c || is_of_reference c)
is_markup Message c = (c == 10) || (c == 13)
is_markup Property c = (c == 10) || ((c == 13) || ((c == 44) || (c == 58)))

-- what an escape is made of, and is escaped for that
abbrev pub is_of_escape : Escape → ℕ → Bool
is_of_escape Html c = c == 38
is_of_escape Markdown c = is_of_reference c
is_of_escape Message c = c == 37
is_of_escape Property c = c == 37

-- a reference to a character by its number, in two digits of base 16
abbrev pub reference : ℕ → List ℕ
reference c = 38 ∷ 35 ∷ 120 ∷ hex_digit (c / 16) ∷ hex_digit (c % 16) ∷ 59 ∷ []

-- a percent sign and these digits
abbrev pub percent : ℕ → List ℕ
percent c = 37 ∷ hex_digit (c / 16) ∷ hex_digit (c % 16) ∷ []

abbrev pub escape_of : Escape → ℕ → List ℕ
escape_of Html c = reference c
escape_of Markdown c = reference c
escape_of Message c = percent c
escape_of Property c = percent c

abbrev pub escaped_char : Escape → ℕ → List ℕ
escaped_char e c = cond (is_markup e c || is_of_escape e c) (escape_of e c) (c ∷ [])

-- the text with an escape for each character that would be markup or part of an escape
abbrev pub escaped : Escape → List ℕ → List ℕ
escaped e text = encode_utf8_all (flat_map (escaped_char e) (chars text))

-- no byte of the text would be markup
abbrev pub HasNoMarkup : Escape → List ℕ → Type 0
HasNoMarkup e text = (i : ℕ) → i < length text → is_markup e (get_or text i 0) ≡ false
